use Rattle.std.proofs.Common.{sym, ◌∙◌}
use Rattle.ops_io.proofs.PortLemmas.{puts_then, puts_refused}
use Rattle.ops_print.proofs.Shown.{attribute_pieces}
use Rattle.ops_print.proofs.elements.put_attribute.Goals as goal

pub returns-in_err-put_named-clause-puts : goal.returns-in_err-put_named-clause-puts
returns-in_err-put_named-clause-puts g c =
    rw (attribute_pieces c.args.names.now c.args.name.now c.args.values.now (sym c.is_empty.ensures ∙ c.if-is_empty.false))
    (puts_refused _ _ _ _ _ _ c.from_residual.ensures.1 c.in_err-put_named.ensures.puts)

pub returns-clause-puts : goal.returns-clause-puts
returns-clause-puts g c =
    rw (attribute_pieces c.args.names.now c.args.name.now c.args.values.now (sym c.is_empty.ensures ∙ c.if-is_empty.false))
    (puts_then _ _ _ _ _ _ c.in_ok-put_named.ensures.puts c.put_shown_values.ensures.puts)
