use Rattle.std.proofs.Common.{ap, ◌∙◌}
use Rattle.ops_io.proofs.PortLemmas.{puts_then, puts_refused}
use Rattle.ops_meaning.specs.Layout.{rule_name}
use Rattle.ops_print.proofs.instances.put_inst.Goals as goal

pub returns-in_err-put_symbol-clause-puts : goal.returns-in_err-put_symbol-clause-puts
returns-in_err-put_symbol-clause-puts g c =
    let name = c.rule_name-name.ensures ∙ ap (λ rules. rule_name rules c.args.item.now.rule) c.as_slice.ensures in
    puts_refused _ _ _ _ _ _ c.from_residual.ensures.1 (rw name at c.in_err-put_symbol.ensures.puts)

pub returns-clause-puts : goal.returns-clause-puts
returns-clause-puts g c =
    let name = c.rule_name-name.ensures ∙ ap (λ rules. rule_name rules c.args.item.now.rule) c.as_slice.ensures in
    puts_then _ _ _ _ _ _ (rw name at c.in_ok-put_symbol.ensures.puts) (rw c.as_slice-2.ensures at c.put_tags.ensures.puts)
