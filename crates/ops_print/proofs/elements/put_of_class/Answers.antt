use Rattle.ops_io.proofs.PortLemmas.{puts_then, puts_refused}
use Rattle.ops_meaning.specs.Layout.{symbol_text, attributes_text}
use Rattle.ops_print.proofs.Shown.{element_pieces}
use Rattle.ops_print.proofs.elements.put_of_class.Goals as goal

pub returns-in_err-put_named-clause-puts : goal.returns-in_err-put_named-clause-puts
returns-in_err-put_named-clause-puts g c =
    rw (element_pieces (symbol_text c.args.names.now c.args.class.now.name) (attributes_text c.args.names.now c.args.class.now c.args.item.now 0 c.args.class.now.attrs))
    (puts_refused _ _ _ _ _ _ c.from_residual.ensures.1 c.in_err-put_named.ensures.puts)

pub returns-in_err-put_attributes-clause-puts : goal.returns-in_err-put_attributes-clause-puts
returns-in_err-put_attributes-clause-puts g c =
    rw (element_pieces (symbol_text c.args.names.now c.args.class.now.name) (attributes_text c.args.names.now c.args.class.now c.args.item.now 0 c.args.class.now.attrs))
    (puts_then _ _ _ _ _ _ c.in_ok-put_named.ensures.puts (puts_refused _ _ _ _ _ _ c.from_residual-in_err-put_attributes.ensures.1 c.in_err-put_attributes.ensures.puts))

pub returns-clause-puts : goal.returns-clause-puts
returns-clause-puts g c =
    rw (element_pieces (symbol_text c.args.names.now c.args.class.now.name) (attributes_text c.args.names.now c.args.class.now c.args.item.now 0 c.args.class.now.attrs))
    (puts_then _ _ _ _ _ _ c.in_ok-put_named.ensures.puts (puts_then _ _ _ _ _ _ c.in_ok-put_attributes.ensures.puts c.put.ensures.puts))
