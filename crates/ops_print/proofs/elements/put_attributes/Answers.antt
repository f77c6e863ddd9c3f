use Rattle.std.proofs.lemmas.Result.{err_from_is_err_and}
use Rattle.ops_io.specs.declared.stop.Stop.TheVariants as stop
use Rattle.ops_io.proofs.PortLemmas.{underway_step, underway_stop}
use Rattle.ops_print.proofs.Shown.{attributes_here}
use Rattle.ops_print.proofs.elements.put_attributes.Goals as goal

pub returns-in_err-put_attribute-clause-puts : goal.returns-in_err-put_attribute-clause-puts
returns-in_err-put_attribute-clause-puts g c =
    let p = err_from_is_err_and c.from_residual.result c.from_residual.ensures.1 in
    rw p.1 (underway_stop stop.Write _ _ _ _ _ _ _ c.loop-field.invariant (attributes_here c.args.names.now c.args.class.now c.args.item.now c.as_slice-attrs.result.now c.loop-field.field _ _ c.loop-field-test.true c.values_shown.ensures) c.in_err-put_attribute.ensures.puts)

pub loop-field-preserved : goal.loop-field-preserved
loop-field-preserved g c = underway_step _ _ _ _ _ _ _ c.loop-field.invariant (attributes_here c.args.names.now c.args.class.now c.args.item.now c.as_slice-attrs.result.now c.loop-field.field _ _ c.loop-field-test.true c.values_shown.ensures) c.in_ok-put_attribute.ensures.puts
