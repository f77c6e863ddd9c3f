use Rattle.std.proofs.lemmas.Result.{err_from_is_err_and}
use Rattle.ops_io.specs.declared.stop.Stop.TheVariants as stop
use Rattle.ops_io.proofs.PortLemmas.{underway_step, underway_stop}
use Rattle.ops_print.proofs.Shown.{values_here}
use Rattle.ops_print.proofs.elements.put_shown_values.Goals as goal

pub returns-in_err-put_spaced-clause-puts : goal.returns-in_err-put_spaced-clause-puts
returns-in_err-put_spaced-clause-puts g c =
    let p = err_from_is_err_and c.from_residual.result c.from_residual.ensures.1 in
    rw p.1 (underway_stop stop.Write _ _ _ _ _ _ _ c.loop-value.invariant (values_here c.args.names.now c.args.values.now c.loop-value.value-index _ c.loop-value-test.true) c.in_err-put_spaced.ensures.puts)

pub loop-value-preserved : goal.loop-value-preserved
loop-value-preserved g c = underway_step _ _ _ _ _ _ _ c.loop-value.invariant (values_here c.args.names.now c.args.values.now c.loop-value.value-index _ c.loop-value-test.true) c.in_ok-put_spaced.ensures.puts
