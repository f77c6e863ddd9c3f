use Rattle.std.proofs.Common.{refl}
use Rattle.std.proofs.lemmas.Result.{err_from_is_err_and}
use Rattle.ops_io.specs.declared.stop.Stop.TheVariants as stop
use Rattle.ops_io.proofs.PortLemmas.{underway_step, underway_stop}
use Rattle.ops_print.specs.Leads.{lead_of}
use Rattle.act_phase.proofs.ItemLemmas.{values_here}
use Rattle.act_phase.proofs.items.put_values.Goals as goal

pub returns-in_err-put_led-clause-puts : goal.returns-in_err-put_led-clause-puts
returns-in_err-put_led-clause-puts g c =
    let p = err_from_is_err_and c.from_residual.result c.from_residual.ensures.1 in
    let l = c.loop-value in
    rw p.1
    (underway_stop stop.Write _ _ _ _ _ _ _ l.invariant
    (values_here c.args.names.now (lead_of l.lead) l.out.column _ c.args.values.now l.value-index _ c.loop-value-test.true refl)
    c.in_err-put_led.ensures.puts)

pub loop-value-preserved : goal.loop-value-preserved
loop-value-preserved g c =
    let l = c.loop-value in
    underway_step _ _ _ _ _ _ _ l.invariant
    (values_here c.args.names.now (lead_of l.lead) l.out.column c.put_led.new.out.column c.args.values.now l.value-index _ c.loop-value-test.true c.in_ok-put_led.ensures.puts.column)
    c.in_ok-put_led.ensures.puts
