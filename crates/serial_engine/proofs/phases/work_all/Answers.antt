-- One task less is left.
use Rattle.std.proofs.Common.{◌≡◌, ◌+◌, ◌-◌, ℕ, [], length, take, sym, ap, ◌∙◌, arith}
use Rattle.serial_engine.proofs.StepLemmas.{one_less, went_on}
use Rattle.serial_engine.proofs.phases.work_all.Goals as goal

pub loop-task-preserved : goal.loop-task-preserved
loop-task-preserved g c =
    let net = c.args.net.now in
    let flight = c.args.world.now.flight.items in
    let m : ℕ = length flight - c.loop-task._task in
    let e = c.in_flight-task-end.ensures in
    let g = c.loop-task-test.true in
    let less : m - 1 ≡ length flight - (c.loop-task._task + 1) = omega (arith, g) in
    record {
      went = went_on net.alphas net.nodes c.args.store.now c.args.world.now c.loop-task.world c.work_down.new.world [] [] c.loop-task.invariant.went c.loop-task.invariant.lines c.in_ok-work_down.ensures.went;
      flight = λ free. c.in_ok-work_down.ensures.flight free ∙ (one_less [] flight m (omega (arith, e, g)) (omega arith) c.loop-task.world.flight.items (c.loop-task.invariant.flight (sym c.is_full.ensures ∙ c.if-is_full.false)) ∙ ap (λ n. take n flight) less);
      done = c.in_ok-work_down.ensures.done ∙ c.loop-task.invariant.done;
      ready = c.work_down.ensures.ready;
      lines = c.work_down.ensures.lines ∙ c.loop-task.invariant.lines;
    }
