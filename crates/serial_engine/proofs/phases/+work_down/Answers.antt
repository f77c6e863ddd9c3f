-- The last task in flight is a child as long as one is left, so its node stands after that of the task.
use Rattle.std.proofs.Common.{◌≡◌, ◌≤◌, ◌<◌, ◌+◌, ◌-◌, ℕ, [], ◌++◌, length, length-append, map, take, sym, ap, ◌∙◌, arith}
use Rattle.std.proofs.lemmas.List.{take_all}
use Rattle.token_line.specs.Lawful.{IsChildOf}
use Rattle.step_core.specs.inner.Doing.{entry_of}
use Rattle.step_core.specs.Working.{but_last}
use Rattle.serial_engine.proofs.StepLemmas.{length_but_last, some_left, one_less, last_is, has_last, some_level, child_below, went_on, worked_run}
use Rattle.serial_engine.proofs.phases.+work_down.Goals as goal

pub work_down-requires : goal.work_down-requires
work_down-requires g t c =
    let net = c.args.net.now in
    let done = c.in_ok-work.ensures.worked in
    let front = but_last c.args.world.now.flight.items in
    let r : ℕ = c.in_flight-rest.result - 1 in
    let m : ℕ = r + (c.in_flight.result - r - c.loop-child._child) in
    let a = length_but_last c.args.world.now.flight.items c.requires.some in
    let b = length-append front done.children in
    let e = c.in_flight-rest.ensures in
    let flight = done.flight in
    let d = ap length flight in
    let f = c.in_flight.ensures in
    let h = c.loop-child-test.true in
    let low : length front < m = omega (arith, a, b, d, e, f, h) in
    let high : m ≤ length (front ++ done.children) = omega (arith, a, b, d, e, f, h) in
    let ws = c.loop-child.world.flight.items in
    let is = c.loop-child.invariant.flight (sym c.is_full.ensures ∙ c.if-is_full.false) ∙ ap (take m) flight in
    let last = has_last front done.children m low high ws is in
    let child = last_is front done.children m low high ws is (IsChildOf net.nodes done.task.node) done.below in
    let deep = c.requires.deep done.task done.was in
    let some = some_level c.settle_laws.ensures.children net.alphas net.nodes net.sound c.args.levels done.task.node last.0 (child last.0 last.1) deep in
    let less = c.decreases in
    λ κs lives. (
      omega (arith, some, less),
      (lives, (c.requires.enter, (c.loop-child.invariant.ready, (some_left front done.children m low high ws is, λ x at. child_below c.settle_laws.ensures.children net.alphas net.nodes net.sound c.args.levels done.task.node x (child x at) deep)))),
    )

pub loop-child-preserved : goal.loop-child-preserved
loop-child-preserved g t c =
    let net = c.args.net.now in
    let done = c.in_ok-work.ensures.worked in
    let front = but_last c.args.world.now.flight.items in
    let r : ℕ = c.in_flight-rest.result - 1 in
    let m : ℕ = r + (c.in_flight.result - r - c.loop-child._child) in
    let a = length_but_last c.args.world.now.flight.items c.requires.some in
    let b = length-append front done.children in
    let e = c.in_flight-rest.ensures in
    let flight = done.flight in
    let d = ap length flight in
    let f = c.in_flight.ensures in
    let h = c.loop-child-test.true in
    let low : length front < m = omega (arith, a, b, d, e, f, h) in
    let high : m ≤ length (front ++ done.children) = omega (arith, a, b, d, e, f, h) in
    let ws = c.loop-child.world.flight.items in
    let is = c.loop-child.invariant.flight (sym c.is_full.ensures ∙ c.if-is_full.false) ∙ ap (take m) flight in
    let less : m - 1 ≡ r + (c.in_flight.result - r - (c.loop-child._child + 1)) = omega (arith, h) in
    let left : ℕ = r + (c.in_flight.result - r - (c.loop-child._child + 1)) in
    let back : take left (front ++ done.children) ≡ take left c.work.new.self.flight.items = ap (take left) (sym flight) in
    record {
      went = went_on net.alphas net.nodes c.args.store.now c.args.world.now c.loop-child.world c.work_down.new.world [] [] c.loop-child.invariant.went c.loop-child.invariant.lines c.in_ok-work_down.ensures.went;
      flight = λ free. c.in_ok-work_down.ensures.flight free ∙ (one_less front done.children m low high ws is ∙ (ap (λ n. take n (front ++ done.children)) less ∙ back));
      done = c.in_ok-work_down.ensures.done ∙ c.loop-child.invariant.done;
      ready = c.work_down.ensures.ready;
      lines = c.work_down.ensures.lines ∙ c.loop-child.invariant.lines;
    }

pub loop-child-init : goal.loop-child-init
loop-child-init g t c =
    let net = c.args.net.now in
    let new = c.work.new.self in
    let worked = c.in_ok-work.ensures.worked in
    let e = c.in_flight.ensures in
    record {
      went = worked_run net.alphas net.nodes c.args.store.now c.args.world.now new _ _ worked;
      flight = λ free. sym (take_all (c.in_flight-rest.result - 1 + (c.in_flight.result - (c.in_flight-rest.result - 1) - 0)) new.flight.items (omega (arith, e)));
      done = ap (map entry_of) worked.done;
      ready = c.work.ensures.ready;
      lines = c.work.ensures.lines;
    }
