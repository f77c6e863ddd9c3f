-- Where nothing is in flight no step is taken.
use Rattle.std.proofs.Common.{length, map, ap}
use Rattle.work_store.specs.Stored.{held_of}
use Rattle.step_core.specs.inner.Doing.{entry_of}
use Rattle.step_core.specs.Worlds.{placed, world_of}
use Rattle.serial_engine.proofs.StepLemmas.{no_run, worked_run}
use Rattle.serial_engine.proofs.phases.work_picked.Goals as goal

pub returns-then-tasks-eq0-clause-went : goal.returns-then-tasks-eq0-clause-went
returns-then-tasks-eq0-clause-went g c =
    let net = c.args.net.now in
    let elements = held_of c.args.store.now in
    no_run elements net.alphas net.nodes (placed elements net.nodes (length c.args.world.now.lines.items)) (world_of c.args.world.now)

pub returns-clause-went : goal.returns-clause-went
returns-clause-went g c =
    let net = c.args.net.now in
    worked_run net.alphas net.nodes c.args.store.now c.args.world.now c.work_at.new.self _ _ c.in_ok-work_at.ensures.worked

pub returns-clause-done : goal.returns-clause-done
returns-clause-done g c = ap (map entry_of) c.in_ok-work_at.ensures.worked.done
