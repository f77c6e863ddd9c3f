-- One task more is done.
use Rattle.std.proofs.Common.{[], length, map, refl, ap, ◌∙◌}
use Rattle.work_store.specs.Stored.{held_of}
use Rattle.step_core.specs.inner.Doing.{entry_of}
use Rattle.step_core.specs.Worlds.{placed, world_of}
use Rattle.serial_engine.proofs.StepLemmas.{no_run, went_on, worked_run}
use Rattle.serial_engine.proofs.alone.begin_alone.Goals as goal

pub loop-task-init : goal.loop-task-init
loop-task-init g c =
    let net = c.args.net.now in
    let elements = held_of c.args.store.now in record {
      went = no_run elements net.alphas net.nodes (placed elements net.nodes (length c.args.world.now.lines.items)) (world_of c.args.world.now);
      done = refl;
      ready = c.requires.ready;
      lines = refl;
    }

pub loop-task-preserved : goal.loop-task-preserved
loop-task-preserved g c =
    let net = c.args.net.now in
    let s = c.args.store.now in
    let one = c.in_ok-work.ensures.worked in record {
      went = went_on net.alphas net.nodes s c.args.world.now c.loop-task.world c.work.new.self [] [] c.loop-task.invariant.went c.loop-task.invariant.lines
          (worked_run net.alphas net.nodes s c.loop-task.world c.work.new.self _ _ one);
      done = ap (map entry_of) one.done ∙ c.loop-task.invariant.done;
      ready = c.work.ensures.ready;
      lines = c.work.ensures.lines ∙ c.loop-task.invariant.lines;
    }
