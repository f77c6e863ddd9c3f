-- One pick more is done.
use Rattle.std.proofs.Common.{[], length, refl, ◌∙◌}
use Rattle.work_store.specs.Stored.{held_of}
use Rattle.step_core.specs.Worlds.{placed, world_of}
use Rattle.serial_engine.proofs.StepLemmas.{no_run, went_on}
use Rattle.serial_engine.proofs.phases.work_picks.Goals as goal

pub loop-pick-init : goal.loop-pick-init
loop-pick-init g c =
    let net = c.args.net.now in
    let elements = held_of c.args.store.now in record {
      went = no_run elements net.alphas net.nodes (placed elements net.nodes (length c.args.world.now.lines.items)) (world_of c.args.world.now);
      done = refl;
      ready = c.requires.ready;
      lines = refl;
    }

pub loop-pick-preserved : goal.loop-pick-preserved
loop-pick-preserved g c =
    let net = c.args.net.now in record {
      went = went_on net.alphas net.nodes c.args.store.now c.args.world.now c.loop-pick.world c.work_picked.new.world [] [] c.loop-pick.invariant.went c.loop-pick.invariant.lines c.in_ok-work_picked.ensures.went;
      done = c.in_ok-work_picked.ensures.done ∙ c.loop-pick.invariant.done;
      ready = c.work_picked.ensures.ready;
      lines = c.work_picked.ensures.lines ∙ c.loop-pick.invariant.lines;
    }
