-- Some of the changes are fed.
use Rattle.std.proofs.Common.{◌≡◌, length, take}
use Rattle.step_core.specs.Worlds.{IsReady, numbers_of, world_of}
use Rattle.serial_engine.specs.Running.{Went}
use Rattle.serial_engine.proofs.phases.feed_in_turns.Given as goal

abbrev pub invariant-loop-change : goal.invariant-loop-change
invariant-loop-change g l = record {
  went : Went l.net.alphas l.net.nodes l.store (length l.fn.world.lines.items) l.fn.world (take l.change-index l.changes) l.world;
  done : (world_of l.world).done ≡ (world_of l.fn.world).done;
  ready : IsReady l.net.nodes l.store l.world;
  lines : numbers_of l.world ≡ numbers_of l.fn.world;
}
