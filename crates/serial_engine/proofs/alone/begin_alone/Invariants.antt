-- Some tasks are done.
use Rattle.std.proofs.Common.{◌≡◌, [], length}
use Rattle.step_core.specs.Worlds.{IsReady, numbers_of, world_of}
use Rattle.serial_engine.specs.Running.{Went}
use Rattle.serial_engine.proofs.alone.begin_alone.Given as goal

abbrev pub invariant-loop-task : goal.invariant-loop-task
invariant-loop-task g l = record {
  went : Went l.net.alphas l.net.nodes l.store (length l.fn.world.lines.items) l.fn.world [] l.world;
  done : (world_of l.world).done ≡ (world_of l.fn.world).done;
  ready : IsReady l.net.nodes l.store l.world;
  lines : numbers_of l.world ≡ numbers_of l.fn.world;
}
