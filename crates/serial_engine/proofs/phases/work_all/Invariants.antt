-- Some of the tasks are left, the others are done with all that came of them.
use Rattle.std.proofs.Common.{◌≡◌, ◌-◌, [], false, length, take}
use Rattle.step_core.specs.Worlds.{IsReady, numbers_of, world_of}
use Rattle.serial_engine.specs.Running.{Went, is_full}
use Rattle.serial_engine.proofs.phases.work_all.Given as goal

abbrev pub invariant-loop-task : goal.invariant-loop-task
invariant-loop-task g l = record {
  went : Went l.net.alphas l.net.nodes l.store (length l.fn.world.lines.items) l.fn.world [] l.world;
  flight : is_full l.most (length l.world.flight.items) ≡ false → l.world.flight.items ≡ take (length l.initial.world.flight.items - l._task) l.initial.world.flight.items;
  done : (world_of l.world).done ≡ (world_of l.fn.world).done;
  ready : IsReady l.net.nodes l.store l.world;
  lines : numbers_of l.world ≡ numbers_of l.fn.world;
}
