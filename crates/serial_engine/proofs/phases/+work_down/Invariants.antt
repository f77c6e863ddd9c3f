-- Some of the children are left, the others are done with all that came of them.
use Rattle.std.proofs.Common.{◌≡◌, ◌+◌, ◌-◌, [], false, length, take}
use Rattle.step_core.specs.Worlds.{IsReady, numbers_of, world_of}
use Rattle.serial_engine.specs.Running.{Went, is_full}
use Rattle.serial_engine.proofs.phases.+work_down.Given as goal

abbrev pub decreases-work_down : goal.decreases-work_down
decreases-work_down g l = l.levels

abbrev pub invariant-loop-child : goal.invariant-loop-child
invariant-loop-child g l = record {
  went : Went l.net.alphas l.net.nodes l.store (length l.fn.world.lines.items) l.fn.world [] l.world;
  flight : is_full l.most (length l.world.flight.items) ≡ false → l.world.flight.items ≡ take (l.rest + (l.children - l._child)) l.initial.world.flight.items;
  done : (world_of l.world).done ≡ (world_of l.fn.world).done;
  ready : IsReady l.net.nodes l.store l.world;
  lines : numbers_of l.world ≡ numbers_of l.fn.world;
}
