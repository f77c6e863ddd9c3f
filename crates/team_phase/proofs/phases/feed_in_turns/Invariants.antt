-- Some of the changes are fed, and tasks were done between them.
use Rattle.std.proofs.Common.{◌≡◌, length, take}
use Rattle.step_core.specs.Worlds.{IsReady, numbers_of}
use Rattle.serial_engine.specs.Carrying.{FeedsOn}
use Rattle.team_phase.proofs.phases.feed_in_turns.Given as goal

abbrev pub invariant-loop-change : goal.invariant-loop-change
invariant-loop-change g l = record {
  feeds : FeedsOn l.net.alphas l.net.nodes l.store l.fn.world.lines.items l.fn.world.flight.items (take l.change-index l.changes) l.world.lines.items l.world.flight.items;
  done : length l.world.done.items ≡ 0;
  ready : IsReady l.net.nodes l.store l.world;
  lines : numbers_of l.world ≡ numbers_of l.fn.world;
  workers : l.sharing.workers ≡ l.fn.sharing.workers;
}
