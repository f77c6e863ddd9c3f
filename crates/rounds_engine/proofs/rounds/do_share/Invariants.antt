-- Some of the tasks are done.
use Rattle.std.proofs.Common.{take}
use Rattle.rounds_engine.specs.Sharing.{AreKept}
use Rattle.rounds_engine.proofs.Sharing.{HaveWorked}
use Rattle.rounds_engine.proofs.rounds.do_share.Given as goal

abbrev pub invariant-loop-placed : goal.invariant-loop-placed
invariant-loop-placed g l = record {
  worked : HaveWorked l.ground.net.now.nodes l.ground.store.now l.ground.lines l.shard.first (take l.placed-index l.shard.tasks.items) l.fn.lines l.lines l.made.items;
  kept : AreKept l.ground.net.now.nodes l.ground.store.now l.fn.lines l.lines;
}
