-- Some are dealt.
use Rattle.rounds_engine.proofs.Dealing.{HaveDealt}
use Rattle.rounds_engine.proofs.shards.deal.Given as goal

abbrev pub invariant-loop-task : goal.invariant-loop-task
invariant-loop-task l = HaveDealt l.ground.net.now.nodes l.ground.store.now l.ground.shards l.ground.lines l.yielded l.dealt.items
