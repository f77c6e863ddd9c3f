-- Some are joined.
use Rattle.rounds_engine.specs.Sharing.{AreBoth}
use Rattle.rounds_engine.proofs.shards.joined.Given as goal

abbrev pub invariant-loop-shard : goal.invariant-loop-shard
invariant-loop-shard l = AreBoth l.yielded l.all.items
