-- The shards up to the next one have the lines before its first one.
use Rattle.rounds_engine.proofs.Boundaries.{HaveLines}
use Rattle.rounds_engine.proofs.shards.bare_shards.Given as goal

abbrev pub invariant-loop-shard : goal.invariant-loop-shard
invariant-loop-shard l = HaveLines l.shards l.lines l.shard l.first l.bare.items
