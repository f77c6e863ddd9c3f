-- The shards so far have no task.
use Rattle.std.proofs.Common.{◌≡◌, [], take}
use Rattle.rounds_engine.specs.Sharing.{tasks_of_shards}
use Rattle.rounds_engine.proofs.shards.are_idle.Given as goal

abbrev pub invariant-loop-shard : goal.invariant-loop-shard
invariant-loop-shard l = tasks_of_shards (take l.shard-index l.shards) ≡ []
