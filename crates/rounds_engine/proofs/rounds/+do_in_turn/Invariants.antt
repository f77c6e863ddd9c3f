-- Each half has fewer shards.
use Rattle.std.proofs.Common.{length}
use Rattle.rounds_engine.proofs.rounds.+do_in_turn.Given as goal

abbrev pub decreases-do_in_turn : goal.decreases-do_in_turn
decreases-do_in_turn g l = length l.shards.now
