-- Each half has fewer shards.
use Rattle.std.proofs.Common.{◌+◌, ◌-◌, ◌*◌, length}
use Rattle.rounds_engine.proofs.rounds.+shares.Given as goal

abbrev pub decreases-do_apart : goal.decreases-do_apart
decreases-do_apart g l = 4 * length l.shards.now

abbrev pub decreases-do_halves : goal.decreases-do_halves
decreases-do_halves g l = 4 * (length l.low.now + length l.high.now) - 1

abbrev pub decreases-do_halves-lower : goal.decreases-do_halves-lower
decreases-do_halves-lower g l = 4 * length l.low.now + 1

abbrev pub decreases-do_halves-upper : goal.decreases-do_halves-upper
decreases-do_halves-upper g l = 4 * length l.high.now + 1
