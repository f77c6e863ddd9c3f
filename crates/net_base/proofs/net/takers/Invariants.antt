use Rattle.std.proofs.Common.{◌≡◌, ℕ}
use Rattle.net_base.specs.Rows.{row_at}
use Rattle.net_base.specs.Feeds.{numbers_below, takes_from}
use Rattle.net_base.proofs.net.takers.Given as goal

abbrev pub invariant-loop-number : goal.invariant-loop-number
invariant-loop-number l = (alpha : ℕ) → row_at l.takers alpha ≡ numbers_below (takes_from alpha) l.nodes l.number
