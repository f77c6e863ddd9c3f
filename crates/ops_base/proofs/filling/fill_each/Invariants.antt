-- What is filled and what the rest will be are the whole, and so are the counts.
use Rattle.std.proofs.Common.{◌≡◌, ◌+◌, ◌++◌, drop}
use Rattle.ops_base.specs.Filling.{each, total}
use Rattle.ops_base.proofs.filling.fill_each.Given as goal

abbrev pub invariant-loop-item : goal.invariant-loop-item
invariant-loop-item g l =
    (l.filled.items ++ each g.T.Fills.count (g.T.Fills.filled l.with) l.at (drop l.item-index l.items) ≡ each g.T.Fills.count (g.T.Fills.filled l.with) l.initial.at l.items)
    × (l.at + total g.T.Fills.count (drop l.item-index l.items) ≡ l.initial.at + total g.T.Fills.count l.items)
