use Rattle.std.proofs.Common.{◌≡◌, length, reverse}
use Rattle.conflict_index.specs.Keeping.{unfired_insts}
use Rattle.conflict_index.proofs.order.ByDominanceIterator.next.Given as goal

abbrev pub invariant-loop-held : goal.invariant-loop-held
invariant-loop-held l = reverse (unfired_insts l.self-inside.held) ≡ l.fn.self

abbrev pub decreases-loop-held : goal.decreases-loop-held
decreases-loop-held l = length l.self-inside.held
