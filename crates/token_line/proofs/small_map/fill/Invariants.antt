-- The pairs that have gone in come first in the list of all, and the map has room for the others.
use Rattle.std.proofs.Common.{◌≡◌, ◌≤◌, ◌++◌, length}
use Rattle.std.specs.Vec.Iter.{into_iter_items, into_iter_len}
use Rattle.indexmap.specs.IndexMap.{spare}
use Rattle.token_line.proofs.small_map.fill.Given as goal

abbrev pub invariant-loop-key : goal.invariant-loop-key
invariant-loop-key g l = record { all : l.fn.list.items ≡ l.map.entries ++ into_iter_items l.rest; room : length (into_iter_items l.rest) ≤ spare l.map }

abbrev pub decreases-loop-key : goal.decreases-loop-key
decreases-loop-key g l = into_iter_len l.rest
