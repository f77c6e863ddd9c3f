use Rattle.std.proofs.Common.{◌≡◌, length}
use Rattle.std.specs.Slice.Iter.{iter_rest}
use Rattle.work_store.specs.Rows.{standing, elements_left}
use Rattle.work_store.proofs.iter.next_in_pages.Given as goal

abbrev pub invariant-loop-element : goal.invariant-loop-element
invariant-loop-element l =
    elements_left (iter_rest l.slots) (iter_rest l.pages) ≡ elements_left (iter_rest l.fn.slots) (iter_rest l.fn.pages)

abbrev pub decreases-loop-element : goal.decreases-loop-element
decreases-loop-element l = length (standing (iter_rest l.pages))
