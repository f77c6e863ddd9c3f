use Rattle.std.proofs.Common.{◌≡◌, ◌++◌, length}
use Rattle.std.specs.Slice.Iter.{iter_rest}
use Rattle.work_store.specs.Rows.{standing, elements_by, elements_left, chapter_elements}
use Rattle.work_store.proofs.iter.ElementsIterator.next.Given as goal

abbrev pub invariant-loop-element : goal.invariant-loop-element
invariant-loop-element l =
    let left = l.self-inside in
    elements_left (iter_rest left.slots) (iter_rest left.pages) ++ elements_by chapter_elements (standing (iter_rest left.chapters)) ≡ l.fn.self

abbrev pub decreases-loop-element : goal.decreases-loop-element
decreases-loop-element l = length (standing (iter_rest l.self-inside.chapters))
