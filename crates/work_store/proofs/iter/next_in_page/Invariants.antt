use Rattle.std.proofs.Common.{◌≡◌, length}
use Rattle.std.specs.Slice.Iter.{iter_rest}
use Rattle.work_store.specs.Rows.{standing, elements_by, slot_elements}
use Rattle.work_store.proofs.iter.next_in_page.Given as goal

abbrev pub invariant-loop-slot : goal.invariant-loop-slot
invariant-loop-slot l = elements_by slot_elements (standing (iter_rest l.slots)) ≡ elements_by slot_elements (standing (iter_rest l.fn.slots))

abbrev pub decreases-loop-slot : goal.decreases-loop-slot
decreases-loop-slot l = length (standing (iter_rest l.slots))
