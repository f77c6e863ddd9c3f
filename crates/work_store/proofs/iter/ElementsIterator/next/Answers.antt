use Rattle.std.proofs.Common.{◌∙◌}
use Rattle.std.specs.Slice.Iter.{iter_rest}
use Rattle.work_store.specs.Rows.{standing, elements_by, slot_elements, page_elements}
use Rattle.work_store.proofs.Present.{next_chapter}
use Rattle.work_store.proofs.iter.ElementsIterator.next.Goals as goal

pub loop-element-preserved : goal.loop-element-preserved
loop-element-preserved c =
    let before = c.loop-element.self-inside in
    next_chapter (elements_by slot_elements (standing (iter_rest before.slots))) (elements_by page_elements (standing (iter_rest before.pages))) _ _ _ _ _ c.in-Some-next_standing.chapter.now _
    c.loop-element.invariant c.in_default.ensures.0 c.in_default.ensures.1 c.in-Some-next_standing.ensures (c.iter-self-inside.ensures.rest ∙ c.deref.ensures.value)
