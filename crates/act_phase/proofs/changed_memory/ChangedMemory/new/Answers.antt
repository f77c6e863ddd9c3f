use Rattle.act_phase.proofs.Counts.{counted_first}
use Rattle.act_phase.proofs.changed_memory.ChangedMemory.new.Goals as goal

pub invariant_of-result : goal.invariant_of-result
invariant_of-result c =
    let stored = c.args.store.now in
    rw c.new.ensures.items
    (counted_first stored.elements stored.kept _ stored.last c.args.next_tag c.last-last.ensures.stored.below c.requires
    c.new-2.ensures)
