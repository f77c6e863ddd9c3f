use Rattle.std.proofs.Common.{refl}
use Rattle.act_phase.proofs.Counts.{counted_added}
use Rattle.act_phase.proofs.changed_memory.ChangedMemory.add.Goals as goal

pub invariant_of-self-2 : goal.invariant_of-self-2
invariant_of-self-2 c =
    let fields = c.self.inside in
    rw (c.in_ok-push.ensures.items, c.in-Some.ensures.1)
    (counted_added fields.store.now.elements fields.changes.items _ fields.first_tag fields.next_tag _ c.self.invariant refl)
