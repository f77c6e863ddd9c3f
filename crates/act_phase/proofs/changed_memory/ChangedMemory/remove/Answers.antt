use Rattle.std.proofs.Common.{ap, sym, ◌∙◌}
use Rattle.ops_meaning.specs.Acting.{has_tag}
use Rattle.act_phase.specs.Changed.{Changed, memory_of}
use Rattle.act_phase.proofs.Counts.{counted_removed}
use Rattle.act_phase.proofs.changed_memory.ChangedMemory.remove.Goals as goal

pub invariant_of-self-in-Ok : goal.invariant_of-self-in-Ok
invariant_of-self-in-Ok c =
    let fields = c.self.inside in
    let there = ap (λ (v : Changed). has_tag (memory_of v) c.args.tag) c.self.view_is ∙ sym c.is_present.ensures ∙ c.if-is_present.true in
    rw (c.in-Ok.ensures.items, c.reserve.ensures.items)
    (counted_removed fields.store.now.elements fields.changes.items _ _ fields.first_tag fields.next_tag c.args.tag c.self.invariant there c.in_ok-insert.ensures.ok)
