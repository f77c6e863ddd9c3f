use Rattle.std.proofs.Common.{◌≤◌, ℕ, ◌==◌, cond, List, ◌∙◌, ap, sym, subst, IsSome, arith}
use Rattle.std.specs.Vec.{vec_capacity}
use Rattle.ops_base.specs.WorkingMemory.{without_tag}
use Rattle.work_store.specs.declared.slot.Slot.{Slot}
use Rattle.work_store.specs.Stored.{Stored, of_tag}
use Rattle.work_store.specs.Slots.{those, is_present, is_kept}
use Rattle.work_store.proofs.Slots.{present_slot}
use Rattle.work_store.proofs.Changes.{removed_elements, removed_kept, removed_slots}
use Rattle.work_store.proofs.store.Store.remove.Goals as goal

pub invariant_of-self : goal.invariant_of-self
invariant_of-self c =
    let fields = c.self.inside in
    let s = present_slot c.args.tag fields.slots c.self.invariant.placed (subst (λ (v : Stored). IsSome (of_tag v.elements c.args.tag)) (sym c.self.view_is) c.requires) in
    let wide : vec_capacity fields.gone ≤ vec_capacity c.push.new.self = omega (arith, c.push.ensures.capacity) in
    rw (c.mark.ensures s.0 s.1, c.in-Ok.ensures.items) (removed_slots c.args.tag fields.slots s.0 fields.gone.items (vec_capacity fields.gone) (vec_capacity c.push.new.self) fields.last c.self.invariant s.1 s.2 wide)

pub returns-clause-elements : goal.returns-clause-elements
returns-clause-elements c =
    let fields = c.self.inside in
    let s = present_slot c.args.tag fields.slots c.self.invariant.placed (subst (λ (v : Stored). IsSome (of_tag v.elements c.args.tag)) (sym c.self.view_is) c.requires) in
    ap (those is_present) (c.mark.ensures s.0 s.1)
    ∙ removed_elements c.args.tag fields.slots s.0 c.self.invariant.placed s.1 s.2
    ∙ ap (λ (v : Stored). without_tag c.args.tag v.elements) c.self.view_is

pub returns-clause-kept : goal.returns-clause-kept
returns-clause-kept c = λ n.
    let fields = c.self.inside in
    let s = present_slot c.args.tag fields.slots c.self.invariant.placed (subst (λ (v : Stored). IsSome (of_tag v.elements c.args.tag)) (sym c.self.view_is) c.requires) in
    ap (λ (es : List (ℕ × Slot)). of_tag (those is_kept es) n) (c.mark.ensures s.0 s.1)
    ∙ removed_kept c.args.tag fields.slots s.0 c.self.invariant.placed s.1 s.2 n
    ∙ ap (λ (v : Stored). cond (n == c.args.tag) (of_tag v.elements c.args.tag) (of_tag v.kept n)) c.self.view_is
