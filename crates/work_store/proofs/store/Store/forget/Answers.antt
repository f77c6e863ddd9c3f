use Rattle.std.proofs.Common.{◌≡◌, ◌≤◌, [], ◌∙◌, ap, arith}
use Rattle.std.specs.Vec.{vec_capacity}
use Rattle.work_store.specs.Stored.{Stored}
use Rattle.work_store.specs.Slots.{stored_in, without_all}
use Rattle.work_store.proofs.Changes.{forgotten_slots, forgotten_stored}
use Rattle.work_store.proofs.store.Store.forget.Goals as goal

pub invariant_of-self : goal.invariant_of-self
invariant_of-self c =
    let fields = c.self.inside in
    let left : c.drop_all.new.slots ≡ without_all fields.gone.items fields.slots =
    c.drop_all.ensures ∙ ap (λ ts. without_all ts fields.slots) c.as_slice.ensures.value in
    let wide : vec_capacity fields.gone ≤ vec_capacity c.clear.new.self = omega (arith, c.clear.ensures.capacity) in
    rw (left, c.clear.ensures.items) (forgotten_slots fields.gone.items fields.slots (vec_capacity fields.gone) (vec_capacity c.clear.new.self) fields.last c.self.invariant wide)

pub returns : goal.returns
returns c =
    let fields = c.self.inside in
    let left : c.drop_all.new.slots ≡ without_all fields.gone.items fields.slots =
    c.drop_all.ensures ∙ ap (λ ts. without_all ts fields.slots) c.as_slice.ensures.value in
    ap (λ es. stored_in es fields.last) left
    ∙ forgotten_stored fields.gone.items fields.slots fields.last c.self.invariant.placed c.self.invariant.noted
    ∙ ap (λ (v : Stored). record v { kept = [] }) c.self.view_is
