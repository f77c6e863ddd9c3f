use Rattle.std.proofs.Common.{◌≤◌, ◌<◌, ◌+◌, [], ◌∷◌, ◌++◌, length, ◌∙◌, ap, sym, subst, arith}
use Rattle.std.specs.Vec.{vec_capacity}
use Rattle.work_store.specs.Stored.{Stored, HoldsAlso, IsStored}
use Rattle.work_store.specs.Slots.{stored_in}
use Rattle.work_store.proofs.Changes.{all_below, inserted_slots, inserted_stored}
use Rattle.work_store.proofs.Holding.{added_held}
use Rattle.work_store.proofs.Rows.{look_below}
use Rattle.work_store.proofs.Slots.{stored_well}
use Rattle.work_store.proofs.store.Store.add.Goals as goal

pub add-requires : goal.add-requires
add-requires c =
    let fields = c.self.inside in
    let above : fields.last < c.args.element.tag = subst (λ (v : Stored). v.last < c.args.element.tag) (sym c.self.view_is) c.requires in
    look_below c.args.element.tag fields.slots (all_below fields.slots fields.last c.args.element.tag above c.self.invariant.below)

pub invariant_of-self-2 : goal.invariant_of-self-2
invariant_of-self-2 c =
    let fields = c.self.inside in
    let above : fields.last < c.args.element.tag = subst (λ (v : Stored). v.last < c.args.element.tag) (sym c.self.view_is) c.requires in
    let room : length fields.slots + 1 ≤ vec_capacity c.reserve.new.self = omega (arith, c.in_ok-reserve.ensures.ok, c.reserve.ensures.len) in
    rw (c.in_ok-add.ensures.ok, c.reserve.ensures.items) (inserted_slots fields.slots fields.gone.items (vec_capacity fields.gone) (vec_capacity c.reserve.new.self) fields.last c.args.element c.self.invariant above room)

pub returns-clause-ok : goal.returns-clause-ok
returns-clause-ok c =
    let fields = c.self.inside in
    let above : fields.last < c.args.element.tag = subst (λ (v : Stored). v.last < c.args.element.tag) (sym c.self.view_is) c.requires in
    ap (λ es. stored_in es c.args.element.tag) c.in_ok-add.ensures.ok
    ∙ inserted_stored fields.slots fields.gone.items (vec_capacity fields.gone) fields.last c.args.element c.self.invariant above
    ∙ ap (λ (v : Stored). record { elements = v.elements ++ c.args.element ∷ []; kept = v.kept; last = c.args.element.tag }) c.self.view_is

pub returns-clause-held : goal.returns-clause-held
returns-clause-held c =
    let fields = c.self.inside in
    let well : IsStored c.args.self.now = subst IsStored c.self.view_is (stored_well fields.slots fields.gone.items (vec_capacity fields.gone) fields.last c.self.invariant) in
    let P : Stored → Type 0 = λ s. HoldsAlso c.args.self.now s (c.args.element ∷ []) in
    subst P (sym (returns-clause-ok c)) (added_held c.args.self.now c.args.element well c.requires)
