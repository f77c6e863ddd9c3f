-- What stays true of a state as changes are done to it, and marks come and go.
use Rattle.std.proofs.Common.{◌≡◌, ℕ, ◌<◌, ◌≤◌, List, [], ◌∷◌, ◌++◌, refl, ap, sym, ◌∙◌, subst, arith, map}
use Rattle.std.specs.Prelude.{Result, Ok, Err, OnOk, OnErr}
use Rattle.std.specs.List.{AllByRecursion}
use Rattle.std.proofs.lemmas.List.Elements.{recursion_from_All}
use Rattle.ops_base.specs.declared.elements.Change.{Change}
use Rattle.ops_base.specs.declared.elements.Change.TheVariants.{Add, Remove}
use Rattle.ops_base.specs.declared.elements.Element.{Element}
use Rattle.ops_base.specs.declared.rules.Inst.{Inst}
use Rattle.ops_base.specs.Feeding.{Rises, fed_again}
use Rattle.ops_base.specs.Instances.{Before, IsInOrder}
use Rattle.ops_base.specs.Refraction.{is_among}
use Rattle.cycle.specs.declared.fired.Fired.{Fired}
use Rattle.ops_base.specs.WorkingMemory.{Lawful, without_tag, change_done, done, last_after, tags_of}
use Rattle.ops_base.proofs.FeedingLaws.{StartsAbove, rises}
use Rattle.ops_base.proofs.Filtered.{all_before-filter}
use Rattle.ops_base.proofs.InOrder.{before_from_all_pairs, all_pairs_from_before}
use Rattle.ops_meaning.specs.Kept.{WellKept}
use Rattle.ops_meaning.proofs.Lawful.{lawful_kept}
use Rattle.work_store.specs.Stored.{Stored}
use Rattle.conflict_index.specs.Indexed.{nothing_indexed}
use Rattle.cycle.specs.States.{Held}
use Rattle.cycle.specs.Standing.{Standing, after_firing, with_inst, without_gone}
use Rattle.cycle.proofs.Above.{AreAbove, phase_above}
use Rattle.cycle.proofs.Standings.{with_inst_in_order}
use Rattle.live_rules.proofs.Placed.{feeds}
use Rattle.back_trail.specs.Kept.{IsHeld, IsRemade, IsSound, remade}
use Rattle.std.proofs.Common.{not, Bool}

pub above_after : (wm : List Element) (last : ℕ) (cs : List Change) → AreAbove wm → Lawful wm last cs → AreAbove (done wm cs)
above_after wm last cs a l =
    let h : Held Stored = record { matcher = record { elements = wm; kept = []; last = last }; index = nothing_indexed; firings = 0 } in
    phase_above (λ (s : Stored). s) h h refl a cs l (done wm cs) refl

pub marks_with : (i : Inst) (xs : List Inst) → IsInOrder xs → IsInOrder (with_inst i xs)
marks_with i xs h =
    all_pairs_from_before Before (with_inst i xs) (with_inst_in_order i xs (before_from_all_pairs Before xs h))

pub marks_without : (gone xs : List Inst) → IsInOrder xs → IsInOrder (without_gone gone xs)
marks_without gone xs h =
    all_pairs_from_before Before (without_gone gone xs) (all_before-filter Before (λ i. not (is_among gone i)) xs (before_from_all_pairs Before xs h))

pub sound_done : (s : Standing) (cs : List Change) → IsSound s → Lawful s.wm s.last cs → IsSound (record s { wm = done s.wm cs; last = last_after s.last cs })
sound_done s cs h l = record {
  well = lawful_kept s.wm s.last cs h.well l;
  above = above_after s.wm s.last cs h.above l;
  in_order = h.in_order;
}

-- ---- the oldest state

pub held_with : (store : Stored) (fired marks : List Inst) (last : ℕ) (i : Inst) → marks ≡ with_inst i fired → IsHeld store fired last → IsHeld store marks last
held_with store fired marks last i is h =
    let P : List Inst → Type 0 = λ ms. IsHeld store ms last in
    subst P (sym is) (record { below = h.below; sound = record { well = h.sound.well; above = h.sound.above; in_order = marks_with i fired h.sound.in_order } })

pub held_without : (store : Stored) (fired marks : List Inst) (last : ℕ) (gone : List Inst) → marks ≡ without_gone gone fired → IsHeld store fired last → IsHeld store marks last
held_without store fired marks last gone is h =
    let P : List Inst → Type 0 = λ ms. IsHeld store ms last in
    subst P (sym is) (record { below = h.below; sound = record { well = h.sound.well; above = h.sound.above; in_order = marks_without gone fired h.sound.in_order } })

-- removed elements are let go
pub held_forgotten : (store next : Stored) (fired : List Inst) (last : ℕ) → next ≡ record store { kept = [] } → IsHeld store fired last → IsHeld next fired last
held_forgotten store next fired last is h =
    let P : Stored → Type 0 = λ s. IsHeld s fired last in subst P (sym is) (record { below = h.below; sound = h.sound })

-- a mark is put in, or memory runs out
pub held_marked : {X E : Type 0} (r : Result X E) (store : Stored) (fired marks : List Inst) (last : ℕ) (i : Inst) → OnOk r (marks ≡ with_inst i fired) → OnErr r (marks ≡ fired) → IsHeld store fired last → IsHeld store marks last
held_marked (Ok x) store fired marks last i ok err h = held_with store fired marks last i ok h
held_marked (Err e) store fired marks last i ok err h =
    let P : List Inst → Type 0 = λ ms. IsHeld store ms last in subst P (sym err) h

starts_above : (wm : List Element) → AreAbove wm → StartsAbove 0 wm
starts_above [] a = tt
starts_above (e ∷ wm) a = (recursion_from_All (λ t. 0 < t) (tags_of (e ∷ wm)) a).0

last_within : (l last : ℕ) (wm : List Element) → l ≤ last → AllByRecursion (λ t. t ≤ last) (tags_of wm) → last_after l (map Add wm) ≤ last
last_within l last [] h a = h
last_within l last (e ∷ wm) h a = last_within e.tag last wm a.0 a.1

pub rises_from : (x y : Stored) → y ≡ x → WellKept x.elements x.last → AreAbove x.elements → Rises 0 y.elements
rises_from x y is kept above =
    let P : Stored → Type 0 = λ w. Rises 0 w.elements in
    subst P (sym is) (rises 0 x.elements (starts_above x.elements above) kept.0)

-- a copy of a state
pub held_copy : (x y store : Stored) (last : ℕ) → last ≡ x.last → WellKept x.elements x.last → AreAbove x.elements → y ≡ x → store.elements ≡ y.elements → store.last ≡ last_after 0 (map Add y.elements)
    → (keys marks : List Inst) → keys ≡ marks → IsInOrder marks → IsHeld store keys last
held_copy x y store last tag kept above is elements greatest keys marks are order =
    let same : store.elements ≡ x.elements = elements ∙ ap (λ (w : Stored). w.elements) is in
    let top : store.last ≡ last_after 0 (map Add x.elements) = greatest ∙ ap (λ (w : Stored). last_after 0 (map Add w.elements)) is in
    let within = last_within 0 x.last x.elements (omega arith) (recursion_from_All (λ t. t ≤ x.last) (tags_of x.elements) kept.1) in
    let P : List Element → Type 0 = λ wm. WellKept wm last in
    let Q : ℕ → Type 0 = λ l. WellKept x.elements l in
    let R : List Element → Type 0 = AreAbove in
    let S : List Inst → Type 0 = IsInOrder in
    record {
      below = omega (arith, top, within, tag);
      sound = record { well = subst P (sym same) (subst Q (sym tag) kept); above = subst R (sym same) above; in_order = subst S (sym are) order };
    }

-- one change is done to its store
pub held_done : (store next : Stored) (fired : List Inst) (last last-next : ℕ) (c : Change) → next.elements ≡ change_done store.elements c → last-next ≡ last_after last (c ∷ []) → next.last ≤ last-next → Lawful store.elements last (c ∷ [])
    → IsHeld store fired last → IsHeld next fired last-next
held_done store next fired last last-next c elements tag below lawful h =
    let s : Standing = record { wm = store.elements; fired = fired; last = last } in
    let all = sound_done s (c ∷ []) h.sound lawful in
    let P : List Element → Type 0 = λ wm. IsSound (record { wm = wm; fired = fired; last = last-next }) in
    let Q : ℕ → Type 0 = λ l. IsSound (record { wm = change_done store.elements c; fired = fired; last = l }) in
    record { below = below; sound = subst P (sym elements) (subst Q (sym tag) all) }

-- what was asked of a state is asked of what is kept of it
pub lawful_so : (s t : Standing) → s ≡ t → (c d : Change) → c ≡ d → Lawful t.wm t.last (c ∷ []) → Lawful s.wm s.last (d ∷ [])
lawful_so s t is c d same h =
    let P : Standing → Type 0 = λ w. Lawful w.wm w.last (c ∷ []) in
    let Q : Change → Type 0 = λ e. Lawful s.wm s.last (e ∷ []) in subst Q same (subst P (sym is) h)

-- ---- a state that is made anew

pub remade_of : (o : Standing) (classes : ℕ) (changes : List Change) (fired : List Inst) → changes ≡ fed_again classes o.wm o.last → fired ≡ o.fired → IsSound o → (remade changes fired ≡ o) × IsRemade changes fired
remade_of o classes changes fired is marks h =
    let f = feeds classes o.wm o.last changes is h.well h.above in
    let same : remade changes fired ≡ o = λ i. record { wm = f.elements i; fired = marks i; last = f.tag i } in
    let P : Standing → Type 0 = IsSound in (same, record { lawful = f.lawful; sound = subst P (sym same) h })

done_append : (wm : List Element) (cs ds : List Change) → done wm (cs ++ ds) ≡ done (done wm cs) ds
done_append wm [] ds = refl
done_append wm (c ∷ cs) ds = done_append (change_done wm c) cs ds

last_append : (l : ℕ) (cs ds : List Change) → last_after l (cs ++ ds) ≡ last_after (last_after l cs) ds
last_append l [] ds = refl
last_append l (Add e ∷ cs) ds = last_append e.tag cs ds
last_append l (Remove t ∷ cs) ds = last_append l cs ds

lawful_append : (wm : List Element) (l : ℕ) (cs ds : List Change) → Lawful wm l cs → Lawful (done wm cs) (last_after l cs) ds → Lawful wm l (cs ++ ds)
lawful_append wm l [] ds p q = q
lawful_append wm l (Add e ∷ cs) ds p q = (p.0, lawful_append (wm ++ e ∷ []) e.tag cs ds p.1 q)
lawful_append wm l (Remove t ∷ cs) ds p q = (p.0, lawful_append (without_tag t wm) l cs ds p.1 q)

-- the same after a firing
pub followed : (xs cs : List Change) (fired : List Inst) (s : Standing) → remade xs fired ≡ s → IsRemade xs fired → Lawful s.wm s.last cs → (i : Inst) (halted : Bool) (gone : List Inst)
    → (all : List Change) (marks : List Inst) → all ≡ xs ++ cs → marks ≡ without_gone gone (with_inst i fired)
    → (remade all marks ≡ after_firing (record { inst = i; halted = halted; changes = cs; gone = gone; built = [] }) s) × IsRemade all marks
followed xs cs fired s is kept lawful i halted gone all marks more left =
    (same, record { lawful = subst L (sym more) all_lawful; sound = subst S (sym same) sound })
  where
    o : Standing
    o = remade xs fired

    f : Fired
    f = record { inst = i; halted = halted; changes = cs; gone = gone; built = [] }

    there : Lawful o.wm o.last cs
    there = let P : Standing → Type 0 = λ w. Lawful w.wm w.last cs in subst P (sym is) lawful

    L : List Change → Type 0
    L ds = Lawful [] 0 ds

    S : Standing → Type 0
    S w = IsSound w

    all_lawful : Lawful [] 0 (xs ++ cs)
    all_lawful = lawful_append [] 0 xs cs kept.lawful there

    same : remade all marks ≡ after_firing f s
    same =
        let wm = ap (λ ds. done [] ds) more ∙ done_append [] xs cs in
        let last = ap (λ ds. last_after 0 ds) more ∙ last_append 0 xs cs in
        let at : remade all marks ≡ after_firing f o = λ k. record { wm = wm k; fired = left k; last = last k } in at ∙ ap (after_firing f) is

    sound : IsSound (after_firing f s)
    sound =
        let h = sound_done o cs kept.sound there in
        subst S (ap (after_firing f) is) (record { well = h.well; above = h.above; in_order = marks_without gone (with_inst i fired) (marks_with i fired h.in_order) })
