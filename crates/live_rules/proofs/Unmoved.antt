-- Where no production was removed, the old ones are the first of those in force, and marks stay as they are.
use Rattle.std.proofs.Common.{◌≡◌, ℕ, zero, suc, ◌+◌, ◌<◌, ◌≤◌, List, [], ◌∷◌, length, take, Option, Some, None, refl, ap, sym, ◌∙◌, inl, inr, arith, zero-add}
use Rattle.std.specs.Prelude.{slice_get, option_map, option_and_then}
use Rattle.std.specs.List.{cons_option}
use Rattle.std.proofs.lemmas.List.Elements.{All-contains}
use Rattle.ops_base.specs.declared.elements.Element.{Element}
use Rattle.ops_base.specs.declared.rules.Inst.{Inst}
use Rattle.ops_base.specs.declared.rules.Rule.{Rule}
use Rattle.ops_base.specs.ConflictSet.{conflict_set}
use Rattle.ops_base.specs.Live.{renumbered}
use Rattle.ops_base.specs.Names.{Spellings}
use Rattle.ops_base.proofs.ConflictSetLaws.{computed_of}
use Rattle.ops_base.proofs.Members.{IsMember, contains_from_member}
use Rattle.ops_io.specs.Coming.{Coming}
use Rattle.work_store.specs.Stored.{Stored}
use Rattle.conflict_index.specs.Indexed.{insts_of, fired_of}
use Rattle.cycle.specs.States.{Held, state_course}
use Rattle.live_rules.specs.Moves.{Places, numbered_from, unmoved, places_moved, place_of, inst_moved, insts_moved, Leads, stays, goes, comes}
use Rattle.live_rules.specs.Renewing.{moved_course}
use Rattle.live_rules.proofs.Placed.{placed, some_is, fired_within}

-- ---- numbers that have not moved

pub length_numbered : (first n : ℕ) → length (numbered_from first n) ≡ n
length_numbered first zero = refl
length_numbered first (suc n) = ap suc (length_numbered (suc first) n)

numbered_get : (first count n : ℕ) → n < count → slice_get (numbered_from first count) n ≡ Some (Some (first + n))
numbered_get first zero n h = absurd (omega (arith, h))
numbered_get first (suc count) zero h = let e : first ≡ first + 0 = omega arith in ap (λ k. Some (Some k)) e
numbered_get first (suc count) (suc n) h =
    let e : suc first + n ≡ first + suc n = omega arith in
    numbered_get (suc first) count n (omega (arith, h)) ∙ ap (λ k. Some (Some k)) e

pub unmoved_get : (count n : ℕ) → n < count → slice_get (unmoved count) n ≡ Some (Some n)
unmoved_get count n h = numbered_get 0 count n h ∙ ap (λ k. Some (Some k)) (zero-add n)

unmoved_place : (count n : ℕ) → n < count → place_of (unmoved count) n ≡ Some n
unmoved_place count n h = ap (λ o. option_and_then (λ (p : Option ℕ). p) o) (unmoved_get count n h)

numbered_each : (first : ℕ) (places : Places) → ((n : ℕ) → n < length places → slice_get places n ≡ Some (Some (first + n))) → places ≡ numbered_from first (length places)
numbered_each first [] h = refl
numbered_each first (p ∷ places) h =
    let e : first + 0 ≡ first = omega arith in
    let here : p ≡ Some first = some_is p (Some first) (h 0 (omega arith) ∙ ap (λ k. Some (Some k)) e) in
    let later = numbered_each (suc first) places (later_get) in
    ap (λ (o : Option ℕ). o ∷ places) here ∙ ap (λ (ps : Places). Some first ∷ ps) later
  where
    later_get : (n : ℕ) → n < length places → slice_get places n ≡ Some (Some (suc first + n))
    later_get n lt =
        let e : first + suc n ≡ suc first + n = omega arith in
        h (suc n) (omega (arith, lt)) ∙ ap (λ k. Some (Some k)) e

-- places that are each their own number have not moved
pub unmoved_each : (places : Places) → ((n : ℕ) → n < length places → slice_get places n ≡ Some (Some n)) → places ≡ unmoved (length places)
unmoved_each places h =
    numbered_each 0 places (λ n lt. h n lt ∙ ap (λ k. Some (Some k)) (sym (zero-add n)))

-- ---- the productions

length_moved : (k : ℕ) (places : Places) → length (places_moved k places) ≡ length places
length_moved k [] = refl
length_moved k (p ∷ places) = ap suc (length_moved k places)

length_places : {places : Places} {old new : List Rule} → Leads places old new → length places ≡ length old
length_places (stays rules) = length_numbered 0 (length rules)
length_places (goes {places} {old} {new} k leads) = length_moved k places ∙ length_places leads
length_places (comes {places} {old} {new} r leads) = length_places leads

first_at : (old new : List Rule) → ((n : ℕ) → n < length old → slice_get new n ≡ slice_get old n) → take (length old) new ≡ old
first_at [] new h = refl
first_at (r ∷ old) [] h = let none : None ≡ Some r = h 0 (omega arith) in cc
first_at (r ∷ old) (q ∷ new) h =
    let same : q ≡ r = some_is q r (h 0 (omega arith)) in
    ap (λ (w : Rule). w ∷ take (length old) new) same
    ∙ ap (λ (ws : List Rule). r ∷ ws) (first_at old new (λ n lt. h (suc n) (omega (arith, lt))))

-- the old productions are the first of the new ones
pub record AreFirst (n : ℕ) (old new : List Rule) : Type 0 where
  pub number : n ≡ length old
  pub within : n ≤ length new
  pub first : take n new ≡ old

within_by : (n : ℕ) (old new : List Rule) → n ≡ length old → ((m : ℕ) → m < length old → slice_get new m ≡ slice_get old m) → n ≤ length new
within_by zero old new e h = omega arith
within_by (suc n) [] new e h = absurd (omega (arith, e))
within_by (suc n) (r ∷ old) [] e h = let none : None ≡ Some r = h 0 (omega arith) in cc
within_by (suc n) (r ∷ old) (q ∷ new) e h =
    let less : n ≤ length new = within_by n old new (omega (arith, e)) (λ m lt. h (suc m) (omega (arith, lt))) in omega (arith, less)

pub are_first : {places : Places} {old new : List Rule} (n : ℕ) → Leads places old new → places ≡ unmoved n → AreFirst n old new
are_first {places} {old} {new} n leads is = record {
  number = number;
  within = within_by n old new number at;
  first = ap (λ k. take k new) number ∙ first_at old new at;
}
  where
    number : n ≡ length old
    number = sym (length_numbered 0 n) ∙ ap (λ (ps : Places). length ps) (sym is) ∙ length_places leads

    at : (m : ℕ) → m < length old → slice_get new m ≡ slice_get old m
    at m lt =
        let here : place_of places m ≡ Some m = ap (λ (ps : Places). place_of ps m) is ∙ unmoved_place n m (omega (arith, number, lt)) in
        let f = (placed leads).same m m here in
        f.2 ∙ sym f.1

-- ---- the marks

kept_marks : (n : ℕ) (insts : List Inst) → ((i : Inst) → IsMember i insts → i.rule < n) → insts_moved (unmoved n) insts ≡ insts
kept_marks n [] h = refl
kept_marks n (i ∷ insts) h =
    let here : inst_moved (unmoved n) i ≡ Some i = ap (λ o. option_map (renumbered i) o) (unmoved_place n i.rule (h i (inl refl))) in
    ap (λ o. cons_option o (insts_moved (unmoved n) insts)) here
    ∙ ap (λ (is : List Inst). i ∷ is) (kept_marks n insts (λ j m. h j (inr m)))

-- each mark is of one of the old productions, so it stays under its number
pub course_unmoved : {M : Type 0} (stored : M → Stored) (k : Held M) (places : Places) (n : ℕ) (old new : List Rule) (wm : List Element) → places ≡ unmoved n → AreFirst n old new → insts_of k.index.members ≡ conflict_set old wm → (names : Spellings) (coming : Coming)
    → moved_course places (state_course stored k names coming) ≡ state_course stored k names coming
course_unmoved {M} stored k places n old new wm is first set names coming =
    (λ i. record (state_course stored k names coming) { fired = kept i })
  where
    below : (i : Inst) → IsMember i (fired_of k.index.members) → i.rule < n
    below i m =
        let there = fired_within k.index.members i (contains_from_member i (fired_of k.index.members) m) in
        let lt : i.rule < length old = All-contains (λ (w : Inst). w.rule < length old) (insts_of k.index.members) i (computed_of old wm (insts_of k.index.members) set) there in
        let same : n ≡ length old = first.number in omega (arith, lt, same)

    kept : insts_moved places (fired_of k.index.members) ≡ fired_of k.index.members
    kept = ap (λ (ps : Places). insts_moved ps (fired_of k.index.members)) is ∙ kept_marks n (fired_of k.index.members) below

-- so a state that has the same course as before follows the productions in force
pub course_follows : {M : Type 0} (stored : M → Stored) (k : Held M) (places : Places) (n : ℕ) (old new : List Rule) (wm : List Element) → places ≡ unmoved n → AreFirst n old new → insts_of k.index.members ≡ conflict_set old wm → (s : Held M)
    → ((names : Spellings) (coming : Coming) → state_course stored s names coming ≡ state_course stored k names coming) → (names : Spellings) (coming : Coming) → state_course stored s names coming ≡ moved_course places (state_course stored k names coming)
course_follows {M} stored k places n old new wm is first set s same names coming =
    same names coming ∙ sym (course_unmoved stored k places n old new wm is first set names coming)
