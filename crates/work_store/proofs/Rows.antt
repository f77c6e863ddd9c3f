-- What a change at one place of a row does to the entries of the row.
use Rattle.std.proofs.Common.{◌≡◌, ℕ, zero, suc, ◌+◌, ◌*◌, ◌<◌, ◌≤◌, Bool, true, false, cond, List, [], ◌∷◌, ◌++◌, length, get_or, set, replicate, Option, Some, None, refl, ap, sym, ◌∙◌, subst, arith, length-append}
use Rattle.std.proofs.lemmas.Bool.Decides.{nat_tests}
use Rattle.std.specs.declared.cmp.Ordering.{Ordering}
use Rattle.std.specs.declared.cmp.Ordering.TheVariants.{Less, Equal, Greater}
use Rattle.std.specs.BTreeMap.{is_at, insert_entry}
use Rattle.std.specs.List.{AllByRecursion}
use Rattle.std.specs.Map.{lookup, set_value, remove_entry}
use Rattle.std.specs.Ordering.{nat_cmp, match_ordering}
use Rattle.work_store.specs.declared.slot.Slot.{Slot}
use Rattle.work_store.specs.Rows.{at_place, spread, HoldsAt, HoldsAtEach}
use Rattle.work_store.proofs.Lists.{above_differs, below_differs, at_is, compares_greater, all_weaker}

-- ---- changes at one tag

-- A change of the entries at one tag leaves those of lower tags before it, and those of higher tags after it.
pub record IsEdit (t : ℕ) (f : List (ℕ × Slot) → List (ℕ × Slot)) : Type 0 where
  pub left : (before bs : List (ℕ × Slot)) → AllByRecursion (λ e. e.0 < t) before → f (before ++ bs) ≡ before ++ f bs
  pub right : (bs cs : List (ℕ × Slot)) → AllByRecursion (λ e. t < e.0) cs → f (bs ++ cs) ≡ f bs ++ cs

not_at_below : (t k : ℕ) → k < t → is_at (nat_cmp t) k ≡ false
not_at_below t k h = at_is t k ∙ below_differs k t h

not_at_above : (t k : ℕ) → t < k → is_at (nat_cmp t) k ≡ false
not_at_above t k h = at_is t k ∙ above_differs k t h

compares_less : (t k : ℕ) → t < k → nat_cmp t k ≡ Less
compares_less t k h = grind (arith, nat_tests)

set_left : (t : ℕ) (w : Slot) (before bs : List (ℕ × Slot)) → AllByRecursion (λ e. e.0 < t) before → set_value (is_at (nat_cmp t)) (before ++ bs) w ≡ before ++ set_value (is_at (nat_cmp t)) bs w
set_left t w [] bs a = refl
set_left t w (e ∷ before) bs a =
    ap (λ b. cond b ((e.0, w) ∷ (before ++ bs)) (e ∷ set_value (is_at (nat_cmp t)) (before ++ bs) w)) (not_at_below t e.0 a.0)
    ∙ ap (λ es. e ∷ es) (set_left t w before bs a.1)

set_none : (t : ℕ) (w : Slot) (cs : List (ℕ × Slot)) → AllByRecursion (λ e. t < e.0) cs → set_value (is_at (nat_cmp t)) cs w ≡ cs
set_none t w [] a = refl
set_none t w (e ∷ cs) a =
    ap (λ b. cond b ((e.0, w) ∷ cs) (e ∷ set_value (is_at (nat_cmp t)) cs w)) (not_at_above t e.0 a.0)
    ∙ ap (λ es. e ∷ es) (set_none t w cs a.1)

set_right : (t : ℕ) (w : Slot) (bs cs : List (ℕ × Slot)) → AllByRecursion (λ e. t < e.0) cs → set_value (is_at (nat_cmp t)) (bs ++ cs) w ≡ set_value (is_at (nat_cmp t)) bs w ++ cs
set_right t w [] cs a = set_none t w cs a
set_right t w (e ∷ bs) cs a = by (is_at (nat_cmp t) e.0) (set_right t w bs cs a)
  where
    by : (b : Bool) → set_value (is_at (nat_cmp t)) (bs ++ cs) w ≡ set_value (is_at (nat_cmp t)) bs w ++ cs
        → cond b ((e.0, w) ∷ (bs ++ cs)) (e ∷ set_value (is_at (nat_cmp t)) (bs ++ cs) w) ≡ cond b ((e.0, w) ∷ bs) (e ∷ set_value (is_at (nat_cmp t)) bs w) ++ cs
    by true ih = refl
    by false ih = ap (λ es. e ∷ es) ih

pub set_edits : (t : ℕ) (w : Slot) → IsEdit t (λ es. set_value (is_at (nat_cmp t)) es w)
set_edits t w = record { left = set_left t w; right = set_right t w }

remove_left : (t : ℕ) (before bs : List (ℕ × Slot)) → AllByRecursion (λ e. e.0 < t) before → remove_entry (is_at (nat_cmp t)) (before ++ bs) ≡ before ++ remove_entry (is_at (nat_cmp t)) bs
remove_left t [] bs a = refl
remove_left t (e ∷ before) bs a =
    ap (λ b. cond b (before ++ bs) (e ∷ remove_entry (is_at (nat_cmp t)) (before ++ bs))) (not_at_below t e.0 a.0)
    ∙ ap (λ es. e ∷ es) (remove_left t before bs a.1)

remove_none : (t : ℕ) (cs : List (ℕ × Slot)) → AllByRecursion (λ e. t < e.0) cs → remove_entry (is_at (nat_cmp t)) cs ≡ cs
remove_none t [] a = refl
remove_none t (e ∷ cs) a =
    ap (λ b. cond b cs (e ∷ remove_entry (is_at (nat_cmp t)) cs)) (not_at_above t e.0 a.0) ∙ ap (λ es. e ∷ es) (remove_none t cs a.1)

remove_right : (t : ℕ) (bs cs : List (ℕ × Slot)) → AllByRecursion (λ e. t < e.0) cs → remove_entry (is_at (nat_cmp t)) (bs ++ cs) ≡ remove_entry (is_at (nat_cmp t)) bs ++ cs
remove_right t [] cs a = remove_none t cs a
remove_right t (e ∷ bs) cs a = by (is_at (nat_cmp t) e.0) (remove_right t bs cs a)
  where
    by : (b : Bool) → remove_entry (is_at (nat_cmp t)) (bs ++ cs) ≡ remove_entry (is_at (nat_cmp t)) bs ++ cs
        → cond b (bs ++ cs) (e ∷ remove_entry (is_at (nat_cmp t)) (bs ++ cs)) ≡ cond b bs (e ∷ remove_entry (is_at (nat_cmp t)) bs) ++ cs
    by true ih = refl
    by false ih = ap (λ es. e ∷ es) ih

pub remove_edits : (t : ℕ) → IsEdit t (remove_entry (is_at (nat_cmp t)))
remove_edits t = record { left = remove_left t; right = remove_right t }

insert_left : (t : ℕ) (s : Slot) (before bs : List (ℕ × Slot)) → AllByRecursion (λ e. e.0 < t) before → insert_entry nat_cmp (before ++ bs) t s ≡ before ++ insert_entry nat_cmp bs t s
insert_left t s [] bs a = refl
insert_left t s (e ∷ before) bs a =
    ap (λ o. match_ordering o ((t, s) ∷ e ∷ (before ++ bs)) ((e.0, s) ∷ (before ++ bs)) (e ∷ insert_entry nat_cmp (before ++ bs) t s)) (compares_greater t e.0 a.0)
    ∙ ap (λ es. e ∷ es) (insert_left t s before bs a.1)

insert_first : (t : ℕ) (s : Slot) (cs : List (ℕ × Slot)) → AllByRecursion (λ e. t < e.0) cs → insert_entry nat_cmp cs t s ≡ (t, s) ∷ cs
insert_first t s [] a = refl
insert_first t s (e ∷ cs) a = ap (λ o. match_ordering o ((t, s) ∷ e ∷ cs) ((e.0, s) ∷ cs) (e ∷ insert_entry nat_cmp cs t s)) (compares_less t e.0 a.0)

insert_right : (t : ℕ) (s : Slot) (bs cs : List (ℕ × Slot)) → AllByRecursion (λ e. t < e.0) cs → insert_entry nat_cmp (bs ++ cs) t s ≡ insert_entry nat_cmp bs t s ++ cs
insert_right t s [] cs a = insert_first t s cs a
insert_right t s (e ∷ bs) cs a = by (nat_cmp t e.0) (insert_right t s bs cs a)
  where
    by : (o : Ordering) → insert_entry nat_cmp (bs ++ cs) t s ≡ insert_entry nat_cmp bs t s ++ cs
        → match_ordering o ((t, s) ∷ e ∷ (bs ++ cs)) ((e.0, s) ∷ (bs ++ cs)) (e ∷ insert_entry nat_cmp (bs ++ cs) t s)
        ≡ match_ordering o ((t, s) ∷ e ∷ bs) ((e.0, s) ∷ bs) (e ∷ insert_entry nat_cmp bs t s) ++ cs
    by Less ih = refl
    by Equal ih = refl
    by Greater ih = ap (λ es. e ∷ es) ih

pub insert_edits : (t : ℕ) (s : Slot) → IsEdit t (λ es. insert_entry nat_cmp es t s)
insert_edits t s = record { left = insert_left t s; right = insert_right t s }

pub stay_edits : (t : ℕ) → IsEdit t (λ es. es)
stay_edits t = record { left = λ before bs a. refl; right = λ bs cs a. refl }

-- ---- a look-up

look_left : (t : ℕ) (before bs : List (ℕ × Slot)) → AllByRecursion (λ e. e.0 < t) before → lookup (is_at (nat_cmp t)) (before ++ bs) ≡ lookup (is_at (nat_cmp t)) bs
look_left t [] bs a = refl
look_left t (e ∷ before) bs a =
    ap (λ b. cond b (Some e.1) (lookup (is_at (nat_cmp t)) (before ++ bs))) (not_at_below t e.0 a.0) ∙ look_left t before bs a.1

pub look_below : (t : ℕ) (es : List (ℕ × Slot)) → AllByRecursion (λ e. e.0 < t) es → lookup (is_at (nat_cmp t)) es ≡ None
look_below t [] a = refl
look_below t (e ∷ es) a = ap (λ b. cond b (Some e.1) (lookup (is_at (nat_cmp t)) es)) (not_at_below t e.0 a.0) ∙ look_below t es a.1

look_none : (t : ℕ) (cs : List (ℕ × Slot)) → AllByRecursion (λ e. t < e.0) cs → lookup (is_at (nat_cmp t)) cs ≡ None
look_none t [] a = refl
look_none t (e ∷ cs) a = ap (λ b. cond b (Some e.1) (lookup (is_at (nat_cmp t)) cs)) (not_at_above t e.0 a.0) ∙ look_none t cs a.1

look_right : (t : ℕ) (bs cs : List (ℕ × Slot)) → AllByRecursion (λ e. t < e.0) cs → lookup (is_at (nat_cmp t)) (bs ++ cs) ≡ lookup (is_at (nat_cmp t)) bs
look_right t [] cs a = look_none t cs a
look_right t (e ∷ bs) cs a = ap (λ o. cond (is_at (nat_cmp t) e.0) (Some e.1) o) (look_right t bs cs a)

-- ---- a row

all_append : (P : ℕ × Slot → Type 0) (xs ys : List (ℕ × Slot)) → AllByRecursion P xs → AllByRecursion P ys → AllByRecursion P (xs ++ ys)
all_append P [] ys a b = b
all_append P (x ∷ xs) ys a b = (a.0, all_append P xs ys a.1 b)

-- The entries of what stands at a place lie in the width of tags from its first on.
module _ {X : Type 0} (P : ℕ → X → Type 0) (inner : ℕ → X → List (ℕ × Slot)) (w : ℕ)
    (range : (base : ℕ) (x : X) → P base x → AllByRecursion (λ e. (base ≤ e.0) × (e.0 < base + w)) (inner base x)) where
  from_place : (base : ℕ) (o : Option X) → HoldsAt P base o → AllByRecursion (λ e. base ≤ e.0) (at_place inner base o)
  from_place base None h = tt
  from_place base (Some x) h = all_weaker (λ e. (base ≤ e.0) × (e.0 < base + w)) (λ e. base ≤ e.0) (λ e k. k.0) (inner base x) (range base x h)

  to_place : (base : ℕ) (o : Option X) → HoldsAt P base o → AllByRecursion (λ e. e.0 < base + w) (at_place inner base o)
  to_place base None h = tt
  to_place base (Some x) h = all_weaker (λ e. (base ≤ e.0) × (e.0 < base + w)) (λ e. e.0 < base + w) (λ e k. k.1) (inner base x) (range base x h)

  pub spread_from : (base : ℕ) (os : List (Option X)) → HoldsAtEach P w base os → AllByRecursion (λ e. base ≤ e.0) (spread inner w base os)
  spread_from base [] h = tt
  spread_from base (o ∷ os) h =
      all_append (λ e. base ≤ e.0) (at_place inner base o) (spread inner w (base + w) os) (from_place base o h.0)
      (all_weaker (λ e. base + w ≤ e.0) (λ e. base ≤ e.0) (λ e k. omega arith) (spread inner w (base + w) os) (spread_from (base + w) os h.1))

  pub spread_to : (base : ℕ) (os : List (Option X)) (end : ℕ) → base + w * length os ≤ end → HoldsAtEach P w base os → AllByRecursion (λ e. e.0 < end) (spread inner w base os)
  spread_to base [] end far h = tt
  spread_to base (o ∷ os) end far h =
      all_append (λ e. e.0 < end) (at_place inner base o) (spread inner w (base + w) os)
      (all_weaker (λ e. e.0 < base + w) (λ e. e.0 < end) (λ e k. omega arith) (at_place inner base o) (to_place base o h.0))
      (spread_to (base + w) os end (omega arith) h.1)

  -- an edit at a tag of one place is an edit of the whole
  pub edited : (t : ℕ) (f : List (ℕ × Slot) → List (ℕ × Slot)) → IsEdit t f → (base i at : ℕ) (os : List (Option X)) (y : Option X) → HoldsAtEach P w base os → i < length os
      → at ≡ base + w * i → at ≤ t → t < at + w → at_place inner at y ≡ f (at_place inner at (get_or os i None)) → spread inner w base (set os i y) ≡ f (spread inner w base os)
  edited t f edits base i at [] y h within is low high e = absurd (omega arith)
  edited t f edits base zero at (o ∷ os) y h within is low high e =
      let here : at ≡ base = omega arith in
      let one : at_place inner base y ≡ f (at_place inner base o) = subst (λ (n : ℕ). at_place inner n y ≡ f (at_place inner n o)) here e in
      let behind : AllByRecursion (λ e. t < e.0) (spread inner w (base + w) os) = all_weaker (λ e. base + w ≤ e.0) (λ e. t < e.0) (λ e k. omega arith) (spread inner w (base + w) os) (spread_from (base + w) os h.1) in
      ap (λ es. es ++ spread inner w (base + w) os) one ∙ sym (edits.right (at_place inner base o) (spread inner w (base + w) os) behind)
  edited t f edits base (suc i) at (o ∷ os) y h within is low high e =
      let before : AllByRecursion (λ e. e.0 < t) (at_place inner base o) = all_weaker (λ e. e.0 < base + w) (λ e. e.0 < t) (λ e k. omega arith) (at_place inner base o) (to_place base o h.0) in
      ap (λ es. at_place inner base o ++ es) (edited t f edits (base + w) i at os y h.1 (omega arith) (omega arith) low high e)
      ∙ sym (edits.left (at_place inner base o) (spread inner w (base + w) os) before)

  -- a look-up of a tag is one at its place
  pub looked_up : (t base i at : ℕ) (os : List (Option X)) → HoldsAtEach P w base os → at ≡ base + w * i → at ≤ t → t < at + w
      → lookup (is_at (nat_cmp t)) (spread inner w base os) ≡ lookup (is_at (nat_cmp t)) (at_place inner at (get_or os i None))
  looked_up t base i at [] h is low high = refl
  looked_up t base zero at (o ∷ os) h is low high =
      let here : at ≡ base = omega arith in
      let behind : AllByRecursion (λ e. t < e.0) (spread inner w (base + w) os) = all_weaker (λ e. base + w ≤ e.0) (λ e. t < e.0) (λ e k. omega arith) (spread inner w (base + w) os) (spread_from (base + w) os h.1) in
      look_right t (at_place inner base o) (spread inner w (base + w) os) behind
      ∙ ap (λ (n : ℕ). lookup (is_at (nat_cmp t)) (at_place inner n o)) (sym here)
  looked_up t base (suc i) at (o ∷ os) h is low high =
      let before : AllByRecursion (λ e. e.0 < t) (at_place inner base o) = all_weaker (λ e. e.0 < base + w) (λ e. e.0 < t) (λ e k. omega arith) (at_place inner base o) (to_place base o h.0) in
      look_left t (at_place inner base o) (spread inner w (base + w) os) before ∙ looked_up t (base + w) i at os h.1 (omega arith) low high

-- what holds at one place
module _ {X : Type 0} (P : ℕ → X → Type 0) (inner : ℕ → X → List (ℕ × Slot)) (w : ℕ) where
  pub each_at : (base i at : ℕ) (os : List (Option X)) → HoldsAtEach P w base os → at ≡ base + w * i → HoldsAt P at (get_or os i None)
  each_at base i at [] h is = tt
  each_at base zero at (o ∷ os) h is =
      let here : at ≡ base = omega arith in
      subst (λ (n : ℕ). HoldsAt P n o) (sym here) h.0
  each_at base (suc i) at (o ∷ os) h is = each_at (base + w) i at os h.1 (omega arith)

  pub each_set : (base i at : ℕ) (os : List (Option X)) (y : Option X) → HoldsAtEach P w base os → at ≡ base + w * i → HoldsAt P at y → HoldsAtEach P w base (set os i y)
  each_set base i at [] y h is k = tt
  each_set base zero at (o ∷ os) y h is k =
      let here : at ≡ base = omega arith in
      (subst (λ (n : ℕ). HoldsAt P n y) here k, h.1)
  each_set base (suc i) at (o ∷ os) y h is k = (h.0, each_set (base + w) i at os y h.1 (omega arith) k)

  each_blank : (base n : ℕ) → HoldsAtEach P w base (replicate n None)
  each_blank base zero = tt
  each_blank base (suc n) = (tt, each_blank (base + w) n)

  pub each_grown : (base n : ℕ) (os : List (Option X)) → HoldsAtEach P w base os → HoldsAtEach P w base (os ++ replicate n None)
  each_grown base n [] h = each_blank base n
  each_grown base n (o ∷ os) h = (h.0, each_grown (base + w) n os h.1)

  spread_blank : (base n : ℕ) → spread inner w base (replicate n None) ≡ []
  spread_blank base zero = refl
  spread_blank base (suc n) = spread_blank (base + w) n

  pub spread_grown : (base n : ℕ) (os : List (Option X)) → spread inner w base (os ++ replicate n None) ≡ spread inner w base os
  spread_grown base n [] = spread_blank base n
  spread_grown base n (o ∷ os) = ap (λ es. at_place inner base o ++ es) (spread_grown (base + w) n os)

  -- the number of entries after a change at one place
  pub number_set : (base i at : ℕ) (os : List (Option X)) (y : Option X) → i < length os → at ≡ base + w * i
      → length (spread inner w base (set os i y)) + length (at_place inner at (get_or os i None)) ≡ length (spread inner w base os) + length (at_place inner at y)
  number_set base i at [] y within is = absurd (omega arith)
  number_set base zero at (o ∷ os) y within is =
      let here : at ≡ base = omega arith in
      let now = length-append (at_place inner base y) (spread inner w (base + w) os) in
      let was = length-append (at_place inner base o) (spread inner w (base + w) os) in
      let one : length (at_place inner at o) ≡ length (at_place inner base o) = ap (λ (n : ℕ). length (at_place inner n o)) here in
      let two : length (at_place inner at y) ≡ length (at_place inner base y) = ap (λ (n : ℕ). length (at_place inner n y)) here in
      omega arith
  number_set base (suc i) at (o ∷ os) y within is =
      let now = length-append (at_place inner base o) (spread inner w (base + w) (set os i y)) in
      let was = length-append (at_place inner base o) (spread inner w (base + w) os) in
      let rest = number_set (base + w) i at os y (omega arith) (omega arith) in
      omega arith

pub each_free : {X : Type 0} (w base : ℕ) (os : List (Option X)) → HoldsAtEach (λ (b : ℕ) (x : X). Unit {0}) w base os
each_free w base [] = tt
each_free w base (None ∷ os) = (tt, each_free w (base + w) os)
each_free w base (Some x ∷ os) = (tt, each_free w (base + w) os)
