-- Adding up what moved: the totals stand in order, and each instantiation's change is that of all that moved.
use Rattle.std.proofs.Common.{◌≡◌, ℕ, zero, suc, ◌+◌, ◌-◌, ◌<◌, ◌≤◌, ◌^◌, Bool, true, false, cond, List, [], ◌∷◌, ◌++◌, ℤ, pos, negsuc, ◌+ℤ◌, refl, sym, ap, subst, ◌∙◌, arith, inl, inr, ◌⊎◌, length, fold, get_or, slice_get, Option, Some, length-append, append_assoc, append-nil, w64, FitsSigned}
use Rattle.std.specs.Prelude.{slice_set}
use Rattle.std.specs.Int.RustNames.{unsigned_abs}
use Rattle.std.specs.List.{sum_by}
use Rattle.std.specs.List.Sorted.{IsPermutation, IsSortedBy}
use Rattle.std.specs.Ordering.{is_eq, is_lt}
use Rattle.std.specs.declared.cmp.Ordering.{Ordering}
use Rattle.std.specs.declared.cmp.Ordering.TheVariants.{Less, Equal, Greater}
use Rattle.std.proofs.lemmas.Cmp.{tied_itself}
use Rattle.std.proofs.lemmas.Int.{ints, fits_signed_from_abs}
use Rattle.std.proofs.lemmas.List.Sums.{sum_by-cons}
use Rattle.std.proofs.lemmas.List.Sorted.{ranks_by, sorted_far, sum_by-IsPermutation}
use Rattle.ops_base.specs.declared.rules.Inst.{Inst}
use Rattle.ops_base.specs.Instances.{Before, by_rule_and_tags}
use Rattle.ops_base.proofs.InstOrder.{standing, compare_total, before_itself, not_both_before}
use Rattle.ops_base.proofs.InOrder.{AllBefore, all_before-append, before_from_all_pairs}
use Rattle.ops_base.proofs.Members.{IsMember, member_cases, member_left, member_right}
use Rattle.token_line.specs.Bags.{sign}
use Rattle.step_core.specs.declared.gathering.Moved.{Moved}
use Rattle.step_core.specs.declared.gathering.Total.{Total}
use Rattle.step_core.specs.inner.Gathering.{is_same, begun, counted_in, counted_last, added, is_of}

-- ---- the same instantiation

pub is_same-true : (x y : Inst) → is_same x y ≡ true → x ≡ y
is_same-true x y e = by (by_rule_and_tags x y) refl e
  where
    by : (o : Ordering) → by_rule_and_tags x y ≡ o → is_eq o ≡ true → x ≡ y
    by Less q f = absurd (cc)
    by Equal q f = standing x y Equal (sym q)
    by Greater q f = absurd (cc)

pub is_same-itself : (x y : Inst) → x ≡ y → is_same x y ≡ true
is_same-itself x y e = ap (is_same x) (sym e) ∙ ap is_eq (tied_itself compare_total x)

-- ---- the change of an instantiation

-- a change counts for its own instantiation alone
abbrev pub part_of : Inst → Inst → ℤ → ℤ
part_of i j z = cond (is_same i j) z (pos 0)

abbrev pub moved_change : Inst → List Moved → ℤ
moved_change i [] = pos 0
moved_change i (m ∷ ms) = part_of i m.inst (sign m.plus) +ℤ moved_change i ms

abbrev pub total_change : Inst → List Total → ℤ
total_change i [] = pos 0
total_change i (t ∷ ts) = part_of i t.inst t.change +ℤ total_change i ts

pub moved_change-append : (i : Inst) (xs ys : List Moved) → moved_change i (xs ++ ys) ≡ moved_change i xs +ℤ moved_change i ys
moved_change-append i [] ys = omega (arith, ints)
moved_change-append i (x ∷ xs) ys = let r = moved_change-append i xs ys in omega (arith, ints, r)

total_change-append : (i : Inst) (xs ys : List Total) → total_change i (xs ++ ys) ≡ total_change i xs +ℤ total_change i ys
total_change-append i [] ys = omega (arith, ints)
total_change-append i (x ∷ xs) ys = let r = total_change-append i xs ys in omega (arith, ints, r)

part_of-add : (i j : Inst) (a b : ℤ) → part_of i j (a +ℤ b) ≡ part_of i j a +ℤ part_of i j b
part_of-add i j a b = by (is_same i j)
  where
    by : (v : Bool) → cond v (a +ℤ b) (pos 0) ≡ cond v a (pos 0) +ℤ cond v b (pos 0)
    by true = refl
    by false = refl

-- in another order it is the same
up_part : ℤ → ℕ
up_part (pos n) = n
up_part (negsuc n) = 0

down_part : ℤ → ℕ
down_part (pos n) = 0
down_part (negsuc n) = suc n

two_parts : (z : ℤ) → z +ℤ pos (down_part z) ≡ pos (up_part z)
unfolding up_part down_part
two_parts (pos n) = omega (arith, ints)
two_parts (negsuc n) = omega (arith, ints)

pub moved_change-permutation : (i : Inst) (xs ys : List Moved) → IsPermutation xs ys → moved_change i ys ≡ moved_change i xs
moved_change-permutation i xs ys p =
    let a = sum_by-IsPermutation (λ (m : Moved). up_part (part_of i m.inst (sign m.plus))) xs ys p in
    let b = sum_by-IsPermutation (λ (m : Moved). down_part (part_of i m.inst (sign m.plus))) xs ys p in
    let c = parts xs in
    let d = parts ys in omega (arith, ints, a, b, c, d)
  where
    parts : (ms : List Moved) → moved_change i ms +ℤ pos (sum_by (λ (m : Moved). down_part (part_of i m.inst (sign m.plus))) ms) ≡ pos (sum_by (λ (m : Moved). up_part (part_of i m.inst (sign m.plus))) ms)
    parts [] = omega (arith, ints)
    parts (m ∷ ms) =
        let r = parts ms in
        let t = two_parts (part_of i m.inst (sign m.plus)) in
        let u = sum_by-cons (λ (k : Moved). up_part (part_of i k.inst (sign k.plus))) m ms in
        let d = sum_by-cons (λ (k : Moved). down_part (part_of i k.inst (sign k.plus))) m ms in omega (arith, ints, r, t, u, d)

-- ---- the last of a list

end_of : {X : Type 0} (xs : List X) → (xs ≡ []) ⊎ ((front : List X) × (x : X) × (xs ≡ front ++ x ∷ []))
end_of [] = inl refl
end_of (y ∷ ys) = elim (end_of ys) [ inl e ↦ inr ([], y, ap (λ zs. y ∷ zs) e) | inr h ↦ inr (y ∷ h.0, h.1, ap (λ zs. y ∷ zs) h.2) ]

pub at_end : {X : Type 0} (front : List X) (x : X) → slice_get (front ++ x ∷ []) (length front) ≡ Some x
at_end [] x = refl
at_end (y ∷ ys) x = at_end ys x

set_end : {X : Type 0} (front : List X) (x y : X) → slice_set (front ++ x ∷ []) (length front) y ≡ front ++ y ∷ []
set_end [] x y = refl
set_end (z ∷ zs) x y = ap (λ ws. z ∷ ws) (set_end zs x y)

last_place : {X : Type 0} (front : List X) (x : X) → length (front ++ x ∷ []) - 1 ≡ length front
last_place front x = let e = length-append front (x ∷ []) in omega (arith, e)

added_at : Option Total → List Total → Moved → List Total
added_at o ts m = cond (is_of o m.inst) (counted_last o ts m) (ts ++ begun m ∷ [])

pub added-end : (front : List Total) (x : Total) (m : Moved)
    → added (front ++ x ∷ []) m ≡ cond (is_same x.inst m.inst) (front ++ counted_in x m ∷ []) ((front ++ x ∷ []) ++ begun m ∷ [])
unfolding added_at
added-end front x m =
    ap (λ o. added_at o (front ++ x ∷ []) m) (ap (slice_get (front ++ x ∷ [])) (last_place front x) ∙ at_end front x)
    ∙ ap (λ ts. cond (is_same x.inst m.inst) ts ((front ++ x ∷ []) ++ begun m ∷ []))
    (ap (λ k. slice_set (front ++ x ∷ []) k (counted_in x m)) (last_place front x) ∙ set_end front x (counted_in x m))

-- ---- one more that moved

abbrev pub ByInst : Total → Total → Type 0
ByInst t u = Before t.inst u.inst

-- not after it
abbrev pub UpTo : Inst → Inst → Type 0
UpTo i j = (i ≡ j) ⊎ Before i j

abbrev pub MovedUpTo : Moved → Moved → Type 0
MovedUpTo k m = UpTo k.inst m.inst

-- one of these has that instantiation and that sum
pub record IsOneOf (ms : List Moved) (t : Total) : Type 0 where
  pub one : Moved
  pub member : IsMember one ms
  pub inst : one.inst ≡ t.inst
  pub sum : one.sum ≡ t.sum

-- the totals of what moved
pub record AreTotals (ms : List Moved) (ts : List Total) : Type 0 where
  pub order : AllBefore ByInst ts
  pub change : (i : Inst) → total_change i ts ≡ moved_change i ms
  pub from : (t : Total) → IsMember t ts → IsOneOf ms t

one_more : (ms : List Moved) (m : Moved) (t : Total) → IsOneOf ms t → IsOneOf (ms ++ m ∷ []) t
one_more ms m t o = record { one = o.one; member = member_left o.one ms (m ∷ []) o.member; inst = o.inst; sum = o.sum }

new_one : (ms : List Moved) (m : Moved) → IsOneOf (ms ++ m ∷ []) (begun m)
new_one ms m = record { one = m; member = member_right m ms (m ∷ []) (inl refl); inst = refl; sum = refl }

before_end : {X : Type 0} (R : X → X → Type 0) (front : List X) (x : X) → AllBefore R (front ++ x ∷ []) → (y : X) → IsMember y front → R y x
before_end R [] x a y m = absurd m
before_end {X} R (z ∷ zs) x a y (inl e) = let P : X → Type 0 = λ w. R w x in subst P (sym e) (a.0 x (member_right x zs (x ∷ []) (inl refl)))
before_end R (z ∷ zs) x a y (inr m) = before_end R zs x a.1 y m

front_before : {X : Type 0} (R : X → X → Type 0) (front : List X) (x : X) → AllBefore R (front ++ x ∷ []) → AllBefore R front
front_before R [] x a = tt
front_before R (z ∷ zs) x a = ((λ y m. a.0 y (member_left y zs (x ∷ []) m)), front_before R zs x a.1)

module _ (ms : List Moved) (m : Moved) (up : (k : Moved) → IsMember k ms → MovedUpTo k m) where
  first_total : AreTotals ms [] → AreTotals (ms ++ m ∷ []) (begun m ∷ [])
  first_total s = record {
    order = ((λ y n. absurd n), tt);
    change = λ i. (let a = moved_change-append i ms (m ∷ []) in let b = s.change i in omega (arith, ints, a, b));
    from = λ t n. by t n;
  }
    where
      by : (t : Total) → IsMember t (begun m ∷ []) → IsOneOf (ms ++ m ∷ []) t
      by t (inl e) = subst (IsOneOf (ms ++ m ∷ [])) (sym e) (new_one ms m)
      by t (inr n) = absurd n

  module _ (front : List Total) (x : Total) (s : AreTotals ms (front ++ x ∷ [])) where
    in_last : x.inst ≡ m.inst → AreTotals (ms ++ m ∷ []) (front ++ counted_in x m ∷ [])
    in_last same = record {
      order = all_before-append ByInst front (counted_in x m ∷ []) (front_before ByInst front x s.order) ((λ y n. absurd n), tt) (λ y z my mz. at_last y z my mz);
      change = λ i.
          (let a = moved_change-append i ms (m ∷ []) in
          let b = s.change i in
          let c = total_change-append i front (x ∷ []) in
          let d = total_change-append i front (counted_in x m ∷ []) in
          let e = part_of-add i x.inst x.change (sign m.plus) in
          let f = ap (λ (j : Inst). part_of i j (sign m.plus)) same in omega (arith, ints, a, b, c, d, e, f));
      from = λ t n. by t (member_cases t front (counted_in x m ∷ []) n);
    }
      where
        at_last : (y z : Total) → IsMember y front → IsMember z (counted_in x m ∷ []) → ByInst y z
        at_last y z my (inl e) = subst (λ (w : Total). ByInst y w) (sym e) (before_end ByInst front x s.order y my)
        at_last y z my (inr n) = absurd n

        by : (t : Total) → IsMember t front ⊎ IsMember t (counted_in x m ∷ []) → IsOneOf (ms ++ m ∷ []) t
        by t (inl l) = one_more ms m t (s.from t (member_left t front (x ∷ []) l))
        by t (inr (inr n)) = absurd n
        by t (inr (inl e)) =
            let o = s.from x (member_right x front (x ∷ []) (inl refl)) in
            subst (IsOneOf (ms ++ m ∷ [])) (sym e) (record { one = o.one; member = member_left o.one ms (m ∷ []) o.member; inst = o.inst; sum = o.sum })

    of_its_own : (x.inst ≡ m.inst → ⊥) → AreTotals (ms ++ m ∷ []) ((front ++ x ∷ []) ++ begun m ∷ [])
    of_its_own other = record {
      order = all_before-append ByInst (front ++ x ∷ []) (begun m ∷ []) s.order ((λ y n. absurd n), tt) (λ y z my mz. at_new y z my mz);
      change = λ i.
          (let a = moved_change-append i ms (m ∷ []) in
          let b = s.change i in
          let c = total_change-append i (front ++ x ∷ []) (begun m ∷ []) in omega (arith, ints, a, b, c));
      from = λ t n. by t (member_cases t (front ++ x ∷ []) (begun m ∷ []) n);
    }
      where
        up_to : (t : Total) → IsMember t (front ++ x ∷ []) → UpTo t.inst m.inst
        up_to t n = let o = s.from t n in subst (λ i. UpTo i m.inst) o.inst (up o.one o.member)

        x_before : Before x.inst m.inst
        x_before = elim (up_to x (member_right x front (x ∷ []) (inl refl))) [ inl e ↦ absurd (other e) | inr b ↦ b ]

        before_m : (y : Total) → IsMember y front ⊎ IsMember y (x ∷ []) → UpTo y.inst m.inst → Before y.inst m.inst
        before_m y c (inr b) = b
        before_m y (inl l) (inl e) = let b = before_end ByInst front x s.order y l in absurd (not_both_before x.inst m.inst x_before (subst (λ i. Before i x.inst) e b))
        before_m y (inr (inl e)) (inl f) = absurd (other (ap (λ (t : Total). t.inst) (sym e) ∙ f))
        before_m y (inr (inr n)) c = absurd n

        at_new : (y z : Total) → IsMember y (front ++ x ∷ []) → IsMember z (begun m ∷ []) → ByInst y z
        at_new y z my (inl e) = subst (λ (w : Total). ByInst y w) (sym e) (before_m y (member_cases y front (x ∷ []) my) (up_to y my))
        at_new y z my (inr n) = absurd n

        by : (t : Total) → IsMember t (front ++ x ∷ []) ⊎ IsMember t (begun m ∷ []) → IsOneOf (ms ++ m ∷ []) t
        by t (inl l) = one_more ms m t (s.from t l)
        by t (inr (inl e)) = subst (IsOneOf (ms ++ m ∷ [])) (sym e) (new_one ms m)
        by t (inr (inr n)) = absurd n

    behind : (v : Bool) → is_same x.inst m.inst ≡ v → AreTotals (ms ++ m ∷ []) (cond v (front ++ counted_in x m ∷ []) ((front ++ x ∷ []) ++ begun m ∷ []))
    behind true e = in_last (is_same-true x.inst m.inst e)
    behind false e = of_its_own (λ same. let f = is_same-itself x.inst m.inst same in absurd (cc))

  one_added : (ts : List Total) → AreTotals ms ts → AreTotals (ms ++ m ∷ []) (added ts m)
  one_added ts s = elim (end_of ts) [
    | inl e ↦ subst (λ us. AreTotals (ms ++ m ∷ []) (added us m)) (sym e) (first_total (subst (AreTotals ms) e s))
    | inr h ↦ subst (λ us. AreTotals (ms ++ m ∷ []) (added us m)) (sym h.2)
        (subst (AreTotals (ms ++ m ∷ [])) (sym (added-end h.0 h.1 m)) (behind h.0 h.1 (subst (AreTotals ms) h.2 s) (is_same h.1.inst m.inst) refl))
  ]

-- ---- all of them

up_to_next : (ms : List Moved) (m : Moved) (rest : List Moved) → AllBefore MovedUpTo (ms ++ m ∷ rest) → (k : Moved) → IsMember k ms → MovedUpTo k m
up_to_next [] m rest a k n = absurd n
up_to_next (x ∷ xs) m rest a k (inl e) = subst (λ (w : Moved). MovedUpTo w m) (sym e) (a.0 m (member_right m xs (m ∷ rest) (inl refl)))
up_to_next (x ∷ xs) m rest a k (inr n) = up_to_next xs m rest a.1 k n

all_added : (ms rest : List Moved) (ts : List Total) → AllBefore MovedUpTo (ms ++ rest) → AreTotals ms ts → AreTotals (ms ++ rest) (fold added ts rest)
all_added ms [] ts up s = subst (λ ns. AreTotals ns ts) (sym (append-nil ms)) s
all_added ms (m ∷ rest) ts up s =
    let e : (ms ++ m ∷ []) ++ rest ≡ ms ++ m ∷ rest = append_assoc ms (m ∷ []) rest in
    subst (λ ns. AreTotals ns (fold added (added ts m) rest)) e
    (all_added (ms ++ m ∷ []) rest (added ts m) (subst (AllBefore MovedUpTo) (sym e) up) (one_added ms m (up_to_next ms m rest up) ts s))

no_totals : AreTotals [] []
no_totals = record { order = tt; change = λ i. refl; from = λ t n. absurd n }

sorted_up : (ms : List Moved) → IsSortedBy (λ x y. is_lt (by_rule_and_tags x.inst y.inst)) ms → AllBefore MovedUpTo ms
sorted_up ms up =
    before_from_all_pairs MovedUpTo ms
    (λ i j d l h. by (get_or ms i d) (get_or ms j d) (by_rule_and_tags (get_or ms j d).inst (get_or ms i d).inst) refl (sorted_far (λ (x y : Moved). is_lt (by_rule_and_tags x.inst y.inst)) (ranks_by compare_total (λ (k : Moved). k.inst)) ms up i j d (omega (arith, l)) h))
  where
    by : (k m : Moved) (o : Ordering) → o ≡ by_rule_and_tags m.inst k.inst → is_lt (by_rule_and_tags m.inst k.inst) ≡ false → MovedUpTo k m
    by k m Less e f = let g = ap is_lt e ∙ f in absurd (cc)
    by k m Equal e f = inl (sym (standing m.inst k.inst Equal e))
    by k m Greater e f = inr (standing m.inst k.inst Greater e)

pub sorted_totals : (ms : List Moved) → IsSortedBy (λ x y. is_lt (by_rule_and_tags x.inst y.inst)) ms → AreTotals ms (fold added [] ms)
sorted_totals ms up = all_added [] ms [] (sorted_up ms up) no_totals

-- ---- what the totals say

off_itself : (i : Inst) (ts : List Total) → ((u : Total) → IsMember u ts → Before i u.inst) → total_change i ts ≡ pos 0
off_itself i [] after = refl
off_itself i (u ∷ us) after = by (is_same i u.inst) refl (off_itself i us (λ w n. after w (inr n)))
  where
    by : (v : Bool) → is_same i u.inst ≡ v → total_change i us ≡ pos 0 → cond v u.change (pos 0) +ℤ total_change i us ≡ pos 0
    by true e r = absurd (before_itself i (subst (Before i) (sym (is_same-true i u.inst e)) (after u (inl refl))))
    by false e r = omega (arith, ints, r)

-- each total has the change of its instantiation
pub own_change : (ts : List Total) → AllBefore ByInst ts → (t : Total) → IsMember t ts → total_change t.inst ts ≡ t.change
own_change [] a t n = absurd n
own_change (u ∷ us) a t (inl e) =
    let i = t.inst in
    let f = ap (λ (w : Total). w.inst) e in
    let own = ap (λ v. cond v u.change (pos 0)) (is_same-itself t.inst u.inst f) in
    let g = off_itself t.inst us (λ w n. subst (λ j. Before j w.inst) (sym f) (a.0 w n)) in
    let h = ap (λ (w : Total). w.change) e in omega (arith, ints, own, g, h)
own_change (u ∷ us) a t (inr n) = by (is_same t.inst u.inst) refl (own_change us a.1 t n)
  where
    by : (v : Bool) → is_same t.inst u.inst ≡ v → total_change t.inst us ≡ t.change → cond v u.change (pos 0) +ℤ total_change t.inst us ≡ t.change
    by true e r = absurd (before_itself t.inst (subst (λ j. Before j t.inst) (sym (is_same-true t.inst u.inst e)) (a.0 t n)))
    by false e r = omega (arith, ints, r)

-- an instantiation that changed has a total
pub some_total : (i : Inst) (ts : List Total) → (total_change i ts ≡ pos 0) ⊎ ((t : Total) × IsMember t ts × (i ≡ t.inst))
some_total i [] = inl refl
some_total i (u ∷ us) = by (is_same i u.inst) refl (some_total i us)
  where
    by : (v : Bool) → is_same i u.inst ≡ v → (total_change i us ≡ pos 0) ⊎ ((t : Total) × IsMember t us × (i ≡ t.inst))
        → (cond v u.change (pos 0) +ℤ total_change i us ≡ pos 0) ⊎ ((t : Total) × IsMember t (u ∷ us) × (i ≡ t.inst))
    by true e r = inr (u, inl refl, is_same-true i u.inst e)
    by false e (inl z) = inl (omega (arith, ints, z))
    by false e (inr h) = inr (h.0, inr h.1, h.2)

-- ---- a change fits

abs_add : (a b r : ℤ) → a +ℤ b ≡ r → unsigned_abs r ≤ unsigned_abs a + unsigned_abs b
abs_add (pos a) (pos b) (pos r) e = omega (arith, ints, e)
abs_add (pos a) (pos b) (negsuc r) e = omega (arith, ints, e)
abs_add (pos a) (negsuc b) (pos r) e = omega (arith, ints, e)
abs_add (pos a) (negsuc b) (negsuc r) e = omega (arith, ints, e)
abs_add (negsuc a) (pos b) (pos r) e = omega (arith, ints, e)
abs_add (negsuc a) (pos b) (negsuc r) e = omega (arith, ints, e)
abs_add (negsuc a) (negsuc b) (pos r) e = omega (arith, ints, e)
abs_add (negsuc a) (negsuc b) (negsuc r) e = omega (arith, ints, e)

sign_small : (p : Bool) → unsigned_abs (sign p) ≤ 1
sign_small true = omega arith
sign_small false = omega arith

abbrev AreSmall : ℕ → List Total → Type 0
AreSmall n ts = (t : Total) → IsMember t ts → unsigned_abs t.change ≤ n

small_added : (n : ℕ) (ts : List Total) (m : Moved) → AreSmall n ts → AreSmall (n + 1) (added ts m)
small_added n ts m a = elim (end_of ts) [
  | inl e ↦ subst (λ us. AreSmall (n + 1) (added us m)) (sym e) (λ t k. first t k)
  | inr h ↦ subst (λ us. AreSmall (n + 1) (added us m)) (sym h.2)
      (subst (AreSmall (n + 1)) (sym (added-end h.0 h.1 m)) (behind h.0 h.1 (subst (AreSmall n) h.2 a) (is_same h.1.inst m.inst)))
]
  where
    first : (t : Total) → IsMember t (begun m ∷ []) → unsigned_abs t.change ≤ n + 1
    first t (inl e) = let z = ap (λ (w : Total). unsigned_abs w.change) e in let s = sign_small m.plus in omega (arith, z, s)
    first t (inr k) = absurd k

    behind : (front : List Total) (x : Total) → AreSmall n (front ++ x ∷ []) → (v : Bool) → AreSmall (n + 1) (cond v (front ++ counted_in x m ∷ []) ((front ++ x ∷ []) ++ begun m ∷ []))
    behind front x b true t k = by (member_cases t front (counted_in x m ∷ []) k)
      where
        by : IsMember t front ⊎ IsMember t (counted_in x m ∷ []) → unsigned_abs t.change ≤ n + 1
        by (inl l) = let z = b t (member_left t front (x ∷ []) l) in omega (arith, z)
        by (inr (inr k)) = absurd k
        by (inr (inl e)) =
            let z = b x (member_right x front (x ∷ []) (inl refl)) in
            let s = sign_small m.plus in
            let c = abs_add x.change (sign m.plus) (x.change +ℤ sign m.plus) refl in
            let d = ap (λ (w : Total). unsigned_abs w.change) e in omega (arith, z, s, c, d)
    behind front x b false t k = by (member_cases t (front ++ x ∷ []) (begun m ∷ []) k)
      where
        by : IsMember t (front ++ x ∷ []) ⊎ IsMember t (begun m ∷ []) → unsigned_abs t.change ≤ n + 1
        by (inl l) = let z = b t l in omega (arith, z)
        by (inr k) = first t k

all_small : (n : ℕ) (ms : List Moved) (ts : List Total) → AreSmall n ts → AreSmall (n + length ms) (fold added ts ms)
all_small n [] ts a = λ t k. let z = a t k in omega (arith, z)
all_small n (m ∷ ms) ts a = λ t k. (let z = all_small (n + 1) ms (added ts m) (small_added n ts m a) t k in omega (arith, z))

pub member_got : {X : Type 0} (xs : List X) (i : ℕ) (x : X) → slice_get xs i ≡ Some x → IsMember x xs
member_got [] i x at = absurd (cc)
member_got (y ∷ ys) zero x at = inl (let e : y ≡ x = cc in sym e)
member_got (y ∷ ys) (suc i) x at = inr (member_got ys i x at)

pub change_fits : (ms : List Moved) (m : Moved) → length ms + 1 < 2 ^ 63 → (k : ℕ) (x : Total) → slice_get (fold added [] ms) k ≡ Some x → FitsSigned w64 (x.change +ℤ sign m.plus)
change_fits ms m few k x at =
    let a = all_small 0 ms [] (λ t n. absurd n) x (member_got (fold added [] ms) k x at) in
    let b = sign_small m.plus in
    let c = abs_add x.change (sign m.plus) (x.change +ℤ sign m.plus) refl in
    fits_signed_from_abs w64 (x.change +ℤ sign m.plus) (omega (arith, a, b, c, few))
