-- A world taken apart and put together: the places of the lines that have entries.
use Rattle.std.proofs.Common.{◌≡◌, ◌≢◌, ℕ, zero, suc, ◌≤◌, ◌==◌, Bool, true, false, not, List, [], ◌∷◌, length, slice_get, Some, refl, sym, ap, ap₂, subst, ◌∙◌, ◌+◌, ◌++◌, arith, append-nil, cond, inl, inr}
use Rattle.std.proofs.lemmas.Bool.{eqb-true, eqb-false}
use Rattle.ops_base.proofs.Members.{IsMember}
use Rattle.net_base.specs.Feeds.{numbers_below}
use Rattle.net_base.proofs.Apart.{NoTwice}
use Rattle.net_base.proofs.FeedLemmas.{number_in, number_of, numbers_apart, numbers_more, get_low}
use Rattle.token_line.specs.declared.line.Entry.{Entry}
use Rattle.token_line.specs.declared.line.Line.{Line}
use Rattle.step_core.specs.inner.Worked.{AreWorked, has_entries}

not_false : (b : Bool) → not b ≡ false → b ≡ true
not_false true q = refl
not_false false q = cc

not_true : (b : Bool) → not b ≡ true → b ≡ false
not_true true q = cc
not_true false q = refl

at_least_one : (n : ℕ) → (n ≡ 0 → ⊥) → 1 ≤ n
at_least_one zero h = absurd (h refl)
at_least_one (suc n) h = omega arith

member_at : (xs : List ℕ) (k i : ℕ) → slice_get xs k ≡ Some i → IsMember i xs
member_at [] k i e = cc
member_at (x ∷ xs) zero i e = inl (cc)
member_at (x ∷ xs) (suc k) i e = inr (member_at xs k i e)

place_of_member : (xs : List ℕ) (i : ℕ) → IsMember i xs → (k : ℕ) × (slice_get xs k ≡ Some i)
place_of_member [] i m = absurd m
place_of_member (x ∷ xs) i (inl e) = (zero, ap Some (sym e))
place_of_member (x ∷ xs) i (inr m) = let r = place_of_member xs i m in (suc r.0, r.1)

one_place : (xs : List ℕ) → NoTwice xs → (j k i : ℕ) → slice_get xs j ≡ Some i → slice_get xs k ≡ Some i → j ≡ k
one_place [] h j k i a b = cc
one_place (x ∷ xs) h zero zero i a b = refl
one_place (x ∷ xs) h zero (suc k) i a b = let e : i ≡ x = cc in absurd (h.0 (subst (λ n. IsMember n xs) e (member_at xs k i b)))
one_place (x ∷ xs) h (suc j) zero i a b = let e : i ≡ x = cc in absurd (h.0 (subst (λ n. IsMember n xs) e (member_at xs j i a)))
one_place (x ∷ xs) h (suc j) (suc k) i a b = ap suc (one_place xs h.1 j k i a b)

no_entries : (ls : List Line) (i : ℕ) (l : Line) → slice_get ls i ≡ Some l → ((k : ℕ) → slice_get (numbers_below has_entries ls (length ls)) k ≢ Some i) → (b : Bool) → has_entries l ≡ b → length l.entries.items ≡ 0
no_entries ls i l at none true q =
    let r = place_of_member (numbers_below has_entries ls (length ls)) i (number_in has_entries ls i l at q (length ls) (get_low ls i l at)) in absurd (none r.0 r.1)
no_entries ls i l at none false q = eqb-true (length l.entries.items) 0 (not_false (length l.entries.items == 0) q)

-- one line more
module _ (ls : List Line) (i : ℕ) (l : Line) (at : slice_get ls i ≡ Some l) (now : List Entry) (same : now ≡ l.entries.items) (ws : List ℕ) (are : ws ≡ numbers_below has_entries ls i) where
  more : (b : Bool) → has_entries l ≡ b → ws ++ cond b (i ∷ []) [] ≡ numbers_below has_entries ls (i + 1)
  more b is = ap₂ (λ xs t. xs ++ cond t (i ∷ []) []) are (sym is) ∙ sym (numbers_more has_entries ls i l at)

  pub worked_more : (length now == 0) ≡ false → ws ++ i ∷ [] ≡ numbers_below has_entries ls (i + 1)
  worked_more some' = more true (ap (λ (es : List Entry). not (length es == 0)) (sym same) ∙ ap not some')

  pub worked_same : (length now == 0) ≡ true → ws ≡ numbers_below has_entries ls (i + 1)
  worked_same none' = sym (append-nil ws) ∙ more false (ap (λ (es : List Entry). not (length es == 0)) (sym same) ∙ ap not none')

-- they are the lines that are at work
pub are_worked : (ls : List Line) (worked : List ℕ) → worked ≡ numbers_below has_entries ls (length ls) → AreWorked ls worked
are_worked ls worked is = subst (AreWorked ls) (sym is) (record {
  within = λ k i at. (number_of has_entries ls i (length ls) (member_at (numbers_below has_entries ls (length ls)) k i at)).below;
  busy = λ k i l at here.
      let r = number_of has_entries ls i (length ls) (member_at (numbers_below has_entries ls (length ls)) k i at) in
      let q : Some r.item ≡ Some l = sym r.at ∙ here in
      let p : r.item ≡ l = cc in
      at_least_one (length l.entries.items) (eqb-false (length l.entries.items) 0 (not_true (length l.entries.items == 0) (ap has_entries (sym p) ∙ r.passes)));
  rest = λ i l at none. no_entries ls i l at none (has_entries l) refl;
  once = one_place (numbers_below has_entries ls (length ls)) (numbers_apart has_entries ls (length ls));
})
