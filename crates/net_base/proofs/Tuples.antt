-- How often lists of tags stand that pass a test: not at all, where none of them does.
use Rattle.std.proofs.Common.{◌≡◌, ℕ, zero, suc, ◌<◌, Bool, true, false, cond, ◌==◌, List, [], ◌∷◌, ◌++◌, length, take, refl, sym, ap, subst, ◌∙◌, arith, append_assoc, append-nil}
use Rattle.std.specs.List.{AllByRecursion}
use Rattle.std.proofs.lemmas.Bool.{eqb-true, eqb-false}
use Rattle.net_base.specs.Tokens.{Tokens, sum_to, count_from}

abbrev pub AreSmall : ℕ → List ℕ → Type 0
AreSmall tags u = AllByRecursion (λ (x : ℕ). x < tags) u

pub small-append : (tags : ℕ) (u v : List ℕ) → AreSmall tags u → AreSmall tags v → AreSmall tags (u ++ v)
small-append tags [] v h k = k
small-append tags (x ∷ u) v h k = (h.0, small-append tags u v h.1 k)

pub small_behind : (tags : ℕ) (u v : List ℕ) → AreSmall tags (u ++ v) → AreSmall tags v
small_behind tags [] v h = h
small_behind tags (x ∷ u) v h = small_behind tags u v h.1

sum_none : (n : ℕ) (f : ℕ → ℕ) → ((k : ℕ) → k < n → f k ≡ 0) → sum_to n f ≡ 0
unfolding sum_to
sum_none zero f h = refl
sum_none (suc n) f h = let a = h n (omega arith) in let b = sum_none n f (λ k lt. h k (omega arith)) in omega (arith, a, b)

sum_each : (n : ℕ) (f : ℕ → ℕ) → sum_to n f ≡ 0 → (k : ℕ) → k < n → f k ≡ 0
unfolding sum_to
sum_each zero f none k lt = absurd (omega arith)
sum_each (suc n) f none k lt = by (λ low. sum_each n f (omega arith) k low) (k == n) refl
  where
    by : (k < n → f k ≡ 0) → (b : Bool) → (k == n) ≡ b → f k ≡ 0
    by ih true e = ap f (eqb-true k n e) ∙ (let z : f n ≡ 0 = omega arith in z)
    by ih false e = let ne = eqb-false k n e in ih (omega (arith, ne))

pub tuples_none : (tags more : ℕ) (test : List ℕ → Bool) (r : Tokens) (from : List ℕ)
    → ((v : List ℕ) → length v ≡ more → AreSmall tags v → test (from ++ v) ≡ true → r (from ++ v) ≡ 0) → count_from tags more test r from ≡ 0
tuples_none tags zero test r from h = by (test from) refl (subst (λ (w : List ℕ). test w ≡ true → r w ≡ 0) (append-nil from) (h [] refl tt))
  where
    by : (b : Bool) → test from ≡ b → (test from ≡ true → r from ≡ 0) → cond b (r from) 0 ≡ 0
    by true e g = g e
    by false e g = refl
tuples_none tags (suc more) test r from h =
    sum_none tags (λ k. count_from tags more test r (from ++ k ∷ []))
    (λ k lt. tuples_none tags more test r (from ++ k ∷ []) (λ v e s. subst (λ (w : List ℕ). test w ≡ true → r w ≡ 0) (sym (append_assoc from (k ∷ []) v)) (h (k ∷ v) (ap suc e) (lt, s))))

pub tuples_each : (tags more : ℕ) (test : List ℕ → Bool) (r : Tokens) (from x : List ℕ) → count_from tags more test r from ≡ 0 → length x ≡ more → AreSmall tags x → test (from ++ x) ≡ true → r (from ++ x) ≡ 0
tuples_each tags zero test r from [] none long small passes = ap (λ b. cond b (r (from ++ [])) 0) (sym passes) ∙ subst (λ (v : List ℕ). cond (test v) (r v) 0 ≡ 0) (sym (append-nil from)) none
tuples_each tags zero test r from (k ∷ x) none long small passes = absurd (omega arith)
tuples_each tags (suc more) test r from [] none long small passes = absurd (omega arith)
tuples_each tags (suc more) test r from (k ∷ x) none long small passes =
    subst (λ (w : List ℕ). test w ≡ true → r w ≡ 0) (append_assoc from (k ∷ []) x)
    (λ p. tuples_each tags more test r (from ++ k ∷ []) x (sum_each tags (λ j. count_from tags more test r (from ++ j ∷ [])) none k small.0) (omega arith) small.1 p) passes

-- ---- tokens by their first tags

pub take_front : (xs ys : List ℕ) → take (length xs) (xs ++ ys) ≡ xs
take_front [] ys = refl
take_front (x ∷ xs) ys = ap (λ r. x ∷ r) (take_front xs ys)

pub split_front : (t r : List ℕ) → take (length t) r ≡ t → (v : List ℕ) × (r ≡ t ++ v)
split_front [] r e = (r, refl)
split_front (x ∷ t) [] e = cc
split_front (x ∷ t) (y ∷ r) e =
    let h : y ≡ x = cc in
    let q : take (length t) r ≡ t = cc in
    let s = split_front t r q in
    (s.0, ap (λ z. z ∷ r) h ∙ ap (λ w. x ∷ w) s.1)
