-- However rows are weighed, a log weighs what the rows of its passes weigh together.
use Rattle.std.proofs.Common.{◌≡◌, ℕ, ◌+◌, ◌<◌, ◌≤◌, ◌≢◌, eq-eqb, ne_eqb, cond, List, [], ◌∷◌, refl, sym, ap, ◌∙◌, subst, arith, suc, zero}
use mathlib.Core.Logic.{dite}
use native.Mathlib.Decide.{ℕ_discrete, dec_le}
use Rattle.turn_table.specs.declared.views.Row.{Row}
use Rattle.turn_table.specs.Log.{rows_of, weigh, sum_below}

sum_below-zero : (n : ℕ) → sum_below n (λ _. 0) ≡ 0
sum_below-zero zero = refl
sum_below-zero (suc n) = let h = sum_below-zero n in omega arith

sum_below-same : (n : ℕ) (f g : ℕ → ℕ) → ((p : ℕ) → p < n → f p ≡ g p) → sum_below n f ≡ sum_below n g
sum_below-same zero f g same = refl
sum_below-same (suc n) f g same = let h = sum_below-same n f g (λ p low. same p (omega arith)) in let last = same n (omega arith) in
    omega arith

-- two functions that differ at one place
sum_below-more : (n place more : ℕ) (f g : ℕ → ℕ) → ((p : ℕ) → p ≢ place → f p ≡ g p) → f place ≡ more + g place → place < n
    → sum_below n f ≡ more + sum_below n g
sum_below-more zero place more f g others here low = absurd (omega arith)
sum_below-more (suc n) place more f g others here low = dite (ℕ_discrete n place)
    (λ (e : n ≡ place). let h = sum_below-same n f g (λ p below. others p (λ z. omega arith)) in let last : f n ≡ more + g n = subst (λ p. f p ≡ more + g p) (sym e) here in omega arith)
    (λ (ne : n ≢ place). let h = sum_below-more n place more f g others here (omega arith) in let last = others n ne in omega arith)

module _ {E : Type 0} where
  no_item : (x : Row E) (l : List (Row E)) → x ∷ l ≡ [] → ⊥
  no_item x l e = cc

  has_row : (r : Row E) (rs : List (Row E)) → rows_of r.pass (r ∷ rs) ≡ [] → ⊥
  has_row r rs e = no_item r (rows_of r.pass rs) (subst (λ b. cond b (r ∷ rows_of r.pass rs) (rows_of r.pass rs) ≡ []) (eq-eqb r.pass r.pass refl) e)

  rest_has_none : (pass : ℕ) (r : Row E) (rs : List (Row E)) → rows_of pass (r ∷ rs) ≡ [] → rows_of pass rs ≡ []
  rest_has_none pass r rs e = dite (ℕ_discrete r.pass pass)
      (λ (z : r.pass ≡ pass). absurd (no_item r (rows_of pass rs) (subst (λ b. cond b (r ∷ rows_of pass rs) (rows_of pass rs) ≡ []) (eq-eqb r.pass pass z) e)))
      (λ (z : r.pass ≢ pass). subst (λ b. cond b (r ∷ rows_of pass rs) (rows_of pass rs) ≡ []) (ne_eqb r.pass pass z) e)

  pub weigh-log : (weight : Row E → ℕ) (log : List (Row E)) (passes : ℕ) → ((p : ℕ) → passes ≤ p → rows_of p log ≡ [])
      → weigh weight log ≡ sum_below passes (λ p. weigh weight (rows_of p log))
  weigh-log weight [] passes unborn = sym (sum_below-zero passes)
  weigh-log weight (r ∷ rs) passes unborn =
      let below : r.pass < passes = elim (dec_le passes r.pass) [ yes le ↦ absurd (has_row r rs (unborn r.pass le)) | no gt ↦ omega arith ] in
      ap (λ n. weight r + n) (weigh-log weight rs passes (λ p le. rest_has_none p r rs (unborn p le)))
      ∙ sym (sum_below-more passes r.pass (weight r) (λ p. weigh weight (rows_of p (r ∷ rs))) (λ p. weigh weight (rows_of p rs))
      (λ p ne. ap (λ b. weigh weight (cond b (r ∷ rows_of p rs) (rows_of p rs))) (ne_eqb r.pass p (λ e. ne (sym e))))
      (ap (λ b. weigh weight (cond b (r ∷ rows_of r.pass rs) (rows_of r.pass rs))) (eq-eqb r.pass r.pass refl))
      below)
