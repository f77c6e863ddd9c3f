-- What f gives at the places of the items that pass a test.
use Rattle.std.proofs.Common.{◌≡◌, ◌≢◌, ℕ, zero, suc, ◌+◌, List, [], ◌∷◌, length, slice_get, Some, refl, ap, subst, sym, ◌∙◌, arith, inl, inr, Bool, true, false, cond, count_by}
use Rattle.std.proofs.lemmas.List.Sums.{sum_by-cons}
use Rattle.ops_base.proofs.Members.{IsMember}
use Rattle.ops_base.proofs.InOrder.{AllBefore}

module _ (A X : Type 0) (test : A → Bool) (f : ℕ → X) where
  abbrev pub picks : ℕ → List A → List X
  picks i [] = []
  picks i (x ∷ xs) = cond (test x) (f i ∷ picks (suc i) xs) (picks (suc i) xs)

  pub length-picks : (i : ℕ) (xs : List A) → length (picks i xs) ≡ count_by test xs
  length-picks i [] = refl
  length-picks i (x ∷ xs) = by_test (length-picks (suc i) xs) (test x) ∙ sym (sum_by-cons (λ z. cond (test z) 1 0) x xs)
    where
      by_test : length (picks (suc i) xs) ≡ count_by test xs → (b : Bool) → length (cond b (f i ∷ picks (suc i) xs) (picks (suc i) xs)) ≡ cond b 1 0 + count_by test xs
      by_test ih true = omega arith
      by_test ih false = omega arith

  pub picked : (i : ℕ) (xs : List A) (y : X) → IsMember y (picks i xs) → (j : ℕ) × (x : A) × (slice_get xs j ≡ Some x) × (test x ≡ true) × (y ≡ f (i + j))
  picked i [] y m = absurd m
  picked i (x ∷ xs) y m = by_test (λ m. picked (suc i) xs y m) (test x) refl m
    where
      next : ((j : ℕ) × (z : A) × (slice_get xs j ≡ Some z) × (test z ≡ true) × (y ≡ f (suc i + j))) → (j : ℕ) × (z : A) × (slice_get (x ∷ xs) j ≡ Some z) × (test z ≡ true) × (y ≡ f (i + j))
      next p = (suc p.0, p.1, p.2, p.3, p.4 ∙ ap f (let e : suc i + p.0 ≡ i + suc p.0 = omega arith in e))

      by_test : (IsMember y (picks (suc i) xs) → (j : ℕ) × (z : A) × (slice_get xs j ≡ Some z) × (test z ≡ true) × (y ≡ f (suc i + j))) → (b : Bool) → test x ≡ b → IsMember y (cond b (f i ∷ picks (suc i) xs) (picks (suc i) xs)) → (j : ℕ) × (z : A) × (slice_get (x ∷ xs) j ≡ Some z) × (test z ≡ true) × (y ≡ f (i + j))
      by_test ih true e (inl q) = (0, x, refl, e, q ∙ ap f (let z : i ≡ i + 0 = omega arith in z))
      by_test ih true e (inr m) = next (ih m)
      by_test ih false e m = next (ih m)

  pub pick : (i j : ℕ) (xs : List A) (x : A) → slice_get xs j ≡ Some x → test x ≡ true → IsMember (f (i + j)) (picks i xs)
  pick i j [] x at t = cc
  pick i zero (y ∷ xs) x at t =
      let q : y ≡ x = cc in
      subst (λ b. IsMember (f (i + 0)) (cond b (f i ∷ picks (suc i) xs) (picks (suc i) xs))) (sym (ap test q ∙ t)) (inl (ap f (let z : i + 0 ≡ i = omega arith in z)))
  pick i (suc j) (y ∷ xs) x at t = by_test (subst (λ k. IsMember (f k) (picks (suc i) xs)) (let z : suc i + j ≡ i + suc j = omega arith in z) (pick (suc i) j xs x at t)) (test y)
    where
      by_test : IsMember (f (i + suc j)) (picks (suc i) xs) → (b : Bool) → IsMember (f (i + suc j)) (cond b (f i ∷ picks (suc i) xs) (picks (suc i) xs))
      by_test m true = inr m
      by_test m false = m

  -- what f gives at different places that pass is different
  abbrev pub IsApart : ℕ → List A → Type 0
  IsApart i xs = (j k : ℕ) (x y : A) → slice_get xs j ≡ Some x → slice_get xs k ≡ Some y → test x ≡ true → test y ≡ true → f (i + j) ≡ f (i + k) → j ≡ k

  pub picks-apart : (i : ℕ) (xs : List A) → IsApart i xs → AllBefore (λ x y. x ≢ y) (picks i xs)
  picks-apart i [] h = tt
  picks-apart i (x ∷ xs) h = by_test (picks-apart (suc i) xs rest) (test x) refl
    where
      shift : (j : ℕ) → f (suc i + j) ≡ f (i + suc j)
      shift j = ap f (let z : suc i + j ≡ i + suc j = omega arith in z)

      rest : IsApart (suc i) xs
      rest j k y z at to t u e = let q = h (suc j) (suc k) y z at to t u (sym (shift j) ∙ (e ∙ shift k)) in omega arith

      fresh : test x ≡ true → (y : X) → IsMember y (picks (suc i) xs) → f i ≡ y → ⊥
      fresh t y m is =
          let p = picked (suc i) xs y m in
          let q : 0 ≡ suc p.0 = h 0 (suc p.0) x p.1 refl p.2 t p.3 (ap f (let z : i + 0 ≡ i = omega arith in z) ∙ (is ∙ (p.4 ∙ shift p.0))) in
          absurd (omega arith)

      by_test : AllBefore (λ x y. x ≢ y) (picks (suc i) xs) → (b : Bool) → test x ≡ b → AllBefore (λ x y. x ≢ y) (cond b (f i ∷ picks (suc i) xs) (picks (suc i) xs))
      by_test s true e = (λ y m q. fresh e y m q, s)
      by_test s false e = s
