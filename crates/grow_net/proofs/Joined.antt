-- Lists one after the other, and numbers that are moved up.
use Rattle.std.proofs.Common.{◌≡◌, ℕ, zero, suc, ◌+◌, ◌<◌, ◌==◌, Bool, true, false, List, [], ◌∷◌, ◌++◌, length, slice_get, Some, refl, ap, ◌∙◌, arith, ◌⊎◌, inl, inr}
use Rattle.std.proofs.lemmas.Bool.{eqb-true, eqb-false, eq-eqb}
use Rattle.std.proofs.lemmas.Bool.Decides.{nat_tests}

pub get_same : {X : Type 0} (xs ys : List X) (n : ℕ) → n < length xs → slice_get (xs ++ ys) n ≡ slice_get xs n
get_same [] ys n lt = absurd (omega arith)
get_same (x ∷ xs) ys zero lt = refl
get_same (x ∷ xs) ys (suc n) lt = get_same xs ys n (omega arith)

pub get_behind : {X : Type 0} (xs ys : List X) (n : ℕ) → slice_get (xs ++ ys) (length xs + n) ≡ slice_get ys n
get_behind [] ys n = ap (slice_get ys) (let z : 0 + n ≡ n = omega arith in z)
get_behind (x ∷ xs) ys n = ap (slice_get (x ∷ xs ++ ys)) (let z : suc (length xs) + n ≡ suc (length xs + n) = omega arith in z) ∙ get_behind xs ys n

pub get_cases : {X : Type 0} (xs ys : List X) (n : ℕ) (x : X) → slice_get (xs ++ ys) n ≡ Some x → (slice_get xs n ≡ Some x) ⊎ ((m : ℕ) × (n ≡ length xs + m) × (slice_get ys m ≡ Some x))
get_cases [] ys n x e = inr (n, omega arith, e)
get_cases (y ∷ xs) ys zero x e = inl e
get_cases (y ∷ xs) ys (suc n) x e = elim (get_cases xs ys n x e) [ inl h ↦ inl h | inr h ↦ inr (h.0, (let q = h.1 in omega arith), h.2) ]

-- ---- numbers that are moved up

pub moved_same : (d p n : ℕ) → (d + p == d + n) ≡ (p == n)
moved_same d p n = by (p == n) refl
  where
    by : (b : Bool) → (p == n) ≡ b → (d + p == d + n) ≡ b
    by true e = let q = eqb-true p n e in eq-eqb (d + p) (d + n) (omega arith)
    by false e = let other = eqb-false p n e in grind (arith, nat_tests)

pub moved_off : (d p n : ℕ) → n < d → (d + p == n) ≡ false
moved_off d p n lt = grind (arith, nat_tests)

pub less_off : (p n : ℕ) → p < n → (p == n) ≡ false
less_off p n lt = grind (arith, nat_tests)
