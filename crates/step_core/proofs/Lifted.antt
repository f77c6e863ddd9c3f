-- A task that is taken out of a list for a while, with another one in its place.
use Rattle.std.proofs.Common.{◌≡◌, ℕ, zero, suc, List, [], ◌∷◌, remove, set, slice_get, Some, refl, ap, sym}

-- what stands in its place goes with the place
pub remove-lifted : {X : Type 0} (xs : List X) (i : ℕ) (y : X) → remove (set xs i y) i ≡ remove xs i
remove-lifted [] i y = refl
remove-lifted (x ∷ xs) zero y = refl
remove-lifted (x ∷ xs) (suc i) y = ap (λ zs. x ∷ zs) (remove-lifted xs i y)

-- put back, nothing has changed
pub set-lifted : {X : Type 0} (xs : List X) (i : ℕ) (x y : X) → slice_get xs i ≡ Some x → set (set xs i y) i x ≡ xs
set-lifted [] i x y at = refl
set-lifted (z ∷ zs) zero x y at = ap (λ v. v ∷ zs) (same_Some x z (sym at))
  where
    same_Some : {Y : Type 0} (a b : Y) → Some a ≡ Some b → a ≡ b
    same_Some a b h = cc
set-lifted (z ∷ zs) (suc i) x y at = ap (λ ws. z ∷ ws) (set-lifted zs i x y at)
