-- What the last of the binders says of a variable.
use Rattle.std.proofs.Common.{◌≡◌, ℕ, List, [], ◌∷◌, ◌++◌, fold, cond, ◌==◌, Some, refl}
use Rattle.net_base.specs.declared.normal.Binder.{Binder}
use Rattle.net_base.specs.Normal.{origin_of}

fold-last : {X R : Type 0} (f : R → X → R) (start : R) (xs : List X) (x : X) → fold f start (xs ++ x ∷ []) ≡ f (fold f start xs) x
fold-last f start [] x = refl
fold-last f start (y ∷ xs) x = fold-last f (f start y) xs x

-- the last binder decides where it binds the variable
pub origin_of_last : (binders : List Binder) (b : Binder) (v : ℕ) → origin_of (binders ++ b ∷ []) v ≡ cond (b.variable == v) (Some b.origin) (origin_of binders v)
origin_of_last binders b v = fold-last (λ found b. cond (b.variable == v) (Some b.origin) found) _ binders b
