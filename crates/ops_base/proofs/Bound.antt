-- What the last of the bindings says of a variable.
use Rattle.std.proofs.Common.{◌≡◌, ℕ, List, [], ◌∷◌, ◌++◌, fold, cond, ◌==◌, Some, refl}
use Rattle.ops_base.specs.declared.matching.Binding.{Binding}
use Rattle.ops_base.specs.Matching.{value_of}

fold-last : {X R : Type 0} (f : R → X → R) (start : R) (xs : List X) (x : X) → fold f start (xs ++ x ∷ []) ≡ f (fold f start xs) x
fold-last f start [] x = refl
fold-last f start (y ∷ xs) x = fold-last f (f start y) xs x

-- the last binding decides where it is one of the variable
pub value_of_last : (bindings : List Binding) (b : Binding) (v : ℕ) → value_of (bindings ++ b ∷ []) v ≡ cond (b.variable == v) (Some b.value) (value_of bindings v)
value_of_last bindings b v = fold-last (λ found b. cond (b.variable == v) (Some b.value) found) _ bindings b
