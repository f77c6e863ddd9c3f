-- The first productions of a program, and the one after them.
use Rattle.std.proofs.Common.{◌≡◌, ℕ, zero, suc, ◌+◌, ◌<◌, Some, slice_get, take, ap, sym, arith, List, [], ◌∷◌, ◌++◌, length, refl}

pub front_length : {X : Type 0} (n : ℕ) (xs : List X) → n < length xs → length (take n xs) ≡ n
front_length zero xs low = refl
front_length (suc n) [] low = absurd (omega arith)
front_length (suc n) (x ∷ xs) low = ap suc (front_length n xs (omega arith))

pub front_more : {X : Type 0} (n : ℕ) (xs : List X) (x : X) → slice_get xs n ≡ Some x → take n xs ++ x ∷ [] ≡ take (suc n) xs
front_more n [] x at = cc
front_more zero (y ∷ ys) x at = let same : y ≡ x = cc in ap (λ z. z ∷ []) (sym same)
front_more (suc n) (y ∷ ys) x at = ap (λ zs. y ∷ zs) (front_more n ys x at)
