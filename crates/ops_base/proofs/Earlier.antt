-- The first spellings are spellings: each in one place, and `nil` first.
use Rattle.std.proofs.Common.{◌≡◌, ℕ, zero, suc, ◌<◌, List, [], ◌∷◌, take, Option, Some, None, refl, sym, ◌∙◌, subst, arith}
use Rattle.std.specs.Prelude.{slice_get, codes}
use Rattle.std.proofs.lemmas.List.{take-map}
use Rattle.ops_base.specs.Names.{AreDistinct, spellings}

pub get_of_take : {X : Type 0} (n i : ℕ) (xs : List X) (x : X) → slice_get (take n xs) i ≡ Some x → slice_get xs i ≡ Some x
get_of_take zero i xs x e = cc
get_of_take (suc n) i [] x e = e
get_of_take (suc n) zero (y ∷ ys) x e = e
get_of_take (suc n) (suc i) (y ∷ ys) x e = get_of_take n i ys x e

first_of_take : {X : Type 0} (n : ℕ) (xs : List X) → 0 < n → slice_get (take n xs) 0 ≡ slice_get xs 0
first_of_take zero xs h = absurd (omega (arith, h))
first_of_take (suc n) [] h = refl
first_of_take (suc n) (x ∷ xs) h = refl

pub kept_by_take : (n : ℕ) (held all : List (List ℕ)) → all ≡ take n held → 0 < n → AreDistinct held × (slice_get held 0 ≡ Some (codes "nil")) → AreDistinct all × (slice_get all 0 ≡ Some (codes "nil"))
kept_by_take n held all e h k =
    let P : List (List ℕ) → Type 0 = λ xs. AreDistinct xs × (slice_get xs 0 ≡ Some (codes "nil")) in
    subst P (sym e) ((λ i j s p q. k.0 i j s (get_of_take n i held s p) (get_of_take n j held s q)), first_of_take n held h ∙ k.1)
