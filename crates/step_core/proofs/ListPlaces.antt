-- A list by its places: with one item more, with one changed, and without its last.
use Rattle.std.proofs.Common.{◌≡◌, ◌≢◌, ℕ, zero, suc, ◌⊎◌, inl, inr, List, [], ◌∷◌, ◌++◌, length, map, take, drop, remove, set, slice_get, Some, refl, ap, ap₂, sym, subst, ◌∙◌, arith}
use Rattle.std.specs.List.{All}
use Rattle.std.proofs.lemmas.List.{map-append, take-map, drop-map}
use Rattle.std.proofs.lemmas.Option.{get_or_from_slice_get, slice_get_within}

pub get_left : {X : Type 0} (xs ys : List X) (n : ℕ) (x : X) → slice_get xs n ≡ Some x → slice_get (xs ++ ys) n ≡ Some x
get_left [] ys n x e = cc
get_left (y ∷ xs) ys zero x e = e
get_left (y ∷ xs) ys (suc n) x e = get_left xs ys n x e

pub get_last : {X : Type 0} (xs : List X) (y : X) (n : ℕ) → n ≡ length xs → slice_get (xs ++ y ∷ []) n ≡ Some y
get_last [] y zero is = refl
get_last [] y (suc n) is = absurd (omega arith)
get_last (x ∷ xs) y zero is = absurd (omega arith)
get_last (x ∷ xs) y (suc n) is = get_last xs y n (omega arith)

pub get_push : {X : Type 0} (xs : List X) (y : X) (n : ℕ) (x : X) → slice_get (xs ++ y ∷ []) n ≡ Some x → (slice_get xs n ≡ Some x) ⊎ ((n ≡ length xs) × (x ≡ y))
get_push [] y zero x e = inr (refl, cc)
get_push [] y (suc n) x e = cc
get_push (z ∷ xs) y zero x e = inl e
get_push (z ∷ xs) y (suc n) x e = elim (get_push xs y n x e) [ inl h ↦ inl h | inr h ↦ inr (ap suc h.0, h.1) ]

pub get_set : {X : Type 0} (xs : List X) (k : ℕ) (y : X) (i : ℕ) (x : X) → slice_get (set xs k y) i ≡ Some x → ((i ≡ k) × (x ≡ y)) ⊎ ((i ≢ k) × (slice_get xs i ≡ Some x))
get_set [] k y i x e = cc
get_set (z ∷ xs) zero y zero x e = inl (refl, cc)
get_set (z ∷ xs) zero y (suc i) x e = inr (λ q. absurd (omega arith), e)
get_set (z ∷ xs) (suc k) y zero x e = inr (λ q. absurd (omega arith), e)
get_set (z ∷ xs) (suc k) y (suc i) x e = elim (get_set xs k y i x e) [ inl h ↦ inl (ap suc h.0, h.1) | inr h ↦ inr (λ q. h.0 (omega arith), h.1) ]

pub get_map : {X Y : Type 0} (f : X → Y) (xs : List X) (n : ℕ) (x : X) → slice_get xs n ≡ Some x → slice_get (map f xs) n ≡ Some (f x)
get_map f [] n x e = cc
get_map f (y ∷ xs) zero x e = let q : y ≡ x = cc in ap (λ z. Some (f z)) q
get_map f (y ∷ xs) (suc n) x e = get_map f xs n x e

pub all_at : {X : Type 0} (P : X → Type 0) (xs : List X) (n : ℕ) (x : X) → All P xs → slice_get xs n ≡ Some x → P x
all_at P xs n x all at = subst P (get_or_from_slice_get xs n x x at) (all n x (slice_get_within xs n x at))

-- ---- without one

pub map-remove : {X Y : Type 0} (f : X → Y) (xs : List X) (i : ℕ) → map f (remove xs i) ≡ remove (map f xs) i
map-remove f xs i = map-append f (take i xs) (drop (suc i) xs) ∙ ap₂ (λ a b. a ++ b) (sym (take-map f i xs)) (sym (drop-map f (suc i) xs))

pub remove_last : {X : Type 0} (xs : List X) (n : ℕ) → suc n ≡ length xs → remove xs n ≡ take n xs
remove_last [] n is = absurd (omega arith)
remove_last (x ∷ []) zero is = refl
remove_last (x ∷ y ∷ xs) zero is = absurd (omega arith)
remove_last (x ∷ xs) (suc n) is = ap (λ ys. x ∷ ys) (remove_last xs n (omega arith))

pub remove_pushed : {X : Type 0} (xs : List X) (y : X) (n : ℕ) → n ≡ length xs → remove (xs ++ y ∷ []) n ≡ xs
remove_pushed [] y zero is = refl
remove_pushed [] y (suc n) is = absurd (omega arith)
remove_pushed (x ∷ xs) y zero is = absurd (omega arith)
remove_pushed (x ∷ xs) y (suc n) is = ap (λ ys. x ∷ ys) (remove_pushed xs y n (omega arith))
