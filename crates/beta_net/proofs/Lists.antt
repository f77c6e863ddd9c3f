-- A list by its places.
use Rattle.std.proofs.Common.{◌≡◌, ℕ, zero, suc, ◌<◌, List, [], ◌∷◌, ◌++◌, length, map, slice_get, get_or, Some, refl, ap, sym, arith, ◌⊎◌, inl, inr}

pub same_some : {X : Type 0} (x y : X) → Some x ≡ Some y → x ≡ y
same_some x y e = cc

pub get_left : {X : Type 0} (xs ys : List X) (n : ℕ) (x : X) → slice_get xs n ≡ Some x → slice_get (xs ++ ys) n ≡ Some x
get_left [] ys n x e = cc
get_left (y ∷ xs) ys zero x e = e
get_left (y ∷ xs) ys (suc n) x e = get_left xs ys n x e

pub get_seam : {X : Type 0} (xs : List X) (y : X) (ys : List X) → slice_get (xs ++ y ∷ ys) (length xs) ≡ Some y
get_seam [] y ys = refl
get_seam (x ∷ xs) y ys = get_seam xs y ys

pub get_lt : {X : Type 0} (xs : List X) (n : ℕ) (x : X) → slice_get xs n ≡ Some x → n < length xs
get_lt [] n x e = cc
get_lt (y ∷ xs) zero x e = omega arith
get_lt (y ∷ xs) (suc n) x e = let h = get_lt xs n x e in omega arith

pub get_at : {X : Type 0} (xs : List X) (n : ℕ) → n < length xs → (x : X) × (slice_get xs n ≡ Some x)
get_at [] n lt = absurd (omega arith)
get_at (y ∷ xs) zero lt = (y, refl)
get_at (y ∷ xs) (suc n) lt = get_at xs n (omega arith)

pub get_push : {X : Type 0} (xs : List X) (y : X) (n : ℕ) (x : X) → slice_get (xs ++ y ∷ []) n ≡ Some x → (slice_get xs n ≡ Some x) ⊎ ((n ≡ length xs) × (x ≡ y))
get_push [] y zero x e = inr (refl, cc)
get_push [] y (suc n) x e = cc
get_push (z ∷ xs) y zero x e = inl e
get_push (z ∷ xs) y (suc n) x e = elim (get_push xs y n x e) [ inl h ↦ inl h | inr h ↦ inr (ap suc h.0, h.1) ]

-- a place that an index was read at
pub get_of : {X : Type 0} (xs : List X) (n : ℕ) (x : X) → n < length xs → x ≡ get_or xs n x → slice_get xs n ≡ Some x
get_of [] n x lt e = absurd (omega arith)
get_of (y ∷ xs) zero x lt e = ap Some (sym e)
get_of (y ∷ xs) (suc n) x lt e = get_of xs n x (omega arith) e

pub get_back : {X : Type 0} (xs ys : List X) (n : ℕ) (x : X) → n < length xs → slice_get (xs ++ ys) n ≡ Some x → slice_get xs n ≡ Some x
get_back [] ys n x lt e = absurd (omega arith)
get_back (y ∷ xs) ys zero x lt e = e
get_back (y ∷ xs) ys (suc n) x lt e = get_back xs ys n x (omega arith) e

pub get_map : {X Y : Type 0} (f : X → Y) (xs : List X) (n : ℕ) (x : X) → slice_get xs n ≡ Some x → slice_get (map f xs) n ≡ Some (f x)
get_map f [] n x e = cc
get_map f (y ∷ xs) zero x e = let q : y ≡ x = cc in ap (λ z. Some (f z)) q
get_map f (y ∷ xs) (suc n) x e = get_map f xs n x e

pub map_push : {A B : Type 0} (f : A → B) (xs : List A) (x : A) → map f (xs ++ x ∷ []) ≡ map f xs ++ f x ∷ []
map_push f [] x = refl
map_push f (y ∷ xs) x = ap (λ r. f y ∷ r) (map_push f xs x)
