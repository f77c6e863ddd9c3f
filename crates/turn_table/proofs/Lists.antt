-- Lists whose items are looked up by place, and options.
use Rattle.std.proofs.Common.{◌≡◌, ℕ, ◌<◌, ◌≤◌, ◌⊎◌, Bool, true, false, List, [], ◌∷◌, ◌++◌, length, get_or, set, refl, sym, ap, ◌∙◌, subst, inl, inr, arith, suc, zero}
use Rattle.std.specs.Prelude.{Option, Some, None, slice_get}
use Rattle.std.specs.List.{All}
use Rattle.std.proofs.lemmas.List.{append_assoc, append-nil}
use mathlib.Core.Option.{none, some, some-injective, some-ne-none}
use lib.ListN.{get_elem?}
use Rattle.atomic_table.specs.Table.{rest}
use Rattle.turn_table.specs.Log.{IsAt, Begins}

pub true_ne_false : true ≡ false → ⊥
true_ne_false e = cc

pub true_or_false : (b : Bool) → (b ≡ true) ⊎ (b ≡ false)
true_or_false true = inl refl
true_or_false false = inr refl

module _ {A : Type 0} where
  pub none_ne_some : (x : A) → None ≡ Some x → ⊥
  none_ne_some x e = cc

  abbrev some_or : A → Option A → A
  some_or d None = d
  some_or d (Some x) = x

  pub same_some : (x y : A) → Some x ≡ Some y → x ≡ y
  same_some x y e = ap (some_or x) e

  pub begins-refl : (xs : List A) → Begins xs xs
  begins-refl xs = ([], append-nil xs)

  pub begins-append : (xs ys zs : List A) → Begins xs ys → Begins xs (ys ++ zs)
  begins-append xs ys zs b = (b.0 ++ zs, sym (append_assoc xs b.0 zs) ∙ ap (λ l. l ++ zs) b.1)

  pub is_inside : (l : List A) (i : ℕ) (a : A) → IsAt l i a → i < length l
  is_inside [] i a e = absurd (some-ne-none a (sym e))
  is_inside (x ∷ xs) zero a e = omega arith
  is_inside (x ∷ xs) (suc i) a e = let h = is_inside xs i a e in omega arith

  pub is_there : (l : List A) (i : ℕ) → i < length l → (a : A) × IsAt l i a
  is_there [] i h = absurd (omega arith)
  is_there (x ∷ xs) zero h = (x, refl)
  is_there (x ∷ xs) (suc i) h = is_there xs i (omega arith)

  pub none_past : (l : List A) (i : ℕ) → length l ≤ i → get_elem? l i ≡ none
  none_past [] i h = refl
  none_past (x ∷ xs) zero h = absurd (omega arith)
  none_past (x ∷ xs) (suc i) h = none_past xs i (omega arith)

  pub get_or-at : (l : List A) (i : ℕ) (a d : A) → IsAt l i a → get_or l i d ≡ a
  get_or-at [] i a d e = absurd (some-ne-none a (sym e))
  get_or-at (x ∷ xs) zero a d e = some-injective x a e
  get_or-at (x ∷ xs) (suc i) a d e = get_or-at xs i a d e

  -- std's look-up finds the same
  pub slice_get-at : (l : List A) (i : ℕ) (a : A) → IsAt l i a → slice_get l i ≡ Some a
  slice_get-at [] i a e = absurd (some-ne-none a (sym e))
  slice_get-at (x ∷ xs) zero a e = ap Some (some-injective x a e)
  slice_get-at (x ∷ xs) (suc i) a e = slice_get-at xs i a e

  pub at-slice_get : (l : List A) (i : ℕ) (a : A) → slice_get l i ≡ Some a → IsAt l i a
  at-slice_get [] i a e = absurd (none_ne_some a e)
  at-slice_get (x ∷ xs) zero a e = ap some (same_some x a e)
  at-slice_get (x ∷ xs) (suc i) a e = at-slice_get xs i a e

  pub same_item : (l : List A) (i : ℕ) (a b : A) → IsAt l i a → IsAt l i b → a ≡ b
  same_item l i a b p q = some-injective a b (sym p ∙ q)

  pub all_at : (P : A → Type 0) (l : List A) (i : ℕ) (a : A) → All P l → IsAt l i a → P a
  all_at P l i a all e = subst P (get_or-at l i a a e) (all i a (is_inside l i a e))

  pub all_one : (P : A → Type 0) (a : A) → P a → All P (a ∷ [])
  all_one P a p zero d low = p
  all_one P a p (suc k) d low = absurd (omega arith)

  pub all_rest : (P : A → Type 0) (a : A) (l : List A) → All P (a ∷ l) → All P l
  all_rest P a l all k d low = all (suc k) d (omega arith)

  pub all_none : (P : A → Type 0) → All P []
  all_none P k d low = absurd (omega arith)

pub same_rest : {A : Type 0} (l m : List (ℕ × A)) (x : ℕ × A) → l ≡ x ∷ m → l ≡ x ∷ rest l
same_rest l m x e = e ∙ ap (λ k. x ∷ k) (sym (ap rest e))

pub set_false : (fs : List Bool) (i : ℕ) → get_or (set fs i false) i false ≡ false
set_false [] i = refl
set_false (f ∷ fs) zero = refl
set_false (f ∷ fs) (suc i) = set_false fs i
