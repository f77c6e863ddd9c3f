-- The number that a production has once another is gone.
use Rattle.std.proofs.Common.{◌≡◌, ℕ, zero, suc, ◌+◌, ◌<◌, ◌≤◌, List, [], ◌∷◌, ◌++◌, length, take, drop, Some, None, refl, ap, arith}
use Rattle.std.proofs.Common.{not, cond, nat_lt, Bool, true, false, ◌∙◌}
use Rattle.std.specs.Prelude.{option_map}
use Rattle.std.specs.List.{position, position_or_len}
use Rattle.std.proofs.lemmas.Bool.{lt-ltb, le-ltb, ltb-true, ltb-false}
use Rattle.ops_base.specs.Live.{without, moved}

none_below : (n : ℕ) → suc n ≤ 0 → ⊥
none_below n h = omega arith

pub moved_same : (n : ℕ) → moved n n ≡ None
moved_same zero = refl
moved_same (suc n) = ap (option_map suc) (moved_same n)

pub moved_above : (k m : ℕ) → k ≤ m → moved k (suc m) ≡ Some m
moved_above zero m h = refl
moved_above (suc k) zero h = absurd (none_below k h)
moved_above (suc k) (suc m) h = ap (option_map suc) (moved_above k m (omega (arith, h)))

pub moved_below : (k n : ℕ) → n < k → moved k n ≡ Some n
moved_below zero n h = absurd (none_below n h)
moved_below (suc k) zero h = refl
moved_below (suc k) (suc n) h = ap (option_map suc) (moved_below k n (omega (arith, h)))

pub without_past : {X : Type 0} (k : ℕ) (xs : List X) → length xs ≤ k → without k xs ≡ xs
without_past k [] h = refl
without_past zero (x ∷ xs) h = absurd (none_below (length xs) h)
without_past (suc k) (x ∷ xs) h = ap (λ ys. x ∷ ys) (without_past k xs (omega (arith, h)))

pub without-parts : {X : Type 0} (k : ℕ) (xs : List X) → take k xs ++ drop (suc k) xs ≡ without k xs
without-parts zero [] = refl
without-parts (suc k) [] = refl
without-parts zero (x ∷ xs) = refl
without-parts (suc k) (x ∷ xs) = ap (λ ys. x ∷ ys) (without-parts k xs)

pub without-append : {X : Type 0} (k : ℕ) (xs ys : List X) → k < length xs → without k (xs ++ ys) ≡ without k xs ++ ys
without-append k [] ys h = absurd (none_before k h)
  where
    none_before : (k : ℕ) → k < 0 → ⊥
    none_before k h = omega arith
without-append zero (x ∷ xs) ys h = refl
without-append (suc k) (x ∷ xs) ys h = ap (λ zs. x ∷ zs) (without-append k xs ys (omega (arith, h)))

-- ---- the place of the first that passes

some_later : (m len : ℕ) → cond (nat_lt (suc m) (suc len)) (Some (suc m)) None ≡ option_map suc (cond (nat_lt m len) (Some m) None)
some_later m len = by (nat_lt m len) refl
  where
    by : (b : Bool) → nat_lt m len ≡ b → cond (nat_lt (suc m) (suc len)) (Some (suc m)) None ≡ option_map suc (cond b (Some m) None)
    by true e = let lt : m < len = ltb-true m len e in ap (λ c. cond c (Some (suc m)) None) (lt-ltb (suc m) (suc len) (omega (arith, lt)))
    by false e = let le : len ≤ m = ltb-false m len e in ap (λ c. cond c (Some (suc m)) None) (le-ltb (suc m) (suc len) (omega (arith, le)))

one_more : (n : ℕ) → 1 + n ≡ suc n
one_more n = omega arith

pub position_step : {X : Type 0} (p : X → Bool) (x : X) (xs : List X) → position p (x ∷ xs) ≡ cond (p x) (Some 0) (option_map suc (position p xs))
position_step p x xs = by (p x) refl
  where
    by : (b : Bool) → p x ≡ b → position p (x ∷ xs) ≡ cond b (Some 0) (option_map suc (position p xs))
    by true e =
        ap (λ c. let n = cond (not c) (1 + position_or_len p xs) 0 in cond (nat_lt n (length (x ∷ xs))) (Some n) None) e
        ∙ ap (λ c. cond c (Some 0) None) (lt-ltb 0 (suc (length xs)) (omega arith))
    by false e =
        ap (λ c. let n = cond (not c) (1 + position_or_len p xs) 0 in cond (nat_lt n (length (x ∷ xs))) (Some n) None) e
        ∙ ap (λ n. cond (nat_lt n (length (x ∷ xs))) (Some n) None) (one_more (position_or_len p xs)) ∙ some_later (position_or_len p xs) (length xs)

pub position_empty : {X : Type 0} (p : X → Bool) → position p [] ≡ None
position_empty p = refl
