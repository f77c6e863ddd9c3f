-- The places of names that are distinct, and the numbers of variables that are named by them.
use Rattle.std.proofs.Common.{◌≡◌, ℕ, zero, suc, ◌<◌, Bool, true, false, not, ◌||◌, ◌==◌, cond, List, [], ◌∷◌, ◌++◌, length, map, refl, sym, ap, ◌∙◌, arith, Option, Some, None, unwrap_or, slice_get, position, true≢false}
use Rattle.std.specs.List.{position_or_len}
use Rattle.std.proofs.lemmas.Bool.{and_parts, or_left, or_right, or_parts, eqb-true, eq-eqb, ne_eqb, not-true, lt-ltb}
use Rattle.std.proofs.lemmas.List.{map-append}
use Rattle.ops_base.specs.Valid.{is_in, are_distinct}
use Rattle.ops_grammar.specs.declared.words.Named.{Named}
use Rattle.ops_grammar.specs.Grammar.{number_of, renumbered}

-- ---- the place of a name

module _ {X : Type 0} (f : X → ℕ) (d : X) where
  in_there : (xs : List X) (i : ℕ) → i < length xs → is_in (f (unwrap_or (slice_get xs i) d)) (map f xs) ≡ true
  in_there [] i lt = absurd (omega arith)
  in_there (x ∷ xs) zero lt = or_left _ _ (eq-eqb (f x) (f x) refl)
  in_there (x ∷ xs) (suc i) lt = or_right _ _ (in_there xs i (omega arith))

  first_place : (xs : List X) (i n : ℕ) → n ≡ f (unwrap_or (slice_get xs i) d) → are_distinct (map f xs) ≡ true → i < length xs → position_or_len (λ x. f x == n) xs ≡ i
  first_place [] i n e distinct lt = absurd (omega arith)
  first_place (x ∷ xs) zero n e distinct lt =
      let here : (f x == n) ≡ true = eq-eqb (f x) n (sym e) in rw here refl
  first_place (x ∷ xs) (suc i) n e distinct lt =
      let each = and_parts (not (is_in (f x) (map f xs))) (are_distinct (map f xs)) distinct in
      let there : is_in n (map f xs) ≡ true = ap (λ m. is_in m (map f xs)) e ∙ in_there xs i (omega arith) in
      let apart : (f x == n) ≡ false = ne_eqb (f x) n (λ same. true≢false (sym there ∙ ap (λ m. is_in m (map f xs)) (sym same) ∙ not-true _ each.0)) in
      let rest = first_place xs i n e each.1 (omega arith) in rw apart (omega (arith, rest))

  -- A name of names that are distinct is found at its place.
  pub place_found : (xs : List X) (i n : ℕ) → n ≡ f (unwrap_or (slice_get xs i) d) → are_distinct (map f xs) ≡ true → i < length xs → position (λ x. f x == n) xs ≡ Some i
  place_found xs i n e distinct lt = let at = first_place xs i n e distinct lt in rw at (rw (lt-ltb _ _ lt) refl)

-- ---- the number of a variable

-- variables that are named by their numbers
abbrev pub numbered : List ℕ → List Named
numbered ks = map (λ k. record { name = record { 0 = k }; number = k }) ks

pub numbered-push : (ks : List ℕ) (k : ℕ) → numbered (ks ++ k ∷ []) ≡ numbered ks ++ record { name = record { 0 = k }; number = k } ∷ []
numbered-push ks k = map-append (λ k. record { name = record { 0 = k }; number = k }) ks (k ∷ [])

-- a variable with none of these numbers is none of these variables
pub number_out : (ks : List ℕ) (n : ℕ) → is_in n ks ≡ false → number_of (record { 0 = n }) (numbered ks) ≡ None
number_out [] n out = refl
number_out (k ∷ ks) n out = let each = or_parts (k == n) (is_in n ks) out in rw each.0 (number_out ks n each.1)

number_by : (b : Bool) (k n : ℕ) (there : Bool) (rest : Option ℕ) → (k == n) ≡ b → (b || there) ≡ true → (there ≡ true → rest ≡ Some n) → cond b (Some k) rest ≡ Some n
number_by true k n there rest e h ih = ap Some (eqb-true k n e)
number_by false k n there rest e h ih = ih h

pub number_there : (ks : List ℕ) (n : ℕ) → is_in n ks ≡ true → number_of (record { 0 = n }) (numbered ks) ≡ Some n
number_there [] n h = absurd (true≢false (sym h))
number_there (k ∷ ks) n h = number_by (k == n) k n (is_in n ks) (number_of (record { 0 = n }) (numbered ks)) refl h (number_there ks n)

-- a variable that is none of these is put after them
pub renumbered-new : (ks : List ℕ) (n m : ℕ) → is_in n ks ≡ false → renumbered (record { 0 = n }) m (numbered ks) ≡ numbered ks ++ record { name = record { 0 = n }; number = m } ∷ []
renumbered-new [] n m out = refl
renumbered-new (k ∷ ks) n m out =
    let each = or_parts (k == n) (is_in n ks) out in
    rw each.0 (ap (λ (vs : List Named). record { name = record { 0 = k }; number = k } ∷ vs) (renumbered-new ks n m each.1))
