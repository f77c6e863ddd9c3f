-- A state of a table means what the expressions leave of the text, so the table decides them.
use Rattle.std.proofs.Common.{◌≡◌, ℕ, ◌+◌, ◌<◌, Bool, true, false, List, [], ◌∷◌, map, fold, refl, sym, ap, ◌∙◌, get_or, eqb, cond}
use Rattle.std.proofs.lemmas.Bool.{eqb-true, ltb-true, and_parts}
use Rattle.std.specs.Prelude.{◌&&◌, ◌==◌, nat_lt, slice_index}
use Rattle.std.specs.List.{AllByRecursion}
use Rattle.scan_table.specs.Table.{Table, step_of, state_after, accepted}
use Rattle.ops_tokens.specs.Regex.{Regex, Never, Empty, One, Then, Or, Many, after, same, nullable, matches}
use Rattle.ops_tokens.proofs.Below.{all_below, all_below-at}

-- the number of the first expression that passes, from n on, or 0
abbrev pub first_of : (Regex → Bool) → ℕ → List Regex → ℕ
first_of test n [] = 0
first_of test n (r ∷ rs) = cond (test r) n (first_of test (n + 1) rs)

abbrev pub all_same : List Regex → List Regex → Bool
all_same [] [] = true
all_same (a ∷ xs) (c ∷ ys) = same a c && all_same xs ys
all_same _ _ = false

-- the state after a byte is one, and means what the byte leaves of what this one means
abbrev pub step_fits : Table → ℕ → List (List Regex) → ℕ → List Regex → ℕ → Bool
step_fits t n meanings q here b = nat_lt (step_of t q b) n && all_same (map (λ r. after r b) here) (get_or meanings (step_of t q b) [])

abbrev pub meaning_fits : Table → ℕ → List (List Regex) → ℕ → List Regex → Bool
meaning_fits t n meanings q here = (slice_index t.kinds q == first_of nullable 1 here) && all_below (step_fits t n meanings q here) 256

abbrev pub states_fit : Table → ℕ → List (List Regex) → Bool
states_fit t n meanings = all_below (λ q. meaning_fits t n meanings q (get_or meanings q [])) n

pub same-is : (a c : Regex) → same a c ≡ true → a ≡ c
same-is Never Never e = refl
same-is Empty Empty e = refl
same-is (One a b) (One c d) e =
    let h = and_parts (eqb a c) (eqb b d) e in
    let x = eqb-true a c h.0 in
    let y = eqb-true b d h.1 in cc
same-is (Then a b) (Then c d) e =
    let h = and_parts (same a c) (same b d) e in
    let x = same-is a c h.0 in
    let y = same-is b d h.1 in cc
same-is (Or a b) (Or c d) e =
    let h = and_parts (same a c) (same b d) e in
    let x = same-is a c h.0 in
    let y = same-is b d h.1 in cc
same-is (Many a) (Many c) e = ap Many (same-is a c e)
same-is _ _ e = absurd cc

all_same-is : (xs ys : List Regex) → all_same xs ys ≡ true → xs ≡ ys
all_same-is [] [] e = refl
all_same-is (a ∷ xs) (c ∷ ys) e =
    let h = and_parts (same a c) (all_same xs ys) e in
    let x = same-is a c h.0 in
    let y = all_same-is xs ys h.1 in cc
all_same-is _ _ e = absurd cc

map_folds : (b : ℕ) (s : List ℕ) (rs : List Regex) → map (λ r. fold after r (b ∷ s)) rs ≡ map (λ r. fold after r s) (map (λ r. after r b) rs)
map_folds b s [] = refl
map_folds b s (r ∷ rs) = ap (λ (x : List Regex). fold after (after r b) s ∷ x) (map_folds b s rs)

map_same : (rs : List Regex) → map (λ r. fold after r []) rs ≡ rs
map_same [] = refl
map_same (r ∷ rs) = ap (λ (x : List Regex). r ∷ x) (map_same rs)

first-map : (s : List ℕ) (n : ℕ) (rs : List Regex) → first_of nullable n (map (λ r. fold after r s) rs) ≡ first_of (λ r. matches r s) n rs
first-map s n [] = refl
first-map s n (r ∷ rs) = ap (λ (x : ℕ). cond (matches r s) n x) (first-map s (n + 1) rs)

-- what the states mean, followed along a text
pub follows : (t : Table) (n : ℕ) (meanings : List (List Regex)) → states_fit t n meanings ≡ true → (s : List ℕ) (q : ℕ) → q < n → AllByRecursion (λ b. b < 256) s
    → (fold (step_of t) q s < n) × (map (λ r. fold after r s) (get_or meanings q []) ≡ get_or meanings (fold (step_of t) q s) [])
follows t n meanings e [] q lt bytes = (lt, map_same (get_or meanings q []))
follows t n meanings e (b ∷ s) q lt bytes =
    let here = and_parts (slice_index t.kinds q == first_of nullable 1 (get_or meanings q [])) (all_below (step_fits t n meanings q (get_or meanings q [])) 256) (all_below-at (λ p. meaning_fits t n meanings p (get_or meanings p [])) n q e lt) in
    let one = and_parts (nat_lt (step_of t q b) n) (all_same (map (λ r. after r b) (get_or meanings q [])) (get_or meanings (step_of t q b) [])) (all_below-at (step_fits t n meanings q (get_or meanings q [])) 256 b here.1 bytes.0) in
    let next = follows t n meanings e s (step_of t q b) (ltb-true _ _ one.0) bytes.1 in
    (next.0, map_folds b s (get_or meanings q []) ∙ ap (λ (v : List Regex). map (λ r. fold after r s) v) (all_same-is _ _ one.1) ∙ next.1)

-- a table whose states fit decides which expression comes first
pub decides : (t : Table) (n : ℕ) (meanings : List (List Regex)) (rows : List Regex) → states_fit t n meanings ≡ true → 0 < n → get_or meanings 0 [] ≡ rows → (s : List ℕ) → AllByRecursion (λ b. b < 256) s → accepted t s ≡ first_of (λ r. matches r s) 1 rows
decides t n meanings rows e some start s bytes =
    let along = follows t n meanings e s 0 some bytes in
    let here = and_parts (slice_index t.kinds (state_after t s) == first_of nullable 1 (get_or meanings (state_after t s) [])) (all_below (step_fits t n meanings (state_after t s) (get_or meanings (state_after t s) [])) 256) (all_below-at (λ p. meaning_fits t n meanings p (get_or meanings p [])) n (state_after t s) e along.0) in
    eqb-true _ _ here.0 ∙ ap (first_of nullable 1) (sym along.1) ∙ ap (λ (v : List Regex). first_of nullable 1 (map (λ r. fold after r s) v)) start ∙ first-map s 1 rows
