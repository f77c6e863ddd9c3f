-- The table of plain atoms is a table, decides their rows, and takes plain bytes alone.
use Rattle.std.proofs.Common.{◌≡◌, ◌≢◌, ℕ, ◌<◌, Bool, true, false, List, [], ◌∷◌, length, map, fold, get_or, refl, ap, ◌∙◌, arith}
use Rattle.std.proofs.lemmas.Bool.{eqb-false, ltb-true, and_parts, not-true}
use Rattle.std.specs.Prelude.{◌&&◌, ◌||◌, ◌==◌, not, nat_lt, slice_index, slice_index_or}
use Rattle.std.specs.List.{AllByRecursion}
use mathlib.Core.Bool.{beq}
use Rattle.scan_table.specs.Table.{step_of, accepted, AreBelow, IsTable}
use Rattle.ops_tokens.specs.Regex.{Regex, Never, after, nullable}
use Rattle.ops_tokens.specs.Bytes.{is_plain}
use Rattle.ops_tokens.specs.Spellings.{operator, whole, fraction, variable, some, plain, is_operator, is_whole, is_fraction, is_variable, is_atom, row_of}
use Rattle.ops_tokens.specs.Program.{program_table}
use Rattle.ops_tokens.proofs.Below.{all_below, all_below-at}
use Rattle.ops_tokens.proofs.Residuals.{states_fit, decides, follows}

abbrev pub are_below : ℕ → List ℕ → Bool
are_below limit items = all_below (λ k. nat_lt (slice_index items k) limit) (length items)

pub are_below-at : (limit : ℕ) (items : List ℕ) → are_below limit items ≡ true → AreBelow limit items
are_below-at limit items e k lt = ltb-true _ _ (all_below-at (λ i. nat_lt (slice_index items i) limit) (length items) k e lt)

pub is_table : IsTable 22 11 program_table
unfolding program_table all_below
is_table = (
  omega arith,
  are_below-at 11 program_table.classes refl,
  λ k lt. are_below-at 22 (slice_index_or program_table.next k []) (all_below-at (λ q. are_below 22 (slice_index_or program_table.next q [])) 22 k refl lt),
)

abbrev rows : List Regex
rows = operator ∷ whole ∷ fraction ∷ variable ∷ some plain ∷ []

-- a text that leads to each state
abbrev paths : List (List ℕ)
paths = ([]) ∷ (0 ∷ []) ∷ (33 ∷ []) ∷ (43 ∷ []) ∷ (45 ∷ []) ∷ (46 ∷ []) ∷ (47 ∷ []) ∷ (48 ∷ []) ∷ (60 ∷ []) ∷ (61 ∷ []) ∷ (62 ∷ []) ∷ (45 ∷ 45 ∷ []) ∷ (46 ∷ 48 ∷ []) ∷ (48 ∷ 46 ∷ []) ∷ (48 ∷ 69 ∷ []) ∷ (60 ∷ 33 ∷ []) ∷ (60 ∷ 60 ∷ []) ∷ (60 ∷ 61 ∷ []) ∷ (48 ∷ 69 ∷ 43 ∷ []) ∷ (48 ∷ 69 ∷ 48 ∷ []) ∷ (60 ∷ 33 ∷ 62 ∷ []) ∷ (60 ∷ 61 ∷ 62 ∷ []) ∷ []

-- what is left of the rows in each state
abbrev meanings : List (List Regex)
meanings = map (λ path. map (λ r. fold after r path) rows) paths

table_fits : states_fit program_table 22 meanings ≡ true
unfolding program_table all_below
table_fits = refl

pub accepted-row : (s : List ℕ) → AllByRecursion (λ b. b < 256) s → accepted program_table s ≡ row_of s
unfolding is_operator is_whole is_fraction is_variable is_atom
accepted-row s bytes = decides program_table 22 meanings rows table_fits (omega arith) refl s bytes

-- of the first four rows, which may hold together: the first and the fourth alone
abbrev pub are_apart : (o w f v : Bool) → Bool
are_apart o w f v = not (w && o) && (not (f && o) && (not (f && w) && (not (v && w) && not (v && f))))

abbrev rows_apart : List Regex → Bool
rows_apart rs = are_apart (nullable (get_or rs 0 Never)) (nullable (get_or rs 1 Never)) (nullable (get_or rs 2 Never)) (nullable (get_or rs 3 Never))

states_apart : all_below (λ q. rows_apart (get_or meanings q [])) 22 ≡ true
unfolding all_below
states_apart = refl

-- no state is one in which two others do
pub atoms_apart : (s : List ℕ) → AllByRecursion (λ b. b < 256) s → are_apart (is_operator s) (is_whole s) (is_fraction s) (is_variable s) ≡ true
unfolding is_operator is_whole is_fraction is_variable
atoms_apart s bytes =
    let along = follows program_table 22 meanings table_fits s 0 (omega arith) bytes in
    ap rows_apart along.1 ∙ all_below-at (λ q. rows_apart (get_or meanings q [])) 22 (fold (step_of program_table) 0 s) states_apart along.0

steps_stay : all_below (λ q. all_below (λ b. nat_lt (step_of program_table q b) 22 && not (step_of program_table q b == 0)) 256) 22 ≡ true
unfolding program_table all_below
steps_stay = refl

steps_plain : all_below (λ q. all_below (λ b. beq (step_of program_table q b == 1) (q == 1 || not (is_plain b))) 256) 22 ≡ true
unfolding program_table all_below
steps_plain = refl

kinds_some : all_below (λ q. beq (slice_index program_table.kinds q == 0) (q == 0 || q == 1)) 22 ≡ true
unfolding program_table all_below
kinds_some = refl

beq-is : (a b : Bool) → beq a b ≡ true → a ≡ b
beq-is true true e = refl
beq-is false false e = refl
beq-is true false e = absurd cc
beq-is false true e = absurd cc

-- each byte leads to another state of the table than the start
pub step-stays : (q b : ℕ) → q < 22 → b < 256 → (step_of program_table q b < 22) × (step_of program_table q b ≢ 0)
step-stays q b state byte =
    let row = all_below-at (λ p. all_below (λ c. nat_lt (step_of program_table p c) 22 && not (step_of program_table p c == 0)) 256) 22 q steps_stay state in
    let both = and_parts (nat_lt (step_of program_table q b) 22) (not (step_of program_table q b == 0)) (all_below-at (λ c. nat_lt (step_of program_table q c) 22 && not (step_of program_table q c == 0)) 256 b row byte) in
    (ltb-true _ _ both.0, eqb-false _ _ (not-true _ both.1))

-- state 1 is where a byte that is not plain leads, and is never left
pub step-plain : (q b : ℕ) → q < 22 → b < 256 → (step_of program_table q b == 1) ≡ (q == 1 || not (is_plain b))
step-plain q b state byte =
    let row = all_below-at (λ p. all_below (λ c. beq (step_of program_table p c == 1) (p == 1 || not (is_plain c))) 256) 22 q steps_plain state in
    beq-is _ _ (all_below-at (λ c. beq (step_of program_table q c == 1) (q == 1 || not (is_plain c))) 256 b row byte)

-- only the start and state 1 accept nothing
pub kind-some : (q : ℕ) → q < 22 → (slice_index program_table.kinds q == 0) ≡ (q == 0 || q == 1)
kind-some q state = beq-is _ _ (all_below-at (λ p. beq (slice_index program_table.kinds p == 0) (p == 0 || p == 1)) 22 q kinds_some state)
