-- The table of whole numbers is a table, and accepts whole numbers alone.
use Rattle.std.proofs.Common.{◌≡◌, ◌≢◌, ℕ, ◌-◌, ◌<◌, ◌≤◌, Bool, true, false, cond, eqb, List, [], ◌∷◌, length, map, fold, refl, sym, ap, ◌∙◌, arith, Option, Some, None, inl, inr}
use Rattle.std.specs.Prelude.{slice_index_or}
use Rattle.std.specs.List.{AllByRecursion, slice_range}
use Rattle.std.proofs.lemmas.Bool.{cases_eq, eq-eqb, ne_eqb}
use Rattle.std.proofs.lemmas.List.{take_all}
use Rattle.scan_table.specs.Table.{accepted, IsTable, IsLongest}
use Rattle.ops_tokens.specs.Regex.{Regex, after}
use Rattle.ops_tokens.specs.Spellings.{whole, is_whole}
use Rattle.ops_tokens.specs.Whole.{whole_table}
use Rattle.ops_tokens.proofs.Below.{all_below, all_below-at}
use Rattle.ops_tokens.proofs.Program.{are_below, are_below-at}
use Rattle.ops_tokens.proofs.Residuals.{states_fit, decides}

pub is_table : IsTable 5 4 whole_table
unfolding whole_table all_below
is_table = (
  omega arith,
  are_below-at 4 whole_table.classes refl,
  λ k lt. are_below-at 5 (slice_index_or whole_table.next k []) (all_below-at (λ q. are_below 5 (slice_index_or whole_table.next q [])) 5 k refl lt),
)

-- a text that leads to each state
abbrev paths : List (List ℕ)
paths = ([]) ∷ (0 ∷ []) ∷ (43 ∷ []) ∷ (48 ∷ []) ∷ (48 ∷ 46 ∷ []) ∷ []

-- what is left of a whole number in each state
abbrev meanings : List (List Regex)
meanings = map (λ path. fold after whole path ∷ []) paths

table_fits : states_fit whole_table 5 meanings ≡ true
unfolding whole_table all_below
table_fits = refl

accepted-whole : (s : List ℕ) → AllByRecursion (λ b. b < 256) s → accepted whole_table s ≡ cond (is_whole s) 1 0
unfolding is_whole
accepted-whole s bytes = decides whole_table 5 meanings (whole ∷ []) table_fits (omega arith) refl s bytes

is_one : (b : Bool) (n : ℕ) → n ≡ cond b 1 0 → n ≢ 0 → b ≡ true
is_one true n e ne = refl
is_one false n e ne = absurd (ne e)

is_none : (b : Bool) (n : ℕ) → n ≡ cond b 1 0 → n ≡ 0 → b ≡ false
is_none true n e zero = absurd (omega arith)
is_none false n e zero = refl

all_of : (s : List ℕ) (n : ℕ) → n ≡ length s → slice_range s 0 n ≡ s
all_of s n e = take_all (n - 0) s (omega arith)

-- the longest prefix that is accepted ends at the end
abbrev pub reaches_end : List ℕ → Option (ℕ × ℕ) → Bool
reaches_end s None = false
reaches_end s (Some (end, kind)) = eqb end (length s)

nothing_accepted : (s : List ℕ) → AllByRecursion (λ b. b < 256) s → accepted whole_table (slice_range s 0 (length s)) ≡ 0 → is_whole s ≡ false
nothing_accepted s bytes none = is_none (is_whole s) (accepted whole_table s) (accepted-whole s bytes) (sym (ap (accepted whole_table) (all_of s (length s) refl)) ∙ none)

none_whole : accepted whole_table [] ≡ 0
unfolding whole_table
none_whole = refl

-- it does exactly for a whole number
pub longest-whole : (s : List ℕ) → AllByRecursion (λ b. b < 256) s → (r : Option (ℕ × ℕ)) → IsLongest whole_table s 0 r → reaches_end s r ≡ is_whole s
longest-whole [] bytes None h = sym (nothing_accepted [] bytes none_whole)
longest-whole (b ∷ s) bytes None h = sym (nothing_accepted (b ∷ s) bytes (h (length (b ∷ s)) (omega arith) (omega arith)))
longest-whole s bytes (Some (end, kind)) h =
    elim (cases_eq end (length s)) [
      | inl e ↦ eq-eqb end (length s) e ∙ sym (is_one (is_whole s) (accepted whole_table s) (accepted-whole s bytes) (λ zero. h.2 (sym h.3 ∙ ap (accepted whole_table) (all_of s end e) ∙ zero)))
      | inr ne ↦ ne_eqb end (length s) ne ∙ sym (nothing_accepted s bytes (h.4 (length s) (let le : end ≤ length s = h.1 in omega arith) (omega arith)))
    ]
