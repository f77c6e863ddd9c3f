-- The kind of an atom follows from its row, and the token from what stands at its place.
use Rattle.std.proofs.Common.{◌≡◌, ℕ, ◌+◌, ◌-◌, Bool, true, false, cond, List, length, take, drop, Some, Ok, None, refl, sym, ap, ◌∙◌, arith}
use Rattle.std.specs.Prelude.{slice_index}
use Rattle.std.specs.List.{prefix_len}
use Rattle.std.proofs.lemmas.List.{length-take}
use Rattle.std.proofs.lemmas.List.Sums.{prefix_len-le-length}
use Rattle.std.proofs.lemmas.Bool.{cond-true, cond-false, eq-eqb, ne_eqb}
use Rattle.ops_tokens.specs.Bytes.{is_plain}
use Rattle.ops_tokens.specs.Spellings.{is_operator, is_whole, is_fraction, is_variable, is_atom, row_of}
use Rattle.ops_tokens.specs.Numbers.{whole_value}
use Rattle.ops_tokens.specs.Runs.{kind_of}
use Rattle.ops_tokens.specs.declared.table.AtomKind.TheVariants as kind
use Rattle.ops_tokens.specs.Tokens.{number, atom, begun, bracket_of, standing, run_at}

second : (a b c d e : Bool) → kind_of (cond a 1 (cond b 2 (cond c 3 (cond d 4 (cond e 5 0))))) ≡ Some kind.Whole → (a ≡ false) × (b ≡ true)
second true b c d e h = absurd cc
second false true c d e h = (refl, refl)
second false false true d e h = absurd cc
second false false false true e h = absurd cc
second false false false false true h = absurd cc
second false false false false false h = absurd cc

-- a run of the second row is a whole number
pub atom-whole : (first past : ℕ) (s : List ℕ) → past ≡ first + length s → kind_of (row_of s) ≡ Some kind.Whole → number (whole_value s) first past ≡ atom first s
atom-whole first past s end kind_is =
    let is = second (is_operator s) (is_whole s) (is_fraction s) (is_variable s) (is_atom s) kind_is in
    ap (number (whole_value s) first) end ∙ sym (cond-true (is_whole s) (number (whole_value s) first (first + length s)) _ is.1) ∙ sym (cond-false (is_operator s) _ _ is.0)

-- the run, cut out of the text by its places
pub slice-run : (text : List ℕ) (first past : ℕ) → past ≡ first + length (run_at text first) → take (past - first) (drop first text) ≡ run_at text first
slice-run text first past end =
    let n : past - first ≡ prefix_len is_plain (drop first text) = omega (arith, length-take (prefix_len is_plain (drop first text)) (drop first text), prefix_len-le-length is_plain (drop first text)) in
    ap (λ (k : ℕ). take k (drop first text)) n

pub standing-end : (text : List ℕ) (first : ℕ) → first ≡ length text → Ok None ≡ standing text first
standing-end text first e = sym (cond-true _ _ _ (eq-eqb first (length text) e))

pub standing-begun : (text : List ℕ) (first : ℕ) → (first ≡ length text → ⊥) → begun text first (slice_index text first) (bracket_of (slice_index text first)) ≡ standing text first
standing-begun text first ne = sym (cond-false _ _ _ (ne_eqb first (length text) ne))
