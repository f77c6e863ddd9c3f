-- The bytes between tokens are white space and comments.
use Rattle.std.proofs.Common.{◌≡◌, ℕ, suc, ◌<◌, ◌≤◌, Bool, true, false, cond, List, [], ◌∷◌, length, fold, refl, sym, ap, ◌∙◌, arith}
use Rattle.std.specs.Prelude.{◌==◌, ◌↔◌, not}
use Rattle.std.specs.List.{AllByRecursion}
use Rattle.std.proofs.lemmas.Bool.{false≢true}
use Rattle.ops_tokens.specs.Regex.{Regex, Never, Or, Then, Many, One, nullable, after, matches, same}
use Rattle.ops_tokens.specs.Bytes.{is_white}
use Rattle.ops_tokens.specs.Gaps.{white, comment, IsGap}
use Rattle.ops_tokens.specs.Tokens.{gap}
use Rattle.ops_tokens.proofs.Below.{all_below, all_below-at}
use Rattle.ops_tokens.proofs.Residuals.{same-is}
use Rattle.ops_tokens.proofs.Meaning.{matches-is}

-- what may follow outside a comment, and inside one: the comment's rest, and where white space came in it, that or a gap
abbrev outside : Regex
outside = Many (Or white comment)

abbrev within : Regex
within = Then (Many (Or (One 0 9) (One 11 255))) outside

abbrev either_way : Regex
either_way = Or within outside

unfoldable after_outside : ℕ → Regex
after_outside b = cond (is_white b) outside (cond (b == 59) within Never)

unfoldable after_within : ℕ → Regex
after_within b = cond (b == 10) outside (cond (is_white b) either_way within)

steps_outside : all_below (λ b. same (after outside b) (after_outside b)) 256 ≡ true
unfolding all_below after_outside
steps_outside = refl

steps_within : all_below (λ b. same (after within b) (after_within b)) 256 ≡ true
unfolding all_below after_within
steps_within = refl

steps_either : all_below (λ b. same (after either_way b) (after_within b)) 256 ≡ true
unfolding all_below after_within
steps_either = refl

-- gaps and nothing else, byte by byte
abbrev all_gap : Bool → List ℕ → Bool
all_gap inside [] = true
all_gap inside (b ∷ s) = cond inside (all_gap (not (b == 10)) s) (cond (is_white b) (all_gap false s) (cond (b == 59) (all_gap true s) false))

never : (s : List ℕ) → nullable (fold after Never s) ≡ false
never [] = refl
never (b ∷ s) = never s

abbrev AreMatched : List ℕ → Type 0
AreMatched s = (matches outside s ≡ all_gap false s) × (matches within s ≡ all_gap true s) × (matches either_way s ≡ all_gap true s)

pick_outside : (w c : Bool) (s : List ℕ) → AreMatched s → matches (cond w outside (cond c within Never)) s ≡ cond w (all_gap false s) (cond c (all_gap true s) false)
pick_outside true c s is = is.0
pick_outside false true s is = is.1
pick_outside false false s is = never s

pick_within : (l w : Bool) (s : List ℕ) → AreMatched s → matches (cond l outside (cond w either_way within)) s ≡ all_gap (not l) s
pick_within true w s is = is.0
pick_within false true s is = is.2
pick_within false false s is = is.1

-- the expressions match what is a gap byte by byte
are_matched : (s : List ℕ) → AllByRecursion (λ b. b < 256) s → AreMatched s
unfolding after_outside after_within
are_matched [] bytes = (refl, refl, refl)
are_matched (b ∷ s) bytes =
    let rest = are_matched s bytes.1 in (
      ap (λ (r : Regex). matches r s) (same-is _ _ (all_below-at (λ c. same (after outside c) (after_outside c)) 256 b steps_outside bytes.0)) ∙ pick_outside (is_white b) (b == 59) s rest,
      ap (λ (r : Regex). matches r s) (same-is _ _ (all_below-at (λ c. same (after within c) (after_within c)) 256 b steps_within bytes.0)) ∙ pick_within (b == 10) (is_white b) s rest,
      ap (λ (r : Regex). matches r s) (same-is _ _ (all_below-at (λ c. same (after either_way c) (after_within c)) 256 b steps_either bytes.0)) ∙ pick_within (b == 10) (is_white b) s rest,
    )

gap-byte : (inside w c l : Bool) (s : List ℕ) → ((i : Bool) → all_gap i s ≡ true → gap i s ≡ length s)
    → cond inside (all_gap l s) (cond w (all_gap false s) (cond c (all_gap true s) false)) ≡ true → cond inside (suc (gap l s)) (cond w (suc (gap false s)) (cond c (suc (gap true s)) 0)) ≡ suc (length s)
gap-byte true w c l s rest e = ap (λ (n : ℕ). suc n) (rest l e)
gap-byte false true c l s rest e = ap (λ (n : ℕ). suc n) (rest false e)
gap-byte false false true l s rest e = ap (λ (n : ℕ). suc n) (rest true e)
gap-byte false false false l s rest e = absurd (false≢true e)

gap-whole : (s : List ℕ) (inside : Bool) → all_gap inside s ≡ true → gap inside s ≡ length s
gap-whole [] inside e = refl
gap-whole (b ∷ s) inside e = gap-byte inside (is_white b) (b == 59) (not (b == 10)) s (gap-whole s) e

whole-byte : (inside w c l : Bool) (s : List ℕ) → ((i : Bool) → gap i s ≡ length s → all_gap i s ≡ true)
    → cond inside (suc (gap l s)) (cond w (suc (gap false s)) (cond c (suc (gap true s)) 0)) ≡ suc (length s) → cond inside (all_gap l s) (cond w (all_gap false s) (cond c (all_gap true s) false)) ≡ true
whole-byte true w c l s rest e = rest l (omega arith)
whole-byte false true c l s rest e = rest false (omega arith)
whole-byte false false true l s rest e = rest true (omega arith)
whole-byte false false false l s rest e = absurd (omega arith)

whole-gap : (s : List ℕ) (inside : Bool) → gap inside s ≡ length s → all_gap inside s ≡ true
whole-gap [] inside e = refl
whole-gap (b ∷ s) inside e = whole-byte inside (is_white b) (b == 59) (not (b == 10)) s (whole-gap s) e

-- a gap reaches the end of the bytes exactly where they are white space and comments
pub gap-end : (s : List ℕ) → AllByRecursion (λ b. b < 256) s → (gap false s ≡ length s) ↔ IsGap s
unfolding IsGap
gap-end s bytes = (
  λ e. (matches-is s outside).0 ((are_matched s bytes).0 ∙ whole-gap s false e),
  λ m. gap-whole s false (sym (are_matched s bytes).0 ∙ (matches-is s outside).1 m),
)

le-byte : (inside w c l : Bool) (s : List ℕ) → ((i : Bool) → gap i s ≤ length s) → cond inside (suc (gap l s)) (cond w (suc (gap false s)) (cond c (suc (gap true s)) 0)) ≤ suc (length s)
le-byte true w c l s rest = omega (arith, rest l)
le-byte false true c l s rest = omega (arith, rest false)
le-byte false false true l s rest = omega (arith, rest true)
le-byte false false false l s rest = omega arith

pub gap-le : (s : List ℕ) (inside : Bool) → gap inside s ≤ length s
gap-le [] inside = omega arith
gap-le (b ∷ s) inside = le-byte inside (is_white b) (b == 59) (not (b == 10)) s (gap-le s)
