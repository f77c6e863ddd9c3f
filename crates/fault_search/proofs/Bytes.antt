-- The state of a walk over bytes, one byte at a time.
use Rattle.std.proofs.Common.{◌≡◌, ℕ, ◌+◌, ◌<◌, ◌≤◌, List, [], ◌∷◌, ◌++◌, length, take, get_or, Bool, true, false, refl, ap, ◌∙◌, arith}
use Rattle.std.specs.Prelude.{◌==◌, if◌then◌else◌}
use Rattle.std.proofs.lemmas.List.{take_more}
use Rattle.std.proofs.lemmas.Bool.Decides.{nat_tests}
use Rattle.fault_search.specs.declared.forms.State.{State}
use Rattle.fault_search.specs.declared.forms.Within.{Within}
use Rattle.fault_search.specs.declared.forms.Within.TheVariants as within
use Rattle.fault_search.specs.Forms.{after_opening, after_closing, after_word, after_by, after_byte, after_bytes}

-- this state comes a byte after that one
pub record IsNext (s t : State) : Type 0 where
  pub place : t.at ≡ s.at + 1
  pub depth : t.depth ≤ s.depth + 1
  pub first : (0 < s.depth → s.first < s.at) → 0 < t.depth → t.first < t.at

either : (P : State → Type 0) (b : Bool) (x y : State) → P x → P y → P (if b then x else y)
either P true x y h k = h
either P false x y h k = k

earlier : (n at first : ℕ) → (0 < n → first < at) → (if n == 0 then at else first) < at + 1
earlier n at first h = grind (arith, nat_tests)

opening : (s : State) → IsNext s (after_opening s)
opening s = record { place = refl; depth = omega arith; first = λ h k. earlier s.depth s.at s.first h }

closing : (s : State) → IsNext s (after_closing s)
closing s = record { place = refl; depth = omega arith; first = λ h k. omega (arith, h, k) }

same : (s : State) (w : Within) → IsNext s (record { at = s.at + 1; depth = s.depth; first = s.first; within = w })
same s w = record { place = refl; depth = omega arith; first = λ h k. omega (arith, h k) }

word_next : (s : State) (b : ℕ) → IsNext s (after_word s b)
word_next s b =
    let P : State → Type 0 = IsNext s in
    either P (b == 40) (after_opening s) _ (opening s)
    (either P (b == 41) (after_closing s) _ (closing s)
    (either P (b == 59) _ _ (same s within.Comment)
    (either P (b == 124) _ _ (same s within.Quotes) (same s s.within))))

by_next : (w : Within) (s : State) (b : ℕ) → IsNext s (after_by w s b)
by_next within.Words s b = word_next s b
by_next within.Comment s b = same s (if b == 10 then within.Words else within.Comment)
by_next within.Quotes s b = same s (if b == 124 then within.Words else within.Quotes)

pub byte_next : (s : State) (b : ℕ) → IsNext s (after_byte s b)
byte_next s b = by_next s.within s b

after_append : (s : State) (xs ys : List ℕ) → after_bytes s (xs ++ ys) ≡ after_bytes (after_bytes s xs) ys
after_append s [] ys = refl
after_append s (x ∷ xs) ys = after_append (after_byte s x) xs ys

-- one more byte
pub after_more : (s : State) (xs : List ℕ) (i : ℕ) → i < length xs → after_bytes s (take (i + 1) xs) ≡ after_byte (after_bytes s (take i xs)) (get_or xs i 0)
after_more s xs i h = ap (after_bytes s) (take_more xs i 0 h) ∙ after_append s (take i xs) (get_or xs i 0 ∷ [])
