-- The number that digits spell, digit by digit.
use Rattle.std.proofs.Common.{◌≡◌, ℕ, ◌+◌, ◌-◌, ◌*◌, ◌<◌, ◌≤◌, true, false, List, [], ◌∷◌, length, get_or, take, drop, fold, refl, ap, ◌∙◌, arith, inl, inr}
use Rattle.std.specs.Prelude.{take_while}
use Rattle.std.specs.List.{prefix_len}
use Rattle.std.proofs.lemmas.List.Sums.{fold_more, fold-append, prefix_len_is, prefix_len_stops}
use Rattle.std.proofs.lemmas.Bool.{cases_lt, both_ways}
use Rattle.std.proofs.Math.Seq.{take-add}
use Rattle.ops_tokens.specs.Bytes.{is_digit}
use Rattle.ops_tokens.specs.Numbers.{decimal}

pub decimal-none : (xs : List ℕ) → decimal (take 0 xs) ≡ 0
unfolding decimal
decimal-none xs = refl

pub decimal-more : (xs : List ℕ) (i : ℕ) → i < length xs → decimal (take (i + 1) xs) ≡ 10 * decimal (take i xs) + (get_or xs i 0 - 48)
unfolding decimal
decimal-more xs i lt = fold_more (λ (n b : ℕ). 10 * n + (b - 48)) 0 xs i 0 lt

grows : (a : ℕ) (xs : List ℕ) → a ≤ fold (λ (n b : ℕ). 10 * n + (b - 48)) a xs
grows a [] = omega arith
grows a (b ∷ xs) = omega (arith, grows (10 * a + (b - 48)) xs)

decimal-take-le : (xs : List ℕ) (i n : ℕ) → i ≤ n → decimal (take i xs) ≤ decimal (take n xs)
unfolding decimal
decimal-take-le xs i n le =
    let sum : n ≡ i + (n - i) = omega arith in
    let parts : decimal (take n xs) ≡ fold (λ (m b : ℕ). 10 * m + (b - 48)) (decimal (take i xs)) (take (n - i) (drop i xs)) =
    ap (λ (k : ℕ). decimal (take k xs)) sum ∙ ap decimal (take-add i (n - i) xs) ∙ fold-append (λ (m b : ℕ). 10 * m + (b - 48)) 0 (take i xs) (take (n - i) (drop i xs)) in
    rw parts (grows (decimal (take i xs)) (take (n - i) (drop i xs)))

abbrev pub AreDigits : List ℕ → ℕ → Type 0
AreDigits xs n = (k : ℕ) → k < n → is_digit (get_or xs k 0) ≡ true

-- the digits at the front end where no digit stands
pub digits_end : (xs : List ℕ) (i : ℕ) → i ≤ length xs → AreDigits xs i → (i < length xs → is_digit (get_or xs i 0) ≡ false) → decimal (take_while is_digit xs) ≡ decimal (take i xs)
digits_end xs i le digits stop = ap (λ (n : ℕ). decimal (take n xs)) (prefix_len_is is_digit xs i 0 le digits stop)

prefix_len-ge : (xs : List ℕ) (n : ℕ) → n ≤ length xs → AreDigits xs n → n ≤ prefix_len is_digit xs
prefix_len-ge xs n le digits =
    elim (cases_lt (prefix_len is_digit xs) n) [
      | inl lt ↦ absurd (both_ways _ (prefix_len_stops is_digit xs 0 (omega arith)) (digits (prefix_len is_digit xs) lt))
      | inr ge ↦ ge
    ]

-- what the first digits spell is no more than what all of them spell
pub too_large : (xs : List ℕ) (i limit : ℕ) → i < length xs → AreDigits xs i → is_digit (get_or xs i 0) ≡ true → (10 * decimal (take i xs) + (get_or xs i 0 - 48) < limit → ⊥) → decimal (take_while is_digit xs) < limit → ⊥
too_large xs i limit lt digits digit past below =
    let ge : i + 1 ≤ prefix_len is_digit xs = prefix_len-ge xs (i + 1) (omega arith) (λ k h. elim (cases_lt k i) [ inl a ↦ digits k a | inr b ↦ let e : k ≡ i = omega arith in rw e digit ]) in
    past (omega (arith, decimal-more xs i lt, decimal-take-le xs (i + 1) (prefix_len is_digit xs) ge))
