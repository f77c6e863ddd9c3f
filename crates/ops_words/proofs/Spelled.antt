-- The number that a word spells.
use Rattle.std.proofs.Common.{◌≡◌, ◌<◌, ◌^◌, ℕ, Bool, true, false, length, Err, refl, arith, rules}
use Rattle.std.specs.List.{list_all}
use Rattle.std.specs.Char.{is_ascii_digit}
use Rattle.std.specs.Str.Parse.{ParsesUnsigned, digits_value}
use Rattle.std.proofs.lemmas.Bool.{and_parts, leb-true}
use Rattle.std.proofs.lemmas.Str.Parse.{IsNumeralModel, numerals_by_value, parse_digits}
use Rattle.ops_jobs.specs.CommandLine.{Word, is_number}

own : IsNumeralModel (λ digits. list_all is_ascii_digit digits ≡ true) (digits_value 10)
own = numerals_by_value _ (search rules)

-- a word that can't be parsed spells none
pub not_parsed : {E : Type 0} (least greatest : ℕ) (word : Word) (e : E) → greatest < 2 ^ 64 → ParsesUnsigned 64 10 word (Err e) → is_number least greatest word ≡ false
not_parsed least greatest word e fits h = go (is_number least greatest word) refl
  where
    go : (t : Bool) → is_number least greatest word ≡ t → is_number least greatest word ≡ false
    go false is = is
    go true is =
        let four = and_parts _ _ is in
        let three = and_parts _ _ four.0 in
        let two = and_parts _ _ three.0 in
        let one = and_parts _ _ two.0 in
        let some = leb-true 1 (length word) one.1 in
        let most = leb-true (digits_value 10 word) greatest four.1 in
        absurd (parse_digits own 64 word (Err e) h one.0 (omega arith, omega arith))
