-- A flag that stands is given `true`.
use Rattle.std.proofs.Common.{◌≡◌, Bool, cond, true, false, List, [], ◌∷◌, map, codes, Option, Some, None, is_some, length, refl, sym, ap, arith}
use Rattle.std.specs.Prelude.{if◌then◌else◌, nat_le, unwrap_or}
use Rattle.std.specs.List.{slice_get}
use Rattle.std.specs.Str.{bytes_eq}
use Rattle.std.proofs.lemmas.Bool.{le-leb, true≢false}
use Rattle.ops_jobs.specs.CommandLine.{Piece, Word, file, is_flag, is_option, is_raised, pieces_of, value_of, values_of}
use Rattle.ops_jobs.specs.Laws.{Spells, apart, attached, closed, named, nothing, raised}
use Rattle.ops_jobs.proofs.EachOption.{each_flag, each_option}
use Rattle.ops_jobs.proofs.Spelling.{spelled_as_read}

option_not_flag : (name : Word) → is_option name ≡ true → (flag : Word) → is_flag flag ≡ true → bytes_eq name flag ≡ false
option_not_flag = each_option (λ name. (flag : Word) → is_flag flag ≡ true → bytes_eq name flag ≡ false)
    (each_flag (λ flag. bytes_eq (codes "match") flag ≡ false) refl refl refl refl) (each_flag (λ flag. bytes_eq (codes "workers") flag ≡ false) refl refl refl refl)
    (each_flag (λ flag. bytes_eq (codes "lines") flag ≡ false) refl refl refl refl) (each_flag (λ flag. bytes_eq (codes "limit") flag ≡ false) refl refl refl refl)

files_have_no_values : (flag : Word) (names : List Word) → values_of flag (map file names) ≡ []
files_have_no_values flag [] = refl
files_have_no_values flag (name ∷ names) = files_have_no_values flag names

none_first : (v : Word) (vs : List Word) → [] ≡ v ∷ vs → v ≡ codes "true"
none_first v vs e =
    let bad : ◌≡◌ {A = Option Word} None (Some v) = ap (λ (xs : List Word). slice_get xs 0) e in
    absurd (true≢false (sym (ap is_some bad)))

module _ (flag : Word) (is : is_flag flag ≡ true) where
  first_is_true : (words : List Word) (pieces : List Piece) → Spells words pieces → (v : Word) (vs : List Word) → values_of flag pieces ≡ v ∷ vs → v ≡ codes "true"
  first_is_true _ _ nothing v vs e = none_first v vs e
  first_is_true _ _ (attached option value words pieces known rest) v vs e =
      first_is_true words pieces rest v vs (rw (option_not_flag option known flag is) at e)
  first_is_true _ _ (apart option value words pieces known plain rest) v vs e =
      first_is_true words pieces rest v vs (rw (option_not_flag option known flag is) at e)
  first_is_true _ _ (raised other words pieces known rest) v vs e = go (bytes_eq other flag) e (first_is_true words pieces rest v vs)
    where
      go : (t : Bool) → cond t (codes "true" ∷ values_of flag pieces) (values_of flag pieces) ≡ v ∷ vs
          → (values_of flag pieces ≡ v ∷ vs → v ≡ codes "true") → v ≡ codes "true"
      go true same others = sym (cc)
      go false same others = others same
  first_is_true _ _ (named name words pieces plain rest) v vs e = first_is_true words pieces rest v vs e
  first_is_true _ _ (closed names) v vs e = none_first v vs (rw (files_have_no_values flag names) at e)

  pub flag_is_true : (words : List Word) (pieces : List Piece) → pieces_of words ≡ Some pieces
      → unwrap_or (value_of flag pieces) (codes "false") ≡ (if is_raised flag pieces then codes "true" else codes "false")
  flag_is_true words pieces are = go (values_of flag pieces) refl
    where
      go : (values : List Word) → values_of flag pieces ≡ values
          → unwrap_or (value_of flag pieces) (codes "false") ≡ (if is_raised flag pieces then codes "true" else codes "false")
      go [] none = rw none refl
      go (v ∷ vs) some =
          let stands : nat_le 1 (length (v ∷ vs)) ≡ true = le-leb 1 (length (v ∷ vs)) (omega arith) in
          rw (some, stands) (first_is_true words pieces ((spelled_as_read words pieces).0 are) v vs some)
