-- What `clap` finds, and when it refuses, by the pieces of the words.
use Rattle.std.proofs.Common.{◌≡◌, ◌∙◌, Bool, true, false, List, [], ◌∷◌, length, Option, Some, None, String, codes, inl, inr, refl, sym, ap, subst, option_map}
use Rattle.std.specs.Prelude.{nat_le, option_and_then, slice_get}
use Rattle.std.proofs.lemmas.Bool.{and_parts, true≢false}
use Rattle.std.proofs.lemmas.Str.{IsUtf8-string_bytes}
use Rattle.clap.specs.Matches.{found_of}
use Rattle.clap.specs.Values.{kind_of}
use Rattle.clap.specs.Walk.{Row, Text, rows_of}
use Rattle.clap.specs.Simple.{App, HasMatchesOf, is_simple, matches_of}
use Rattle.clap.specs.Kinds.{HasKind, IsAmong, Kinds}
use Rattle.clap.specs.Faults.{fault_of as clap_fault, is_simple_and_free}
use Rattle.clap.specs.declared.error.Error.{Error}
use Rattle.clap.specs.declared.error.kind.ErrorKind.{ErrorKind}
use Rattle.clap.specs.declared.parser.matches.ArgMatches.{ArgMatches}
use Rattle.clap.proofs.WalkLemmas.{first_value-rows, one_text-rows, raw_values-rows}
use Rattle.ops_jobs.specs.CommandLine.{Piece, Word, files_of, is_complete, pieces_of, values_of}
use Rattle.ops_jobs.specs.Words.{word_bytes}
use Rattle.ops_jobs.proofs.Flags.{flag_is_true}
use Rattle.ops_words.specs.Command.{app}
use Rattle.ops_words.specs.Found.{Finds, FindsNothing, fault_of}
use Rattle.ops_words.specs.declared.faults.WordsFault.TheVariants.{Usage, OutOfMemory}
use Rattle.ops_words.proofs.Lookups.{not_files, not_flag}
use Rattle.ops_words.proofs.FoundRows.{row_of, row_with}
use Rattle.ops_words.proofs.Ends.{Ends}
use Rattle.ops_words.proofs.Endings.{does_fail}
use Rattle.ops_words.proofs.Walks.{Answers, AreTexts, Fits, walk_answers}

pub texts_are : {A : Type 0} (words : List (String A)) → AreTexts (word_bytes words)
texts_are [] = tt
texts_are (word ∷ words) = (IsUtf8-string_bytes word, texts_are words)

-- ---- where nothing fails

first_in_row : (id : Text) (values : List Text) → option_and_then (λ (r : Row). slice_get r.values 0) (row_with id values) ≡ slice_get values 0
first_in_row id [] = refl
first_in_row id (v ∷ vs) = refl

all_in_row : (id : Text) (values : List Text) → nat_le 1 (length values) ≡ true → option_map (λ (r : Row). r.values) (row_with id values) ≡ Some values
all_in_row id [] e = absurd (true≢false (sym e))
all_in_row id (v ∷ vs) e = refl

finds_pieces : (words : List Word) (pieces : List Piece) (m : ArgMatches) → pieces_of words ≡ Some pieces → is_complete pieces ≡ true
    → Ends pieces (rows_of (found_of m)) → Finds words m
finds_pieces words pieces m are complete ends = record {
  pieces = pieces;
  are = are;
  complete = complete;
  values = λ name known.
      let row : row_of name (rows_of (found_of m)) ≡ row_with name (values_of name pieces) = ends.row name (not_flag name known) ∙ rw (not_files name known) refl in
      first_value-rows (found_of m) name ∙ (ap (option_and_then (λ (r : Row). slice_get r.values 0)) row ∙ first_in_row name (values_of name pieces));
  flags = λ flag known. one_text-rows (found_of m) flag ∙ (ends.flag flag known ∙ ap Some (flag_is_true flag known words pieces are));
  files = raw_values-rows (found_of m) (codes "file")
      ∙ (ap (option_map (λ (r : Row). r.values)) (ends.row (codes "file") refl) ∙ all_in_row (codes "file") (files_of pieces) (and_parts _ _ complete).1);
}

pub finds_words : (words : List Word) (a : App) (m : ArgMatches) → AreTexts words → a ≡ app → HasMatchesOf a words m
    → (is_simple_and_free a ≡ true → clap_fault a words ≡ []) → Finds words m
finds_words words a m texts is matches passes =
    go (pieces_of words) refl (walk_answers words texts) (sym (ap (λ x. clap_fault x words) is) ∙ passes (ap is_simple_and_free is))
    ((matches (ap is_simple is)).0 ∙ ap (λ x. matches_of x words) is)
  where
    by_test : (pieces : List Piece) → pieces_of words ≡ Some pieces → (t : Bool) → is_complete pieces ≡ t → Fits t (clap_fault app words) pieces (matches_of app words)
        → clap_fault app words ≡ [] → rows_of (found_of m) ≡ matches_of app words → Finds words m
    by_test pieces are true complete fits none rows = finds_pieces words pieces m are complete (subst (Ends pieces) (sym rows) fits.1)
    by_test pieces are false incomplete fails none rows = absurd (true≢false (sym (sym (ap does_fail none) ∙ fails)))

    go : (read : Option (List Piece)) → pieces_of words ≡ read → Answers read [] (clap_fault app words) (matches_of app words)
        → clap_fault app words ≡ [] → rows_of (found_of m) ≡ matches_of app words → Finds words m
    go None are fails none rows = absurd (true≢false (sym (sym (ap does_fail none) ∙ fails)))
    go (Some pieces) are fits none rows = by_test pieces are (is_complete pieces) refl fits none rows

-- ---- where something fails

among_fails : (k : ErrorKind) (kinds : Kinds) → IsAmong k kinds → kinds ≡ [] → ⊥
among_fails k [] among none = among
among_fails k (x ∷ xs) among none = true≢false (ap does_fail none)

pub refuses_words : (words : List Word) (a : App) (e : Error) → AreTexts words → a ≡ app → (is_simple_and_free a ≡ true → HasKind (clap_fault a words) e)
    → fault_of (kind_of e) ≡ Usage → FindsNothing words
refuses_words words a e texts is kinds usage pieces are =
    by_kind (subst (λ x. HasKind (clap_fault x words) e) is (kinds (ap is_simple_and_free is)))
  where
    by_test : (t : Bool) → is_complete pieces ≡ t → Fits t (clap_fault app words) pieces (matches_of app words)
        → (clap_fault app words ≡ [] → ⊥) → is_complete pieces ≡ false
    by_test true complete fits some = absurd (some fits.0)
    by_test false incomplete fits some = incomplete

    by_kind : HasKind (clap_fault app words) e → is_complete pieces ≡ false
    by_kind (inl memory) = let other : OutOfMemory ≡ Usage = sym (ap fault_of memory) ∙ usage in cc
    by_kind (inr among) =
        by_test (is_complete pieces) refl (subst (λ read. Answers read [] (clap_fault app words) (matches_of app words)) are (walk_answers words texts))
        (among_fails (kind_of e) (clap_fault app words) among)
