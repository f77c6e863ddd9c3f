-- The rows at the end of the words, where each flag has its default if it does not stand.
use Rattle.std.proofs.Common.{◌≡◌, ◌∙◌, ◌||◌, Bool, cond, true, false, List, [], ◌∷◌, ◌++◌, Some, None, codes, refl, sym, ap, subst, fold}
use Rattle.std.specs.Prelude.{option_and_then, slice_get, unwrap_or}
use Rattle.std.specs.List.{list_all}
use Rattle.std.specs.Str.{bytes_eq}
use Rattle.std.proofs.lemmas.Bool.{and_parts, true≢false}
use Rattle.std.proofs.lemmas.List.Folds.{find-append}
use Rattle.clap.specs.Walk.{Held, Row, Rule, Text, finished, has_row, is_empty, more_values, one_of, row_text, settled, with_default}
use Rattle.clap.specs.Faults.{default_fault, defaults_fault, given_default_fault}
use Rattle.clap.specs.declared.builder.value_parser.Reading.TheVariants.{AsWritten}
use Rattle.clap.specs.declared.parser.matches.ValueSource.TheVariants.{DefaultValue}
use Rattle.clap.proofs.SimpleLemmas.{is_nil}
use Rattle.ops_jobs.specs.CommandLine.{Piece, is_flag, value_of, values_of}
use Rattle.ops_jobs.proofs.EachOption.{each_flag}
use Rattle.ops_words.proofs.Lookups.{built_files, built_flag, options, top}
use Rattle.ops_words.proofs.FoundRows.{Shows, at_row-none, new_row, row_of, row_with, said, text_is_itself, there_or_not}

-- ---- the defaults

either : {X : Type 0} (t : Bool) (x : X) → cond t x x ≡ x
either true x = refl
either false x = refl

-- no default fails
pub no_fault : (rs : List Rule) (rows : List Row) → list_all (λ a. is_empty (given_default_fault a a.defaults)) rs ≡ true → defaults_fault rows rs ≡ []
unfolding defaults_fault
no_fault [] rows e = refl
no_fault (a ∷ rs) rows e =
    let parts = and_parts (is_empty (given_default_fault a a.defaults)) _ e in
    let none : given_default_fault a a.defaults ≡ [] = is_nil (given_default_fault a a.defaults) parts.0 in
    let passes : default_fault rows a ≡ [] = rw none (either _ []) in
    rw passes (no_fault rs (with_default rows a) parts.1)

-- arguments without a default leave the rows
no_defaults : (rs : List Rule) (rows : List Row) → list_all (λ a. is_empty a.defaults) rs ≡ true → fold with_default rows rs ≡ rows
no_defaults [] rows e = refl
no_defaults (a ∷ rs) rows e =
    let parts = and_parts (is_empty a.defaults) _ e in
    let none : a.defaults ≡ [] = is_nil a.defaults parts.0 in
    let stays : with_default rows a ≡ rows = rw none (either (has_row a.id rows) rows) in
    rw stays (no_defaults rs rows parts.1)

-- and the flags have one
abbrev defaulted : List Row → List Row
defaulted rows = with_default (with_default (with_default (with_default rows (built_flag (codes "gen"))) (built_flag (codes "net"))) (built_flag (codes "why"))) (built_flag (codes "overlap"))

finished_rows : (h : Held) → finished top.rules h ≡ defaulted (settled top.rules h).rows
finished_rows h =
    ap (λ rows. fold with_default rows (built_flag (codes "gen") ∷ built_flag (codes "net") ∷ built_flag (codes "why") ∷ built_flag (codes "overlap") ∷ built_files ∷ [])) (no_defaults options (settled top.rules h).rows refl)
    ∙ no_defaults (built_files ∷ []) (defaulted (settled top.rules h).rows) refl

-- ---- the rows after the default of one flag

abbrev flag_row : Text → Row
flag_row name = record { id = name; values = codes "false" ∷ []; count = None; source = Some DefaultValue; reading = AsWritten }

row_behind : (id : Text) (rows : List Row) (r : Row) → bytes_eq r.id id ≡ false → row_of id (rows ++ r ∷ []) ≡ row_of id rows
row_behind id [] r differs = rw differs refl
row_behind id (x ∷ rows) r differs = ap (λ o. cond (bytes_eq x.id id) (Some x) o) (row_behind id rows r differs)

row_last : (id : Text) (rows : List Row) (r : Row) → row_of id rows ≡ None → row_of id (rows ++ r ∷ []) ≡ row_of id (r ∷ [])
row_last id rows r none = find-append (λ x. bytes_eq x.id id) rows (r ∷ []) ∙ rw none refl

-- the rows of other names stay, and the flag has its first value, or `false`
record Defaults (name : Text) (values : List Text) (before after : List Row) : Type 0 where
  other : (id : Text) → bytes_eq name id ≡ false → row_of id after ≡ row_of id before
  value : one_of name after ≡ Some (unwrap_or (slice_get values 0) (codes "false"))

defaults : (name : Text) (values : List Text) (rows : List Row) → row_of name rows ≡ row_with name values
    → Defaults name values rows (with_default rows (built_flag name))
defaults name [] rows row =
    let absent : has_row name rows ≡ false = there_or_not name rows None row in
    let more : with_default rows (built_flag name) ≡ rows ++ flag_row name ∷ [] =
    rw absent (at_row-none name (more_values DefaultValue (codes "false" ∷ [])) (flag_row name ∷ []) rows row) in
    let itself : row_of name (flag_row name ∷ []) ≡ Some (flag_row name) = rw (text_is_itself name) refl in
    let last : row_of name (rows ++ flag_row name ∷ []) ≡ Some (flag_row name) = row_last name rows (flag_row name) row ∙ itself in
    subst (Defaults name [] rows) (sym more) (record { other = λ id differs. row_behind id rows (flag_row name) differs; value = rw last refl })
defaults name (v ∷ vs) rows row =
    let there : has_row name rows ≡ true = there_or_not name rows (Some (new_row name (v ∷ vs))) row in
    let same : with_default rows (built_flag name) ≡ rows = rw there refl in
    subst (Defaults name (v ∷ vs) rows) (sym same) (record { other = λ id differs. refl; value = rw row refl })

-- ---- the rows after all defaults

-- the rows are those of the pieces, and each flag that does not stand has `false`
pub record Ends (pieces : List Piece) (rows : List Row) : Type 0 where
  pub row : (id : Text) → is_flag id ≡ false → row_of id rows ≡ row_with id (said id pieces)
  pub flag : (name : Text) → is_flag name ≡ true → one_of name rows ≡ Some (unwrap_or (value_of name pieces) (codes "false"))

none_of : (s t u v : Bool) → (s || (t || (u || (v || false)))) ≡ false → (s ≡ false) × (t ≡ false) × (u ≡ false) × (v ≡ false)
none_of true t u v e = absurd (true≢false e)
none_of false true u v e = absurd (true≢false e)
none_of false false true v e = absurd (true≢false e)
none_of false false false true e = absurd (true≢false e)
none_of false false false false e = (refl, refl, refl, refl)

ends : (pieces : List Piece) (rows : List Row) → Shows pieces rows → Ends pieces (defaulted rows)
ends pieces rows shows =
    let first = defaults (codes "gen") (values_of (codes "gen") pieces) rows (shows.row (codes "gen")) in
    let next = with_default rows (built_flag (codes "gen")) in
    let second = defaults (codes "net") (values_of (codes "net") pieces) next (first.other (codes "net") refl ∙ shows.row (codes "net")) in
    let further = with_default next (built_flag (codes "net")) in
    let third = defaults (codes "why") (values_of (codes "why") pieces) further (second.other (codes "why") refl ∙ (first.other (codes "why") refl ∙ shows.row (codes "why"))) in
    let last = with_default further (built_flag (codes "why")) in
    let fourth = defaults (codes "overlap") (values_of (codes "overlap") pieces) last (third.other (codes "overlap") refl ∙ (second.other (codes "overlap") refl ∙ (first.other (codes "overlap") refl ∙ shows.row (codes "overlap")))) in
    record {
      row = λ id none.
          let apart = none_of (bytes_eq (codes "gen") id) (bytes_eq (codes "net") id) (bytes_eq (codes "why") id) (bytes_eq (codes "overlap") id) none in
          fourth.other id apart.3 ∙ (third.other id apart.2 ∙ (second.other id apart.1 ∙ (first.other id apart.0 ∙ shows.row id)));
      flag = each_flag (λ name. one_of name (defaulted rows) ≡ Some (unwrap_or (value_of name pieces) (codes "false")))
          (ap (option_and_then row_text) (fourth.other (codes "gen") refl ∙ (third.other (codes "gen") refl ∙ second.other (codes "gen") refl)) ∙ first.value)
          (ap (option_and_then row_text) (fourth.other (codes "net") refl ∙ third.other (codes "net") refl) ∙ second.value)
          (ap (option_and_then row_text) (fourth.other (codes "why") refl) ∙ third.value) fourth.value;
    }

pub finished_ends : (pieces : List Piece) (h : Held) → Shows pieces (settled top.rules h).rows → Ends pieces (finished top.rules h)
finished_ends pieces h shows = subst (Ends pieces) (sym (finished_rows h)) (ends pieces (settled top.rules h).rows shows)
