-- What one use of an argument leaves, and what it says of the pieces.
use Rattle.std.proofs.Common.{◌≡◌, ◌∙◌, Bool, true, false, List, [], ◌∷◌, ◌++◌, length, None, codes, refl, sym, ap, subst, arith, append-nil}
use Rattle.std.specs.Prelude.{nat_le}
use Rattle.std.specs.List.{list_all}
use Rattle.std.specs.Str.{bytes_eq}
use Rattle.std.proofs.lemmas.Bool.{and_parts, and_from, leb-true}
use Rattle.std.proofs.lemmas.List.{length-append}
use Rattle.clap.specs.Walk.{Held, Row, Rule, Text, has_row, settled, used}
use Rattle.clap.specs.Faults.{settle_fault, use_fault}
use Rattle.ops_jobs.specs.CommandLine.{Piece, given, flagged, file, flag_names, is_complete, is_flag, is_once, is_option, option_names, values_of}
use Rattle.ops_jobs.proofs.EachOption.{each_flag, each_option}
use Rattle.ops_words.proofs.Lookups.{built_flag, built_option, flag_not_files, id_option, not_files, top}
use Rattle.ops_words.proofs.FoundRows.{Says, Shows, row_of, row_with, same_text, shows_file, shows_said, text_is_itself, there_or_not, values_of-append, with_value, without-none}
use Rattle.ops_words.proofs.Turns.{pending}
use Rattle.ops_words.proofs.Endings.{does_fail}

-- What is held says what the pieces say: what waits to be used can be used, and then the rows are those of the pieces.
pub record Agrees (pieces : List Piece) (h : Held) : Type 0 where
  pub skip : h.skip ≡ 0
  pub settles : settle_fault top.rules false h ≡ []
  pub shows : Shows pieces (settled top.rules h).rows
  pub once : is_once pieces ≡ true

-- ---- each option and each flag at most once

all_from : (p q : Text → Bool) → ((n : Text) → p n ≡ true → q n ≡ true) → (ns : List Text) → list_all p ns ≡ true → list_all q ns ≡ true
all_from p q f [] e = refl
all_from p q f (n ∷ ns) e =
    let parts = and_parts (p n) _ e in
    and_from _ _ (f n parts.0) (all_from p q f ns parts.1)

all_options : (p : Text → Bool) → list_all p (option_names ++ flag_names) ≡ true → (name : Text) → is_option name ≡ true → p name ≡ true
all_options p e =
    let one = and_parts (p (codes "match")) _ e in
    let two = and_parts (p (codes "workers")) _ one.1 in
    let three = and_parts (p (codes "lines")) _ two.1 in
    let four = and_parts (p (codes "limit")) _ three.1 in
    each_option (λ name. p name ≡ true) one.0 two.0 three.0 four.0

all_flags : (p : Text → Bool) → list_all p (option_names ++ flag_names) ≡ true → (name : Text) → is_flag name ≡ true → p name ≡ true
all_flags p e =
    let one = and_parts (p (codes "match")) _ e in
    let two = and_parts (p (codes "workers")) _ one.1 in
    let three = and_parts (p (codes "lines")) _ two.1 in
    let four = and_parts (p (codes "limit")) _ three.1 in
    let five = and_parts (p (codes "gen")) _ four.1 in
    let six = and_parts (p (codes "net")) _ five.1 in
    let seven = and_parts (p (codes "why")) _ six.1 in
    each_flag (λ name. p name ≡ true) five.0 six.0 seven.0 (and_parts (p (codes "overlap")) _ seven.1).0

abbrev at_most_one : List Piece → Text → Bool
at_most_one pieces name = nat_le (length (values_of name pieces)) 1

once_said : (pieces : List Piece) (piece : Piece) (name value : Text) → Says piece name value → values_of name pieces ≡ [] → is_once pieces ≡ true → is_once (pieces ++ piece ∷ []) ≡ true
once_said pieces piece name value says none once =
    all_from (at_most_one pieces) (at_most_one (pieces ++ piece ∷ [])) (λ n e. go n e (bytes_eq name n) refl) (option_names ++ flag_names) once
  where
    go : (n : Text) → at_most_one pieces n ≡ true → (t : Bool) → bytes_eq name n ≡ t → at_most_one (pieces ++ piece ∷ []) n ≡ true
    go n e true is =
        let same : name ≡ n = same_text name n is in
        let nothing : values_of n pieces ≡ [] = subst (λ x. values_of x pieces ≡ []) same none in
        rw (values_of-append n pieces (piece ∷ []), says.values n, is, nothing) refl
    go n e false is = rw (values_of-append n pieces (piece ∷ []), says.values n, is, append-nil (values_of n pieces)) e

once_file : (pieces : List Piece) (name : Text) → is_once pieces ≡ true → is_once (pieces ++ file name ∷ []) ≡ true
once_file pieces name once = all_from (at_most_one pieces) (at_most_one (pieces ++ file name ∷ []))
    (λ n e. rw (values_of-append n pieces (file name ∷ []), append-nil (values_of n pieces)) e) (option_names ++ flag_names) once

-- pieces that name an option or a flag twice are never complete
pub twice : (pieces more : List Piece) (piece : Piece) (name value v : Text) (vs : List Text) → Says piece name value → values_of name pieces ≡ v ∷ vs
    → is_complete ((pieces ++ piece ∷ []) ++ more) ≡ false
twice pieces more piece name value v vs says some = go (is_complete ((pieces ++ piece ∷ []) ++ more)) refl
  where
    values : values_of name ((pieces ++ piece ∷ []) ++ more) ≡ (v ∷ vs ++ value ∷ []) ++ values_of name more
    values = rw (values_of-append name (pieces ++ piece ∷ []) more, values_of-append name pieces (piece ∷ []), says.values name, text_is_itself name, some) refl

    go : (t : Bool) → is_complete ((pieces ++ piece ∷ []) ++ more) ≡ t → is_complete ((pieces ++ piece ∷ []) ++ more) ≡ false
    go false e = e
    go true e =
        let few = leb-true _ _ (says.counts (at_most_one ((pieces ++ piece ∷ []) ++ more)) (and_parts _ _ e).0) in
        absurd (omega (arith, ap length values, length-append (v ∷ vs ++ value ∷ []) (values_of name more), length-append (v ∷ vs) (value ∷ [])))

-- ---- a use of an option or of a flag

-- A use of the argument with these values is the piece: where the name has no row yet it gets the value, and where it
-- has one the use fails.
pub record IsUse (rule : Rule) (given_values : List Text) (piece : Piece) (name value : Text) : Type 0 where
  pub says : Says piece name value
  pub fresh : (rows : List Row) → row_of name rows ≡ None
      → (use_fault false rule given_values rows ≡ []) × (used rule given_values rows ≡ with_value name value rows)
  pub again : (rows : List Row) → has_row name rows ≡ true → does_fail (use_fault false rule given_values rows) ≡ true

pub option_use : (name value : Text) → is_option name ≡ true → IsUse (built_option name) (value ∷ []) (given name value) name value
option_use name value known = record {
  says = record { values = λ id. refl; files = refl; apart = not_files name known; counts = λ p e. all_options p e name known };
  fresh = λ rows none. (rw (there_or_not name rows None none) refl, rw (without-none name rows none) refl);
  again = λ rows there. rw there refl;
}

pub flag_use : (name : Text) → is_flag name ≡ true → IsUse (built_flag name) [] (flagged name) name (codes "true")
flag_use name known = record {
  says = record { values = λ id. refl; files = refl; apart = flag_not_files name known; counts = λ p e. all_flags p e name known };
  fresh = λ rows none. (rw (there_or_not name rows None none) refl, rw (without-none name rows none) refl);
  again = λ rows there. rw there refl;
}

pub use_fresh : (pieces : List Piece) (rows : List Row) (rule : Rule) (given_values : List Text) (piece : Piece) (name value : Text) → IsUse rule given_values piece name value
    → Shows pieces rows → values_of name pieces ≡ [] → (use_fault false rule given_values rows ≡ []) × (used rule given_values rows ≡ with_value name value rows)
use_fresh pieces rows rule given_values piece name value is shows none = is.fresh rows (shows.row name ∙ rw (is.says.apart, none) refl)

pub use_again : (pieces : List Piece) (rows : List Row) (rule : Rule) (given_values : List Text) (piece : Piece) (name value v : Text) (vs : List Text)
    → IsUse rule given_values piece name value → Shows pieces rows → values_of name pieces ≡ v ∷ vs → does_fail (use_fault false rule given_values rows) ≡ true
use_again pieces rows rule given_values piece name value v vs is shows some =
    is.again rows (there_or_not name rows (row_with name (v ∷ vs)) (shows.row name ∙ rw (is.says.apart, some) refl))

-- an argument that is used at once
pub agrees_used : (pieces : List Piece) (h : Held) (rule : Rule) (given_values : List Text) (piece : Piece) (name value : Text) → IsUse rule given_values piece name value
    → Agrees pieces h → values_of name pieces ≡ []
    → Agrees (pieces ++ piece ∷ []) (record h { rows = used rule given_values (settled top.rules h).rows; pending = None })
agrees_used pieces h rule given_values piece name value is agrees none =
    let step = use_fresh pieces (settled top.rules h).rows rule given_values piece name value is agrees.shows none in
    record {
      skip = agrees.skip;
      settles = refl;
      shows = subst (Shows (pieces ++ piece ∷ [])) (sym step.1) (shows_said piece name value pieces (settled top.rules h).rows is.says agrees.shows);
      once = once_said pieces piece name value is.says none agrees.once;
    }

-- an option that waits to be used
pub agrees_pending : (pieces : List Piece) (h : Held) (name value : Text) → is_option name ≡ true → h.skip ≡ 0 → Shows pieces h.rows → is_once pieces ≡ true → values_of name pieces ≡ []
    → Agrees (pieces ++ given name value ∷ []) (pending name (value ∷ []) h)
agrees_pending pieces h name value known skip shows once none =
    let is = option_use name value known in
    let step = use_fresh pieces h.rows (built_option name) (value ∷ []) (given name value) name value is shows none in
    record {
      skip = skip;
      settles = rw (id_option name known) step.0;
      shows = rw (id_option name known) (subst (Shows (pieces ++ given name value ∷ [])) (sym step.1) (shows_said (given name value) name value pieces h.rows is.says shows));
      once = once_said pieces (given name value) name value is.says none once;
    }

pub pending_fails : (pieces : List Piece) (h : Held) (name value v : Text) (vs : List Text) → is_option name ≡ true → Shows pieces h.rows → values_of name pieces ≡ v ∷ vs
    → does_fail (settle_fault top.rules false (pending name (value ∷ []) h)) ≡ true
pending_fails pieces h name value v vs known shows some =
    rw (id_option name known)
    (use_again pieces h.rows (built_option name) (value ∷ []) (given name value) name value v vs (option_use name value known) shows some)

-- an option without a value
pub empty_fails : (h : Held) (name : Text) → is_option name ≡ true → does_fail (settle_fault top.rules false (pending name [] h)) ≡ true
empty_fails h name known = rw (id_option name known) refl

-- a file that waits to be used
pub agrees_file : (pieces : List Piece) (h : Held) (name : Text) → Agrees pieces h → Agrees (pieces ++ file name ∷ []) (pending (codes "file") (name ∷ []) (settled top.rules h))
agrees_file pieces h name agrees = record {
  skip = agrees.skip;
  settles = refl;
  shows = shows_file name pieces (settled top.rules h).rows agrees.shows;
  once = once_file pieces name agrees.once;
}
