-- The rows that `clap` finds, by what the pieces of the words say.
use Rattle.std.proofs.Common.{◌≡◌, ◌∙◌, ◌||◌, Bool, cond, true, false, List, [], ◌∷◌, ◌++◌, Option, Some, None, codes, is_some, refl, sym, ap, subst, append-nil}
use Rattle.std.specs.Prelude.{find}
use Rattle.std.specs.List.{list_all, list_any}
use Rattle.std.specs.Str.{bytes_eq}
use Rattle.std.proofs.lemmas.Bool.{true≢false}
use Rattle.std.proofs.lemmas.Slice.Eq.{bytes_eq-Decides}
use Rattle.clap.specs.Walk.{Row, Text, at_row, has_row, stronger, with_values, without}
use Rattle.clap.specs.declared.builder.value_parser.Reading.TheVariants.{AsWritten}
use Rattle.clap.specs.declared.parser.matches.ValueSource.TheVariants.{CommandLine}
use Rattle.ops_jobs.specs.CommandLine.{Piece, Word, given, flagged, file, files_of, flag_names, option_names, values_of}

-- ---- the row of a name

abbrev pub row_of : Text → List Row → Option Row
row_of id rows = find (λ r. bytes_eq r.id id) rows

abbrev pub new_row : Text → List Text → Row
new_row id values = record { id = id; values = values; count = None; source = Some CommandLine; reading = AsWritten }

-- the row of a name with these values
abbrev pub row_with : Text → List Text → Option Row
row_with id [] = None
row_with id (v ∷ vs) = Some (new_row id (v ∷ vs))

-- the rows after one more value
abbrev pub with_value : Text → Text → List Row → List Row
with_value id value rows = with_values id AsWritten CommandLine (value ∷ []) rows

pub same_text : (a b : Text) → bytes_eq a b ≡ true → a ≡ b
same_text a b e = (bytes_eq-Decides a b).0 e

pub text_is_itself : (a : Text) → bytes_eq a a ≡ true
text_is_itself a = (bytes_eq-Decides a a).1 refl

found-any : {X : Type 0} (p : X → Bool) (xs : List X) → list_any p xs ≡ is_some (find p xs)
found-any p [] = refl
found-any p (x ∷ xs) = go (p x) (found-any p xs)
  where
    go : (t : Bool) → list_any p xs ≡ is_some (find p xs) → (t || list_any p xs) ≡ is_some (cond t (Some x) (find p xs))
    go true rest = refl
    go false rest = rest

pub there_or_not : (id : Text) (rows : List Row) (o : Option Row) → row_of id rows ≡ o → has_row id rows ≡ is_some o
there_or_not id rows o is = found-any (λ r. bytes_eq r.id id) rows ∙ ap is_some is

-- what is to be done where an id has no row is done after all rows
pub at_row-none : (id : Text) (change : Row → List Row) (missing rows : List Row) → row_of id rows ≡ None → at_row id change missing rows ≡ rows ++ missing
at_row-none id change missing [] none = refl
at_row-none id change missing (r ∷ rows) none = go (bytes_eq r.id id) none (at_row-none id change missing rows)
  where
    go : (t : Bool) → cond t (Some r) (row_of id rows) ≡ None → (row_of id rows ≡ None → at_row id change missing rows ≡ rows ++ missing)
        → cond t (change r ++ rows) (r ∷ at_row id change missing rows) ≡ r ∷ rows ++ missing
    go true e rest = absurd (true≢false (ap is_some e))
    go false e rest = ap (λ rs. r ∷ rs) (rest e)

pub without-none : (id : Text) (rows : List Row) → row_of id rows ≡ None → without id rows ≡ rows
without-none id rows none = at_row-none id (λ _. []) [] rows none ∙ append-nil rows

-- the row with one more value
abbrev grown : Text → Row → Row
grown value r = record r { values = r.values ++ value ∷ []; source = Some (stronger r.source CommandLine) }

-- another name's row stays
pub row-other : (id other value : Text) (rows : List Row) → bytes_eq other id ≡ false → row_of id (with_value other value rows) ≡ row_of id rows
row-other id other value [] differs = rw differs refl
row-other id other value (r ∷ rows) differs = go (bytes_eq r.id other) refl (row-other id other value rows differs)
  where
    go : (t : Bool) → bytes_eq r.id other ≡ t → row_of id (with_value other value rows) ≡ row_of id rows
        → row_of id (cond t (grown value r ∷ [] ++ rows) (r ∷ with_value other value rows)) ≡ row_of id (r ∷ rows)
    go true e rest =
        let is : bytes_eq r.id id ≡ false = subst (λ x. bytes_eq x id ≡ false) (sym (same_text r.id other e)) differs in
        rw is refl
    go false e rest = ap (λ o. cond (bytes_eq r.id id) (Some r) o) rest

-- a name without a row gets one, at the end
pub row-new : (id value : Text) (rows : List Row) → row_of id rows ≡ None → row_of id (with_value id value rows) ≡ Some (new_row id (value ∷ []))
row-new id value [] none = rw (text_is_itself id) refl
row-new id value (r ∷ rows) none = go (bytes_eq r.id id) refl none (row-new id value rows)
  where
    go : (t : Bool) → bytes_eq r.id id ≡ t → cond t (Some r) (row_of id rows) ≡ None
        → (row_of id rows ≡ None → row_of id (with_value id value rows) ≡ Some (new_row id (value ∷ [])))
        → row_of id (cond t (grown value r ∷ [] ++ rows) (r ∷ with_value id value rows)) ≡ Some (new_row id (value ∷ []))
    go true is e rest = absurd (true≢false (ap is_some e))
    go false is e rest = rw is (rest e)

-- and one that has a row gets its value into it
pub row-more : (id value v : Text) (vs : List Text) (rows : List Row) → row_of id rows ≡ Some (new_row id (v ∷ vs))
    → row_of id (with_value id value rows) ≡ Some (new_row id (v ∷ vs ++ value ∷ []))
row-more id value v vs [] found = absurd (true≢false (sym (ap is_some found)))
row-more id value v vs (r ∷ rows) found = go (bytes_eq r.id id) refl found (row-more id value v vs rows)
  where
    go : (t : Bool) → bytes_eq r.id id ≡ t → cond t (Some r) (row_of id rows) ≡ Some (new_row id (v ∷ vs))
        → (row_of id rows ≡ Some (new_row id (v ∷ vs)) → row_of id (with_value id value rows) ≡ Some (new_row id (v ∷ vs ++ value ∷ [])))
        → row_of id (cond t (grown value r ∷ [] ++ rows) (r ∷ with_value id value rows)) ≡ Some (new_row id (v ∷ vs ++ value ∷ []))
    go true is e rest =
        let same : r ≡ new_row id (v ∷ vs) = cc in
        rw is (ap (λ x. Some (grown value x)) same)
    go false is e rest = rw is (rest e)

-- ---- what the pieces say of a name

-- the values of a name: those of an option or a flag, or the files
abbrev pub said : Text → List Piece → List Text
said id pieces = cond (bytes_eq (codes "file") id) (files_of pieces) (values_of id pieces)

-- the rows are those of the pieces
pub record Shows (pieces : List Piece) (rows : List Row) : Type 0 where
  pub row : (id : Text) → row_of id rows ≡ row_with id (said id pieces)

pub values_of-append : (option : Word) (ps qs : List Piece) → values_of option (ps ++ qs) ≡ values_of option ps ++ values_of option qs
values_of-append option [] qs = refl
values_of-append option (given other value ∷ ps) qs = go (bytes_eq other option) (values_of-append option ps qs)
  where
    go : (t : Bool) → values_of option (ps ++ qs) ≡ values_of option ps ++ values_of option qs
        → cond t (value ∷ values_of option (ps ++ qs)) (values_of option (ps ++ qs)) ≡ cond t (value ∷ values_of option ps) (values_of option ps) ++ values_of option qs
    go true rest = ap (λ vs. value ∷ vs) rest
    go false rest = rest
values_of-append option (flagged flag ∷ ps) qs = go (bytes_eq flag option) (values_of-append option ps qs)
  where
    go : (t : Bool) → values_of option (ps ++ qs) ≡ values_of option ps ++ values_of option qs
        → cond t (codes "true" ∷ values_of option (ps ++ qs)) (values_of option (ps ++ qs)) ≡ cond t (codes "true" ∷ values_of option ps) (values_of option ps) ++ values_of option qs
    go true rest = ap (λ vs. codes "true" ∷ vs) rest
    go false rest = rest
values_of-append option (file name ∷ ps) qs = values_of-append option ps qs

pub files_of-append : (ps qs : List Piece) → files_of (ps ++ qs) ≡ files_of ps ++ files_of qs
files_of-append [] qs = refl
files_of-append (given option value ∷ ps) qs = files_of-append ps qs
files_of-append (flagged flag ∷ ps) qs = files_of-append ps qs
files_of-append (file name ∷ ps) qs = ap (λ fs. name ∷ fs) (files_of-append ps qs)

-- a value more for a name that has none
pub row_first : (id value : Text) (values : List Text) (rows : List Row) → row_of id rows ≡ row_with id values
    → row_of id (with_value id value rows) ≡ row_with id (values ++ value ∷ [])
row_first id value [] rows found = row-new id value rows found
row_first id value (v ∷ vs) rows found = row-more id value v vs rows found

-- The piece gives the name this value, and names no file.
pub record Says (piece : Piece) (name value : Text) : Type 0 where
  pub values : (id : Text) → values_of id (piece ∷ []) ≡ cond (bytes_eq name id) (value ∷ []) []
  pub files : files_of (piece ∷ []) ≡ []
  pub apart : bytes_eq (codes "file") name ≡ false
  pub counts : (p : Text → Bool) → list_all p (option_names ++ flag_names) ≡ true → p name ≡ true

pub shows_said : (piece : Piece) (name value : Text) (pieces : List Piece) (rows : List Row) → Says piece name value → Shows pieces rows
    → Shows (pieces ++ piece ∷ []) (with_value name value rows)
shows_said piece name value pieces rows says shows = record { row = λ id. go id (bytes_eq name id) refl }
  where
    go : (id : Text) (t : Bool) → bytes_eq name id ≡ t → row_of id (with_value name value rows) ≡ row_with id (said id (pieces ++ piece ∷ []))
    go id true e =
        let same : name ≡ id = same_text name id e in
        let P : Text → Type 0 = λ x. row_of x (with_value name value rows) ≡ row_with x (said x (pieces ++ piece ∷ [])) in
        subst P same (rw (says.apart, values_of-append name pieces (piece ∷ []), says.values name, text_is_itself name)
        (row_first name value (values_of name pieces) rows (rw says.apart at (shows.row name))))
    go id false e = rw (row-other id name value rows e, values_of-append id pieces (piece ∷ []), files_of-append pieces (piece ∷ []), says.values id, says.files, e, append-nil (values_of id pieces), append-nil (files_of pieces)) (shows.row id)

pub shows_file : (name : Text) (pieces : List Piece) (rows : List Row) → Shows pieces rows
    → Shows (pieces ++ file name ∷ []) (with_value (codes "file") name rows)
shows_file name pieces rows shows = record { row = λ id. go id (bytes_eq (codes "file") id) refl }
  where
    go : (id : Text) (t : Bool) → bytes_eq (codes "file") id ≡ t → row_of id (with_value (codes "file") name rows) ≡ row_with id (said id (pieces ++ file name ∷ []))
    go id true e =
        let same : codes "file" ≡ id = same_text (codes "file") id e in
        let P : Text → Type 0 = λ x. row_of x (with_value (codes "file") name rows) ≡ row_with x (said x (pieces ++ file name ∷ [])) in
        subst P same (rw (files_of-append pieces (file name ∷ [])) (row_first (codes "file") name (files_of pieces) rows (shows.row (codes "file"))))
    go id false e = rw (row-other id (codes "file") name rows e, e, values_of-append id pieces (file name ∷ []), append-nil (values_of id pieces)) (rw e at (shows.row id))
