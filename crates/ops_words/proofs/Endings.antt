-- What `clap` does after the last word.
use Rattle.std.proofs.Common.{◌≡◌, ◌∙◌, Bool, true, false, List, [], ◌∷◌, Option, Some, None, codes, refl, sym, ap, is_some, fold}
use Rattle.std.proofs.lemmas.Bool.{true≢false}
use Rattle.clap.specs.Walk.{Held, Row, Text, Walk, finished, nothing_held, settled, walk, walk_from, walked}
use Rattle.clap.specs.Simple.{built, entered, matches_of}
use Rattle.clap.specs.Kinds.{Kinds, or_else}
use Rattle.clap.specs.Faults.{check_fault, defaults_fault, entered_fault, fault_of, level_fault, settle_fault, turn_fault, walk_fault}
use Rattle.ops_jobs.specs.CommandLine.{Piece, files_of}
use Rattle.ops_words.specs.Command.{app}
use Rattle.ops_words.proofs.Lookups.{top}
use Rattle.ops_words.proofs.FoundRows.{Shows, new_row, row_of, row_with}
use Rattle.ops_words.proofs.Ends.{finished_ends, no_fault}
use Rattle.ops_words.proofs.Turns.{Turn}

-- some kind comes
abbrev pub does_fail : Kinds → Bool
does_fail [] = false
does_fail (k ∷ ks) = true

-- ---- the kinds and the rows from a place of the walk on

abbrev pub end_fault : Held → Kinds
end_fault h = or_else (settle_fault top.rules false h)
    (or_else (defaults_fault (settled top.rules h).rows top.rules) (check_fault top (finished top.rules h) false))

unfoldable pub fault_from : Walk → List Text → Kinds
fault_from w words = or_else (walk_fault top [] w words) (end_fault (fold (walked top.rules []) w words).held)

unfoldable pub rows_from : Walk → List Text → List Row
rows_from w words = finished top.rules (fold (walked top.rules []) w words).held

or_else-assoc : (a b c : Kinds) → or_else (or_else a b) c ≡ or_else a (or_else b c)
or_else-assoc [] b c = refl
or_else-assoc (k ∷ ks) b c = refl

pub fails_first : (a b : Kinds) → does_fail a ≡ true → does_fail (or_else a b) ≡ true
fails_first [] b e = absurd (true≢false (sym e))
fails_first (k ∷ ks) b e = refl

pub fault-word : (w after : Walk) (word : Text) (words : List Text) (fault : Kinds) → Turn w word fault after
    → fault_from w (word ∷ words) ≡ or_else fault (fault_from after words)
unfolding fault_from walk_fault
fault-word w after word words fault turn =
    or_else-assoc (turn_fault top [] w word) (walk_fault top [] (walked top.rules [] w word) words) _
    ∙ (λ i. or_else (turn.fails i) (fault_from (turn.leads i) words))

pub rows-word : (w after : Walk) (word : Text) (words : List Text) (fault : Kinds) → Turn w word fault after
    → rows_from w (word ∷ words) ≡ rows_from after words
unfolding rows_from
rows-word w after word words fault turn = ap (λ x. rows_from x words) turn.leads

-- a word that is refused
pub fails_at : (w : Walk) (word : Text) (words : List Text) → does_fail (turn_fault top [] w word) ≡ true → does_fail (fault_from w (word ∷ words)) ≡ true
unfolding fault_from walk_fault
fails_at w word words e = fails_first (or_else (turn_fault top [] w word) _) _ (fails_first (turn_fault top [] w word) _ e)

pub fault-end : (w : Walk) → fault_from w [] ≡ end_fault w.held
unfolding fault_from walk_fault
fault-end w = refl

pub rows-end : (w : Walk) → rows_from w [] ≡ finished top.rules w.held
unfolding rows_from
rows-end w = refl

-- ---- all of it

pub fault_of-app : (words : List Text) → fault_of app words ≡ fault_from (walk_from nothing_held) words
unfolding fault_from
fault_of-app words = go (walk top.rules [] nothing_held words).stopped
  where
    go : (stop : Option (Text × List Text))
        → level_fault top [] nothing_held words (is_some (entered (built app) stop)) (entered_fault (built app) stop)
        ≡ or_else (walk_fault top [] (walk_from nothing_held) words) (end_fault (walk top.rules [] nothing_held words).held)
    go None = refl
    go (Some p) = refl

pub matches_of-app : (words : List Text) → matches_of app words ≡ rows_from (walk_from nothing_held) words
unfolding rows_from
matches_of-app words = refl

-- ---- the last checks

-- the files are wanted
files_missing : (rows : List Row) → row_of (codes "file") rows ≡ None → does_fail (check_fault top rows false) ≡ true
files_missing rows row = rw row refl

files_there : (rows : List Row) (name : Text) (names : List Text) → row_of (codes "file") rows ≡ Some (new_row (codes "file") (name ∷ names)) → check_fault top rows false ≡ []
files_there rows name names row = rw row refl

pub end_missing : (pieces : List Piece) (h : Held) → Shows pieces (settled top.rules h).rows → files_of pieces ≡ [] → does_fail (end_fault h) ≡ true
end_missing pieces h shows none =
    let row : row_of (codes "file") (finished top.rules h) ≡ None = (finished_ends pieces h shows).row (codes "file") refl ∙ ap (row_with (codes "file")) none in
    fails_last (settle_fault top.rules false h) _ (rw (no_fault top.rules (settled top.rules h).rows refl) (files_missing (finished top.rules h) row))
  where
    fails_last : (a b : Kinds) → does_fail b ≡ true → does_fail (or_else a b) ≡ true
    fails_last [] b e = e
    fails_last (k ∷ ks) b e = refl

pub end_passes : (pieces : List Piece) (name : Text) (names : List Text) (h : Held) → settle_fault top.rules false h ≡ [] → Shows pieces (settled top.rules h).rows
    → files_of pieces ≡ name ∷ names → end_fault h ≡ []
end_passes pieces name names h settles shows some =
    let row : row_of (codes "file") (finished top.rules h) ≡ Some (new_row (codes "file") (name ∷ names)) =
    (finished_ends pieces h shows).row (codes "file") refl ∙ ap (row_with (codes "file")) some in
    rw (settles, no_fault top.rules (settled top.rules h).rows refl) (files_there (finished top.rules h) name names row)
