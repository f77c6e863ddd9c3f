-- The walk of `clap` over the words and their reading by the definition are one.
use Rattle.std.proofs.Common.{◌≡◌, ◌∙◌, Bool, cond, true, false, List, [], ◌∷◌, ◌++◌, length, map, Option, Some, None, codes, refl, sym, ap, subst, arith, append-nil, append_assoc}
use Rattle.std.specs.Prelude.{nat_le}
use Rattle.std.specs.Str.{IsUtf8, bytes_eq}
use Rattle.std.proofs.lemmas.Bool.{and_from, both_ways, le-leb}
use Rattle.clap.specs.Walk.{Held, Row, Rule, Text, Waiting, Walk, idle, option, positional, nothing_held, reacted, settled}
use Rattle.clap.specs.Simple.{matches_of}
use Rattle.clap.specs.Kinds.{Kinds, or_else}
use Rattle.clap.specs.Faults.{fault_of, react_fault, settle_fault}
use Rattle.ops_jobs.specs.CommandLine.{Piece, Sort, given, flagged, file, files_of, is_complete, is_dashed, is_once, is_option, pieces_from, read_as, sort_of, values_of, with_piece}
use Rattle.ops_words.specs.Command.{app}
use Rattle.ops_words.proofs.Lookups.{built_flag, built_option, top}
use Rattle.ops_words.proofs.Seeing.{Seen, see, IsPlain, sees_end, sees_flag, sees_given, sees_opener, sees_unknown, sees_name}
use Rattle.ops_words.proofs.FoundRows.{Says, Shows, row_with}
use Rattle.ops_words.proofs.Ends.{Ends, finished_ends}
use Rattle.ops_words.proofs.Turns.{IsFree, Turn, idles, fills, pending, stand, turn_end, turn_flag, turn_given, turn_name, turn_opener, turn_trailing, turn_unknown, turn_value}
use Rattle.ops_words.proofs.Endings.{does_fail, end_missing, end_passes, fails_at, fails_first, fault-end, fault-word, fault_from, fault_of-app, matches_of-app, rows-end, rows-word, rows_from}
use Rattle.ops_words.proofs.Uses.{Agrees, IsUse, agrees_file, agrees_pending, agrees_used, empty_fails, flag_use, option_use, pending_fails, twice, use_again, use_fresh}

abbrev pub AreTexts : List Text → Type 0
AreTexts [] = Unit {0}
AreTexts (word ∷ words) = IsUtf8 word × AreTexts words

-- ---- what the walk comes to, by the pieces

-- nothing fails, and the rows are those of the pieces; or something fails
abbrev pub Fits : Bool → Kinds → List Piece → List Row → Type 0
Fits true fault pieces rows = (fault ≡ []) × Ends pieces rows
Fits false fault pieces rows = does_fail fault ≡ true

-- the same of pieces that come after others, or of none
abbrev pub Answers : Option (List Piece) → List Piece → Kinds → List Row → Type 0
Answers None before fault rows = does_fail fault ≡ true
Answers (Some pieces) before fault rows = Fits (is_complete (before ++ pieces)) fault (before ++ pieces) rows

answers_fault : (read : Option (List Piece)) (before : List Piece) (fault : Kinds) (rows : List Row)
    → ((more : List Piece) → is_complete (before ++ more) ≡ false) → does_fail fault ≡ true → Answers read before fault rows
answers_fault None before fault rows never fails = fails
answers_fault (Some pieces) before fault rows never fails = subst (λ t. Fits t fault (before ++ pieces) rows) (sym (never pieces)) fails

answers_more : (read : Option (List Piece)) (before : List Piece) (piece : Piece) (fault : Kinds) (rows : List Row)
    → Answers read (before ++ piece ∷ []) fault rows → Answers (with_piece piece read) before fault rows
answers_more None before piece fault rows h = h
answers_more (Some pieces) before piece fault rows h =
    subst (λ (ps : List Piece). Fits (is_complete ps) fault ps rows) (append_assoc before (piece ∷ []) pieces) h

-- a word that does not fail leads on
leads_on : (w after : Walk) (word : Text) (words : List Text) (fault : Kinds) (read : Option (List Piece)) (before : List Piece) → Turn w word fault after → fault ≡ []
    → Answers read before (fault_from after words) (rows_from after words) → Answers read before (fault_from w (word ∷ words)) (rows_from w (word ∷ words))
leads_on w after word words fault read before turn passes h =
    let faults : fault_from w (word ∷ words) ≡ fault_from after words = fault-word w after word words fault turn ∙ ap (λ f. or_else f (fault_from after words)) passes in
    rw (faults, rows-word w after word words fault turn) h

-- a word that fails
fails_here : (w after : Walk) (word : Text) (words : List Text) (fault : Kinds) → Turn w word fault after → does_fail fault ≡ true → does_fail (fault_from w (word ∷ words)) ≡ true
fails_here w after word words fault turn fails = rw (fault-word w after word words fault turn) (fails_first fault _ fails)

-- and one that leads to where something fails
fails_behind : (w after : Walk) (word : Text) (words : List Text) → Turn w word [] after → does_fail (fault_from after words) ≡ true → does_fail (fault_from w (word ∷ words)) ≡ true
fails_behind w after word words turn fails = rw (fault-word w after word words [] turn) fails

fails_last : (w : Walk) → does_fail (settle_fault top.rules false w.held) ≡ true → does_fail (fault_from w []) ≡ true
fails_last w fails = rw (fault-end w) (fails_first (settle_fault top.rules false w.held) _ fails)

-- ---- where what waits to be used can't be used, the walk fails

trailing_fails : (words : List Text) (h : Held) (waiting : Waiting) → does_fail (settle_fault top.rules false h) ≡ true → does_fail (fault_from (stand h waiting true) words) ≡ true
trailing_fails [] h waiting fails = fails_last (stand h waiting true) fails
trailing_fails (word ∷ words) h waiting fails = fails_here _ _ word words _ (turn_trailing h waiting word) fails

-- a word that is dashed
dashed_fails : (word : Text) (words : List Text) (h : Held) (waiting : Waiting) → Seen word → is_dashed word ≡ true → h.skip ≡ 0
    → does_fail (settle_fault top.rules false h) ≡ true → does_fail (fault_from (stand h waiting false) (word ∷ words)) ≡ true
dashed_fails word words h waiting (sees_end sort dashed is) d skip fails = fails_behind _ _ word words (turn_end h waiting word is) (trailing_fails words h waiting fails)
dashed_fails word words h waiting (sees_given name value sort dashed is) d skip fails =
    fails_here _ _ word words _ (turn_given h waiting word name value is) (fails_first (settle_fault top.rules false h) _ fails)
dashed_fails word words h waiting (sees_opener name sort dashed is) d skip fails = fails_here _ _ word words _ (turn_opener h waiting word name is) fails
dashed_fails word words h waiting (sees_flag name sort dashed is) d skip fails =
    fails_here _ _ word words _ (turn_flag h waiting word name is) (fails_first (settle_fault top.rules false h) _ fails)
dashed_fails word words h waiting (sees_unknown sort dashed is) d skip fails =
    fails_at (stand h waiting false) word words (rw (turn_unknown h waiting word skip is) refl)
dashed_fails word words h waiting (sees_name sort plain is) d skip fails = absurd (both_ways (is_dashed word) plain d)

free_fails : (words : List Text) (h : Held) (waiting : Waiting) → IsFree waiting → AreTexts words → h.skip ≡ 0
    → does_fail (settle_fault top.rules false h) ≡ true → does_fail (fault_from (stand h waiting false) words) ≡ true
free_fails [] h waiting free texts skip fails = fails_last (stand h waiting false) fails
free_fails (word ∷ words) h waiting free texts skip fails = go (see word texts.0)
  where
    go : Seen word → does_fail (fault_from (stand h waiting false) (word ∷ words)) ≡ true
    go (sees_name sort plain is) = fails_here _ _ word words _ (turn_name h waiting word free is) fails
    go (sees_end sort dashed is) = dashed_fails word words h waiting (sees_end sort dashed is) dashed skip fails
    go (sees_given name value sort dashed is) = dashed_fails word words h waiting (sees_given name value sort dashed is) dashed skip fails
    go (sees_opener name sort dashed is) = dashed_fails word words h waiting (sees_opener name sort dashed is) dashed skip fails
    go (sees_flag name sort dashed is) = dashed_fails word words h waiting (sees_flag name sort dashed is) dashed skip fails
    go (sees_unknown sort dashed is) = dashed_fails word words h waiting (sees_unknown sort dashed is) dashed skip fails

-- ---- the end of the words

ends_well : (pieces : List Piece) (w : Walk) → Agrees pieces w.held → (files : List Text) → files_of pieces ≡ files
    → Fits (is_complete pieces) (fault_from w []) pieces (rows_from w [])
ends_well pieces w agrees [] none =
    let incomplete : is_complete pieces ≡ false = rw (agrees.once, none) refl in
    let fails : does_fail (fault_from w []) ≡ true = rw (fault-end w) (end_missing pieces w.held agrees.shows none) in
    subst (λ t. Fits t (fault_from w []) pieces (rows_from w [])) (sym incomplete) fails
ends_well pieces w agrees (name ∷ names) some =
    let one : nat_le 1 (length (files_of pieces)) ≡ true = rw some (le-leb 1 (length (name ∷ names)) (omega arith)) in
    let complete : is_complete pieces ≡ true = and_from _ _ agrees.once one in
    let last = end_passes pieces name names w.held agrees.settles agrees.shows some in
    subst (λ t. Fits t (fault_from w []) pieces (rows_from w [])) (sym complete)
    (fault-end w ∙ last, subst (Ends pieces) (sym (rows-end w)) (finished_ends pieces w.held agrees.shows))

answers_end : (pieces : List Piece) (w : Walk) → Agrees pieces w.held → Answers (Some []) pieces (fault_from w []) (rows_from w [])
answers_end pieces w agrees =
    subst (λ (ps : List Piece). Fits (is_complete ps) (fault_from w []) ps (rows_from w [])) (sym (append-nil pieces))
    (ends_well pieces w agrees (files_of pieces) refl)

-- ---- after `--`

trails : (words : List Text) (pieces : List Piece) (h : Held) (waiting : Waiting) → Agrees pieces h
    → Answers (Some (map file words)) pieces (fault_from (stand h waiting true) words) (rows_from (stand h waiting true) words)
trails [] pieces h waiting agrees = answers_end pieces (stand h waiting true) agrees
trails (word ∷ words) pieces h waiting agrees =
    leads_on _ _ word words _ (Some (map file (word ∷ words))) pieces (turn_trailing h waiting word) agrees.settles
    (answers_more (Some (map file words)) pieces (file word) _ _
    (trails words (pieces ++ file word ∷ []) (pending (codes "file") (word ∷ []) (settled top.rules h)) positional (agrees_file pieces h word agrees)))

-- ---- before it

-- what is to be shown of words where no option waits for its value
abbrev AnswersFree : List Text → Type 0
AnswersFree words = (pieces : List Piece) (h : Held) (waiting : Waiting) → IsFree waiting → Agrees pieces h
    → Answers (pieces_from words None) pieces (fault_from (stand h waiting false) words) (rows_from (stand h waiting false) words)

-- and where one does
abbrev AnswersWaiting : List Text → Type 0
AnswersWaiting words = (pieces : List Piece) (h : Held) (name : Text) → is_option name ≡ true → h.skip ≡ 0 → Shows pieces h.rows → is_once pieces ≡ true
    → Answers (pieces_from words (Some name)) pieces (fault_from (stand (pending name [] h) (option name) false) words)
    (rows_from (stand (pending name [] h) (option name) false) words)

by_sort : (word : Text) (words : List Text) (s : Sort) (pieces : List Piece) (fault : Kinds) (rows : List Row) → sort_of word ≡ s
    → Answers (read_as s word words (pieces_from words)) pieces fault rows → Answers (pieces_from (word ∷ words) None) pieces fault rows
unfolding pieces_from
by_sort word words s pieces fault rows is h = subst (λ x. Answers (read_as x word words (pieces_from words)) pieces fault rows) (sym is) h

-- an option or a flag that has a value already makes all that comes after fail
repeats : (read : Option (List Piece)) (pieces : List Piece) (piece : Piece) (name value v : Text) (vs : List Text) (fault : Kinds) (rows : List Row)
    → Says piece name value → values_of name pieces ≡ v ∷ vs → does_fail fault ≡ true → Answers (with_piece piece read) pieces fault rows
repeats read pieces piece name value v vs fault rows says some fails =
    answers_more read pieces piece fault rows
    (answers_fault read (pieces ++ piece ∷ []) fault rows (λ more. twice pieces more piece name value v vs says some) fails)

free_step : (word : Text) (words : List Text) → IsUtf8 word → AreTexts words → AnswersFree words → AnswersWaiting words → AnswersFree (word ∷ words)
free_step word words text texts free waiting pieces h wait is_free agrees = go (see word text)
  where
    gives_value : (rule : Rule) (given_values : List Text) (piece : Piece) (name value : Text) → IsUse rule given_values piece name value
        → Turn (stand h wait false) word (react_fault top.rules false rule given_values h) (stand (reacted top.rules rule given_values h) idle false)
        → (values : List Text) → values_of name pieces ≡ values
        → Answers (with_piece piece (pieces_from words None)) pieces (fault_from (stand h wait false) (word ∷ words)) (rows_from (stand h wait false) (word ∷ words))
    gives_value rule given_values piece name value is turn [] none =
        let step = use_fresh pieces (settled top.rules h).rows rule given_values piece name value is agrees.shows none in
        leads_on _ _ word words _ (with_piece piece (pieces_from words None)) pieces turn (rw (agrees.settles, step.0) refl)
        (answers_more (pieces_from words None) pieces piece _ _
        (free (pieces ++ piece ∷ []) _ idle idles (agrees_used pieces h rule given_values piece name value is agrees none)))
    gives_value rule given_values piece name value is turn (v ∷ vs) some =
        repeats (pieces_from words None) pieces piece name value v vs _ _ is.says some
        (fails_here _ _ word words _ turn
        (rw agrees.settles (use_again pieces (settled top.rules h).rows rule given_values piece name value v vs is agrees.shows some)))

    go : Seen word → Answers (pieces_from (word ∷ words) None) pieces (fault_from (stand h wait false) (word ∷ words)) (rows_from (stand h wait false) (word ∷ words))
    go (sees_end sort dashed is) = by_sort word words _ pieces _ _ sort
        (leads_on _ _ word words [] (Some (map file words)) pieces (turn_end h wait word is) refl (trails words pieces h wait agrees))
    go (sees_given name value sort dashed is) = by_sort word words _ pieces _ _ sort
        (gives_value (built_option name) (value ∷ []) (given name value) name value (option_use name value is.known) (turn_given h wait word name value is) (values_of name pieces) refl)
    go (sees_flag name sort dashed is) = by_sort word words _ pieces _ _ sort
        (gives_value (built_flag name) [] (flagged name) name (codes "true") (flag_use name is.known) (turn_flag h wait word name is) (values_of name pieces) refl)
    go (sees_opener name sort dashed is) = by_sort word words _ pieces _ _ sort
        (leads_on _ _ word words _ (pieces_from words (Some name)) pieces (turn_opener h wait word name is) agrees.settles
        (waiting pieces (settled top.rules h) name is.known agrees.skip agrees.shows agrees.once))
    go (sees_unknown sort dashed is) = by_sort word words _ pieces _ _ sort
        (fails_at (stand h wait false) word words (rw (turn_unknown h wait word agrees.skip is) refl))
    go (sees_name sort plain is) = by_sort word words _ pieces _ _ sort
        (leads_on _ _ word words _ (with_piece (file word) (pieces_from words None)) pieces (turn_name h wait word is_free is) agrees.settles
        (answers_more (pieces_from words None) pieces (file word) _ _
        (free (pieces ++ file word ∷ []) _ positional fills (agrees_file pieces h word agrees))))

-- an option that waits does not take a word that is dashed, and takes any other
when_dashed : (word : Text) (words : List Text) (name : Text) (pieces : List Piece) (fault : Kinds) (rows : List Row) → is_dashed word ≡ true → does_fail fault ≡ true
    → Answers (pieces_from (word ∷ words) (Some name)) pieces fault rows
unfolding pieces_from
when_dashed word words name pieces fault rows dashed fails = rw dashed fails

when_plain : (word : Text) (words : List Text) (name : Text) (pieces : List Piece) (fault : Kinds) (rows : List Row) → is_dashed word ≡ false
    → Answers (with_piece (given name word) (pieces_from words None)) pieces fault rows → Answers (pieces_from (word ∷ words) (Some name)) pieces fault rows
unfolding pieces_from
when_plain word words name pieces fault rows plain h = rw plain h

waiting_step : (word : Text) (words : List Text) → IsUtf8 word → AreTexts words → AnswersFree words → AnswersWaiting (word ∷ words)
waiting_step word words text texts free pieces h name known skip shows once = go (see word text)
  where
    place : Walk
    place = stand (pending name [] h) (option name) false

    refused : is_dashed word ≡ true → Answers (pieces_from (word ∷ words) (Some name)) pieces (fault_from place (word ∷ words)) (rows_from place (word ∷ words))
    refused dashed = when_dashed word words name pieces _ _ dashed
        (dashed_fails word words (pending name [] h) (option name) (see word text) dashed skip (empty_fails h name known))

    taken : (values : List Text) → values_of name pieces ≡ values → IsPlain word
        → Answers (with_piece (given name word) (pieces_from words None)) pieces (fault_from place (word ∷ words)) (rows_from place (word ∷ words))
    taken [] none is =
        leads_on _ _ word words [] (with_piece (given name word) (pieces_from words None)) pieces (turn_value h word name known is) refl
        (answers_more (pieces_from words None) pieces (given name word) _ _
        (free (pieces ++ given name word ∷ []) (pending name (word ∷ []) h) idle idles (agrees_pending pieces h name word known skip shows once none)))
    taken (v ∷ vs) some is =
        repeats (pieces_from words None) pieces (given name word) name word v vs _ _ (option_use name word known).says some
        (fails_behind _ _ word words (turn_value h word name known is)
        (free_fails words (pending name (word ∷ []) h) idle idles texts skip (pending_fails pieces h name word v vs known shows some)))

    go : Seen word → Answers (pieces_from (word ∷ words) (Some name)) pieces (fault_from place (word ∷ words)) (rows_from place (word ∷ words))
    go (sees_name sort plain is) = when_plain word words name pieces _ _ plain (taken (values_of name pieces) refl is)
    go (sees_end sort dashed is) = refused dashed
    go (sees_given other value sort dashed is) = refused dashed
    go (sees_opener other sort dashed is) = refused dashed
    go (sees_flag other sort dashed is) = refused dashed
    go (sees_unknown sort dashed is) = refused dashed

free_end : AnswersFree []
unfolding pieces_from
free_end pieces h waiting free agrees = answers_end pieces (stand h waiting false) agrees

waiting_end : AnswersWaiting []
unfolding pieces_from
waiting_end pieces h name known skip shows once = fails_last (stand (pending name [] h) (option name) false) (empty_fails h name known)

walks : (words : List Text) → AreTexts words → AnswersFree words × AnswersWaiting words
walks [] texts = (free_end, waiting_end)
walks (word ∷ words) texts =
    let rest = walks words texts.1 in
    (free_step word words texts.0 texts.1 rest.0 rest.1, waiting_step word words texts.0 texts.1 rest.0)

-- ---- all the words

nothing_agrees : Agrees [] nothing_held
nothing_agrees = record { skip = refl; settles = refl; shows = record { row = λ id. go id (bytes_eq (codes "file") id) }; once = refl }
  where
    go : (id : Text) (t : Bool) → None ≡ row_with id (cond t [] [])
    go id true = refl
    go id false = refl

-- `clap` fails exactly where the words are not cut into pieces that are complete, and else finds what the pieces say
pub walk_answers : (words : List Text) → AreTexts words → Answers (pieces_from words None) [] (fault_of app words) (matches_of app words)
walk_answers words texts =
    rw (fault_of-app words, matches_of-app words) ((walks words texts).0 [] nothing_held idle idles nothing_agrees)
