-- What is read is a valid program.
use Rattle.std.proofs.Common.{◌≡◌, ℕ, suc, zero, ◌<◌, ◌≤◌, Bool, true, false, cond, ◌&&◌, List, [], ◌∷◌, length, refl, sym, ap, ◌∙◌, arith, Option, Some, None, Result, Ok, Err, IfOk, IfSome, nat_lt}
use Rattle.std.proofs.lemmas.Bool.{and_parts, and_from, le-leb, ltb-false, cond_both}
use Rattle.ops_base.specs.declared.elements.Class.{Class}
use Rattle.ops_base.specs.declared.rules.Rule.{Rule}
use Rattle.ops_base.specs.declared.commands.Command.{Command}
use Rattle.ops_base.specs.declared.endings.Fault.TheVariants as fault
use Rattle.ops_base.specs.Names.{Spellings, only_nil}
use Rattle.ops_base.specs.Valid.{longest_list, is_valid, rule_is_valid, command_is_valid, rule_builds_from, command_builds_from}
use Rattle.ops_tokens.specs.declared.token.LexFault.{LexFault}
use Rattle.ops_tokens.specs.Tokens.{StandsFrom, token_at, spelling}
use Rattle.ops_tokens.specs.declared.token.Token.{Token}
use Rattle.ops_tokens.proofs.Clauses.{token-place}
use Rattle.ops_grammar.specs.declared.words.Word.{Word}
use Rattle.ops_grammar.specs.declared.words.Region.{Region}
use Rattle.ops_grammar.specs.Words.{Lexed, lexed, lexed_from, lexed_after, word_of, words_from, names_from, names_with, word_before, outside, joined, region_after, is_pair, tokens_of}
use Rattle.ops_grammar.specs.Grammar.{Wanted, Forms, State, Step, Next, Refuses, Outcome, step, ends, after, goes, nothing_read, added_by}
use Rattle.ops_grammar.specs.Reads.{Read, Placed, verdict, reads, read_tokens}
use Rattle.ops_grammar.proofs.Lists.{all_parts}
use Rattle.ops_grammar.proofs.Grown.{fits_below}
use Rattle.ops_grammar.proofs.Sound.{IsShort, Program, IsRead, at_forms, Leads}
use Rattle.ops_grammar.proofs.Steps.{step_leads}
use Rattle.ops_grammar.specs.Spelling.{titles_are_distinct, adds_late}
use Rattle.ops_grammar.proofs.Added.{title, distinct_front}

-- the tokens stand in a text of this length from the place on, one after the other
abbrev pub ArePlaced : ℕ → ℕ → List Token → Type 0
ArePlaced text n [] = n ≤ text
ArePlaced text n (t ∷ ts) = (n ≤ t.first) × (t.first < t.past) × (t.past ≤ text) × ArePlaced text t.past ts

-- ---- the tokens of a text

after_placed : (rest : ℕ → Lexed) (text : List ℕ) (from : ℕ) → from ≤ length text → ((past : ℕ) → past ≤ length text → ArePlaced (length text) past (rest past).tokens)
    → (r : Result (Option Token) LexFault) → IfOk r (λ found. IfSome found (StandsFrom text from)) → ArePlaced (length text) from (lexed_after rest r).tokens
after_placed rest text from le ih (Ok None) stands = le
after_placed rest text from le ih (Ok (Some t)) stands = (stands.begins, stands.some, stands.lies.within, ih t.past stands.lies.within)
after_placed rest text from le ih (Err f) stands = le

pub lexed_placed : (n : ℕ) (text : List ℕ) (from : ℕ) → from ≤ length text → ArePlaced (length text) from (lexed_from n text from).tokens
lexed_placed zero text from le = le
lexed_placed (suc n) text from le =
    after_placed (lexed_from n text) text from le (λ past within. lexed_placed n text past within) (token_at text from) (token-place text from le)

-- those that are one are put together
joined_placed : (text : List ℕ) (r : Region) (n m : ℕ) (ts : List Token) → ArePlaced n m ts → ArePlaced n m (joined text r ts)
joined_placed text r n m [] p = p
joined_placed text r n m (t ∷ []) p = p
joined_placed text r n m (t ∷ u ∷ ts) p =
    let next = region_after text r t in
    cond_both (is_pair text r t u) _ _ (ArePlaced n m)
    (λ _. (p.0, omega (arith, p.1, p.3.0, p.3.1), p.3.2, joined_placed text (region_after text next u) n u.past ts p.3.3))
    (λ _. (p.0, p.1, p.2, joined_placed text next n t.past (u ∷ ts) p.3))

pub tokens_placed : (text : List ℕ) → ArePlaced (length text) 0 (tokens_of text)
tokens_placed text = joined_placed text outside (length text) 0 (lexed text).tokens (lexed_placed (suc (length text)) text 0 (omega arith))

-- ---- the walk over their words

-- A program is valid, its productions have names of their own, and those that are added stand after a `make` or a `run`.
abbrev is_sound : List Class → List Rule → List Rule → List Command → ℕ → Bool
is_sound classes rules templates commands text = is_valid classes rules templates commands text && titles_are_distinct rules commands && adds_late commands

-- what was read is so
abbrev IsDone : ℕ → Outcome → Type 0
IsDone text (Ok s) = is_sound s.classes s.rules s.templates s.commands text ≡ true
IsDone text (Err e) = Unit {0}

valid_of : (text n : ℕ) (s : State) → text ≤ longest_list → n ≤ text → IsShort n s → Program text s → is_sound s.classes s.rules s.templates s.commands text ≡ true
valid_of text n s fit within short p =
    let le : n ≤ longest_list = omega arith in
    let rules = all_parts (rule_is_valid s.classes text) (rule_builds_from (length s.templates)) s.rules p.rules_valid in
    let commands = all_parts (command_is_valid s.classes text) (command_builds_from (length s.templates)) s.commands p.commands_valid in
    and_from _ _ (and_from _ _ (and_from _ _ (and_from _ _ (and_from _ _ (and_from _ _ (and_from _ _ (and_from _ _ (and_from _ _ (and_from _ _ (and_from _ _ (and_from _ _
    (fits_below s.classes n short.1 le) (fits_below s.commands n short.3 le)) (le-leb text longest_list fit))
    p.classes_valid) rules.0) p.templates_valid) commands.0) rules.1) commands.1) p.class_names) (distinct_front title s.rules (added_by s.commands) p.rule_names)) p.rule_names) p.late

ends_done : (text n : ℕ) (ws : List Wanted) (s : State) → text ≤ longest_list → n ≤ text → IsShort n s → IsRead text s ws → IsDone text (ends ws s)
unfolding ends
ends_done text n ws s fit within short (at_forms g) = valid_of text n s fit within short g
ends_done text n ws s fit within short _ = tt

goes_by : (text n : ℕ) (w : Word) (words : List Word) (r : Step) → ((ws : List Wanted) (s : State) → IsShort n s → IsRead text s ws → IsDone text (goes words ws s)) → Leads text n r → IsDone text (after (goes words) w r)
goes_by text n w words (Next ws s) ih leads = ih ws s leads.0 leads.1
goes_by text n w words (Refuses f) ih leads = tt

goes_done : (source : List ℕ) (names : Spellings) (ts : List Token) (text n : ℕ) (ws : List Wanted) (s : State) → text ≤ longest_list → ArePlaced text n ts → IsShort n s → IsRead text s ws → IsDone text (goes (words_from source names ts) ws s)
unfolding goes
goes_done source names [] text n ws s fit placed short read = ends_done text n ws s fit placed short read
goes_done source names (t ∷ ts) text n ws s fit placed short read =
    let names' = names_with names t.kind (spelling source t) in
    let w = word_before (word_of source names t) ts in
    goes_by text t.past w (words_from source names' ts) (step w ws s) (λ ws' s' short' read'. goes_done source names' ts text t.past ws' s' fit placed.3 short' read')
    (step_leads text n w fit (record { begins = placed.0; some = placed.1; within = placed.2 }) s ws short read)

-- ---- the law

verdict_valid : (text : ℕ) (names : Spellings) (stop : Option LexFault) (o : Outcome) (p : Read) → IsDone text o → verdict text names stop o ≡ Ok p → is_sound p.classes p.rules p.templates p.commands text ≡ true
verdict_valid text names stop (Err (f, Some w)) p done e = absurd (cc)
verdict_valid text names stop (Err (f, None)) p done e = absurd (cc)
verdict_valid text names (Some f) (Ok s) p done e = absurd (cc)
verdict_valid text names None (Ok s) p done e =
    let same : record { classes = s.classes; rules = s.rules; templates = s.templates; commands = s.commands; names = names } ≡ p = cc in
    ap (λ (q : Read). is_sound q.classes q.rules q.templates q.commands text) (sym same) ∙ done

nothing_valid : (text : ℕ) → Program text nothing_read
nothing_valid text = record { classes_valid = refl; rules_valid = refl; templates_valid = refl; commands_valid = refl; unused = λ _ _ _. refl; class_names = refl; rule_names = refl; late = refl }

by_length : (text : List ℕ) (p : Read) (long : Bool) → nat_lt longest_list (length text) ≡ long → (let x : Result Read Placed = cond long (Err (record { fault = fault.TooLong; at = 0 })) (read_tokens text (lexed text).stop (tokens_of text)) in x ≡ Ok p) → is_sound p.classes p.rules p.templates p.commands (length text) ≡ true
by_length text p true is e = absurd (cc)
by_length text p false is e =
    verdict_valid (length text) (names_from text only_nil (tokens_of text)) (lexed text).stop (goes (words_from text only_nil (tokens_of text)) (Forms ∷ []) nothing_read) p
    (goes_done text only_nil (tokens_of text) (length text) 0 (Forms ∷ []) nothing_read (ltb-false longest_list (length text) is) (tokens_placed text) (omega arith) (at_forms (nothing_valid (length text))))
    e

reads_sound : (text : List ℕ) (p : Read) → reads text ≡ Ok p → is_sound p.classes p.rules p.templates p.commands (length text) ≡ true
unfolding reads
reads_sound text p e = by_length text p (nat_lt longest_list (length text)) refl e

pub reads-valid : (text : List ℕ) (p : Read) → reads text ≡ Ok p → is_valid p.classes p.rules p.templates p.commands (length text) ≡ true
reads-valid text p e =
    let parts = and_parts _ (adds_late p.commands) (reads_sound text p e) in
    (and_parts _ (titles_are_distinct p.rules p.commands) parts.0).0

pub reads-apart : (text : List ℕ) (p : Read) → reads text ≡ Ok p → (titles_are_distinct p.rules p.commands ≡ true) × (adds_late p.commands ≡ true)
reads-apart text p e =
    let parts = and_parts _ (adds_late p.commands) (reads_sound text p e) in
    ((and_parts _ (titles_are_distinct p.rules p.commands) parts.0).1, parts.1)
