-- A fault stands in its text, or at its end.
use Rattle.ops_tokens.specs.declared.token.TokenKind.TheVariants as kind
use Rattle.ops_grammar.specs.declared.words.Keyword.TheVariants as keyword
use Rattle.std.proofs.lemmas.Bool.{cond_both}
use Rattle.ops_tokens.specs.declared.token.TokenKind.{TokenKind}
use Rattle.ops_base.specs.declared.endings.Fault.{Fault}
use Rattle.ops_grammar.specs.declared.words.Keyword.{Keyword}
use Rattle.ops_grammar.proofs.Proper.{is_hole, no_hole_of}
use Rattle.std.proofs.Common.{◌≡◌, ℕ, suc, zero, ◌<◌, ◌≤◌, Bool, true, false, cond, List, [], ◌∷◌, length, subst, arith, Option, Some, None, Result, Ok, Err, IfOk, IfSome, IfErr, nat_lt, true≢false}
use Rattle.ops_base.specs.declared.endings.Fault.TheVariants as fault
use Rattle.ops_base.specs.Names.{Spellings, only_nil}
use Rattle.ops_base.specs.Valid.{longest_list}
use Rattle.ops_tokens.specs.declared.token.LexFault.{LexFault}
use Rattle.ops_tokens.specs.declared.token.Token.{Token}
use Rattle.ops_tokens.specs.Tokens.{StandsFrom, token_at, spelling}
use Rattle.ops_tokens.proofs.Clauses.{token-place, token-fault}
use Rattle.ops_grammar.specs.declared.words.Word.{Word}
use Rattle.ops_grammar.specs.Words.{Lexed, lexed, lexed_from, lexed_after, word_of, words_from, names_from, names_with, word_before, tokens_of, keyword_in, keyword_of, keyword_before, minus_before, is_joined}
use Rattle.ops_grammar.specs.Grammar.{Wanted, Forms, State, Step, Next, Refuses, Outcome, step, ends, after, goes, nothing_read}
use Rattle.ops_grammar.specs.Reads.{Read, Placed, verdict, reads, read_tokens, stands_at, variable_place}
use Rattle.ops_grammar.proofs.ReadsValid.{ArePlaced, tokens_placed}

-- what stops the tokens stands in the text
abbrev StopsWithin : ℕ → Option LexFault → Type 0
StopsWithin n stop = IfSome stop (λ f. f.at ≤ n)

after_within : (rest : ℕ → Lexed) (text : List ℕ) (from : ℕ) → ((past : ℕ) → past ≤ length text → StopsWithin (length text) (rest past).stop)
    → (r : Result (Option Token) LexFault) → IfOk r (λ found. IfSome found (StandsFrom text from)) → IfErr r (λ f. (from ≤ f.at) × (f.at < length text)) → StopsWithin (length text) (lexed_after rest r).stop
after_within rest text from ih (Ok None) stands refused = tt
after_within rest text from ih (Ok (Some t)) stands refused = ih t.past stands.lies.within
after_within rest text from ih (Err f) stands refused = omega (arith, refused.1)

stop_within : (k : ℕ) (text : List ℕ) (from : ℕ) → from ≤ length text → StopsWithin (length text) (lexed_from k text from).stop
stop_within zero text from le = tt
stop_within (suc k) text from le =
    after_within (lexed_from k text) text from (λ past within. stop_within k text past within) (token_at text from) (token-place text from le) (token-fault text from le)

-- the word at which it fails stands in the text
abbrev FailsWithin : ℕ → Outcome → Type 0
FailsWithin n (Ok s) = Unit {0}
FailsWithin n (Err (f, None)) = Unit {0}
FailsWithin n (Err (f, Some w)) = stands_at f w ≤ n

ends_within : (n : ℕ) (ws : List Wanted) (s : State) → FailsWithin n (ends ws s)
unfolding ends
ends_within n [] s = tt
ends_within n (Forms ∷ ws) s = ends_within n ws s
ends_within n (w ∷ ws) s = tt

-- so does the variable of a hole
abbrev HoleWithin : ℕ → Keyword → Type 0
HoleWithin n (keyword.Hole variable at) = at ≤ n
HoleWithin n _ = Unit {0}

none_within : (n : ℕ) (k : Keyword) → is_hole k ≡ false → HoleWithin n k
none_within n (keyword.Hole variable at) e = absurd (true≢false e)
none_within n _ e = tt

keyword_within : (n : ℕ) (source : List ℕ) (names : Spellings) (t : Token) → t.past ≤ n → HoleWithin n (keyword_in source names t)
keyword_within n source names t le =
    cond_both (is_joined source t) _ _ (HoleWithin n) (λ _. omega (arith, le)) (λ _. none_within n (keyword_of t.kind (spelling source t)) (no_hole_of t.kind (spelling source t)))

before_within : (n : ℕ) (k : Keyword) (ts : List Token) → HoleWithin n k → HoleWithin n (keyword_before k ts)
before_within n keyword.Minus [] h = tt
before_within n keyword.Minus (t ∷ ts) h = by t.kind
  where
    by : (k : TokenKind) → HoleWithin n (minus_before k)
    by kind.LeftBrace = tt
    by _ = tt
before_within n _ ts h = h

place_within : (n first : ℕ) (k : Keyword) → first ≤ n → HoleWithin n k → variable_place k first ≤ n
place_within n first (keyword.Hole variable at) le h = h
place_within n first _ le h = le

stands_within : (n : ℕ) (w : Word) → w.first ≤ n → HoleWithin n w.keyword → (f : Fault) → stands_at f w ≤ n
stands_within n w le h fault.UnboundVariable = place_within n w.first w.keyword le h
stands_within n w le h _ = le

word_within : (source : List ℕ) (names : Spellings) (n : ℕ) (t : Token) (ts : List Token) → t.first ≤ n → t.past ≤ n → (f : Fault) → stands_at f (word_before (word_of source names t) ts) ≤ n
word_within source names n t ts first past =
    stands_within n (word_before (word_of source names t) ts) first (before_within n (keyword_in source names t) ts (keyword_within n source names t past))

goes_by : (n : ℕ) (rest : List Wanted → State → Outcome) (w : Word) → ((f : Fault) → stands_at f w ≤ n) → ((ws : List Wanted) (s : State) → FailsWithin n (rest ws s)) → (r : Step) → FailsWithin n (after rest w r)
goes_by n rest w le ih (Next ws s) = ih ws s
goes_by n rest w le ih (Refuses f) = le f

goes_within : (source : List ℕ) (names : Spellings) (ts : List Token) (n from : ℕ) (ws : List Wanted) (s : State) → ArePlaced n from ts → FailsWithin n (goes (words_from source names ts) ws s)
unfolding goes
goes_within source names [] n from ws s placed = ends_within n ws s
goes_within source names (t ∷ ts) n from ws s placed =
    let names' = names_with names t.kind (spelling source t) in
    let w = word_before (word_of source names t) ts in
    goes_by n (goes (words_from source names' ts)) w (word_within source names n t ts (omega (arith, placed.1, placed.2)) placed.2) (λ ws' s'. goes_within source names' ts n t.past ws' s' placed.3) (step w ws s)

verdict_within : (n : ℕ) (names : Spellings) (stop : Option LexFault) (o : Outcome) → StopsWithin n stop → FailsWithin n o → IfErr (verdict n names stop o) (λ p. p.at ≤ n)
verdict_within n names stop (Err (f, Some w)) stops fails = fails
verdict_within n names (Some f) (Err (g, None)) stops fails = stops
verdict_within n names None (Err (g, None)) stops fails = omega arith
verdict_within n names (Some f) (Ok s) stops fails = stops
verdict_within n names None (Ok s) stops fails = tt

by_length : (n : ℕ) (long : Bool) (r : Result Read Placed) → IfErr r (λ p. p.at ≤ n) → IfErr (cond long (Err (record { fault = fault.TooLong; at = 0 })) r) (λ p. p.at ≤ n)
by_length n true r h = omega arith
by_length n false r h = h

all_within : (text : List ℕ) → IfErr (reads text) (λ p. p.at ≤ length text)
unfolding reads
all_within text =
    by_length (length text) (nat_lt longest_list (length text)) (read_tokens text (lexed text).stop (tokens_of text))
    (verdict_within (length text) (names_from text only_nil (tokens_of text)) (lexed text).stop (goes (words_from text only_nil (tokens_of text)) (Forms ∷ []) nothing_read)
    (stop_within (suc (length text)) text 0 (omega arith))
    (goes_within text only_nil (tokens_of text) (length text) 0 (Forms ∷ []) nothing_read (tokens_placed text)))

pub reads-within : (text : List ℕ) (p : Placed) → reads text ≡ Err p → p.at ≤ length text
reads-within text p e = subst (λ (r : Result Read Placed). IfErr r (λ p. p.at ≤ length text)) e (all_within text)
