-- The walk over the tokens of a production, one step at a time.
use Rattle.std.proofs.Common.{◌≡◌, ℕ, ◌+◌, ◌≤◌, List, [], ◌∷◌, ◌++◌, length, Some, None, Ok, Err, Option, Bool, true, false, sym, ap, ◌∙◌, arith, append_assoc}
use Rattle.std.proofs.lemmas.List.Elements.{All-append, All-nil, All-from_recursion}
use Rattle.std.specs.Prelude.{All, codes, bytes_eq, nat_lt, ◌==◌, map, flat_map, ◌&&◌, not, if◌then◌else◌}
use Rattle.ops_tokens.specs.declared.token.Token.{Token}
use Rattle.ops_tokens.specs.declared.token.LexFault.{LexFault}
use Rattle.ops_tokens.specs.declared.token.TokenKind.{TokenKind}
use Rattle.ops_tokens.specs.declared.token.TokenKind.TheVariants as kind
use Rattle.ops_tokens.specs.Tokens.{Next, token_at, LiesIn, StandsFrom}
use Rattle.ops_tokens.proofs.Clauses.{token-place}
use Rattle.ops_forms.proofs.Reading.{lexed_token, lexed_none, lexed_fault}
use Rattle.program_slips.specs.declared.words.Standing.{Standing}
use Rattle.program_slips.specs.declared.words.Named.{Named}
use Rattle.ops_grammar.specs.Words.{lexed}
use Rattle.program_slips.specs.Lone.{plain, after_operator, after_word, begins_formula, named_by, named_among, at_start, name_in, again_by, lone_of, lone_among, lone_in}
use Rattle.program_slips.specs.Walks.{LiesWithin, StandsBefore}

-- ---- the next token

pub one_stands : (text : List ℕ) (from : ℕ) (found : Option Token) → from ≤ length text → (let r : Next = Ok found in r ≡ token_at text from) → StandsBefore text from found
one_stands text from None le is = ap (λ l. l.tokens) (lexed_none text from (sym is))
one_stands text from (Some t) le is =
    let stands : StandsFrom text from t = rw (sym is) at (token-place text from le) in
    (ap (λ l. l.tokens) (lexed_token text from t le (sym is)), stands)

pub none_stands : (text : List ℕ) (from : ℕ) (f : LexFault) → (let r : Next = Err f in r ≡ token_at text from) → StandsBefore text from None
none_stands text from f is = ap (λ l. l.tokens) (lexed_fault text from f (sym is))

-- ---- one more token

-- the variables of all tokens are those found so far, and those among the tokens from this one on
pub one_more : (text : List ℕ) (c next : Standing) (t : Token) (ts rest : List Token) (all found more : List Named)
    → all ≡ found ++ named_among text c ts → ts ≡ t ∷ rest → more ≡ found ++ named_by t.kind c t.first t.past
    → named_among text c (t ∷ rest) ≡ named_by t.kind c t.first t.past ++ named_among text next rest
    → all ≡ more ++ named_among text next rest
one_more text c next t ts rest all found more e first adds goes =
    e ∙ ap (λ us. found ++ named_among text c us) first ∙ ap (λ ws. found ++ ws) goes
    ∙ sym (append_assoc found (named_by t.kind c t.first t.past) (named_among text next rest)) ∙ ap (λ ws. ws ++ named_among text next rest) (sym adds)

-- ---- how many brackets of a formula are open

choice_formula : (b : Bool) (x y : Standing) (n : ℕ) → x.formula ≤ n → y.formula ≤ n → (if b then x else y).formula ≤ n
choice_formula true x y n h k = h
choice_formula false x y n h k = k

choice_count : (b : Bool) (x y n : ℕ) → x ≤ n → y ≤ n → (if b then x else y) ≤ n
choice_count true x y n h k = h
choice_count false x y n h k = k

operator_formula : (c : Standing) (s : List ℕ) → (after_operator c s).formula ≤ c.formula + 1
operator_formula c s =
    let n = c.formula + 1 in
    let same : c.formula ≤ c.formula + 1 = omega arith in
    choice_formula c.choice (record c { choice = not (bytes_eq s (codes ">>")); literal = false; head = false }) _ n same
    (choice_formula c.literal (plain c) _ n same
    (choice_formula (bytes_eq s (codes "//")) (record c { literal = c.formula == 0; head = false }) _ n same same))

-- a word opens at most one of them
pub one_bracket : (k : TokenKind) (c : Standing) (s : List ℕ) → (after_word k c s).formula ≤ c.formula + 1
one_bracket kind.Left c s =
    let more : c.formula + 1 ≤ c.formula + 1 = omega arith in
    let none : 0 ≤ c.formula + 1 = omega arith in
    choice_count (nat_lt 0 c.formula) (c.formula + 1) 0 (c.formula + 1) more none
one_bracket kind.Right c s = omega arith
one_bracket kind.LeftBrace c s = omega arith
one_bracket kind.RightBrace c s = omega arith
one_bracket kind.Caret c s = omega arith
one_bracket kind.Operator c s = operator_formula c s
one_bracket kind.Variable c s = omega arith
one_bracket (kind.Whole n) c s = omega arith
one_bracket kind.Symbol c s =
    let first : 1 ≤ c.formula + 1 = omega arith in
    let same : c.formula ≤ c.formula + 1 = omega arith in
    choice_count (begins_formula c s) 1 c.formula (c.formula + 1) first same
one_bracket kind.Quoted c s = omega arith

-- ---- where they are

one_lies : (text : List ℕ) (k : TokenKind) (c : Standing) (first past : ℕ) → first ≤ past → past ≤ length text → All (LiesWithin text) (named_by k c first past)
one_lies text kind.Variable c first past ordered within = by (not c.choice && not c.literal)
  where
    by : (b : Bool) → All (LiesWithin text) (if b then record { first = first; past = past; left = c.left } ∷ [] else [])
    by true = All-from_recursion (LiesWithin text) (record { first = first; past = past; left = c.left } ∷ []) ((ordered, within), tt)
    by false = All-nil (LiesWithin text)
one_lies text kind.Left c first past ordered within = All-nil (LiesWithin text)
one_lies text kind.Right c first past ordered within = All-nil (LiesWithin text)
one_lies text kind.LeftBrace c first past ordered within = All-nil (LiesWithin text)
one_lies text kind.RightBrace c first past ordered within = All-nil (LiesWithin text)
one_lies text kind.Caret c first past ordered within = All-nil (LiesWithin text)
one_lies text kind.Operator c first past ordered within = All-nil (LiesWithin text)
one_lies text (kind.Whole n) c first past ordered within = All-nil (LiesWithin text)
one_lies text kind.Symbol c first past ordered within = All-nil (LiesWithin text)
one_lies text kind.Quoted c first past ordered within = All-nil (LiesWithin text)

pub all_lie : (text : List ℕ) (c : Standing) (t : Token) (found more : List Named) → more ≡ found ++ named_by t.kind c t.first t.past → LiesIn text t → All (LiesWithin text) found → All (LiesWithin text) more
all_lie text c t found more adds lies all =
    rw adds (All-append (LiesWithin text) found (named_by t.kind c t.first t.past) all (one_lies text t.kind c t.first t.past lies.ordered lies.within))

-- ---- those that occur once

pub lone_is : (text : List ℕ) (named found : List Named) (again : List (List ℕ)) → found ≡ flat_map (lone_of text again) named
    → again ≡ again_by [] [] (map (name_in text) named) → named ≡ named_among text at_start (lexed text).tokens → found ≡ lone_in text
lone_is text named found again e is names = e ∙ ap (λ a. flat_map (lone_of text a) named) is ∙ ap (λ ns. lone_among text ns) names
