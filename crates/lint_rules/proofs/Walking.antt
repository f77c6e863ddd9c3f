-- The walk over the tokens, a step at a time.
use Rattle.std.proofs.Common.{◌≡◌, ℕ, ◌+◌, ◌<◌, ◌≤◌, List, [], ◌∷◌, ◌++◌, length, Some, None, Ok, Err, Option, Bool, true, false, sym, ap, ◌∙◌, arith, append_assoc, length-append}
use Rattle.std.proofs.lemmas.List.Elements.{All-append, All-nil, All-from_recursion}
use Rattle.std.specs.Prelude.{All, codes, bytes_eq, ◌==◌, ◌&&◌, not, if◌then◌else◌}
use Rattle.ops_tokens.specs.declared.token.Token.{Token}
use Rattle.ops_tokens.specs.declared.token.LexFault.{LexFault}
use Rattle.ops_tokens.specs.declared.token.TokenKind.{TokenKind}
use Rattle.ops_tokens.specs.declared.token.TokenKind.TheVariants as kind
use Rattle.ops_tokens.specs.Tokens.{Next, token_at, LiesIn, StandsFrom}
use Rattle.ops_tokens.proofs.Clauses.{token-place}
use Rattle.ops_forms.proofs.Reading.{lexed_token, lexed_none, lexed_fault}
use Rattle.lint_rules.specs.declared.slips.Slip.{Slip}
use Rattle.lint_rules.specs.declared.slips.Warning.{Warning}
use Rattle.lint_rules.specs.declared.walk.Before.{Before}
use Rattle.lint_rules.specs.declared.walk.Before.TheVariants as before
use Rattle.lint_rules.specs.declared.walk.Context.{Context}
use Rattle.lint_rules.specs.Slips.{after, after_operator, after_head, after_plain_symbol, after_symbol, begins_build, marks_hole, is_literal, plain, slips_among, warnings_of}
use Rattle.lint_rules.specs.Walks.{LiesWithin, StandsBefore}

-- ---- the token that stands next

pub one_stands : (text : List ℕ) (from : ℕ) (found : Option Token) → from ≤ length text → (let r : Next = Ok found in r ≡ token_at text from) → StandsBefore text from found
one_stands text from None le is = ap (λ l. l.tokens) (lexed_none text from (sym is))
one_stands text from (Some t) le is =
    let stands : StandsFrom text from t = rw (sym is) at (token-place text from le) in
    (ap (λ l. l.tokens) (lexed_token text from t le (sym is)), stands)

pub none_stands : (text : List ℕ) (from : ℕ) (f : LexFault) → (let r : Next = Err f in r ≡ token_at text from) → StandsBefore text from None
none_stands text from f is = ap (λ l. l.tokens) (lexed_fault text from f (sym is))

-- ---- one token more

-- the slips of all tokens are those found, and those among the tokens from a place on, of which this one is the first
pub one_more : (text : List ℕ) (c : Context) (t : Token) (ts rest : List Token) (all found more : List Warning) (slip : Option Slip)
    → all ≡ found ++ slips_among text c ts → ts ≡ t ∷ rest → more ≡ found ++ warnings_of t slip
    → (next : Context) → slips_among text c (t ∷ rest) ≡ warnings_of t slip ++ slips_among text next rest
    → all ≡ more ++ slips_among text next rest
one_more text c t ts rest all found more slip e first adds next goes =
    e ∙ ap (λ us. found ++ slips_among text c us) first ∙ ap (λ ws. found ++ ws) goes
    ∙ sym (append_assoc found (warnings_of t slip) (slips_among text next rest)) ∙ ap (λ ws. ws ++ slips_among text next rest) (sym adds)

-- ---- how many brackets are open

choice_depth : (b : Bool) (x y : Context) (n : ℕ) → x.depth ≤ n → y.depth ≤ n → (if b then x else y).depth ≤ n
choice_depth true x y n h k = h
choice_depth false x y n h k = k

operator_depth : (c : Context) (s : List ℕ) → (after_operator c s).depth ≤ c.depth + 1
operator_depth c s =
    let n = c.depth + 1 in
    let same : c.depth ≤ c.depth + 1 = omega arith in
    choice_depth (bytes_eq s (codes "//")) (record c { before = before.Literal }) _ n same
    (choice_depth (bytes_eq s (codes ">>")) (record c { choice = false; before = before.Other }) _ n same
    (choice_depth (is_literal c.before) (plain c) _ n same
    (choice_depth (bytes_eq s (codes "<<")) (record c { choice = c.conditions; before = before.Other }) _ n same
    (choice_depth (bytes_eq s (codes "-->")) (record c { conditions = c.conditions && c.choice; before = before.Other }) (plain c) n same same))))

head_depth : (c : Context) (s : List ℕ) → (after_head c s).depth ≤ c.depth + 1
head_depth c s =
    let n = c.depth + 1 in
    let same : c.depth ≤ c.depth + 1 = omega arith in
    choice_depth (bytes_eq s (codes "p") && (c.depth == 1)) (record c { conditions = true; built = false; before = before.Production }) _ n same
    (choice_depth (begins_build c s) (record c { conditions = true; built = true; before = before.Production }) _ n same
    (choice_depth (bytes_eq s (codes "write") && not c.conditions) (record c { write = c.depth; before = before.Other }) (plain c) n same same))

plain_symbol_depth : (b : Before) (c : Context) (s : List ℕ) → (after_plain_symbol b c s).depth ≤ c.depth + 1
plain_symbol_depth before.Bracket c s = head_depth c s
plain_symbol_depth before.Production c s = omega arith
plain_symbol_depth before.Literal c s = omega arith
plain_symbol_depth before.Hole c s = omega arith
plain_symbol_depth before.Other c s = omega arith

symbol_depth : (c : Context) (s : List ℕ) → (after_symbol c s).depth ≤ c.depth + 1
symbol_depth c s =
    let same : c.depth ≤ c.depth + 1 = omega arith in
    choice_depth (marks_hole c s) (record c { before = before.Hole }) (after_plain_symbol c.before c s) (c.depth + 1) same (plain_symbol_depth c.before c s)

-- a token opens one bracket at most
pub one_bracket : (k : TokenKind) (c : Context) (s : List ℕ) → (after k c s).depth ≤ c.depth + 1
one_bracket kind.Left c s = omega arith
one_bracket kind.Right c s = omega arith
one_bracket kind.LeftBrace c s = omega arith
one_bracket kind.RightBrace c s = omega arith
one_bracket kind.Caret c s = omega arith
one_bracket kind.Operator c s = operator_depth c s
one_bracket kind.Variable c s = omega arith
one_bracket (kind.Whole n) c s = omega arith
one_bracket kind.Symbol c s = symbol_depth c s
one_bracket kind.Quoted c s = omega arith

-- ---- how many slips are found

pub one_noted : (t : Token) (slip : Option Slip) (found more : List Warning) (most : ℕ) → more ≡ found ++ warnings_of t slip → length found < most → length more ≤ most
one_noted t slip found more most adds room =
    let size = ap length adds ∙ length-append found (warnings_of t slip) in
    let one = at_most_one slip in
    omega (arith, size, one, room)
  where
    at_most_one : (slip : Option Slip) → length (warnings_of t slip) ≤ 1
    at_most_one None = omega arith
    at_most_one (Some s) = omega arith

-- ---- where they stand

one_lies : (text : List ℕ) (t : Token) (slip : Option Slip) → LiesIn text t → All (LiesWithin text) (warnings_of t slip)
one_lies text t None lies = All-nil (LiesWithin text)
one_lies text t (Some s) lies =
    All-from_recursion (LiesWithin text) (record { slip = s; first = t.first; past = t.past } ∷ []) ((lies.ordered, lies.within), tt)

pub all_lie : (text : List ℕ) (t : Token) (slip : Option Slip) (found more : List Warning) → more ≡ found ++ warnings_of t slip → LiesIn text t → All (LiesWithin text) found → All (LiesWithin text) more
all_lie text t slip found more adds lies all =
    rw adds (All-append (LiesWithin text) found (warnings_of t slip) all (one_lies text t slip lies))
