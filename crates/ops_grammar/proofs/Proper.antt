-- The keywords that words of texts have.
use Rattle.std.proofs.Common.{◌≡◌, ℕ, Bool, true, false, not, ◌||◌, List, [], ◌∷◌, refl, sym, ap, ◌∙◌, cond, Some, None, true≢false}
use Rattle.std.specs.List.{list_all}
use Rattle.std.specs.Prelude.{codes, bytes_eq}
use Rattle.std.proofs.lemmas.Bool.{and_from, and_parts, or_right, cond_both, or_parts}
use Rattle.ops_base.specs.Names.{Spellings}
use Rattle.ops_base.specs.declared.values.Pred.{Pred}
use Rattle.ops_tokens.specs.declared.token.Token.{Token}
use Rattle.ops_tokens.specs.declared.token.TokenKind.{TokenKind}
use Rattle.ops_tokens.specs.declared.token.TokenKind.TheVariants as kind
use Rattle.ops_tokens.specs.Tokens.{spelling, is_quoted}
use Rattle.ops_grammar.specs.declared.words.Word.{Word}
use Rattle.ops_grammar.specs.declared.words.Keyword.{Keyword}
use Rattle.ops_grammar.specs.declared.words.Keyword.TheVariants as keyword
use Rattle.ops_grammar.specs.Words.{keyword_of, keyword_of_symbol, keyword_of_operator, names_with, words_from, minus_before, keyword_before, keyword_in, hole_in, is_joined}
use Rattle.ops_grammar.specs.Grammar.{is_arrow, is_literal, is_minus, opens_choice, pred_of, begins_group}

abbrev pub is_other : Keyword → Bool
is_other keyword.Other = true
is_other _ = false

-- a keyword that an operator is
abbrev pub is_mark : Keyword → Bool
is_mark keyword.Arrow = true
is_mark keyword.Equal = true
is_mark keyword.NotEqual = true
is_mark keyword.Less = true
is_mark keyword.AtMost = true
is_mark keyword.Greater = true
is_mark keyword.AtLeast = true
is_mark keyword.SameKind = true
is_mark keyword.OpenChoice = true
is_mark keyword.CloseChoice = true
is_mark keyword.Literal = true
is_mark keyword.Minus = true
is_mark keyword.GroupMinus = true
is_mark _ = false

abbrev pub is_hole : Keyword → Bool
is_hole (keyword.Hole variable at) = true
is_hole _ = false

-- An operator has a keyword of operators or none, a plain symbol one of symbols or none, a quoted one that of a hole or
-- none, and every other word has none.
abbrev pub may_have : TokenKind → Keyword → Bool
may_have kind.Operator k = is_mark k || is_other k
may_have kind.Symbol k = not (is_mark k || is_hole k)
may_have kind.Quoted k = is_other k || is_hole k
may_have _ k = is_other k

-- a word as texts have them
abbrev pub is_proper : Word → Bool
is_proper w = may_have w.kind w.keyword

-- ---- the words of a text

-- the keyword of a spelling, or one of those after it
either : (k : TokenKind) (b : Bool) (x y : Keyword) → may_have k x ≡ true → may_have k y ≡ true → may_have k (cond b x y) ≡ true
either k true x y ex ey = ex
either k false x y ex ey = ey

-- what `not` is true of is false
pub not_met : (b : Bool) → not b ≡ true → b ≡ false
not_met true e = absurd (true≢false (sym e))
not_met false e = refl

symbol_proper : (s : List ℕ) → may_have kind.Symbol (keyword_of_symbol s) ≡ true
symbol_proper s =
    either kind.Symbol (bytes_eq s (codes "literalize")) _ _ refl
    (either kind.Symbol (bytes_eq s (codes "vector-attribute")) _ _ refl
    (either kind.Symbol (bytes_eq s (codes "p")) _ _ refl
    (either kind.Symbol (bytes_eq s (codes "make")) _ _ refl
    (either kind.Symbol (bytes_eq s (codes "remove")) _ _ refl
    (either kind.Symbol (bytes_eq s (codes "modify")) _ _ refl
    (either kind.Symbol (bytes_eq s (codes "write")) _ _ refl
    (either kind.Symbol (bytes_eq s (codes "bind")) _ _ refl
    (either kind.Symbol (bytes_eq s (codes "cbind")) _ _ refl
    (either kind.Symbol (bytes_eq s (codes "crlf")) _ _ refl
    (either kind.Symbol (bytes_eq s (codes "tabto")) _ _ refl
    (either kind.Symbol (bytes_eq s (codes "rjust")) _ _ refl
    (either kind.Symbol (bytes_eq s (codes "substr")) _ _ refl
    (either kind.Symbol (bytes_eq s (codes "inf")) _ _ refl
    (either kind.Symbol (bytes_eq s (codes "halt")) _ _ refl
    (either kind.Symbol (bytes_eq s (codes "build")) _ _ refl
    (either kind.Symbol (bytes_eq s (codes "compute")) _ _ refl
    (either kind.Symbol (bytes_eq s (codes "genatom")) _ _ refl
    (either kind.Symbol (bytes_eq s (codes "accept")) _ _ refl
    (either kind.Symbol (bytes_eq s (codes "+")) _ _ refl
    (either kind.Symbol (bytes_eq s (codes "*")) _ _ refl
    (either kind.Symbol (bytes_eq s (codes "\\\\")) _ _ refl
    (either kind.Symbol (bytes_eq s (codes "\\")) _ _ refl
    (either kind.Symbol (bytes_eq s (codes "run")) _ _ refl
    (either kind.Symbol (bytes_eq s (codes "strategy")) _ _ refl
    (either kind.Symbol (bytes_eq s (codes "lex")) _ _ refl
    (either kind.Symbol (bytes_eq s (codes "mea")) _ _ refl
    (either kind.Symbol (bytes_eq s (codes "wm")) _ _ refl
    (either kind.Symbol (bytes_eq s (codes "ppwm")) _ _ refl
    (either kind.Symbol (bytes_eq s (codes "cs")) _ _ refl
    (either kind.Symbol (bytes_eq s (codes "pm")) _ _ refl
    (either kind.Symbol (bytes_eq s (codes "watch")) _ _ refl
    (either kind.Symbol (bytes_eq s (codes "pbreak")) _ _ refl
    (either kind.Symbol (bytes_eq s (codes "excise")) _ _ refl
    (either kind.Symbol (bytes_eq s (codes "matches")) _ _ refl
    (either kind.Symbol (bytes_eq s (codes "back")) _ _ refl
    (either kind.Symbol (bytes_eq s (codes "exit")) _ _ refl refl))))))))))))))))))))))))))))))))))))

-- a plain symbol has no keyword of operators
pub symbol_unmarked : (s : List ℕ) → is_mark (keyword_of_symbol s) ≡ false
symbol_unmarked s = (or_parts (is_mark (keyword_of_symbol s)) (is_hole (keyword_of_symbol s)) (not_met _ (symbol_proper s))).0

operator_proper : (s : List ℕ) → may_have kind.Operator (keyword_of_operator s) ≡ true
operator_proper s =
    either kind.Operator (bytes_eq s (codes "-->")) _ _ refl
    (either kind.Operator (bytes_eq s (codes "=")) _ _ refl
    (either kind.Operator (bytes_eq s (codes "<>")) _ _ refl
    (either kind.Operator (bytes_eq s (codes "<")) _ _ refl
    (either kind.Operator (bytes_eq s (codes "<=")) _ _ refl
    (either kind.Operator (bytes_eq s (codes ">")) _ _ refl
    (either kind.Operator (bytes_eq s (codes ">=")) _ _ refl
    (either kind.Operator (bytes_eq s (codes "<=>")) _ _ refl
    (either kind.Operator (bytes_eq s (codes "<<")) _ _ refl
    (either kind.Operator (bytes_eq s (codes ">>")) _ _ refl
    (either kind.Operator (bytes_eq s (codes "//")) _ _ refl
    (either kind.Operator (bytes_eq s (codes "-")) _ _ refl refl)))))))))))

proper_kind : (k : TokenKind) (s : List ℕ) → may_have k (keyword_of k s) ≡ true
proper_kind kind.Symbol s = symbol_proper s
proper_kind kind.Operator s = operator_proper s
proper_kind _ s = refl

quoted_kind : (k : TokenKind) (w : Keyword) → is_quoted k ≡ true → is_hole w ≡ true → may_have k w ≡ true
quoted_kind kind.Quoted w e h = or_right (is_other w) _ h
quoted_kind _ w e h = absurd (true≢false (sym e))

-- the keyword of a token
token_proper : (text : List ℕ) (names : Spellings) (t : Token) → may_have t.kind (keyword_in text names t) ≡ true
token_proper text names t =
    cond_both (is_joined text t) _ _ (λ (k : Keyword). may_have t.kind k ≡ true)
    (λ e. quoted_kind t.kind (hole_in text names t) (and_parts (is_quoted t.kind) _ e).0 refl) (λ _. proper_kind t.kind (spelling text t))

-- Each word of a text has a keyword that its kind may have.
minus_proper : (k : TokenKind) → may_have kind.Operator (minus_before k) ≡ true
minus_proper kind.LeftBrace = refl
minus_proper _ = refl

minus_is : (k : TokenKind) (ts : List Token) → may_have k keyword.Minus ≡ true → may_have k (keyword_before keyword.Minus ts) ≡ true
minus_is k [] h = h
minus_is kind.Operator (t ∷ ts) h = minus_proper t.kind
minus_is kind.Symbol (t ∷ ts) h = absurd (true≢false (sym h))
minus_is _ (t ∷ ts) h = absurd (true≢false (sym h))

before_proper : (k : TokenKind) (w : Keyword) (ts : List Token) → may_have k w ≡ true → may_have k (keyword_before w ts) ≡ true
before_proper k keyword.Minus ts h = minus_is k ts h
before_proper k _ ts h = h

pub words_proper : (text : List ℕ) (names : Spellings) (ts : List Token) → list_all is_proper (words_from text names ts) ≡ true
words_proper text names [] = refl
words_proper text names (t ∷ ts) =
    and_from _ _ (before_proper t.kind _ ts (token_proper text names t)) (words_proper text (names_with names t.kind (spelling text t)) ts)

-- ---- which keywords are those of operators

pub arrow_marks : (k : Keyword) → is_arrow k ≡ true → is_mark k ≡ true
arrow_marks keyword.Arrow e = refl
arrow_marks _ e = absurd (true≢false (sym e))

pub literal_marks : (k : Keyword) → is_literal k ≡ true → is_mark k ≡ true
literal_marks keyword.Literal e = refl
literal_marks _ e = absurd (true≢false (sym e))

pub minus_marks : (k : Keyword) → is_minus k ≡ true → is_mark k ≡ true
minus_marks keyword.Minus e = refl
minus_marks _ e = absurd (true≢false (sym e))

pub group_marks : (k : Keyword) → begins_group k ≡ true → is_mark k ≡ true
group_marks keyword.GroupMinus e = refl
group_marks _ e = absurd (true≢false (sym e))

pub opening_marks : (k : Keyword) → opens_choice k ≡ true → is_mark k ≡ true
opening_marks keyword.OpenChoice e = refl
opening_marks _ e = absurd (true≢false (sym e))

pub pred_marks : (k : Keyword) (p : Pred) → pred_of k ≡ Some p → is_mark k ≡ true
pred_marks keyword.Equal p e = refl
pred_marks keyword.NotEqual p e = refl
pred_marks keyword.Less p e = refl
pred_marks keyword.AtMost p e = refl
pred_marks keyword.Greater p e = refl
pred_marks keyword.AtLeast p e = refl
pred_marks keyword.SameKind p e = refl
pred_marks _ p e = absurd (cc)

-- such a keyword is no two of them
pub literal_no_opening : (k : Keyword) → is_literal k ≡ true → opens_choice k ≡ false
literal_no_opening keyword.Literal e = refl
literal_no_opening _ e = absurd (true≢false (sym e))

pub literal_no_pred : (k : Keyword) → is_literal k ≡ true → pred_of k ≡ None
literal_no_pred keyword.Literal e = refl
literal_no_pred _ e = absurd (true≢false (sym e))

pub minus_no_arrow : (k : Keyword) → is_minus k ≡ true → is_arrow k ≡ false
minus_no_arrow keyword.Minus e = refl
minus_no_arrow _ e = absurd (true≢false (sym e))

pub group_no_arrow : (k : Keyword) → begins_group k ≡ true → is_arrow k ≡ false
group_no_arrow keyword.GroupMinus e = refl
group_no_arrow _ e = absurd (true≢false (sym e))

pub group_no_minus : (k : Keyword) → begins_group k ≡ true → is_minus k ≡ false
group_no_minus keyword.GroupMinus e = refl
group_no_minus _ e = absurd (true≢false (sym e))

pub pred_no_opening : (k : Keyword) (p : Pred) → pred_of k ≡ Some p → opens_choice k ≡ false
pred_no_opening keyword.OpenChoice p e = absurd (cc)
pred_no_opening _ p e = refl

-- ---- a word with such a keyword is an operator

other_no_mark : {A : Type 0} (k : Keyword) → is_other k ≡ true → is_mark k ≡ true → A
other_no_mark keyword.Other o m = absurd (true≢false (sym m))
other_no_mark _ o m = absurd (true≢false (sym o))

quoted_no_mark : {A : Type 0} (k : Keyword) → (is_other k || is_hole k) ≡ true → is_mark k ≡ true → A
quoted_no_mark keyword.Other o m = absurd (true≢false (sym m))
quoted_no_mark (keyword.Hole variable at) o m = absurd (true≢false (sym m))
quoted_no_mark _ o m = absurd (true≢false (sym o))

-- a hole is quoted
pub hole_kind : (k : TokenKind) (w : Keyword) → is_hole w ≡ true → may_have k w ≡ true → k ≡ kind.Quoted
hole_kind kind.Quoted w h p = refl
hole_kind kind.Symbol w h p = absurd (true≢false (sym h ∙ (or_parts (is_mark w) (is_hole w) (not_met _ p)).1))
hole_kind kind.Operator (keyword.Hole variable at) h p = absurd (true≢false (sym p))
hole_kind _ (keyword.Hole variable at) h p = absurd (true≢false (sym p))
hole_kind _ _ h p = absurd (true≢false (sym h))

hole_of : (k : TokenKind) (w : Keyword) (b : Bool) → is_hole w ≡ b → may_have k w ≡ true → (k ≡ kind.Quoted → w ≡ keyword.Other) → is_hole w ≡ false
hole_of k w false is p other = is
hole_of k w true is p other = ap is_hole (other (hole_kind k w is p))

-- the keyword of a spelling is no hole
pub no_hole_of : (k : TokenKind) (s : List ℕ) → is_hole (keyword_of k s) ≡ false
no_hole_of kind.Symbol s = (or_parts (is_mark (keyword_of_symbol s)) (is_hole (keyword_of_symbol s)) (not_met _ (symbol_proper s))).1
no_hole_of kind.Operator s = hole_of kind.Operator (keyword_of_operator s) (is_hole (keyword_of_operator s)) refl (operator_proper s) (λ e. absurd (true≢false (ap is_quoted (sym e))))
no_hole_of _ s = refl

pub mark_kind : (k : TokenKind) (w : Keyword) → is_mark w ≡ true → may_have k w ≡ true → k ≡ kind.Operator
mark_kind kind.Operator w m p = refl
mark_kind kind.Symbol w m p = absurd (true≢false (sym m ∙ (or_parts (is_mark w) (is_hole w) (not_met _ p)).0))
mark_kind kind.Quoted w m p = quoted_no_mark w p m
mark_kind _ w m p = other_no_mark w p m

-- so it is of no kind that operators are not of
pub no_mark : {A : Type 0} (w : Word) (is : TokenKind → Bool) → is kind.Operator ≡ false → is_mark w.keyword ≡ true → is w.kind ≡ true → is_proper w ≡ true → A
no_mark w is unlike mark e proper = absurd (true≢false (sym e ∙ ap is (mark_kind w.kind w.keyword mark proper) ∙ unlike))
