-- Words that are read alike.
use Rattle.std.proofs.Common.{◌≡◌, ℕ, ◌+◌, Bool, true, false, not, ◌&&◌, ◌||◌, nat_lt, length, List, [], ◌∷◌, refl, sym, ap, ◌∙◌, cond, Option, Some, None, true≢false}
use Rattle.std.specs.Prelude.{if◌then◌else◌}
use Rattle.std.proofs.lemmas.Bool.{cond_both}
use Rattle.ops_base.specs.declared.values.Sym.{Sym}
use Rattle.ops_base.specs.declared.values.Value.{Value}
use Rattle.ops_base.specs.declared.values.Value.TheVariants as value
use Rattle.ops_base.specs.declared.values.Pred.{Pred}
use Rattle.ops_base.specs.declared.values.Pred.TheVariants as pred
use Rattle.ops_base.specs.declared.actions.Term.TheVariants as term
use Rattle.ops_base.specs.declared.expression.Op.{Op}
use Rattle.ops_base.specs.Valid.{most_fields, is_vector}
use Rattle.ops_tokens.specs.declared.token.TokenKind.{TokenKind}
use Rattle.ops_tokens.specs.declared.token.TokenKind.TheVariants as kind
use Rattle.ops_grammar.specs.declared.words.Word.{Word}
use Rattle.ops_grammar.specs.declared.words.Keyword.{Keyword}
use Rattle.ops_grammar.specs.declared.words.Keyword.TheVariants as keyword
use Rattle.ops_grammar.specs.Grammar.{Use, InPattern, InPut, InFixed, Target, ToTest, ToTerms, ToConstants, ToItem, ToBind, EndsWhole, Wanted, Forms, Form, ClassDeclared, Attributes, VectorName, VectorNames, RuleName, FirstPattern, Patterns, Pattern, Braced, ElementName, ClosesBrace, ClassName, Terms, Attribute, Several, Place, Tests, Tested, Choice, Atom, ValueFor, Function, Waiting, ExpressionUnit, ExpressionRest, Bracketed, SourceCell, SourceAttribute, SourceEnd, Actions, ActionWord, BuiltName, Modified, BoundName, BoundValue, CellName, Cell, Cells, Items, ItemWord, Columns, Count, StrategyName, TagOrAll, Tags, Shown, NamedRule, NamedRules, Level, Undone, Closes, State, Step, Next, Refuses, is_left, is_right, is_left_brace, is_right_brace, is_caret, is_literal, is_inf, opens_choice, closes_choice, pred_of, with_write, constant_by, with_constant, with_choice_of, constant_of, value_of, atom_of, form, constant_tested, tested, predicated, test, place, chosen, atom_at, constant_at, is_of_action, value_for, number_of, with_bind, most_brackets, completed, unit_bound, unit_at, bracket_at, expression_unit, is_compute, operation_of, operation_at, expression_ended, source_class, terms, within, one_of_several, with_several, step, Members, GroupBrace}
use Rattle.ops_grammar.specs.Derivation.{is_no_form}
use Rattle.ops_grammar.specs.Spelling.{spelled_name}
use Rattle.ops_grammar.specs.Words.{keyword_of_symbol, has_name}
use Rattle.ops_grammar.proofs.Proper.{is_mark, is_hole, no_hole_of, symbol_unmarked}

-- a name may stand here
abbrev pub wants_name : Wanted → Bool
wants_name ClassDeclared = true
wants_name Attributes = true
wants_name VectorName = true
wants_name VectorNames = true
wants_name RuleName = true
wants_name BuiltName = true
wants_name ClassName = true
wants_name (Attribute u) = true
wants_name (Several u f) = true
wants_name (Place f) = true
wants_name (Tests f) = true
wants_name (Tested f p) = true
wants_name (Choice f) = true
wants_name (Atom t) = true
wants_name (ValueFor t) = true
wants_name (SourceAttribute t) = true
wants_name BoundValue = true
wants_name Items = true
wants_name Shown = true
wants_name NamedRule = true
wants_name (NamedRules u) = true
wants_name _ = false

-- ---- a keyword that is no hole

-- A constant that is no hole is what it is.
no_hole : (k : Keyword) (next : State → Step) (s : State) → is_hole k ≡ false → constant_by k next s ≡ next s
no_hole (keyword.Hole variable at) next s e = absurd (true≢false e)
no_hole _ next s e = refl

-- ---- a keyword that is none of an operator

unmarked_literal : (k : Keyword) → is_mark k ≡ false → is_literal k ≡ false
unmarked_literal keyword.Literal e = absurd (true≢false e)
unmarked_literal _ e = refl

unmarked_opening : (k : Keyword) → is_mark k ≡ false → opens_choice k ≡ false
unmarked_opening keyword.OpenChoice e = absurd (true≢false e)
unmarked_opening _ e = refl

unmarked_closing : (k : Keyword) → is_mark k ≡ false → closes_choice k ≡ false
unmarked_closing keyword.CloseChoice e = absurd (true≢false e)
unmarked_closing _ e = refl

unmarked_pred : (k : Keyword) → is_mark k ≡ false → pred_of k ≡ None
unmarked_pred keyword.Equal e = absurd (true≢false e)
unmarked_pred keyword.NotEqual e = absurd (true≢false e)
unmarked_pred keyword.Less e = absurd (true≢false e)
unmarked_pred keyword.AtMost e = absurd (true≢false e)
unmarked_pred keyword.Greater e = absurd (true≢false e)
unmarked_pred keyword.AtLeast e = absurd (true≢false e)
unmarked_pred keyword.SameKind e = absurd (true≢false e)
unmarked_pred _ e = refl

otherwise : (b : Bool) (x y : Step) → b ≡ false → cond b x y ≡ y
otherwise b x y e = ap (λ (c : Bool). cond c x y) e

module _ (k : Keyword) (unmarked : is_mark k ≡ false) (whole : is_hole k ≡ false) (name : Sym) (first past : ℕ) (ws : List Wanted) (s : State) where
  abbrev symbol : Word
  symbol = record { kind = kind.Symbol; keyword = k; name = name; first = first; past = past }

  tested_alike : (f : ℕ) (p : Pred) → tested f p symbol ws s ≡ Next ws (with_constant (ToTest f p) s (value.Symbol name))
  tested_alike f p = otherwise (is_literal k) _ _ (unmarked_literal k unmarked) ∙ no_hole k (λ r. Next ws (with_constant (ToTest f p) r (value.Symbol name))) s whole

  test_alike : (f : ℕ) → test f symbol ws s ≡ Next ws (with_constant (ToTest f pred.Eq) s (value.Symbol name))
  test_alike f =
      otherwise (opens_choice k) _ _ (unmarked_opening k unmarked) ∙ ap (λ (o : Option Pred). predicated f symbol o ws s) (unmarked_pred k unmarked) ∙ tested_alike f pred.Eq

  value_alike : (t : Target) → value_for t symbol ws s ≡ Next ws (with_constant t s (value.Symbol name))
  value_alike t = otherwise (is_literal k) _ _ (unmarked_literal k unmarked) ∙ no_hole k (λ r. Next ws (with_constant t r (value.Symbol name))) s whole

-- Where a name may stand, a plain symbol with a keyword of symbols or none is read as the same name in bars.
pub symbol-alike : (k : Keyword) (name : Sym) (first past : ℕ) (h : Wanted) (ws : List Wanted) (s : State) → is_mark k ≡ false → is_hole k ≡ false → wants_name h ≡ true
    → step (record { kind = kind.Symbol; keyword = k; name = name; first = first; past = past }) (h ∷ ws) s ≡ step (spelled_name name) (h ∷ ws) s
unfolding step
symbol-alike k name first past ClassDeclared ws s unmarked whole e = refl
symbol-alike k name first past Attributes ws s unmarked whole e = refl
symbol-alike k name first past VectorName ws s unmarked whole e = refl
symbol-alike k name first past VectorNames ws s unmarked whole e = refl
symbol-alike k name first past RuleName ws s unmarked whole e = refl
symbol-alike k name first past BuiltName ws s unmarked whole e = refl
symbol-alike k name first past ClassName ws s unmarked whole e = refl
symbol-alike k name first past (Attribute u) ws s unmarked whole e = refl
symbol-alike k name first past (Several InPattern f) ws s unmarked whole e =
    ap (within (nat_lt f most_fields)) (test_alike k unmarked whole name first past (Several InPattern (f + 1) ∷ ws) s f)
symbol-alike k name first past (Several InPut f) ws s unmarked whole e = value_alike k unmarked whole name first past (Several InPut f ∷ ws) s ToTerms
symbol-alike k name first past (Several InFixed f) ws s unmarked whole e =
    ap (within (nat_lt (f + length s.constants) most_fields)) (value_alike k unmarked whole name first past (Several InFixed f ∷ ws) s ToConstants)
symbol-alike k name first past (Place f) ws s unmarked whole e = test_alike k unmarked whole name first past ws s f
symbol-alike k name first past (Tests f) ws s unmarked whole e = test_alike k unmarked whole name first past (Tests f ∷ ws) s f
symbol-alike k name first past (Tested f p) ws s unmarked whole e = tested_alike k unmarked whole name first past ws s f p
symbol-alike k name first past (Choice f) ws s unmarked whole e =
    otherwise (closes_choice k) _ _ (unmarked_closing k unmarked) ∙ no_hole k (λ r. Next (Choice f ∷ ws) (with_choice_of r (value.Symbol name))) s whole
symbol-alike k name first past (Atom t) ws s unmarked whole e = no_hole k (λ r. Next ws (with_constant t r (value.Symbol name))) s whole
symbol-alike k name first past (ValueFor t) ws s unmarked whole e = value_alike k unmarked whole name first past ws s t
symbol-alike k name first past (SourceAttribute t) ws s unmarked whole e = refl
symbol-alike k name first past BoundValue ws s unmarked whole e = value_alike k unmarked whole name first past (Closes EndsWhole ∷ ws) s ToBind
symbol-alike k name first past Items ws s unmarked whole e = value_alike k unmarked whole name first past (Items ∷ ws) s ToItem
symbol-alike k name first past Shown ws s unmarked whole e = refl
symbol-alike k name first past NamedRule ws s unmarked whole e = refl
symbol-alike k name first past (NamedRules u) ws s unmarked whole e = refl
symbol-alike k name first past _ ws s unmarked whole e = absurd (true≢false (sym e))

-- Where a name may stand, a plain symbol is read as the same name in bars, whatever it spells.
pub spelling-alike : (spelling : List ℕ) (name : Sym) (first past : ℕ) (h : Wanted) (ws : List Wanted) (s : State) → wants_name h ≡ true
    → step (record { kind = kind.Symbol; keyword = keyword_of_symbol spelling; name = name; first = first; past = past }) (h ∷ ws) s ≡ step (spelled_name name) (h ∷ ws) s
spelling-alike spelling name first past h ws s e = symbol-alike (keyword_of_symbol spelling) name first past h ws s (symbol_unmarked spelling) (no_hole_of kind.Symbol spelling) e

-- After the first attribute of a `substr` a plain symbol is read as the same name in bars, but for `inf`.
pub end-alike : (k : Keyword) (name : Sym) (first past : ℕ) (t : Target) (again : Sym) (ws : List Wanted) (s : State) → is_inf k ≡ false
    → step (record { kind = kind.Symbol; keyword = k; name = name; first = first; past = past }) (SourceEnd t again ∷ ws) s ≡ step (spelled_name name) (SourceEnd t again ∷ ws) s
unfolding step
end-alike k name first past t again ws s e =
    otherwise (is_inf k && is_vector (source_class s) s.source_field) _ _ (ap (λ (b : Bool). b && is_vector (source_class s) s.source_field) e)

-- ---- atoms of every kind

atom_named : (k : TokenKind) (name : Sym) → has_name k ≡ true → atom_of k name ≡ Some (value.Symbol name)
atom_named kind.Symbol name e = refl
atom_named kind.Quoted name e = refl
atom_named kind.Variable name e = refl
atom_named kind.Operator name e = refl
atom_named _ name e = absurd (true≢false (sym e))

-- After // each atom that is no number and no hole is read as the same name in bars, whatever it spells.
pub literal-alike : (w : Word) (t : Target) (ws : List Wanted) (s : State) → has_name w.kind ≡ true → is_hole w.keyword ≡ false → step w (Atom t ∷ ws) s ≡ step (spelled_name w.name) (Atom t ∷ ws) s
unfolding step
literal-alike w t ws s e whole =
    ap (λ (o : Option Value). atom_at t w.keyword o ws s) (atom_named w.kind w.name e) ∙ no_hole w.keyword (λ r. Next ws (with_constant t r (value.Symbol w.name))) s whole

-- So it is in a disjunction, but for its end.
pub choice-alike : (w : Word) (f : ℕ) (ws : List Wanted) (s : State) → has_name w.kind ≡ true → is_hole w.keyword ≡ false → closes_choice w.keyword ≡ false → step w (Choice f ∷ ws) s ≡ step (spelled_name w.name) (Choice f ∷ ws) s
unfolding step
choice-alike w f ws s e whole open_yet =
    otherwise (closes_choice w.keyword) _ _ open_yet
    ∙ ap (λ (o : Option Value). chosen w.keyword o (Choice f ∷ ws) s) (atom_named w.kind w.name e)
    ∙ no_hole w.keyword (λ r. Next (Choice f ∷ ws) (with_choice_of r (value.Symbol w.name))) s whole

-- A value that is an operator but // is read as the same name in bars.
pub operator-alike : (k : Keyword) (name : Sym) (first past : ℕ) (t : Target) (ws : List Wanted) (s : State) → is_literal k ≡ false → is_hole k ≡ false
    → step (record { kind = kind.Operator; keyword = k; name = name; first = first; past = past }) (ValueFor t ∷ ws) s ≡ step (spelled_name name) (ValueFor t ∷ ws) s
unfolding step
operator-alike k name first past t ws s e whole = otherwise (is_literal k) _ _ e ∙ no_hole k (λ r. Next ws (with_constant t r (value.Symbol name))) s whole

-- ---- places

-- the place of a word is kept here: of the bracket that begins a form, and of one that ends the actions
abbrev pub keeps_place : Wanted → Bool
keeps_place Forms = true
keeps_place (Actions b) = true
keeps_place _ = false

module _ (w : Word) (first past : ℕ) (ws : List Wanted) (s : State) where
  abbrev moved : Word
  moved = record w { first = first; past = past }

  form_moved : (k : Keyword) → form moved k ws s ≡ form w k ws s
  form_moved keyword.Literalize = refl
  form_moved keyword.Production = refl
  form_moved keyword.Make = refl
  form_moved keyword.Run = refl
  form_moved _ = refl

  constant_tested_moved : (f : ℕ) (p : Pred) (o : Option Value) → constant_tested f p moved o ws s ≡ constant_tested f p w o ws s
  constant_tested_moved f p (Some v) = refl
  constant_tested_moved f p None = refl

  tested_moved : (f : ℕ) (p : Pred) → tested f p moved ws s ≡ tested f p w ws s
  tested_moved f p = ap (λ (x : Step). if is_literal w.keyword then Next (Atom (ToTest f p) ∷ ws) s else x) (constant_tested_moved f p (constant_of w.kind w.name))

  predicated_moved : (f : ℕ) (o : Option Pred) → predicated f moved o ws s ≡ predicated f w o ws s
  predicated_moved f (Some p) = refl
  predicated_moved f None = tested_moved f pred.Eq

  test_moved : (f : ℕ) → test f moved ws s ≡ test f w ws s
  test_moved f = ap (λ (x : Step). if opens_choice w.keyword then Next (Choice f ∷ ws) (record s { choice = [] }) else x) (predicated_moved f (pred_of w.keyword))

  constant_at_moved : (t : Target) (o : Option Value) → constant_at t moved o ws s ≡ constant_at t w o ws s
  constant_at_moved t (Some v) = refl
  constant_at_moved t None = refl

  value_moved : (t : Target) → value_for t moved ws s ≡ value_for t w ws s
  value_moved t =
      ap (λ (x : Step). if is_literal w.keyword then Next (Atom t ∷ ws) s else if is_left w.kind && is_of_action t then Next (Function t ∷ ws) s else x)
      (constant_at_moved t (value_of w.kind w.name))

  place_moved : (f : ℕ) → place f moved ws s ≡ place f w ws s
  place_moved f = ap (λ (x : Step). if is_left_brace w.kind then Next (Tests f ∷ ws) s else x) (test_moved f)

module _ (w : Word) (first past : ℕ) (ws : List Wanted) (s : State) where
  one_moved : (u : Use) (f : ℕ) → one_of_several u f (moved w first past ws s) ws s ≡ one_of_several u f w ws s
  one_moved InPattern f = ap (within (nat_lt f most_fields)) (place_moved w first past (Several InPattern (f + 1) ∷ ws) s f)
  one_moved InPut f = value_moved w first past (Several InPut f ∷ ws) s ToTerms
  one_moved InFixed f = ap (within (nat_lt (f + length s.constants) most_fields)) (value_moved w first past (Several InFixed f ∷ ws) s ToConstants)

-- Elsewhere the place of a word does not matter.
pub moved-alike : (w : Word) (first past : ℕ) (h : Wanted) (ws : List Wanted) (s : State) → keeps_place h ≡ false → step (record w { first = first; past = past }) (h ∷ ws) s ≡ step w (h ∷ ws) s
unfolding step
moved-alike w first past Forms ws s e = absurd (true≢false e)
moved-alike w first past (Actions b) ws s e = absurd (true≢false e)
moved-alike w first past Form ws s e = form_moved w first past ws s w.keyword
moved-alike w first past (Several u f) ws s e =
    ap (λ (x : Step). if is_right w.kind || is_caret w.kind then terms u w ws (with_several u f s) else x) (one_moved w first past ws s u f)
moved-alike w first past (Place f) ws s e = place_moved w first past ws s f
moved-alike w first past (Tests f) ws s e = ap (λ (x : Step). if is_right_brace w.kind then Next ws s else x) (test_moved w first past (Tests f ∷ ws) s f)
moved-alike w first past (Tested f p) ws s e = tested_moved w first past ws s f p
moved-alike w first past (Choice f) ws s e = refl
moved-alike w first past (Atom t) ws s e = refl
moved-alike w first past (ValueFor t) ws s e = value_moved w first past ws s t
moved-alike w first past Items ws s e =
    ap (λ (x : Step). if is_right w.kind then Next ws (with_write s) else if is_left w.kind then Next (ItemWord ∷ Items ∷ ws) s else x) (value_moved w first past (Items ∷ ws) s ToItem)
moved-alike w first past ClassDeclared ws s e = refl
moved-alike w first past Attributes ws s e = refl
moved-alike w first past VectorName ws s e = refl
moved-alike w first past VectorNames ws s e = refl
moved-alike w first past RuleName ws s e = refl
moved-alike w first past FirstPattern ws s e = refl
moved-alike w first past Patterns ws s e = refl
moved-alike w first past Pattern ws s e = refl
moved-alike w first past GroupBrace ws s e = refl
moved-alike w first past (Members n) ws s e = refl
moved-alike w first past Braced ws s e = refl
moved-alike w first past ElementName ws s e = refl
moved-alike w first past ClosesBrace ws s e = refl
moved-alike w first past ClassName ws s e = refl
moved-alike w first past (Terms u) ws s e = refl
moved-alike w first past (Attribute u) ws s e = refl
moved-alike w first past (Function t) ws s e = refl
moved-alike w first past (ExpressionUnit d) ws s e = refl
moved-alike w first past (ExpressionRest d waiting into) ws s e = refl
moved-alike w first past (Bracketed d) ws s e = refl
moved-alike w first past BoundValue ws s e =
    ap (λ (x : Step). if is_right w.kind then Next ws (with_bind (number_of s.variable s.values) s term.Fresh) else x) (value_moved w first past (Closes EndsWhole ∷ ws) s ToBind)
moved-alike w first past SourceCell ws s e = refl
moved-alike w first past (SourceAttribute t) ws s e = refl
moved-alike w first past (SourceEnd t name) ws s e = refl
moved-alike w first past (ActionWord b) ws s e = refl
moved-alike w first past BuiltName ws s e = refl
moved-alike w first past Modified ws s e = refl
moved-alike w first past BoundName ws s e = refl
moved-alike w first past CellName ws s e = refl
moved-alike w first past Cell ws s e = refl
moved-alike w first past Cells ws s e = refl
moved-alike w first past ItemWord ws s e = refl
moved-alike w first past (Columns x) ws s e = refl
moved-alike w first past Count ws s e = refl
moved-alike w first past StrategyName ws s e = refl
moved-alike w first past TagOrAll ws s e = refl
moved-alike w first past (Tags u) ws s e = refl
moved-alike w first past Shown ws s e = refl
moved-alike w first past NamedRule ws s e = refl
moved-alike w first past (NamedRules u) ws s e = refl
moved-alike w first past Level ws s e = refl
moved-alike w first past Undone ws s e = refl
moved-alike w first past (Closes x) ws s e = refl

-- ---- how many brackets are open

-- the same where this many are open
abbrev pub with_depth : ℕ → Wanted → Wanted
with_depth d (ExpressionUnit e) = ExpressionUnit d
with_depth d (ExpressionRest e waiting into) = ExpressionRest d waiting into
with_depth d (Bracketed e) = Bracketed d
with_depth d h = h

-- the word continues the grammar: it is taken, or refused in a form
abbrev pub continues : Step → Bool
continues (Next ws s) = true
continues (Refuses f) = not (is_no_form f)

bracket_continues : (d : ℕ) (ws : List Wanted) (s : State) → continues (bracket_at d ws s) ≡ true
bracket_continues d ws s = cond_both (nat_lt d most_brackets) _ _ (λ r. continues r ≡ true) (λ _. refl) (λ _. refl)

unit_bound_alike : (o : Option ℕ) (ws ws' : List Wanted) (s : State) → continues (unit_bound o ws s) ≡ continues (unit_bound o ws' s)
unit_bound_alike (Some n) ws ws' s = refl
unit_bound_alike None ws ws' s = refl

unit_at_alike : (k : TokenKind) (name : Sym) (ws ws' : List Wanted) (s : State) → continues (unit_at k name ws s) ≡ continues (unit_at k name ws' s)
unit_at_alike (kind.Whole n) name ws ws' s = refl
unit_at_alike kind.Variable name ws ws' s = unit_bound_alike (number_of name s.values) ws ws' s
unit_at_alike _ name ws ws' s = refl

unit_alike : (d e : ℕ) (w : Word) (ws ws' : List Wanted) (s : State) → (b : Bool) → continues (cond b (bracket_at d ws s) (unit_at w.kind w.name ws s)) ≡ continues (cond b (bracket_at e ws' s) (unit_at w.kind w.name ws' s))
unit_alike d e w ws ws' s true = bracket_continues d ws s ∙ sym (bracket_continues e ws' s)
unit_alike d e w ws ws' s false = unit_at_alike w.kind w.name ws ws' s

operation_alike : (d e : ℕ) (waiting : List Waiting) (into : Option Target) (o : Option Op) (ws : List Wanted) (s : State) → continues (operation_at d waiting into o ws s) ≡ continues (operation_at e waiting into o ws s)
operation_alike d e waiting into (Some o) ws s = refl
operation_alike d e waiting into None ws s = refl

rest_alike : (d e : ℕ) (waiting : List Waiting) (into : Option Target) (o : Option Op) (ws : List Wanted) (s : State) (ended : Step) (b : Bool) → continues (cond b ended (operation_at d waiting into o ws s)) ≡ continues (cond b ended (operation_at e waiting into o ws s))
rest_alike d e waiting into o ws s ended true = refl
rest_alike d e waiting into o ws s ended false = operation_alike d e waiting into o ws s

bracketed_alike : (d e : ℕ) (w : Word) (ws : List Wanted) (s : State) (b : Bool) → continues (cond b (Next (ExpressionUnit d ∷ ExpressionRest d [] None ∷ ws) s) (expression_unit d w (ExpressionRest d [] None ∷ ws) s))
    ≡ continues (cond b (Next (ExpressionUnit e ∷ ExpressionRest e [] None ∷ ws) s) (expression_unit e w (ExpressionRest e [] None ∷ ws) s))
bracketed_alike d e w ws s true = refl
bracketed_alike d e w ws s false = unit_alike d e w (ExpressionRest d [] None ∷ ws) (ExpressionRest e [] None ∷ ws) s (is_left w.kind)

-- Whether a word continues the grammar does not depend on how many brackets are open.
pub depth-alike : (d : ℕ) (w : Word) (h : Wanted) (ws : List Wanted) (s : State) → continues (step w (with_depth d h ∷ ws) s) ≡ continues (step w (h ∷ ws) s)
unfolding step
depth-alike d w (ExpressionUnit e) ws s = unit_alike d e w ws ws s (is_left w.kind)
depth-alike d w (ExpressionRest e waiting into) ws s =
    rest_alike d e waiting into (operation_of w.keyword) ws s (expression_ended into (completed s.formula waiting) ws s) (is_right w.kind)
depth-alike d w (Bracketed e) ws s = bracketed_alike d e w ws s (is_compute w.keyword)
depth-alike d w _ ws s = refl
