-- The fault with which a word is refused has the lowest number of those that have their reason there.
use Rattle.ops_base.specs.declared.values.Pred.{Pred}
use Rattle.ops_grammar.specs.declared.words.Keyword.{Keyword}
use Rattle.ops_grammar.specs.declared.words.Keyword.TheVariants as keyword
use Rattle.ops_base.specs.declared.values.Pred.TheVariants as pred
use Rattle.std.proofs.Common.{◌≡◌, ℕ, ◌+◌, ◌≤◌, Bool, true, false, ◌&&◌, ◌||◌, List, ◌∷◌, length, refl, sym, ap, subst, ◌∙◌, arith, inl, inr, Option, Some, None, nat_lt, true≢false, not, is_some}
use Rattle.std.proofs.lemmas.Bool.{cond_both, and_parts, not-true, cases_lt}
use Rattle.ops_base.specs.declared.values.Sym.{Sym}
use Rattle.ops_base.specs.declared.values.Value.{Value}
use Rattle.ops_base.specs.declared.endings.Fault.{Fault}
use Rattle.ops_base.specs.declared.endings.Fault.TheVariants as fault
use Rattle.ops_base.specs.declared.endings.Limit.TheVariants as limit
use Rattle.ops_base.specs.Valid.{most_fields}
use Rattle.ops_tokens.specs.declared.token.TokenKind.{TokenKind}
use Rattle.ops_tokens.specs.declared.token.TokenKind.TheVariants as kind
use Rattle.ops_grammar.specs.declared.words.Word.{Word}
use Rattle.ops_grammar.specs.Grammar.{InPattern, InPut, InFixed, ToConstants, Wanted, Form, ClassDeclared, Attributes, VectorName, VectorNames, RuleName, FirstPattern, Patterns, Braced, ElementName, ClassName, Attribute, Several, Shown, Tested, ValueFor, ExpressionUnit, Bracketed, SourceCell, SourceAttribute, Modified, BoundValue, CellName, Cell, Cells, Items, State, Step, Next, Refuses, is_left, is_right, is_caret, is_name, is_variable, is_literal, value_of, is_one_of, number_of, is_second, attributes, bound_at, constant_at, is_of_action, value_for, within, several, step, Members, Use, Place, Tests, Choice, Atom, with_hole, with_constant, constant_by, filled, values_around, place, tested, predicated, variable_tested, constant_tested, constant_of, pred_of, opens_choice, is_left_brace, ToTest}
use Rattle.ops_grammar.specs.Derivation.{is_no_form}
use Rattle.ops_grammar.specs.Reasons.{fault_number, wants_form, wants_class, wants_attribute, is_declared, gives_second, is_full, nests_deepest, wants_condition, wants_first, wants_bound, designates, wants_cell, is_bad_designator, Because, wants_constant, is_unfilled}
use Rattle.ops_grammar.specs.Standing.{IsLowest}
use Rattle.ops_grammar.proofs.Arranged.{AreArranged}
use Rattle.ops_grammar.proofs.Proper.{is_proper, literal_marks, mark_kind, is_hole, is_mark, may_have, hole_kind, pred_marks, opening_marks}
use Rattle.ops_grammar.proofs.Follows.{variable_not_left}
use Rattle.ops_grammar.proofs.Reasons.{refused-because}

-- ---- where a reason may be one

-- the lowest number of the faults in a form that may have their reason where this is wanted
abbrev least_at : List Wanted → ℕ
least_at (ClassName ∷ ws) = 8
least_at (Shown ∷ ws) = 8
least_at (Attribute u ∷ ws) = 9
least_at (SourceAttribute t ∷ ws) = 9
least_at (ClassDeclared ∷ ws) = 10
least_at (Attributes ∷ ws) = 10
least_at (RuleName ∷ ws) = 10
least_at (VectorName ∷ ws) = 11
least_at (VectorNames ∷ ws) = 11
least_at (Form ∷ ws) = 12
least_at (FirstPattern ∷ ws) = 14
least_at (Tested f p ∷ ws) = 15
least_at (Place f ∷ ws) = 15
least_at (Tests f ∷ ws) = 15
least_at (Choice f ∷ ws) = 15
least_at (Atom t ∷ ws) = 15
least_at (Several InPattern f ∷ ws) = 15
least_at (ValueFor t ∷ ws) = 15
least_at (Several InPut f ∷ ws) = 15
least_at (Several InFixed f ∷ ws) = 15
least_at (Items ∷ ws) = 15
least_at (ExpressionUnit d ∷ ws) = 15
least_at (Bracketed d ∷ ws) = 15
least_at (BoundValue ∷ ws) = 15
least_at (Braced ∷ ws) = 16
least_at (ElementName ∷ ws) = 16
least_at (Modified ∷ ws) = 16
least_at (CellName ∷ ws) = 16
least_at (Cell ∷ ws) = 16
least_at (Cells ∷ ws) = 16
least_at (SourceCell ∷ ws) = 16
least_at ws = 18

-- The reasons here exclude each other. Where they don't, an attribute may be declared twice, be a second vector
-- attribute and pass the limit, and a place of a pattern or a value of a command may be an unbound variable and pass the
-- limit.
abbrev is_single : List Wanted → Bool
is_single (Attributes ∷ ws) = false
is_single (Several InFixed f ∷ ws) = false
is_single (Several InPattern f ∷ ws) = false
is_single ws = true

class_least : (ws : List Wanted) → wants_class ws ≡ true → least_at ws ≡ 8
class_least (ClassName ∷ ws) e = refl
class_least (Shown ∷ ws) e = refl
class_least _ e = absurd (true≢false (sym e))

attribute_least : (ws : List Wanted) → wants_attribute ws ≡ true → least_at ws ≡ 9
attribute_least (Attribute u ∷ ws) e = refl
attribute_least (SourceAttribute t ∷ ws) e = refl
attribute_least _ e = absurd (true≢false (sym e))

declared_least : (ws : List Wanted) (name : Sym) (s : State) → is_declared ws name s ≡ true → least_at ws ≡ 10
declared_least (ClassDeclared ∷ ws) name s e = refl
declared_least (Attributes ∷ ws) name s e = refl
declared_least (RuleName ∷ ws) name s e = refl
declared_least _ name s e = absurd (true≢false (sym e))

second_least : (ws : List Wanted) (name : Sym) (s : State) → gives_second ws name s ≡ true → least_at ws ≤ 11
second_least (Attributes ∷ ws) name s e = omega arith
second_least (VectorName ∷ ws) name s e = omega arith
second_least (VectorNames ∷ ws) name s e = omega arith
second_least _ name s e = absurd (true≢false (sym e))

second_single : (ws : List Wanted) (name : Sym) (s : State) → is_single ws ≡ true → gives_second ws name s ≡ true → least_at ws ≡ 11
second_single (Attributes ∷ ws) name s single e = absurd (true≢false (sym single))
second_single (VectorName ∷ ws) name s single e = refl
second_single (VectorNames ∷ ws) name s single e = refl
second_single _ name s single e = absurd (true≢false (sym e))

form_least : (ws : List Wanted) → wants_form ws ≡ true → least_at ws ≡ 12
form_least (Form ∷ ws) e = refl
form_least _ e = absurd (true≢false (sym e))

first_least : (ws : List Wanted) → wants_first ws ≡ true → least_at ws ≡ 14
first_least (FirstPattern ∷ ws) e = refl
first_least _ e = absurd (true≢false (sym e))

bound_least : (ws : List Wanted) → wants_bound ws ≡ true → least_at ws ≡ 15
bound_least (Tested f p ∷ ws) e = refl
bound_least (ValueFor t ∷ ws) e = refl
bound_least (ExpressionUnit d ∷ ws) e = refl
bound_least (Bracketed d ∷ ws) e = refl
bound_least (BoundValue ∷ ws) e = refl
bound_least (Several InPut f ∷ ws) e = refl
bound_least (Several InFixed f ∷ ws) e = refl
bound_least (Items ∷ ws) e = refl
bound_least _ e = absurd (true≢false (sym e))

designator_least : (ws : List Wanted) (w : Word) (s : State) → is_bad_designator ws w s ≡ true → least_at ws ≡ 16
designator_least (Modified ∷ ws) w s e = refl
designator_least (CellName ∷ ws) w s e = refl
designator_least (Cell ∷ ws) w s e = refl
designator_least (Cells ∷ ws) w s e = refl
designator_least (SourceCell ∷ ws) w s e = refl
designator_least (Braced ∷ ws) w s e = refl
designator_least (ElementName ∷ ws) w s e = refl
designator_least _ w s e = absurd (true≢false (sym e))

cell_least : (ws : List Wanted) → wants_cell ws ≡ true → least_at ws ≡ 16
cell_least (Modified ∷ ws) e = refl
cell_least (Cell ∷ ws) e = refl
cell_least (Cells ∷ ws) e = refl
cell_least _ e = absurd (true≢false (sym e))

condition_least : (ws : List Wanted) → wants_condition ws ≡ true → least_at ws ≡ 18
condition_least (Patterns ∷ ws) e = refl
condition_least (Members n ∷ ws) e = refl
condition_least _ e = absurd (true≢false (sym e))

full_least : (ws : List Wanted) (s : State) → is_full ws s ≡ true → least_at ws ≤ 18
full_least (Attributes ∷ ws) s e = omega arith
full_least (Several InPattern f ∷ ws) s e = omega arith
full_least (Several InFixed f ∷ ws) s e = omega arith
full_least _ s e = absurd (true≢false (sym e))

full_single : (ws : List Wanted) (s : State) → is_single ws ≡ true → is_full ws s ≡ true → least_at ws ≡ 18
full_single (Attributes ∷ ws) s single e = absurd (true≢false (sym single))
full_single (Several InPattern f ∷ ws) s single e = absurd (true≢false (sym single))
full_single (Several InFixed f ∷ ws) s single e = absurd (true≢false (sym single))
full_single _ s single e = absurd (true≢false (sym e))

constant_least : (ws : List Wanted) → wants_constant ws ≡ true → least_at ws ≡ 15
constant_least (Place f ∷ ws) e = refl
constant_least (Tests f ∷ ws) e = refl
constant_least (Tested f p ∷ ws) e = refl
constant_least (Choice f ∷ ws) e = refl
constant_least (Atom t ∷ ws) e = refl
constant_least (ValueFor t ∷ ws) e = refl
constant_least (Several InPattern f ∷ ws) e = refl
constant_least (Several InPut f ∷ ws) e = refl
constant_least (Several InFixed f ∷ ws) e = refl
constant_least (BoundValue ∷ ws) e = refl
constant_least (Items ∷ ws) e = refl
constant_least _ e = absurd (true≢false (sym e))

-- no bracket opens an expression where a constant may stand
constant_shallow : (ws : List Wanted) → wants_constant ws ≡ true → nests_deepest ws ≡ false
constant_shallow (ExpressionUnit d ∷ ws) e = absurd (true≢false (sym e))
constant_shallow (Bracketed d ∷ ws) e = absurd (true≢false (sym e))
constant_shallow _ e = refl

deepest_least : (ws : List Wanted) → nests_deepest ws ≡ true → least_at ws ≡ 15
deepest_least (ExpressionUnit d ∷ ws) e = refl
deepest_least (Bracketed d ∷ ws) e = refl
deepest_least _ e = absurd (true≢false (sym e))

-- where a cell is wanted, a bad designator designates none
bad_designates : (ws : List Wanted) (w : Word) (s : State) → wants_cell ws ≡ true → is_bad_designator ws w s ≡ true → designates w.kind w.name s ≡ false
bad_designates (Modified ∷ ws) w s wants e = not-true _ (and_parts _ _ e).1
bad_designates (Cell ∷ ws) w s wants e = not-true _ (and_parts _ _ e).1
bad_designates (Cells ∷ ws) w s wants e = not-true _ (and_parts _ _ e).1
bad_designates _ w s wants e = absurd (true≢false (sym wants))

next_number : (n m : ℕ) → n ≤ m → (m ≡ n → ⊥) → n + 1 ≤ m
next_number n m le other = elim (cases_lt n m) [ inl lt ↦ omega (arith, lt) | inr back ↦ absurd (other (omega (arith, le, back))) ]

-- ---- the numbers of faults that have their reason

module _ (w : Word) (ws : List Wanted) (s : State) where
  reason_begins : (g : Fault) → is_no_form g ≡ false → Because g w ws s → 8 ≤ fault_number g
  reason_begins fault.Stray in_form r = absurd (true≢false in_form)
  reason_begins fault.UnknownCommand in_form r = absurd (true≢false in_form)
  reason_begins fault.BadForm in_form r = absurd (true≢false in_form)
  reason_begins fault.BadByte in_form r = absurd r
  reason_begins fault.Unclosed in_form r = absurd r
  reason_begins fault.FractionNumber in_form r = absurd r
  reason_begins fault.NumberRange in_form r = absurd r
  reason_begins _ in_form r = omega arith

  reason_least : (g : Fault) → is_no_form g ≡ false → Because g w ws s → least_at ws ≤ fault_number g
  reason_least fault.UnknownClass in_form r = let at = class_least ws r.0 in omega (arith, at)
  reason_least fault.UnknownAttribute in_form r = let at = attribute_least ws r.0 in omega (arith, at)
  reason_least fault.DeclaredTwice in_form r = let at = declared_least ws w.name s r.1 in omega (arith, at)
  reason_least fault.TwoVectors in_form r = second_least ws w.name s r.1
  reason_least fault.LateDeclaration in_form r = let at = form_least ws r.0 in omega (arith, at)
  reason_least fault.FirstNegated in_form r = let at = first_least ws r.1 in omega (arith, at)
  reason_least fault.UnboundVariable in_form (inl r) = let at = bound_least ws r.0 in omega (arith, at)
  reason_least fault.UnboundVariable in_form (inr r) = let at = constant_least ws r.0 in omega (arith, at)
  reason_least fault.BadDesignator in_form r = let at = designator_least ws w s r in omega (arith, at)
  reason_least fault.AmbiguousDesignator in_form r = let at = cell_least ws r.0 in omega (arith, at)
  reason_least (fault.LimitPassed limit.Fields) in_form r = full_least ws s r
  reason_least (fault.LimitPassed limit.Conditions) in_form r = let at = condition_least ws r.0 in omega (arith, at)
  reason_least (fault.LimitPassed limit.Nesting) in_form r = let at = deepest_least ws r.1 in omega (arith, at)
  reason_least fault.Stray in_form r = absurd (true≢false in_form)
  reason_least fault.UnknownCommand in_form r = absurd (true≢false in_form)
  reason_least fault.BadForm in_form r = absurd (true≢false in_form)
  reason_least _ in_form r = absurd r

  declared_number : (g : Fault) → fault_number g ≡ 10 → Because g w ws s → is_declared ws w.name s ≡ true
  declared_number fault.DeclaredTwice e r = r.1
  declared_number _ e r = absurd (omega (arith, e))

  designator_number : (g : Fault) → fault_number g ≡ 16 → Because g w ws s → is_bad_designator ws w s ≡ true
  designator_number fault.BadDesignator e r = r
  designator_number _ e r = absurd (omega (arith, e))

  -- ---- the fault that names its reason

  lowest_at : (f : Fault) → fault_number f ≤ least_at ws → IsLowest f w ws s
  lowest_at f le g in_form r = let least = reason_least g in_form r in omega (arith, le, least)

  -- each fault of a word that continues no form
  low : (f : Fault) → fault_number f ≤ 8 → IsLowest f w ws s
  low f le g in_form r = let begins = reason_begins g in_form r in omega (arith, le, begins)

  ambiguous_lowest : wants_cell ws ≡ true → designates w.kind w.name s ≡ true → IsLowest fault.AmbiguousDesignator w ws s
  ambiguous_lowest wants is g in_form r =
      let at = cell_least ws wants in
      let least = reason_least g in_form r in
      next_number 16 (fault_number g) (omega (arith, at, least)) (λ e. true≢false (sym is ∙ bad_designates ws w s wants (designator_number g e r)))

  -- of a bracket past the limit, which is no variable
  nesting_lowest : is_left w.kind ≡ true → nests_deepest ws ≡ true → IsLowest (fault.LimitPassed limit.Nesting) w ws s
  nesting_lowest left deepest fault.UnboundVariable in_form (inl r) = absurd (true≢false (sym left ∙ variable_not_left w.kind r.1))
  nesting_lowest left deepest fault.UnboundVariable in_form (inr r) = absurd (true≢false (sym deepest ∙ constant_shallow ws r.0))
  nesting_lowest left deepest fault.DeclaredTwice in_form r =
      let at = declared_least ws w.name s r.1 in let here = deepest_least ws deepest in absurd (omega (arith, at, here))
  nesting_lowest left deepest fault.TwoVectors in_form r =
      let at = second_least ws w.name s r.1 in let here = deepest_least ws deepest in absurd (omega (arith, at, here))
  nesting_lowest left deepest fault.UnknownClass in_form r =
      let at = class_least ws r.0 in let here = deepest_least ws deepest in absurd (omega (arith, at, here))
  nesting_lowest left deepest fault.UnknownAttribute in_form r =
      let at = attribute_least ws r.0 in let here = deepest_least ws deepest in absurd (omega (arith, at, here))
  nesting_lowest left deepest fault.LateDeclaration in_form r =
      let at = form_least ws r.0 in let here = deepest_least ws deepest in absurd (omega (arith, at, here))
  nesting_lowest left deepest fault.FirstNegated in_form r =
      let at = first_least ws r.1 in let here = deepest_least ws deepest in absurd (omega (arith, at, here))
  nesting_lowest left deepest fault.BadDesignator in_form r =
      let at = designator_least ws w s r in let here = deepest_least ws deepest in absurd (omega (arith, at, here))
  nesting_lowest left deepest fault.AmbiguousDesignator in_form r =
      let at = cell_least ws r.0 in let here = deepest_least ws deepest in absurd (omega (arith, at, here))
  nesting_lowest left deepest (fault.LimitPassed l) in_form r = omega arith
  nesting_lowest left deepest fault.Stray in_form r = absurd (true≢false in_form)
  nesting_lowest left deepest fault.UnknownCommand in_form r = absurd (true≢false in_form)
  nesting_lowest left deepest fault.BadForm in_form r = absurd (true≢false in_form)
  nesting_lowest left deepest _ in_form r = absurd r

  reason_lowest : is_single ws ≡ true → (f : Fault) → Because f w ws s → IsLowest f w ws s
  reason_lowest single fault.UnknownClass r = low fault.UnknownClass (omega arith)
  reason_lowest single fault.UnknownAttribute r = let at = attribute_least ws r.0 in lowest_at fault.UnknownAttribute (omega (arith, at))
  reason_lowest single fault.DeclaredTwice r = let at = declared_least ws w.name s r.1 in lowest_at fault.DeclaredTwice (omega (arith, at))
  reason_lowest single fault.TwoVectors r = let at = second_single ws w.name s single r.1 in lowest_at fault.TwoVectors (omega (arith, at))
  reason_lowest single fault.LateDeclaration r = let at = form_least ws r.0 in lowest_at fault.LateDeclaration (omega (arith, at))
  reason_lowest single fault.FirstNegated r = let at = first_least ws r.1 in lowest_at fault.FirstNegated (omega (arith, at))
  reason_lowest single fault.UnboundVariable (inl r) = let at = bound_least ws r.0 in lowest_at fault.UnboundVariable (omega (arith, at))
  reason_lowest single fault.UnboundVariable (inr r) = let at = constant_least ws r.0 in lowest_at fault.UnboundVariable (omega (arith, at))
  reason_lowest single fault.BadDesignator r = let at = designator_least ws w s r in lowest_at fault.BadDesignator (omega (arith, at))
  reason_lowest single fault.AmbiguousDesignator r = ambiguous_lowest r.0 r.1
  reason_lowest single (fault.LimitPassed limit.Fields) r =
      let at = full_single ws s single r in lowest_at (fault.LimitPassed limit.Fields) (omega (arith, at))
  reason_lowest single (fault.LimitPassed limit.Conditions) r =
      let at = condition_least ws r.0 in lowest_at (fault.LimitPassed limit.Conditions) (omega (arith, at))
  reason_lowest single (fault.LimitPassed limit.Nesting) r = nesting_lowest r.0 r.1
  reason_lowest single fault.Stray r = low fault.Stray (omega arith)
  reason_lowest single fault.UnknownCommand r = low fault.UnknownCommand (omega arith)
  reason_lowest single fault.BadForm r = low fault.BadForm (omega arith)
  reason_lowest single _ r = absurd r

abbrev HasLowest : List Wanted → Word → State → Step → Type 0
HasLowest ws w s (Next ws' s') = Unit {0}
HasLowest ws w s (Refuses f) = IsLowest f w ws s

-- ---- an attribute that is declared

module _ (w : Word) (ws : List Wanted) (s : State) where
  -- of a new name that is no second vector attribute
  attribute_full : is_one_of w.name s.attrs ≡ false → is_second w.name s ≡ false → IsLowest (fault.LimitPassed limit.Fields) w (Attributes ∷ ws) s
  attribute_full new alone fault.DeclaredTwice in_form r = absurd (true≢false (sym r.1 ∙ new))
  attribute_full new alone fault.TwoVectors in_form r = absurd (true≢false (sym r.1 ∙ alone))
  attribute_full new alone fault.UnknownClass in_form r = absurd (true≢false (sym r.0))
  attribute_full new alone fault.UnknownAttribute in_form r = absurd (true≢false (sym r.0))
  attribute_full new alone fault.LateDeclaration in_form r = absurd (true≢false (sym r.0))
  attribute_full new alone fault.FirstNegated in_form r = absurd (true≢false (sym r.1))
  attribute_full new alone fault.UnboundVariable in_form (inl r) = absurd (true≢false (sym r.0))
  attribute_full new alone fault.UnboundVariable in_form (inr r) = absurd (true≢false (sym r.0))
  attribute_full new alone fault.BadDesignator in_form r = absurd (true≢false (sym r))
  attribute_full new alone fault.AmbiguousDesignator in_form r = absurd (true≢false (sym r.0))
  attribute_full new alone (fault.LimitPassed l) in_form r = omega arith
  attribute_full new alone fault.Stray in_form r = absurd (true≢false in_form)
  attribute_full new alone fault.UnknownCommand in_form r = absurd (true≢false in_form)
  attribute_full new alone fault.BadForm in_form r = absurd (true≢false in_form)
  attribute_full new alone _ in_form r = absurd r

  attribute_second : is_one_of w.name s.attrs ≡ false → IsLowest fault.TwoVectors w (Attributes ∷ ws) s
  attribute_second new g in_form r =
      next_number 10 (fault_number g) (reason_least w (Attributes ∷ ws) s g in_form r)
      (λ e. true≢false (sym (declared_number w (Attributes ∷ ws) s g e r) ∙ new))

  attributes_lowest : HasLowest (Attributes ∷ ws) w s (attributes w ws s)
  attributes_lowest =
      cond_both (is_right w.kind) _ _ (HasLowest (Attributes ∷ ws) w s) (λ _. tt)
      (λ _. cond_both (is_name w.kind) _ _ (HasLowest (Attributes ∷ ws) w s)
      (λ _. cond_both (is_one_of w.name s.attrs) _ _ (HasLowest (Attributes ∷ ws) w s) (λ _. lowest_at w (Attributes ∷ ws) s fault.DeclaredTwice (omega arith))
      (λ new. cond_both (is_second w.name s) _ _ (HasLowest (Attributes ∷ ws) w s) (λ _. attribute_second new)
      (λ alone. cond_both (nat_lt (length s.attrs) most_fields) _ _ (HasLowest (Attributes ∷ ws) w s) (λ _. tt) (λ _. attribute_full new alone))))
      (λ _. low w (Attributes ∷ ws) s fault.BadForm (omega arith)))

-- ---- a place of the vector attribute of a pattern, and a value of that of a command

value_no_variable : (k : TokenKind) (name : Sym) (v : Value) → value_of k name ≡ Some v → is_variable k ≡ false
value_no_variable kind.Variable name v e = absurd (cc)
value_no_variable _ name v e = refl

constant_no_variable : (k : TokenKind) (name : Sym) (v : Value) → constant_of k name ≡ Some v → is_variable k ≡ false
constant_no_variable kind.Variable name v e = absurd (cc)
constant_no_variable _ name v e = refl

-- what is no hole is no unbound one
pub no_hole : (k : Keyword) (s : State) → is_hole k ≡ false → is_unfilled k s ≡ false
no_hole (keyword.Hole variable at) s e = absurd (true≢false e)
no_hole _ s e = refl

mark_no_hole : (k : Keyword) → is_mark k ≡ true → is_hole k ≡ false
mark_no_hole (keyword.Hole variable at) e = absurd (true≢false (sym e))
mark_no_hole _ e = refl

-- a word of another kind than those of names is none
other_no_hole : (k : TokenKind) (w : Keyword) (is : TokenKind → Bool) → is kind.Quoted ≡ false → is k ≡ true → may_have k w ≡ true → is_hole w ≡ false
other_no_hole k w is quoted e proper = by (is_hole w) refl
  where
    by : (b : Bool) → is_hole w ≡ b → b ≡ false
    by false h = refl
    by true h = absurd (true≢false (sym e ∙ ap is (hole_kind k w h proper) ∙ quoted))

module _ (w : Word) (u : Use) (n : ℕ) (ws : List Wanted) (s : State) where
  abbrev Here : List Wanted
  Here = Several u n ∷ ws

  -- of a word that is no unbound variable
  full_lowest : (wants_bound Here ≡ true → is_variable w.kind ≡ false) → is_unfilled w.keyword s ≡ false → IsLowest (fault.LimitPassed limit.Fields) w Here s
  full_lowest no_variable filled fault.UnboundVariable in_form (inl r) = absurd (true≢false (sym r.1 ∙ no_variable r.0))
  full_lowest no_variable filled fault.UnboundVariable in_form (inr r) = absurd (true≢false (sym r.1 ∙ filled))
  full_lowest no_variable filled fault.DeclaredTwice in_form r = absurd (true≢false (sym r.1))
  full_lowest no_variable filled fault.TwoVectors in_form r = absurd (true≢false (sym r.1))
  full_lowest no_variable filled fault.UnknownClass in_form r = absurd (true≢false (sym r.0))
  full_lowest no_variable filled fault.UnknownAttribute in_form r = absurd (true≢false (sym r.0))
  full_lowest no_variable filled fault.LateDeclaration in_form r = absurd (true≢false (sym r.0))
  full_lowest no_variable filled fault.FirstNegated in_form r = absurd (true≢false (sym r.1))
  full_lowest no_variable filled fault.BadDesignator in_form r = absurd (true≢false (sym r))
  full_lowest no_variable filled fault.AmbiguousDesignator in_form r = absurd (true≢false (sym r.0))
  full_lowest no_variable filled (fault.LimitPassed l) in_form r = omega arith
  full_lowest no_variable filled fault.Stray in_form r = absurd (true≢false in_form)
  full_lowest no_variable filled fault.UnknownCommand in_form r = absurd (true≢false in_form)
  full_lowest no_variable filled fault.BadForm in_form r = absurd (true≢false in_form)
  full_lowest no_variable filled _ in_form r = absurd r

  -- what is taken is no unbound variable
  abbrev IsOne : Step → Type 0
  IsOne (Next ws' s') = (wants_bound Here ≡ true → is_variable w.kind ≡ false) × (is_unfilled w.keyword s ≡ false)
  IsOne (Refuses f) = IsLowest f w Here s

  within_lowest : (b : Bool) (x : Step) → IsOne x → HasLowest Here w s (within b x)
  within_lowest true (Next ws' s') v = tt
  within_lowest true (Refuses f) v = v
  within_lowest false (Next ws' s') v = full_lowest v.0 v.1
  within_lowest false (Refuses f) v = v

  -- a constant, which may be a hole
  constant_one : (next : State → Step) → is_variable w.kind ≡ false → 15 ≤ least_at Here → ((r : State) → (x : List Wanted) × (t : State) × (next r ≡ Next x t)) → IsOne (constant_by w.keyword next s)
  constant_one next no_variable least taken = by w.keyword refl
    where
      now : (r : State) → is_unfilled w.keyword s ≡ false → IsOne (next r)
      now r filled = let k = taken r in subst IsOne (sym k.2) ((λ _. no_variable), filled)

      found : (k : Keyword) (variable : Sym) (at : ℕ) (o : Option ℕ) → w.keyword ≡ keyword.Hole variable at → number_of variable (values_around s.outer) ≡ o → IsOne (filled o next s)
      found k variable at None is e = lowest_at w Here s fault.UnboundVariable least
      found k variable at (Some m) is e = now (with_hole s m) (ap (λ (x : Keyword). is_unfilled x s) is ∙ ap (λ (o : Option ℕ). not (is_some o)) e)

      by : (k : Keyword) → w.keyword ≡ k → IsOne (constant_by k next s)
      by (keyword.Hole variable at) is = found (keyword.Hole variable at) variable at (number_of variable (values_around s.outer)) is refl
      by _ is = now s (ap (λ (x : Keyword). is_unfilled x s) is)

module _ (w : Word) (n : ℕ) (ws : List Wanted) (s : State) (proper : is_proper w ≡ true) where
  abbrev ValueHere : List Wanted
  ValueHere = Several InFixed n ∷ ws

  abbrev IsValue : Step → Type 0
  IsValue x = IsOne w InFixed n ws s x

  unbound_value : (o : Option ℕ) → IsValue (bound_at ToConstants o ValueHere s)
  unbound_value (Some m) = lowest_at w ValueHere s fault.UnboundVariable (omega arith)
  unbound_value None = lowest_at w ValueHere s fault.UnboundVariable (omega arith)

  constant_value : (o : Option Value) → value_of w.kind w.name ≡ o → IsValue (constant_at ToConstants w o ValueHere s)
  constant_value (Some v) e =
      constant_one w InFixed n ws s (λ r. Next ValueHere (with_constant ToConstants r v)) (value_no_variable w.kind w.name v e) (omega arith) (λ r. (ValueHere, with_constant ToConstants r v, refl))
  constant_value None e =
      cond_both (is_variable w.kind) _ _ IsValue (λ _. unbound_value (number_of w.name s.values)) (λ _. low w ValueHere s fault.BadForm (omega arith))

  value_lowest : IsValue (value_for ToConstants w ValueHere s)
  value_lowest =
      cond_both (is_literal w.keyword) _ _ IsValue
      (λ literal. ((λ _. ap is_variable (mark_kind w.kind w.keyword (literal_marks w.keyword literal) proper)), no_hole w.keyword s (mark_no_hole w.keyword (literal_marks w.keyword literal))))
      (λ _. cond_both (is_left w.kind && is_of_action ToConstants) _ _ IsValue
      (λ e. absurd (true≢false (sym (and_parts (is_left w.kind) (is_of_action ToConstants) e).1))) (λ _. constant_value (value_of w.kind w.name) refl))

  values_lowest : HasLowest ValueHere w s (several InFixed n w ws s)
  values_lowest =
      cond_both (is_right w.kind || is_caret w.kind) _ _ (HasLowest ValueHere w s)
      (λ _. cond_both (is_right w.kind) _ _ (HasLowest ValueHere w s) (λ _. tt)
      (λ _. cond_both (is_caret w.kind) _ _ (HasLowest ValueHere w s) (λ _. tt) (λ _. low w ValueHere s fault.BadForm (omega arith))))
      (λ _. within_lowest w InFixed n ws s (nat_lt (n + length s.constants) most_fields) (value_for ToConstants w ValueHere s) value_lowest)

  -- ---- a place

  abbrev PlaceHere : List Wanted
  PlaceHere = Several InPattern n ∷ ws

  abbrev IsPlace : Step → Type 0
  IsPlace x = IsOne w InPattern n ws s x

  -- what is taken and is no hole
  taken_place : is_hole w.keyword ≡ false → (wants_bound PlaceHere ≡ true → is_variable w.kind ≡ false) × (is_unfilled w.keyword s ≡ false)
  taken_place none = ((λ wants. absurd (true≢false (sym wants))), no_hole w.keyword s none)

  variable_place : (f : ℕ) (p : Pred) (behind : List Wanted) → is_variable w.kind ≡ true → (o : Option ℕ) → IsPlace (variable_tested f p o w.name behind s)
  variable_place f p behind is (Some m) = taken_place (other_no_hole w.kind w.keyword is_variable refl is proper)
  variable_place f pred.Eq behind is None = taken_place (other_no_hole w.kind w.keyword is_variable refl is proper)
  variable_place f _ behind is None = lowest_at w PlaceHere s fault.UnboundVariable (omega arith)

  constant_place : (f : ℕ) (p : Pred) (behind : List Wanted) (o : Option Value) → constant_of w.kind w.name ≡ o → IsPlace (constant_tested f p w o behind s)
  constant_place f p behind (Some v) e =
      constant_one w InPattern n ws s (λ r. Next behind (with_constant (ToTest f p) r v)) (constant_no_variable w.kind w.name v e) (omega arith) (λ r. (behind, with_constant (ToTest f p) r v, refl))
  constant_place f p behind None e =
      cond_both (is_variable w.kind) _ _ IsPlace (λ is. variable_place f p behind is (number_of w.name s.values)) (λ _. low w PlaceHere s fault.BadForm (omega arith))

  tested_place : (f : ℕ) (p : Pred) (behind : List Wanted) → IsPlace (tested f p w behind s)
  tested_place f p behind =
      cond_both (is_literal w.keyword) _ _ IsPlace (λ l. taken_place (mark_no_hole w.keyword (literal_marks w.keyword l))) (λ _. constant_place f p behind (constant_of w.kind w.name) refl)

  predicated_place : (f : ℕ) (behind : List Wanted) (o : Option Pred) → pred_of w.keyword ≡ o → IsPlace (predicated f w o behind s)
  predicated_place f behind (Some p) e = taken_place (mark_no_hole w.keyword (pred_marks w.keyword p e))
  predicated_place f behind None e = tested_place f pred.Eq behind

  place_lowest : (f : ℕ) (behind : List Wanted) → IsPlace (place f w behind s)
  place_lowest f behind =
      cond_both (is_left_brace w.kind) _ _ IsPlace (λ is. taken_place (other_no_hole w.kind w.keyword is_left_brace refl is proper))
      (λ _. cond_both (opens_choice w.keyword) _ _ IsPlace (λ o. taken_place (mark_no_hole w.keyword (opening_marks w.keyword o))) (λ _. predicated_place f behind (pred_of w.keyword) refl))

  places_lowest : HasLowest PlaceHere w s (several InPattern n w ws s)
  places_lowest =
      cond_both (is_right w.kind || is_caret w.kind) _ _ (HasLowest PlaceHere w s)
      (λ _. cond_both (is_right w.kind) _ _ (HasLowest PlaceHere w s) (λ _. tt)
      (λ _. cond_both (is_caret w.kind) _ _ (HasLowest PlaceHere w s) (λ _. tt) (λ _. low w PlaceHere s fault.BadForm (omega arith))))
      (λ _. within_lowest w InPattern n ws s (nat_lt n most_fields) (place n w (Several InPattern (n + 1) ∷ ws) s) (place_lowest n (Several InPattern (n + 1) ∷ ws)))

-- No fault in a form with a lower number has its reason where a word of a text is refused.
pub refused-lowest : (w : Word) (ws : List Wanted) (s : State) (f : Fault) → AreArranged ws s → is_proper w ≡ true → step w ws s ≡ Refuses f → IsLowest f w ws s
unfolding step
refused-lowest w (Attributes ∷ ws) s f arranged proper e = subst (HasLowest (Attributes ∷ ws) w s) e (attributes_lowest w ws s)
refused-lowest w (Several InFixed n ∷ ws) s f arranged proper e = subst (HasLowest (Several InFixed n ∷ ws) w s) e (values_lowest w n ws s proper)
refused-lowest w (Several InPattern n ∷ ws) s f arranged proper e = subst (HasLowest (Several InPattern n ∷ ws) w s) e (places_lowest w n ws s proper)
refused-lowest w ws s f arranged proper e = reason_lowest w ws s refl f (refused-because w ws s f arranged e)
