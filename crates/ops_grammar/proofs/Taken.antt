-- What holds of a word that is taken, besides the grammar.
use Rattle.std.proofs.Common.{◌≡◌, ℕ, zero, suc, ◌+◌, ◌-◌, ◌<◌, Bool, true, false, not, ◌==◌, ◌&&◌, ◌||◌, List, [], ◌∷◌, length, take, refl, sym, ap, subst, ◌∙◌, arith, Option, Some, None, Result, Ok, Err, nat_lt, is_some, position, slice_get, get_or, true≢false, nat_le}
use Rattle.std.specs.List.{list_any}
use Rattle.std.proofs.lemmas.Bool.{cond_both, and_parts, or_left, or_right}
use Rattle.std.proofs.lemmas.List.Quantifiers.{position-Some}
use Rattle.ops_base.specs.declared.values.Sym.{Sym}
use Rattle.ops_base.specs.declared.values.Value.{Value}
use Rattle.ops_base.specs.declared.values.Pred.{Pred}
use Rattle.ops_base.specs.declared.values.Pred.TheVariants as pred
use Rattle.ops_base.specs.declared.conditions.Part.{Part}
use Rattle.ops_base.specs.declared.actions.Term.TheVariants as term
use Rattle.ops_base.specs.declared.endings.Fault.{Fault}
use Rattle.ops_base.specs.Valid.{most_fields, most_conditions, no_class, class_of, is_vector, elements_of}
use Rattle.ops_tokens.specs.declared.token.TokenKind.{TokenKind}
use Rattle.ops_tokens.specs.declared.token.TokenKind.TheVariants as kind
use Rattle.ops_grammar.specs.declared.words.Word.{Word}
use Rattle.ops_grammar.specs.declared.words.Keyword.{Keyword}
use Rattle.ops_grammar.specs.declared.words.Keyword.TheVariants as keyword
use Rattle.ops_grammar.proofs.Constants.{constant_cases}
use Rattle.ops_grammar.specs.Grammar.{Use, InPattern, InPut, InFixed, Target, ToPut, ToTerms, ToConstants, ToItem, ToBind, Wanted, Form, ClassDeclared, Attributes, VectorName, VectorNames, RuleName, Patterns, Pattern, Braced, ElementName, ClosesBrace, ClassName, Terms, Attribute, Several, Tested, ValueFor, ExpressionUnit, ExpressionRest, Bracketed, EndsWhole, SourceCell, SourceAttribute, SourceEnd, Modified, BoundValue, CellName, Cell, Cells, Items, Shown, Closes, State, Step, Next, Refuses, is_left, is_right, is_left_brace, is_caret, is_name, is_variable, is_arrow, is_literal, is_minus, constant_of, value_of, natural_of, is_one_of, number_of, may_declare, is_class, is_rule, is_second, makes_second, vector_name, form, class_at, attributes_of, field_at, variable_tested, constant_tested, tested, term_at, bound_at, constant_at, is_of_action, value_for, most_brackets, unit_bound, unit_at, expression_unit, is_compute, source_named, source_class, source_at, takes_several, ends_at_inf, place, terms, within, one_of_several, with_several, several, element_at, element_name, designated, numbered_cell, named_cell, cell_of, with_designated, with_modified, cell_bound, step, is_absent, begins_group, Members, has_room, is_right_brace, with_constant, ToTest}
use Rattle.ops_grammar.specs.Derivation.{is_designator}
use Rattle.ops_grammar.proofs.Follows.{name_not_right, designator_not_right, variable_not_left}
use Rattle.ops_grammar.specs.Reasons.{gives_second, is_full, is_positive, is_condition, designates, is_unclear, designates_unclearly}

-- no declaration is late
abbrev pub FormFits : Keyword → State → Type 0
FormFits keyword.Literalize s = may_declare s ≡ true
FormFits keyword.VectorAttribute s = may_declare s ≡ true
FormFits _ s = Unit {0}

-- what was bound before, where the word is a variable
abbrev pub Known : Word → State → Type 0
Known w s = is_literal w.keyword ≡ false → is_variable w.kind ≡ true → is_some (number_of w.name s.values) ≡ true

-- an equality may bind a variable, another predicate may not
abbrev pub OperandFits : Pred → Word → State → Type 0
OperandFits pred.Eq w s = Unit {0}
OperandFits _ w s = Known w s

-- a variable that an action gives as a value was bound before, and a command sees none
abbrev pub ValueFits : Target → Word → State → Type 0
ValueFits (ToPut f) w s = Known w s
ValueFits ToTerms w s = Known w s
ValueFits ToItem w s = Known w s
ValueFits ToBind w s = Known w s
ValueFits _ w s = is_literal w.keyword ≡ false → is_variable w.kind ≡ false

-- a value of a vector attribute of an action or of a command
abbrev pub OneFits : Use → Word → State → Type 0
OneFits InPattern w s = Unit {0}
OneFits InPut w s = ValueFits ToTerms w s
OneFits InFixed w s = ValueFits ToConstants w s

-- one place or value more, and room for it
abbrev pub SeveralFit : Use → ℕ → Word → State → Type 0
SeveralFit u f w s = (is_right w.kind || is_caret w.kind) ≡ false → (is_full (Several u f ∷ []) s ≡ false) × OneFits u w s

-- the number of a positive condition, before which none is negated, or an element variable that was bound
abbrev pub DesignatorFits : TokenKind → Sym → State → Type 0
DesignatorFits k name s = (designates k name s ≡ true) × (designates_unclearly k s ≡ false)

-- an element variable that was not bound yet
abbrev pub ElementFits : Word → State → Type 0
ElementFits w s = is_some (number_of w.name s.elements) ≡ false

-- a variable of an expression was bound before, and a bracket opens within the limit
abbrev pub UnitFits : ℕ → Word → State → Type 0
UnitFits d w s = (is_variable w.kind ≡ true → is_some (number_of w.name s.values) ≡ true) × (is_left w.kind ≡ true → nat_lt d most_brackets ≡ true)

-- what a word that is taken meets where this is wanted
abbrev pub Fits : List Wanted → Word → State → Type 0
Fits (Form ∷ ws) w s = FormFits w.keyword s
Fits (ClassDeclared ∷ ws) w s = is_class s w.name ≡ false
Fits (Attributes ∷ ws) w s = is_name w.kind ≡ true → (is_one_of w.name s.attrs ≡ false) × (is_second w.name s ≡ false) × (nat_lt (length s.attrs) most_fields ≡ true)
Fits (VectorName ∷ ws) w s = gives_second (VectorName ∷ []) w.name s ≡ false
Fits (VectorNames ∷ ws) w s = is_name w.kind ≡ true → gives_second (VectorName ∷ []) w.name s ≡ false
Fits (RuleName ∷ ws) w s = is_rule s w.name ≡ false
Fits (Patterns ∷ ws) w s = is_arrow w.keyword ≡ false → begins_group w.keyword ≡ false → nat_lt (length (elements_of s.conditions)) most_conditions ≡ true
Fits (Members n ∷ ws) w s = is_left w.kind ≡ true → has_room s ≡ true
Fits (Braced ∷ ws) w s = is_left w.kind ≡ false → ElementFits w s
Fits (ElementName ∷ ws) w s = ElementFits w s
Fits (ClassName ∷ ws) w s = is_class s w.name ≡ true
Fits (Shown ∷ ws) w s = is_right w.kind ≡ false → is_class s w.name ≡ true
Fits (Attribute u ∷ ws) w s = is_one_of w.name (attributes_of (slice_get s.classes s.class)) ≡ true
Fits (Several u f ∷ ws) w s = SeveralFit u f w s
Fits (Tested f p ∷ ws) w s = OperandFits p w s
Fits (ValueFor t ∷ ws) w s = ValueFits t w s
Fits (ExpressionUnit d ∷ ws) w s = UnitFits d w s
Fits (Bracketed d ∷ ws) w s = is_compute w.keyword ≡ false → UnitFits d w s
Fits (BoundValue ∷ ws) w s = Known w s
Fits (SourceCell ∷ ws) w s = is_some (number_of w.name s.elements) ≡ true
Fits (SourceAttribute t ∷ ws) w s = is_one_of w.name (source_class s).attrs ≡ true
Fits (SourceEnd t name ∷ ws) w s = ends_at_inf w s ≡ true → takes_several t ≡ true
Fits (Modified ∷ ws) w s = DesignatorFits w.kind w.name s
Fits (CellName ∷ ws) w s = is_some s.made ≡ true
Fits (Cell ∷ ws) w s = DesignatorFits w.kind w.name s
Fits (Cells ∷ ws) w s = is_designator w.kind ≡ true → DesignatorFits w.kind w.name s
Fits (Items ∷ ws) w s = Known w s
Fits ws w s = Unit {0}

abbrev IfTaken : Type 0 → Step → Type 0
IfTaken P (Next ws s) = P
IfTaken P (Refuses f) = Unit {0}

-- what holds where a cell is designated
abbrev IfDesignated : Type 0 → Result ℕ Fault → Type 0
IfDesignated P (Ok c) = P
IfDesignated P (Err f) = Unit {0}

-- ---- kinds and places

variable_not_right : (k : TokenKind) → is_variable k ≡ true → is_right k ≡ false
variable_not_right kind.Right e = absurd (true≢false (sym e))
variable_not_right _ e = refl

left_not_variable : (k : TokenKind) → is_left k ≡ true → is_variable k ≡ false
left_not_variable kind.Variable e = absurd (true≢false (sym e))
left_not_variable _ e = refl

constant_not_variable : (k : TokenKind) (name : Sym) (v : Value) → constant_of k name ≡ Some v → is_variable k ≡ false
constant_not_variable kind.Variable name v e = absurd (cc)
constant_not_variable _ name v e = refl

value_not_variable : (k : TokenKind) (name : Sym) (v : Value) → value_of k name ≡ Some v → is_variable k ≡ false
value_not_variable kind.Variable name v e = absurd (cc)
value_not_variable _ name v e = refl

clash : {A : Type 0} (b : Bool) → b ≡ true → b ≡ false → A
clash b met unmet = absurd (true≢false (sym met ∙ unmet))

any_at : {X : Type 0} (p : X → Bool) (xs : List X) (i : ℕ) (d : X) → i < length xs → p (get_or xs i d) ≡ true → list_any p xs ≡ true
any_at p [] i d lt e = absurd (omega arith)
any_at p (x ∷ xs) zero d lt e = or_left _ _ e
any_at p (x ∷ xs) (suc i) d lt e = or_right _ _ (any_at p xs i d (omega arith) e)

found_any : {X : Type 0} (p : X → Bool) (xs : List X) (i : ℕ) (d : X) → position p xs ≡ Some i → list_any p xs ≡ true
found_any p xs i d e = let at = position-Some p xs i d e in any_at p xs i d at.0 at.1

weaker : (P Q : Type 0) → (P → Q) → (r : Step) → IfTaken P r → IfTaken Q r
weaker P Q f (Next ws s) h = f h
weaker P Q f (Refuses x) h = tt

-- whatever is wanted, a word that is taken may be so
whatever : (r : Step) → IfTaken (Unit {0}) r
whatever (Next ws s) = tt
whatever (Refuses f) = tt

-- ---- each thing that is wanted

module _ (w : Word) (ws : List Wanted) (s : State) where
  form_fits : (k : Keyword) → IfTaken (FormFits k s) (form w k ws s)
  form_fits keyword.Literalize = cond_both (may_declare s) _ _ (IfTaken (may_declare s ≡ true)) (λ e. e) (λ _. tt)
  form_fits keyword.VectorAttribute = cond_both (may_declare s) _ _ (IfTaken (may_declare s ≡ true)) (λ e. e) (λ _. tt)
  form_fits keyword.Make = tt
  form_fits keyword.Run = tt
  form_fits _ = tt

  class_fits : (ws' : List Wanted) (s' : State) (o : Option ℕ) → position (λ c. c.name.0 == w.name.0) s.classes ≡ o → IfTaken (is_class s w.name ≡ true) (class_at o ws' s')
  class_fits ws' s' (Some c) e = found_any (λ c. c.name.0 == w.name.0) s.classes c no_class e
  class_fits ws' s' None e = tt

  field_fits : (u : Use) (o : Option ℕ) → position (λ a. a.0 == w.name.0) (attributes_of (slice_get s.classes s.class)) ≡ o → IfTaken (is_one_of w.name (attributes_of (slice_get s.classes s.class)) ≡ true) (field_at u o ws s)
  field_fits u (Some f) e =
      let P : Type 0 = is_one_of w.name (attributes_of (slice_get s.classes s.class)) ≡ true in
      let found : P = found_any (λ (a : Sym). a.0 == w.name.0) (attributes_of (slice_get s.classes s.class)) f (record { 0 = 0 }) e in
      cond_both (is_vector (class_of s.classes s.class) f) _ _ (IfTaken P) (λ _. found) (λ _. found)
  field_fits u None e = tt

  -- an operand
  operand_known : (p : Pred) → Known w s → OperandFits p w s
  operand_known pred.Eq k = tt
  operand_known _ k = k

  variable_tested_fits : (f : ℕ) (p : Pred) (o : Option ℕ) → number_of w.name s.values ≡ o → IfTaken (OperandFits p w s) (variable_tested f p o w.name ws s)
  variable_tested_fits f p (Some n) e = operand_known p (λ _ _. ap is_some e)
  variable_tested_fits f pred.Eq None e = tt
  variable_tested_fits f _ None e = tt

  constant_tested_fits : (f : ℕ) (p : Pred) (o : Option Value) → constant_of w.kind w.name ≡ o → IfTaken (OperandFits p w s) (constant_tested f p w o ws s)
  constant_tested_fits f p (Some v) e =
      let fits = operand_known p (λ _ is. clash (is_variable w.kind) is (constant_not_variable w.kind w.name v e)) in
      constant_cases w.keyword (λ r. Next ws (with_constant (ToTest f p) r v)) s (IfTaken (OperandFits p w s)) (λ _. tt) fits (λ variable m found. fits)
  constant_tested_fits f p None e =
      cond_both (is_variable w.kind) _ _ (IfTaken (OperandFits p w s)) (λ _. variable_tested_fits f p (number_of w.name s.values) refl) (λ _. tt)

  tested_fits : (f : ℕ) (p : Pred) → IfTaken (OperandFits p w s) (tested f p w ws s)
  tested_fits f p =
      cond_both (is_literal w.keyword) _ _ (IfTaken (OperandFits p w s)) (λ l. operand_known p (λ unlike. clash (is_literal w.keyword) l unlike))
      (λ _. constant_tested_fits f p (constant_of w.kind w.name) refl)

  -- a value
  value_fits_where : (t : Target) → (is_literal w.keyword ≡ false → is_variable w.kind ≡ false) → ValueFits t w s
  value_fits_where (ToPut f) h = λ l is. clash (is_variable w.kind) is (h l)
  value_fits_where ToTerms h = λ l is. clash (is_variable w.kind) is (h l)
  value_fits_where ToItem h = λ l is. clash (is_variable w.kind) is (h l)
  value_fits_where ToBind h = λ l is. clash (is_variable w.kind) is (h l)
  value_fits_where _ h = h

  bound_fits : (t : Target) (o : Option ℕ) → number_of w.name s.values ≡ o → IfTaken (ValueFits t w s) (bound_at t o ws s)
  bound_fits (ToPut f) (Some n) e = λ _ _. ap is_some e
  bound_fits ToTerms (Some n) e = λ _ _. ap is_some e
  bound_fits ToItem (Some n) e = λ _ _. ap is_some e
  bound_fits ToBind (Some n) e = λ _ _. ap is_some e
  bound_fits _ (Some n) e = tt
  bound_fits t None e = tt

  constant_at_fits : (t : Target) (o : Option Value) → value_of w.kind w.name ≡ o → IfTaken (ValueFits t w s) (constant_at t w o ws s)
  constant_at_fits t (Some v) e =
      let fits = value_fits_where t (λ _. value_not_variable w.kind w.name v e) in
      constant_cases w.keyword (λ r. Next ws (with_constant t r v)) s (IfTaken (ValueFits t w s)) (λ _. tt) fits (λ variable m found. fits)
  constant_at_fits t None e = cond_both (is_variable w.kind) _ _ (IfTaken (ValueFits t w s)) (λ _. bound_fits t (number_of w.name s.values) refl) (λ _. tt)

  value_fits : (t : Target) → IfTaken (ValueFits t w s) (value_for t w ws s)
  value_fits t =
      cond_both (is_literal w.keyword) _ _ (IfTaken (ValueFits t w s)) (λ l. value_fits_where t (λ unlike. clash (is_literal w.keyword) l unlike))
      (λ _. cond_both (is_left w.kind && is_of_action t) _ _ (IfTaken (ValueFits t w s))
      (λ e. value_fits_where t (λ _. left_not_variable w.kind (and_parts (is_left w.kind) _ e).0))
      (λ _. constant_at_fits t (value_of w.kind w.name) refl))

  -- an expression
  unit_bound_fits : (d : ℕ) → is_left w.kind ≡ false → (o : Option ℕ) → number_of w.name s.values ≡ o → IfTaken (UnitFits d w s) (unit_bound o ws s)
  unit_bound_fits d unlike (Some n) e = (λ _. ap is_some e, λ left. clash (is_left w.kind) left unlike)
  unit_bound_fits d unlike None e = tt

  unit_at_fits : (d : ℕ) → is_left w.kind ≡ false → (k : TokenKind) → w.kind ≡ k → IfTaken (UnitFits d w s) (unit_at k w.name ws s)
  unit_at_fits d unlike (kind.Whole n) e = (λ is. clash (is_variable w.kind) is (ap is_variable e), λ left. clash (is_left w.kind) left unlike)
  unit_at_fits d unlike kind.Variable e = unit_bound_fits d unlike (number_of w.name s.values) refl
  unit_at_fits d unlike _ e = tt

  unit_fits : (d : ℕ) → IfTaken (UnitFits d w s) (expression_unit d w ws s)
  unit_fits d =
      cond_both (is_left w.kind) _ _ (IfTaken (UnitFits d w s))
      (λ left. cond_both (nat_lt d most_brackets) _ _ (IfTaken (UnitFits d w s))
      (λ room. (λ is. clash (is_variable w.kind) is (left_not_variable w.kind left), λ _. room)) (λ _. tt))
      (λ unlike. unit_at_fits d unlike w.kind refl)

  -- `substr`: an element variable that was bound, and an attribute of the cell that it names
  source_named_fits : (o : Option ℕ) → IfTaken (is_some o ≡ true) (source_named o ws s)
  source_named_fits (Some c) = refl
  source_named_fits None = tt

  source_at_fits : (t : Target) (o : Option ℕ) → position (λ a. a.0 == w.name.0) (source_class s).attrs ≡ o → IfTaken (is_one_of w.name (source_class s).attrs ≡ true) (source_at t w.name o ws s)
  source_at_fits t (Some f) e = found_any (λ (a : Sym). a.0 == w.name.0) (source_class s).attrs f (record { 0 = 0 }) e
  source_at_fits t None e = tt

  -- a cell
  designated_fits : (before : ℕ) (o : Option Part) → IfDesignated ((is_positive o ≡ true) × (list_any is_absent (take before s.conditions) ≡ false)) (designated before o s)
  designated_fits before (Some c) =
      let P : Type 0 = (not (is_absent c) ≡ true) × (list_any is_absent (take before s.conditions) ≡ false) in
      cond_both (is_absent c) _ _ (IfDesignated P) (λ _. tt)
      (λ positive. cond_both (list_any is_absent (take before s.conditions)) _ _ (IfDesignated P) (λ _. tt) (λ clear. (ap not positive, clear)))
  designated_fits before None = tt

  numbered_fits : (o : Option ℕ) → IfDesignated ((is_condition s o ≡ true) × (is_unclear s o ≡ false)) (numbered_cell o s)
  numbered_fits (Some n) = designated_fits (n - 1) (slice_get s.conditions (n - 1))
  numbered_fits None = tt

  named_fits : (o : Option ℕ) → IfDesignated ((is_some o ≡ true) × (false ≡ false)) (named_cell o)
  named_fits (Some c) = (refl, refl)
  named_fits None = tt

  cell_of_fits : (k : TokenKind) → IfDesignated (DesignatorFits k w.name s) (cell_of k w.name s)
  cell_of_fits (kind.Whole n) = numbered_fits (natural_of n)
  cell_of_fits kind.Variable = named_fits (number_of w.name s.elements)
  cell_of_fits _ = tt

  with_designated_fits : (P : Type 0) (r : Result ℕ Fault) → IfDesignated P r → IfTaken P (with_designated r ws s)
  with_designated_fits P (Ok c) h = h
  with_designated_fits P (Err f) h = tt

  cell_fits : IfTaken (DesignatorFits w.kind w.name s) (with_designated (cell_of w.kind w.name s) ws s)
  cell_fits = with_designated_fits (DesignatorFits w.kind w.name s) (cell_of w.kind w.name s) (cell_of_fits w.kind)

  modified_fits : (P : Type 0) (r : Result ℕ Fault) → IfDesignated P r → IfTaken P (with_modified r ws s)
  modified_fits P (Ok c) h = h
  modified_fits P (Err f) h = tt

  -- an element was made that `cbind` can name
  cell_bound_fits : (o : Option ℕ) → IfTaken (is_some o ≡ true) (cell_bound o w.name ws s)
  cell_bound_fits (Some class) = refl
  cell_bound_fits None = tt

  -- the name of a vector attribute
  second_fits : (b c : Bool) → b ≡ true → (not b && c) ≡ false
  second_fits true c e = refl
  second_fits false c e = absurd (true≢false (sym e))

  vector_name_fits : IfTaken (gives_second (VectorName ∷ []) w.name s ≡ false) (vector_name w ws s)
  vector_name_fits =
      let P : Type 0 = gives_second (VectorName ∷ []) w.name s ≡ false in
      cond_both (is_name w.kind) _ _ (IfTaken P)
      (λ _. cond_both (is_one_of w.name s.vectors) _ _ (IfTaken P) (λ old. second_fits (is_one_of w.name s.vectors) (makes_second w.name s.classes) old)
      (λ new. cond_both (makes_second w.name s.classes) _ _ (IfTaken P) (λ _. tt) (λ one. ap (λ (b : Bool). not b && makes_second w.name s.classes) new ∙ one))) (λ _. tt)

  -- an element variable
  element_at_fits : (o : Option ℕ) → IfTaken (is_some o ≡ false) (element_at o w.name ws s)
  element_at_fits (Some c) = tt
  element_at_fits None = refl

  element_name_fits : IfTaken (ElementFits w s) (element_name w ws s)
  element_name_fits = cond_both (is_variable w.kind) _ _ (IfTaken (ElementFits w s)) (λ _. element_at_fits (number_of w.name s.elements)) (λ _. tt)

  -- one place or value more
  within_fits : (b : Bool) (x : Step) (P : Type 0) → IfTaken P x → IfTaken ((not b ≡ false) × P) (within b x)
  within_fits true (Next ws' s') P h = (refl, h)
  within_fits true (Refuses f) P h = tt
  within_fits false (Next ws' s') P h = tt
  within_fits false (Refuses f) P h = tt

module _ (w : Word) (ws : List Wanted) (s : State) where
  one_of_several_fits : (u : Use) (f : ℕ) → IfTaken ((is_full (Several u f ∷ []) s ≡ false) × OneFits u w s) (one_of_several u f w ws s)
  one_of_several_fits InPattern f =
      within_fits w ws s (nat_lt f most_fields) (place f w (Several InPattern (f + 1) ∷ ws) s) (Unit {0}) (whatever (place f w (Several InPattern (f + 1) ∷ ws) s))
  one_of_several_fits InPut f =
      weaker (ValueFits ToTerms w s) ((false ≡ false) × ValueFits ToTerms w s) (λ h. (refl, h)) _ (value_fits w (Several InPut f ∷ ws) s ToTerms)
  one_of_several_fits InFixed f =
      within_fits w ws s (nat_lt (f + length s.constants) most_fields) (value_for ToConstants w (Several InFixed f ∷ ws) s) (ValueFits ToConstants w s)
      (value_fits w (Several InFixed f ∷ ws) s ToConstants)

  several_fit : (u : Use) (f : ℕ) → IfTaken (SeveralFit u f w s) (several u f w ws s)
  several_fit u f =
      let P : Type 0 = SeveralFit u f w s in
      cond_both (is_right w.kind || is_caret w.kind) _ _ (IfTaken P)
      (λ e. weaker (Unit {0}) P (λ _ no. clash (is_right w.kind || is_caret w.kind) e no) _ (whatever (terms u w ws (with_several u f s))))
      (λ _. weaker ((is_full (Several u f ∷ []) s ≡ false) × OneFits u w s) P (λ h _. h) _ (one_of_several_fits u f))

right_brace_not_left : (k : TokenKind) → is_right_brace k ≡ true → is_left k ≡ false
right_brace_not_left kind.RightBrace e = refl
right_brace_not_left _ e = absurd (true≢false (sym e))

step_fits : (w : Word) (ws : List Wanted) (s : State) → IfTaken (Fits ws w s) (step w ws s)
unfolding step
step_fits w (Form ∷ ws) s = form_fits w ws s w.keyword
step_fits w (ClassDeclared ∷ ws) s =
    cond_both (is_name w.kind) _ _ (IfTaken (is_class s w.name ≡ false)) (λ _. cond_both (is_class s w.name) _ _ (IfTaken (is_class s w.name ≡ false)) (λ _. tt) (λ new. new)) (λ _. tt)
step_fits w (Attributes ∷ ws) s =
    let P : Type 0 = Fits (Attributes ∷ ws) w s in
    cond_both (is_right w.kind) _ _ (IfTaken P) (λ right name. clash (is_right w.kind) right (name_not_right w.kind name))
    (λ _. cond_both (is_name w.kind) _ _ (IfTaken P)
    (λ _. cond_both (is_one_of w.name s.attrs) _ _ (IfTaken P) (λ _. tt)
    (λ new. cond_both (is_second w.name s) _ _ (IfTaken P) (λ _. tt)
    (λ one. cond_both (nat_lt (length s.attrs) most_fields) _ _ (IfTaken P) (λ room _. (new, one, room)) (λ _. tt)))) (λ _. tt))
step_fits w (VectorName ∷ ws) s = vector_name_fits w ws s
step_fits w (VectorNames ∷ ws) s =
    let P : Type 0 = Fits (VectorNames ∷ ws) w s in
    cond_both (is_right w.kind) _ _ (IfTaken P) (λ right name. clash (is_right w.kind) right (name_not_right w.kind name))
    (λ _. weaker (gives_second (VectorName ∷ []) w.name s ≡ false) P (λ h _. h) _ (vector_name_fits w (VectorNames ∷ ws) s))
step_fits w (RuleName ∷ ws) s =
    cond_both (is_name w.kind) _ _ (IfTaken (is_rule s w.name ≡ false)) (λ _. cond_both (is_rule s w.name) _ _ (IfTaken (is_rule s w.name ≡ false)) (λ _. tt) (λ new. new)) (λ _. tt)
step_fits w (Patterns ∷ ws) s =
    let P : Type 0 = Fits (Patterns ∷ ws) w s in
    cond_both (is_arrow w.keyword) _ _ (IfTaken P) (λ arrow other. clash (is_arrow w.keyword) arrow other)
    (λ _. cond_both (is_left w.kind) _ _ (IfTaken P) (λ _. cond_both (nat_lt (length (elements_of s.conditions)) most_conditions) _ _ (IfTaken P) (λ room _ _. room) (λ _. tt))
    (λ _. cond_both (is_left_brace w.kind) _ _ (IfTaken P) (λ _. cond_both (nat_lt (length (elements_of s.conditions)) most_conditions) _ _ (IfTaken P) (λ room _ _. room) (λ _. tt))
    (λ _. cond_both (is_minus w.keyword) _ _ (IfTaken P) (λ _. cond_both (nat_lt (length (elements_of s.conditions)) most_conditions) _ _ (IfTaken P) (λ room _ _. room) (λ _. tt))
    (λ _. cond_both (begins_group w.keyword) _ _ (IfTaken P) (λ of _ no. absurd (true≢false (sym of ∙ no))) (λ _. tt)))))
step_fits w (Members n ∷ ws) s =
    let P : Type 0 = Fits (Members n ∷ ws) w s in
    cond_both (is_right_brace w.kind && nat_le 2 n) _ _ (IfTaken P) (λ brace left. clash (is_left w.kind) left (right_brace_not_left w.kind (and_parts (is_right_brace w.kind) (nat_le 2 n) brace).0))
    (λ _. cond_both (is_left w.kind) _ _ (IfTaken P) (λ _. cond_both (has_room s) _ _ (IfTaken P) (λ room _. room) (λ _. tt)) (λ _. tt))
step_fits w (Braced ∷ ws) s =
    let P : Type 0 = Fits (Braced ∷ ws) w s in
    cond_both (is_left w.kind) _ _ (IfTaken P) (λ left other. clash (is_left w.kind) left other)
    (λ _. weaker (ElementFits w s) P (λ h _. h) _ (element_name_fits w (Pattern ∷ ClosesBrace ∷ ws) s))
step_fits w (ElementName ∷ ws) s = element_name_fits w ws s
step_fits w (ClassName ∷ ws) s =
    cond_both (is_name w.kind) _ _ (IfTaken (is_class s w.name ≡ true)) (λ _. class_fits w ws s ws s (position (λ c. c.name.0 == w.name.0) s.classes) refl) (λ _. tt)
step_fits w (Shown ∷ ws) s =
    let P : Type 0 = Fits (Shown ∷ ws) w s in
    cond_both (is_right w.kind) _ _ (IfTaken P) (λ right other. clash (is_right w.kind) right other)
    (λ _. cond_both (is_name w.kind) _ _ (IfTaken P)
    (λ _. weaker (is_class s w.name ≡ true) P (λ h _. h) _
    (class_fits w ws s (Terms InFixed ∷ ws) (record s { fixed = []; shows = true }) (position (λ c. c.name.0 == w.name.0) s.classes) refl)) (λ _. tt))
step_fits w (Attribute u ∷ ws) s =
    cond_both (is_name w.kind) _ _ (IfTaken (Fits (Attribute u ∷ ws) w s)) (λ _. field_fits w ws s u (position (λ a. a.0 == w.name.0) (attributes_of (slice_get s.classes s.class))) refl) (λ _. tt)
step_fits w (Several u f ∷ ws) s = several_fit w ws s u f
step_fits w (Tested f p ∷ ws) s = tested_fits w ws s f p
step_fits w (ValueFor t ∷ ws) s = value_fits w ws s t
step_fits w (ExpressionUnit d ∷ ws) s = unit_fits w ws s d
step_fits w (Bracketed d ∷ ws) s =
    let P : Type 0 = Fits (Bracketed d ∷ ws) w s in
    cond_both (is_compute w.keyword) _ _ (IfTaken P) (λ compute other. clash (is_compute w.keyword) compute other)
    (λ _. weaker (UnitFits d w s) P (λ h _. h) _ (unit_fits w (ExpressionRest d [] None ∷ ws) s d))
step_fits w (BoundValue ∷ ws) s =
    cond_both (is_right w.kind) _ _ (IfTaken (Known w s)) (λ right _ is. clash (is_right w.kind) right (variable_not_right w.kind is))
    (λ _. value_fits w (Closes EndsWhole ∷ ws) s ToBind)
step_fits w (SourceCell ∷ ws) s =
    cond_both (is_variable w.kind) _ _ (IfTaken (is_some (number_of w.name s.elements) ≡ true)) (λ _. source_named_fits w ws s (number_of w.name s.elements)) (λ _. tt)
step_fits w (SourceAttribute t ∷ ws) s =
    cond_both (is_name w.kind) _ _ (IfTaken (Fits (SourceAttribute t ∷ ws) w s)) (λ _. source_at_fits w ws s t (position (λ a. a.0 == w.name.0) (source_class s).attrs) refl) (λ _. tt)
step_fits w (SourceEnd t name ∷ ws) s =
    let P : Type 0 = Fits (SourceEnd t name ∷ ws) w s in
    cond_both (ends_at_inf w s) _ _ (IfTaken P)
    (λ _. cond_both (takes_several t) _ _ (IfTaken P) (λ several. weaker (Unit {0}) P (λ _ _. several) _ (whatever (term_at t (term.Rest s.source) ws s))) (λ _. tt))
    (λ other. cond_both (is_name w.kind && (w.name.0 == name.0)) _ _ (IfTaken P)
    (λ _. weaker (Unit {0}) P (λ _ at_inf. clash (ends_at_inf w s) at_inf other) _ (whatever (term_at t (term.One s.source s.source_field) ws s))) (λ _. tt))
step_fits w (Modified ∷ ws) s = modified_fits w ws s (DesignatorFits w.kind w.name s) (cell_of w.kind w.name s) (cell_of_fits w ws s w.kind)
step_fits w (CellName ∷ ws) s =
    cond_both (is_variable w.kind) _ _ (IfTaken (is_some s.made ≡ true)) (λ _. cell_bound_fits w ws s s.made) (λ _. tt)
step_fits w (Cell ∷ ws) s = cell_fits w ws s
step_fits w (Cells ∷ ws) s =
    let P : Type 0 = Fits (Cells ∷ ws) w s in
    cond_both (is_right w.kind) _ _ (IfTaken P) (λ right is. clash (is_right w.kind) right (designator_not_right w.kind is))
    (λ _. weaker (DesignatorFits w.kind w.name s) P (λ is _. is) _ (cell_fits w (Cells ∷ ws) s))
step_fits w (Items ∷ ws) s =
    let P : Type 0 = Fits (Items ∷ ws) w s in
    cond_both (is_right w.kind) _ _ (IfTaken P) (λ right _ is. clash (is_right w.kind) right (variable_not_right w.kind is))
    (λ _. cond_both (is_left w.kind) _ _ (IfTaken P) (λ left _ is. clash (is_left w.kind) left (variable_not_left w.kind is)) (λ _. value_fits w (Items ∷ ws) s ToItem))
step_fits w ws s = whatever (step w ws s)

-- A word is taken only where it may be so: what it names is declared or bound, or new where it is declared.
pub taken-fits : (w : Word) (ws ws' : List Wanted) (s s' : State) → step w ws s ≡ Next ws' s' → Fits ws w s
taken-fits w ws ws' s s' e = subst (IfTaken (Fits ws w s)) e (step_fits w ws s)
