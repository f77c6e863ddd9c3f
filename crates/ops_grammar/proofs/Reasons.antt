-- Why a word is refused.
use Rattle.std.proofs.Common.{◌≡◌, ℕ, suc, ◌+◌, ◌-◌, ◌<◌, Bool, true, false, not, ◌&&◌, ◌||◌, ◌==◌, cond, List, [], ◌∷◌, length, take, refl, sym, ap, subst, ◌∙◌, arith, Option, Some, None, Result, Ok, Err, nat_lt, is_some, position, slice_get, true≢false, nat_le, inl, inr}
use Rattle.std.specs.List.{list_any, position_or_len}
use Rattle.std.proofs.lemmas.Bool.{cond_both, and_from, and_parts, lt-ltb}
use Rattle.ops_base.specs.declared.values.Sym.{Sym}
use Rattle.ops_base.specs.declared.values.Value.{Value}
use Rattle.ops_base.specs.declared.values.Pred.{Pred}
use Rattle.ops_base.specs.declared.values.Pred.TheVariants as pred
use Rattle.ops_base.specs.declared.conditions.Part.{Part}
use Rattle.ops_base.specs.declared.actions.Term.{Term}
use Rattle.ops_base.specs.declared.actions.Term.TheVariants as term
use Rattle.ops_base.specs.declared.expression.Op.{Op}
use Rattle.ops_base.specs.declared.commands.Strategy.{Strategy}
use Rattle.ops_base.specs.declared.endings.Fault.{Fault}
use Rattle.ops_base.specs.Expression.{Formula}
use Rattle.ops_base.specs.declared.endings.Fault.TheVariants as fault
use Rattle.ops_base.specs.Valid.{most_fields, most_conditions, class_of, is_vector, is_equality, elements_of}
use Rattle.ops_tokens.specs.declared.token.TokenKind.{TokenKind}
use Rattle.ops_tokens.specs.declared.token.TokenKind.TheVariants as kind
use Rattle.ops_grammar.specs.declared.words.Word.{Word}
use Rattle.ops_grammar.specs.declared.words.Keyword.{Keyword}
use Rattle.ops_grammar.specs.declared.words.Keyword.TheVariants as keyword
use Rattle.ops_grammar.specs.Grammar.{Use, InPattern, InPut, InFixed, Target, ToTest, ToPut, ToFixed, ToTerms, ToConstants, ToItem, ToBind, EndsWhole, TagUse, ToRemove, NameUse, Column, Wanted, Forms, Form, ClassDeclared, Attributes, VectorName, VectorNames, RuleName, FirstPattern, Patterns, Pattern, Braced, ElementName, ClosesBrace, ClassName, Terms, Attribute, Several, Place, Tests, Tested, Choice, Atom, ValueFor, Function, Waiting, ExpressionUnit, ExpressionRest, Bracketed, SourceCell, SourceAttribute, SourceEnd, Actions, ActionWord, Modified, BoundName, BoundValue, CellName, Cell, Cells, Items, ItemWord, Columns, Count, StrategyName, TagOrAll, Tags, Shown, NamedRule, NamedRules, Level, Undone, Closes, State, Step, Next, Refuses, is_left, is_right, is_left_brace, is_right_brace, is_caret, is_name, is_variable, is_arrow, is_literal, is_minus, opens_choice, closes_choice, pred_of, constant_of, value_of, atom_of, natural_of, small_of, is_one_of, number_of, may_declare, is_class, is_rule, is_second, makes_second, vector_name, form, class_at, attributes_of, field_at, variable_tested, constant_tested, tested, predicated, test, place, chosen, atom_at, term_at, bound_at, constant_at, is_of_action, value_for, most_brackets, no_formula, with_formula, unit_bound, unit_at, expression_unit, bracketed, completed, is_compute, operation_of, operation_at, expression_ended, expression_rest, function, source_named, source_class, source_at, takes_several, ends_at_inf, source_end, within, one_of_several, several, element_at, element_name, action_word, designated, numbered_cell, named_cell, cell_of, with_designated, with_modified, cell_bound, item_word, columns_at, counted, count_of, count, strategy_set, strategy_of, strategy_name, tag_at, is_all, tag_or_all, tags, shown, named_rule, named_rules, level_of, undone_of, level_set, undone_set, level, undone, step, is_absent, begins_group, GroupBrace, Members, has_room, with_hole, with_choice_of, with_constant, constant_by, build_word, BuiltName}
use Rattle.ops_grammar.specs.Derivation.{is_designator}
use Rattle.ops_grammar.specs.Reasons.{no_form_fault, is_declaration, wants_class, gives_second, is_full, nests_deepest, wants_bound, is_bound, is_positive, is_condition, designates, is_unclear, designates_unclearly, wants_cell, is_bad_designator, Because, wants_constant}
use Rattle.ops_grammar.proofs.Constants.{constant_cases}
use Rattle.ops_grammar.proofs.Arranged.{AreArranged, functions_fit}

abbrev pub HasReason : List Wanted → Word → State → Step → Type 0
HasReason ws w s (Next ws' s') = Unit {0}
HasReason ws w s (Refuses f) = Because f w ws s

-- ---- what is nowhere has no place

any_by : {X : Type 0} (p : X → Bool) (x : X) (xs : List X) (b : Bool) → p x ≡ b → (list_any p xs ≡ true → position_or_len p xs < length xs) → (b || list_any p xs) ≡ true → position_or_len p (x ∷ xs) < suc (length xs)
any_by p x xs true is ih e = rw is (omega arith)
any_by p x xs false is ih e = let lt = ih e in rw is (omega (arith, lt))

any_place : {X : Type 0} (p : X → Bool) (xs : List X) → list_any p xs ≡ true → position_or_len p xs < length xs
any_place p [] e = absurd (true≢false (sym e))
any_place p (x ∷ xs) e = any_by p x xs (p x) refl (any_place p xs) e

none_by : {X : Type 0} (p : X → Bool) (xs : List X) (b : Bool) → list_any p xs ≡ b → position p xs ≡ None → b ≡ false
none_by p xs false is e = refl
none_by p xs true is e =
    let n = position_or_len p xs in
    let lt = any_place p xs is in
    let found : Some n ≡ None = sym (ap (λ (b : Bool). cond b (Some n) None) (lt-ltb _ _ lt)) ∙ e in absurd (cc)

position_none : {X : Type 0} (p : X → Bool) (xs : List X) → position p xs ≡ None → list_any p xs ≡ false
position_none p xs e = none_by p xs (list_any p xs) refl e

-- ---- each thing that is wanted

module _ (w : Word) (ws : List Wanted) (s : State) where
  abbrev At : List Wanted → Step → Type 0
  At here r = HasReason here w s r

  form_reason : (k : Keyword) → w.keyword ≡ k → At (Form ∷ ws) (form w k ws s)
  form_reason keyword.Literalize e = cond_both (may_declare s) _ _ (At (Form ∷ ws)) (λ _. tt) (λ late. (refl, ap is_declaration e, late))
  form_reason keyword.VectorAttribute e = cond_both (may_declare s) _ _ (At (Form ∷ ws)) (λ _. tt) (λ late. (refl, ap is_declaration e, late))
  form_reason keyword.Production e = tt
  form_reason keyword.Make e = tt
  form_reason keyword.Remove e = tt
  form_reason keyword.Run e = tt
  form_reason keyword.Wm e = tt
  form_reason keyword.Ppwm e = tt
  form_reason keyword.Cs e = tt
  form_reason keyword.Pm e = tt
  form_reason keyword.Strategy e = tt
  form_reason keyword.Watch e = tt
  form_reason keyword.Back e = tt
  form_reason keyword.Pbreak e = tt
  form_reason keyword.Excise e = tt
  form_reason keyword.Matches e = tt
  form_reason keyword.Exit e = tt
  form_reason _ e = refl

  class_at_reason : (here behind : List Wanted) (s' : State) → wants_class here ≡ true → is_name w.kind ≡ true → (o : Option ℕ) → position (λ c. c.name.0 == w.name.0) s.classes ≡ o → At here (class_at o behind s')
  class_at_reason here behind s' wants is (Some c) e = tt
  class_at_reason here behind s' wants is None e = (wants, is, position_none (λ c. c.name.0 == w.name.0) s.classes e)

  field_at_reason : (u : Use) → is_name w.kind ≡ true → (o : Option ℕ) → position (λ a. a.0 == w.name.0) (attributes_of (slice_get s.classes s.class)) ≡ o → At (Attribute u ∷ ws) (field_at u o ws s)
  field_at_reason u is (Some f) e = cond_both (is_vector (class_of s.classes s.class) f) _ _ (At (Attribute u ∷ ws)) (λ _. tt) (λ _. tt)
  field_at_reason u is None e = (refl, is, position_none (λ (a : Sym). a.0 == w.name.0) (attributes_of (slice_get s.classes s.class)) e)

  -- a constant is refused where it is a hole for a variable that is not bound
  constant_reason : (here : List Wanted) (next : State → Step) → wants_constant here ≡ true → ((r : State) → At here (next r)) → At here (constant_by w.keyword next s)
  constant_reason here next wants taken = constant_cases w.keyword next s (At here) (λ e. inr (wants, e)) (taken s) (λ variable m found. taken (with_hole s m))

  -- where no_form_fault is a bad form, and a variable with no number is not bound
  module _ (here behind : List Wanted) (bad : no_form_fault here ≡ fault.BadForm) (constant : wants_constant here ≡ true) (unbound : number_of w.name s.values ≡ None → is_bound here w.name s ≡ false) where
    -- after a predicate that is no equality a variable must be bound
    abbrev WantsBoundBehind : Pred → Type 0
    WantsBoundBehind p = not (is_equality p) ≡ true → wants_bound here ≡ true

    variable_tested_reason : (f : ℕ) (p : Pred) → WantsBoundBehind p → is_variable w.kind ≡ true → (o : Option ℕ) → number_of w.name s.values ≡ o → At here (variable_tested f p o w.name behind s)
    variable_tested_reason f p wants is (Some n) e = tt
    variable_tested_reason f pred.Eq wants is None e = tt
    variable_tested_reason f _ wants is None e = inl (wants refl, is, unbound e)

    constant_tested_reason : (f : ℕ) (p : Pred) → WantsBoundBehind p → (o : Option Value) → At here (constant_tested f p w o behind s)
    constant_tested_reason f p wants (Some v) = constant_reason here (λ r. Next behind (with_constant (ToTest f p) r v)) constant (λ r. tt)
    constant_tested_reason f p wants None =
        cond_both (is_variable w.kind) _ _ (At here) (λ is. variable_tested_reason f p wants is (number_of w.name s.values) refl) (λ _. bad)

    tested_reason : (f : ℕ) (p : Pred) → WantsBoundBehind p → At here (tested f p w behind s)
    tested_reason f p wants =
        cond_both (is_literal w.keyword) _ _ (At here) (λ _. tt) (λ _. constant_tested_reason f p wants (constant_of w.kind w.name))

    predicated_reason : (f : ℕ) (o : Option Pred) → At here (predicated f w o behind s)
    predicated_reason f (Some p) = tt
    predicated_reason f None = tested_reason f pred.Eq (λ e. absurd (true≢false (sym e)))

    test_reason : (f : ℕ) → At here (test f w behind s)
    test_reason f = cond_both (opens_choice w.keyword) _ _ (At here) (λ _. tt) (λ _. predicated_reason f (pred_of w.keyword))

    -- a value, where a variable with a number is refused for a reason if at all
    module _ (t : Target) (wants : wants_bound here ≡ true) (bound : is_variable w.kind ≡ true → (x : Term) → At here (term_at t x behind s)) where
      bound_reason : is_variable w.kind ≡ true → (o : Option ℕ) → number_of w.name s.values ≡ o → At here (bound_at t o behind s)
      bound_reason is (Some n) e = bound is (term.Variable n)
      bound_reason is None e = inl (wants, is, unbound e)

      constant_at_reason : (o : Option Value) → At here (constant_at t w o behind s)
      constant_at_reason (Some v) = constant_reason here (λ r. Next behind (with_constant t r v)) constant (λ r. tt)
      constant_at_reason None = cond_both (is_variable w.kind) _ _ (At here) (λ is. bound_reason is (number_of w.name s.values) refl) (λ _. bad)

      value_reason : At here (value_for t w behind s)
      value_reason =
          cond_both (is_literal w.keyword) _ _ (At here) (λ _. tt)
          (λ _. cond_both (is_left w.kind && is_of_action t) _ _ (At here) (λ _. tt) (λ _. constant_at_reason (value_of w.kind w.name)))

  value_for_reason : (t : Target) → At (ValueFor t ∷ ws) (value_for t w ws s)
  value_for_reason (ToTest f p) = value_reason (ValueFor (ToTest f p) ∷ ws) ws refl refl (λ _. refl) (ToTest f p) refl (λ is x. inl (refl, is, refl))
  value_for_reason (ToPut f) = value_reason (ValueFor (ToPut f) ∷ ws) ws refl refl (λ e. ap is_some e) (ToPut f) refl (λ is x. tt)
  value_for_reason (ToFixed f) = value_reason (ValueFor (ToFixed f) ∷ ws) ws refl refl (λ _. refl) (ToFixed f) refl (λ is x. inl (refl, is, refl))
  value_for_reason ToTerms = value_reason (ValueFor ToTerms ∷ ws) ws refl refl (λ e. ap is_some e) ToTerms refl (λ is x. tt)
  value_for_reason ToConstants = value_reason (ValueFor ToConstants ∷ ws) ws refl refl (λ _. refl) ToConstants refl (λ is x. inl (refl, is, refl))
  value_for_reason ToItem = value_reason (ValueFor ToItem ∷ ws) ws refl refl (λ e. ap is_some e) ToItem refl (λ is x. tt)
  value_for_reason ToBind = value_reason (ValueFor ToBind ∷ ws) ws refl refl (λ e. ap is_some e) ToBind refl (λ is x. tt)

  -- a term goes to a value of an action
  term_reason : (here behind : List Wanted) (s' : State) (t : Target) (x : Term) → is_of_action t ≡ true → At here (term_at t x behind s')
  term_reason here behind s' (ToPut f) x of_action = tt
  term_reason here behind s' ToTerms x of_action = tt
  term_reason here behind s' ToItem x of_action = tt
  term_reason here behind s' ToBind x of_action = tt
  term_reason here behind s' _ x of_action = absurd (true≢false (sym of_action))

  -- a unit, where a variable must be bound and one more bracket may be too many
  module _ (here behind : List Wanted) (bad : no_form_fault here ≡ fault.BadForm) (wants : wants_bound here ≡ true) (unbound : number_of w.name s.values ≡ None → is_bound here w.name s ≡ false) where
    unit_bound_reason : is_variable w.kind ≡ true → (o : Option ℕ) → number_of w.name s.values ≡ o → At here (unit_bound o behind s)
    unit_bound_reason is (Some n) e = tt
    unit_bound_reason is None e = inl (wants, is, unbound e)

    unit_at_reason : (k : TokenKind) → w.kind ≡ k → At here (unit_at k w.name behind s)
    unit_at_reason (kind.Whole n) e = tt
    unit_at_reason kind.Variable e = unit_bound_reason (ap is_variable e) (number_of w.name s.values) refl
    unit_at_reason _ e = bad

    unit_reason : (d : ℕ) → (nat_lt d most_brackets ≡ false → nests_deepest here ≡ true) → At here (expression_unit d w behind s)
    unit_reason d deepest =
        cond_both (is_left w.kind) _ _ (At here) (λ left. cond_both (nat_lt d most_brackets) _ _ (At here) (λ _. tt) (λ full. (left, deepest full)))
        (λ _. unit_at_reason w.kind refl)

  bracketed_reason : (d : ℕ) → At (Bracketed d ∷ ws) (bracketed d w ws s)
  bracketed_reason d =
      cond_both (is_compute w.keyword) _ _ (At (Bracketed d ∷ ws)) (λ _. tt)
      (λ _. unit_reason (Bracketed d ∷ ws) (ExpressionRest d [] None ∷ ws) refl refl (λ e. ap is_some e) d (λ full. ap not full))

  -- the rest of an expression
  module _ (d : ℕ) (waiting : List Waiting) (into : Option Target) where
    expression_ended_reason : (o : Option Target) (f : Formula) → functions_fit (ExpressionRest d waiting o ∷ ws) ≡ true → At (ExpressionRest d waiting into ∷ ws) (expression_ended o f ws s)
    expression_ended_reason (Some t) f fits = term_reason (ExpressionRest d waiting into ∷ ws) ws (with_formula s no_formula) t (term.Compute f) (and_parts (is_of_action t) (functions_fit ws) fits).0
    expression_ended_reason None f fits = tt

    operation_reason : (o : Option Op) → At (ExpressionRest d waiting into ∷ ws) (operation_at d waiting into o ws s)
    operation_reason (Some o) = tt
    operation_reason None = refl

    expression_rest_reason : functions_fit (ExpressionRest d waiting into ∷ ws) ≡ true → At (ExpressionRest d waiting into ∷ ws) (expression_rest d waiting into w ws s)
    expression_rest_reason fits =
        cond_both (is_right w.kind) _ _ (At (ExpressionRest d waiting into ∷ ws)) (λ _. expression_ended_reason into (completed s.formula waiting) fits)
        (λ _. operation_reason (operation_of w.keyword))

  -- `compute`, `genatom`, `accept` and `substr`
  function_reason : (t : Target) (k : Keyword) → is_of_action t ≡ true → At (Function t ∷ ws) (function t k ws s)
  function_reason t keyword.Substr of_action = tt
  function_reason t keyword.Compute of_action = tt
  function_reason t keyword.Genatom of_action = term_reason (Function t ∷ ws) (Closes EndsWhole ∷ ws) s t term.Fresh of_action
  function_reason t keyword.Accept of_action = term_reason (Function t ∷ ws) (Closes EndsWhole ∷ ws) s t term.Accept of_action
  function_reason t _ of_action = refl

  source_named_reason : is_variable w.kind ≡ true → (o : Option ℕ) → number_of w.name s.elements ≡ o → At (SourceCell ∷ ws) (source_named o ws s)
  source_named_reason is (Some c) e = tt
  source_named_reason is None e = and_from _ _ is (ap (λ (o : Option ℕ). not (is_some o)) e)

  source_at_reason : (t : Target) → is_name w.kind ≡ true → (o : Option ℕ) → position (λ a. a.0 == w.name.0) (source_class s).attrs ≡ o → At (SourceAttribute t ∷ ws) (source_at t w.name o ws s)
  source_at_reason t is (Some f) e = tt
  source_at_reason t is None e = (refl, is, position_none (λ (a : Sym). a.0 == w.name.0) (source_class s).attrs e)

  source_end_reason : (t : Target) (name : Sym) → is_of_action t ≡ true → At (SourceEnd t name ∷ ws) (source_end t name w ws s)
  source_end_reason t name of_action =
      cond_both (ends_at_inf w s) _ _ (At (SourceEnd t name ∷ ws))
      (λ _. cond_both (takes_several t) _ _ (At (SourceEnd t name ∷ ws)) (λ _. term_reason (SourceEnd t name ∷ ws) ws s t (term.Rest s.source) of_action) (λ _. refl))
      (λ _. cond_both (is_name w.kind && (w.name.0 == name.0)) _ _ (At (SourceEnd t name ∷ ws))
      (λ _. term_reason (SourceEnd t name ∷ ws) ws s t (term.One s.source s.source_field) of_action) (λ _. refl))

  place_reason : (here behind : List Wanted) → no_form_fault here ≡ fault.BadForm → wants_constant here ≡ true → (number_of w.name s.values ≡ None → is_bound here w.name s ≡ false) → (f : ℕ) → At here (place f w behind s)
  place_reason here behind bad constant unbound f = cond_both (is_left_brace w.kind) _ _ (At here) (λ _. tt) (λ _. test_reason here behind bad constant unbound f)

  -- a place or a value more, where there is room for it
  within_reason : (here : List Wanted) (b : Bool) → (b ≡ false → is_full here s ≡ true) → (x : Step) → At here x → At here (within b x)
  within_reason here true full x h = h
  within_reason here false full (Next ws' s') h = full refl
  within_reason here false full (Refuses f) h = h

  one_of_several_reason : (u : Use) (f : ℕ) → At (Several u f ∷ ws) (one_of_several u f w ws s)
  one_of_several_reason InPattern f =
      within_reason (Several InPattern f ∷ ws) (nat_lt f most_fields) (λ e. ap not e) (place f w (Several InPattern (f + 1) ∷ ws) s)
      (place_reason (Several InPattern f ∷ ws) (Several InPattern (f + 1) ∷ ws) refl refl (λ e. ap is_some e) f)
  one_of_several_reason InPut f =
      value_reason (Several InPut f ∷ ws) (Several InPut f ∷ ws) refl refl (λ e. ap is_some e) ToTerms refl (λ is x. tt)
  one_of_several_reason InFixed f =
      within_reason (Several InFixed f ∷ ws) (nat_lt (f + length s.constants) most_fields) (λ e. ap not e) (value_for ToConstants w (Several InFixed f ∷ ws) s)
      (value_reason (Several InFixed f ∷ ws) (Several InFixed f ∷ ws) refl refl (λ _. refl) ToConstants refl (λ is x. inl (refl, is, refl)))

  several_reason : (u : Use) (f : ℕ) → At (Several u f ∷ ws) (several u f w ws s)
  several_reason u f =
      cond_both (is_right w.kind || is_caret w.kind) _ _ (At (Several u f ∷ ws))
      (λ _. cond_both (is_right w.kind) _ _ (At (Several u f ∷ ws)) (λ _. tt) (λ _. cond_both (is_caret w.kind) _ _ (At (Several u f ∷ ws)) (λ _. tt) (λ _. refl)))
      (λ _. one_of_several_reason u f)

  -- the name of a vector attribute
  vector_name_reason : (here behind : List Wanted) → no_form_fault here ≡ fault.BadForm
      → (is_one_of w.name s.vectors ≡ false → makes_second w.name s.classes ≡ true → gives_second here w.name s ≡ true) → At here (vector_name w behind s)
  vector_name_reason here behind bad second =
      cond_both (is_name w.kind) _ _ (At here)
      (λ is. cond_both (is_one_of w.name s.vectors) _ _ (At here) (λ _. tt)
      (λ new. cond_both (makes_second w.name s.classes) _ _ (At here) (λ more. (is, second new more)) (λ _. tt)))
      (λ _. bad)

  -- an element variable
  element_at_reason : (here behind : List Wanted) → (is_some (number_of w.name s.elements) ≡ true → is_bad_designator here w s ≡ true)
      → (o : Option ℕ) → number_of w.name s.elements ≡ o → At here (element_at o w.name behind s)
  element_at_reason here behind again (Some c) e = again (ap is_some e)
  element_at_reason here behind again None e = tt

  element_name_reason : (here behind : List Wanted) → no_form_fault here ≡ fault.BadForm
      → (is_variable w.kind ≡ true → is_some (number_of w.name s.elements) ≡ true → is_bad_designator here w s ≡ true) → At here (element_name w behind s)
  element_name_reason here behind bad again =
      cond_both (is_variable w.kind) _ _ (At here) (λ is. element_at_reason here behind (again is) (number_of w.name s.elements) refl) (λ _. bad)

  chosen_reason : (f : ℕ) (o : Option Value) → At (Choice f ∷ ws) (chosen w.keyword o (Choice f ∷ ws) s)
  chosen_reason f (Some v) = constant_reason (Choice f ∷ ws) (λ r. Next (Choice f ∷ ws) (with_choice_of r v)) refl (λ r. tt)
  chosen_reason f None = refl

  atom_reason : (t : Target) (o : Option Value) → At (Atom t ∷ ws) (atom_at t w.keyword o ws s)
  atom_reason t (Some v) = constant_reason (Atom t ∷ ws) (λ r. Next ws (with_constant t r v)) refl (λ r. tt)
  atom_reason t None = refl

  build_reason : (b : Bool) → At (ActionWord b ∷ ws) (build_word b ws s)
  build_reason true = refl
  build_reason false = tt

  action_word_reason : (b : Bool) (k : Keyword) → At (ActionWord b ∷ ws) (action_word b k ws s)
  action_word_reason b keyword.Make = tt
  action_word_reason b keyword.Modify = tt
  action_word_reason b keyword.Bind = tt
  action_word_reason b keyword.Cbind = tt
  action_word_reason b keyword.Remove = tt
  action_word_reason b keyword.Write = tt
  action_word_reason b keyword.Halt = tt
  action_word_reason b keyword.Build = build_reason b
  action_word_reason b _ = refl

  -- the fault of a word that designates no cell has its reason
  abbrev Reasoned : List Wanted → Result ℕ Fault → Type 0
  Reasoned here (Ok c) = Unit {0}
  Reasoned here (Err f) = Because f w here s

  -- where a cell is wanted
  module _ (here : List Wanted) (wants : wants_cell here ≡ true) (bad : no_form_fault here ≡ fault.BadForm)
      (none : is_designator w.kind ≡ true → designates w.kind w.name s ≡ false → is_bad_designator here w s ≡ true) where
    designated_reason : is_designator w.kind ≡ true → (before : ℕ) (o : Option Part) → designates w.kind w.name s ≡ is_positive o
        → designates_unclearly w.kind s ≡ list_any is_absent (take before s.conditions) → Reasoned here (designated before o s)
    designated_reason is before (Some c) e unclear =
        cond_both (is_absent c) _ _ (Reasoned here) (λ negated. none is (e ∙ ap not negated))
        (λ positive. cond_both (list_any is_absent (take before s.conditions)) _ _ (Reasoned here) (λ among. (wants, e ∙ ap not positive, unclear ∙ among)) (λ _. tt))
    designated_reason is before None e unclear = none is e

    numbered_reason : is_designator w.kind ≡ true → (o : Option ℕ) → designates w.kind w.name s ≡ is_condition s o → designates_unclearly w.kind s ≡ is_unclear s o → Reasoned here (numbered_cell o s)
    numbered_reason is (Some n) e unclear = designated_reason is (n - 1) (slice_get s.conditions (n - 1)) e unclear
    numbered_reason is None e unclear = none is e

    named_reason : is_designator w.kind ≡ true → (o : Option ℕ) → designates w.kind w.name s ≡ is_some o → Reasoned here (named_cell o)
    named_reason is (Some c) e = tt
    named_reason is None e = none is e

    cell_of_reason : (k : TokenKind) → w.kind ≡ k → Reasoned here (cell_of k w.name s)
    cell_of_reason (kind.Whole n) e =
        numbered_reason (ap is_designator e) (natural_of n) (ap (λ (k : TokenKind). designates k w.name s) e) (ap (λ (k : TokenKind). designates_unclearly k s) e)
    cell_of_reason kind.Variable e = named_reason (ap is_designator e) (number_of w.name s.elements) (ap (λ (k : TokenKind). designates k w.name s) e)
    cell_of_reason _ e = bad

  cell_reason : (here behind : List Wanted) (r : Result ℕ Fault) → Reasoned here r → At here (with_designated r behind s)
  cell_reason here behind (Ok c) h = tt
  cell_reason here behind (Err f) h = h

  modified_reason : (r : Result ℕ Fault) → Reasoned (Modified ∷ ws) r → At (Modified ∷ ws) (with_modified r ws s)
  modified_reason (Ok c) h = tt
  modified_reason (Err f) h = h

  cell_bound_reason : is_variable w.kind ≡ true → (o : Option ℕ) → s.made ≡ o → At (CellName ∷ ws) (cell_bound o w.name ws s)
  cell_bound_reason is (Some class) e = tt
  cell_bound_reason is None e = and_from _ _ is (ap (λ (o : Option ℕ). not (is_some o)) e)

  item_word_reason : (k : Keyword) → At (ItemWord ∷ ws) (item_word k ws s)
  item_word_reason keyword.Crlf = tt
  item_word_reason keyword.Tabto = tt
  item_word_reason keyword.Rjust = tt
  item_word_reason keyword.Substr = tt
  item_word_reason keyword.Compute = tt
  item_word_reason keyword.Genatom = tt
  item_word_reason keyword.Accept = tt
  item_word_reason _ = refl

  columns_reason : (c : Column) (o : Option ℕ) → At (Columns c ∷ ws) (columns_at c o ws s)
  columns_reason c (Some n) = tt
  columns_reason c None = refl

  counted_reason : (o : Option ℕ) → At (Count ∷ ws) (counted o ws s)
  counted_reason (Some n) = tt
  counted_reason None = refl

  count_reason : At (Count ∷ ws) (count w ws s)
  count_reason = cond_both (is_right w.kind) _ _ (At (Count ∷ ws)) (λ _. tt) (λ _. counted_reason (count_of w.kind))

  strategy_reason : (o : Option Strategy) → At (StrategyName ∷ ws) (strategy_set o ws s)
  strategy_reason (Some g) = tt
  strategy_reason None = refl

  strategy_name_reason : At (StrategyName ∷ ws) (strategy_name w ws s)
  strategy_name_reason = cond_both (is_right w.kind) _ _ (At (StrategyName ∷ ws)) (λ _. tt) (λ _. strategy_reason (strategy_of w.keyword))

  -- tags
  tag_at_reason : (here behind : List Wanted) → no_form_fault here ≡ fault.BadForm → (o : Option ℕ) → At here (tag_at o behind s)
  tag_at_reason here behind bad (Some n) = tt
  tag_at_reason here behind bad None = bad

  tag_or_all_reason : At (TagOrAll ∷ ws) (tag_or_all w ws s)
  tag_or_all_reason =
      cond_both (is_all w.keyword) _ _ (At (TagOrAll ∷ ws)) (λ _. tt)
      (λ _. tag_at_reason (TagOrAll ∷ ws) (Tags ToRemove ∷ ws) refl (count_of w.kind))

  tags_reason : (u : TagUse) → At (Tags u ∷ ws) (tags u w ws s)
  tags_reason u =
      cond_both (is_right w.kind) _ _ (At (Tags u ∷ ws)) (λ _. tt) (λ _. tag_at_reason (Tags u ∷ ws) (Tags u ∷ ws) refl (count_of w.kind))

  -- a class whose elements are shown
  shown_reason : At (Shown ∷ ws) (shown w ws s)
  shown_reason =
      cond_both (is_right w.kind) _ _ (At (Shown ∷ ws)) (λ _. tt)
      (λ _. cond_both (is_name w.kind) _ _ (At (Shown ∷ ws))
      (λ is. class_at_reason (Shown ∷ ws) (Terms InFixed ∷ ws) (record s { fixed = []; shows = true }) refl is (position (λ c. c.name.0 == w.name.0) s.classes) refl)
      (λ _. refl))

  -- names of productions
  named_rule_reason : (here behind : List Wanted) → no_form_fault here ≡ fault.BadForm → At here (named_rule w behind s)
  named_rule_reason here behind bad = cond_both (is_name w.kind) _ _ (At here) (λ _. tt) (λ _. bad)

  named_rules_reason : (u : NameUse) → At (NamedRules u ∷ ws) (named_rules u w ws s)
  named_rules_reason u =
      cond_both (is_right w.kind) _ _ (At (NamedRules u ∷ ws)) (λ _. tt) (λ _. named_rule_reason (NamedRules u ∷ ws) (NamedRules u ∷ ws) refl)

  -- a trace level
  level_set_reason : (o : Option ℕ) → At (Level ∷ ws) (level_set o ws s)
  level_set_reason (Some n) = tt
  level_set_reason None = refl

  -- the number of firings that are undone
  undone_set_reason : (o : Option ℕ) → At (Undone ∷ ws) (undone_set o ws s)
  undone_set_reason (Some n) = tt
  undone_set_reason None = refl

  level_reason : At (Level ∷ ws) (level w ws s)
  level_reason = cond_both (is_right w.kind) _ _ (At (Level ∷ ws)) (λ _. tt) (λ _. level_set_reason (level_of w.kind))

  undone_reason : At (Undone ∷ ws) (undone w ws s)
  undone_reason = cond_both (is_right w.kind) _ _ (At (Undone ∷ ws)) (λ _. tt) (λ _. undone_set_reason (undone_of w.kind))

step_reason : (w : Word) (ws : List Wanted) (s : State) → AreArranged ws s → HasReason ws w s (step w ws s)
unfolding step
step_reason w [] s arranged = refl
step_reason w (Forms ∷ ws) s arranged = cond_both (is_left w.kind) _ _ (HasReason (Forms ∷ ws) w s) (λ _. tt) (λ _. refl)
step_reason w (Form ∷ ws) s arranged = form_reason w ws s w.keyword refl
step_reason w (ClassDeclared ∷ ws) s arranged =
    cond_both (is_name w.kind) _ _ (HasReason (ClassDeclared ∷ ws) w s) (λ is. cond_both (is_class s w.name) _ _ (HasReason (ClassDeclared ∷ ws) w s) (λ e. (is, e)) (λ _. tt)) (λ _. refl)
step_reason w (Attributes ∷ ws) s arranged =
    cond_both (is_right w.kind) _ _ (HasReason (Attributes ∷ ws) w s) (λ _. tt)
    (λ _. cond_both (is_name w.kind) _ _ (HasReason (Attributes ∷ ws) w s)
    (λ is. cond_both (is_one_of w.name s.attrs) _ _ (HasReason (Attributes ∷ ws) w s) (λ e. (is, e))
    (λ _. cond_both (is_second w.name s) _ _ (HasReason (Attributes ∷ ws) w s) (λ e. (is, e))
    (λ _. cond_both (nat_lt (length s.attrs) most_fields) _ _ (HasReason (Attributes ∷ ws) w s) (λ _. tt) (λ full. ap not full))))
    (λ _. refl))
step_reason w (VectorName ∷ ws) s arranged = vector_name_reason w ws s (VectorName ∷ ws) ws refl (λ new more. and_from _ _ (ap not new) more)
step_reason w (VectorNames ∷ ws) s arranged =
    cond_both (is_right w.kind) _ _ (HasReason (VectorNames ∷ ws) w s) (λ _. tt)
    (λ _. vector_name_reason w ws s (VectorNames ∷ ws) (VectorNames ∷ ws) refl (λ new more. and_from _ _ (ap not new) more))
step_reason w (RuleName ∷ ws) s arranged =
    cond_both (is_name w.kind) _ _ (HasReason (RuleName ∷ ws) w s) (λ is. cond_both (is_rule s w.name) _ _ (HasReason (RuleName ∷ ws) w s) (λ e. (is, e)) (λ _. tt)) (λ _. refl)
step_reason w (FirstPattern ∷ ws) s arranged =
    cond_both (is_left w.kind) _ _ (HasReason (FirstPattern ∷ ws) w s) (λ _. tt)
    (λ _. cond_both (is_left_brace w.kind) _ _ (HasReason (FirstPattern ∷ ws) w s) (λ _. tt)
    (λ _. cond_both (is_minus w.keyword || begins_group w.keyword) _ _ (HasReason (FirstPattern ∷ ws) w s) (λ e. (e, refl)) (λ _. refl)))
step_reason w (Patterns ∷ ws) s arranged =
    cond_both (is_arrow w.keyword) _ _ (HasReason (Patterns ∷ ws) w s) (λ _. tt)
    (λ _. cond_both (is_left w.kind) _ _ (HasReason (Patterns ∷ ws) w s)
    (λ _. cond_both (nat_lt (length (elements_of s.conditions)) most_conditions) _ _ (HasReason (Patterns ∷ ws) w s) (λ _. tt) (λ full. (refl, ap not full)))
    (λ _. cond_both (is_left_brace w.kind) _ _ (HasReason (Patterns ∷ ws) w s)
    (λ _. cond_both (nat_lt (length (elements_of s.conditions)) most_conditions) _ _ (HasReason (Patterns ∷ ws) w s) (λ _. tt) (λ full. (refl, ap not full)))
    (λ _. cond_both (is_minus w.keyword) _ _ (HasReason (Patterns ∷ ws) w s)
    (λ _. cond_both (nat_lt (length (elements_of s.conditions)) most_conditions) _ _ (HasReason (Patterns ∷ ws) w s) (λ _. tt) (λ full. (refl, ap not full)))
    (λ _. cond_both (begins_group w.keyword) _ _ (HasReason (Patterns ∷ ws) w s) (λ _. tt) (λ _. refl)))))
step_reason w (GroupBrace ∷ ws) s arranged = cond_both (is_left_brace w.kind) _ _ (HasReason (GroupBrace ∷ ws) w s) (λ _. tt) (λ _. refl)
step_reason w (Members n ∷ ws) s arranged =
    cond_both (is_right_brace w.kind && nat_le 2 n) _ _ (HasReason (Members n ∷ ws) w s) (λ _. tt)
    (λ _. cond_both (is_left w.kind) _ _ (HasReason (Members n ∷ ws) w s)
    (λ _. cond_both (has_room s) _ _ (HasReason (Members n ∷ ws) w s) (λ _. tt) (λ full. (refl, ap not full))) (λ _. refl))
step_reason w (Pattern ∷ ws) s arranged = cond_both (is_left w.kind) _ _ (HasReason (Pattern ∷ ws) w s) (λ _. tt) (λ _. refl)
step_reason w (Braced ∷ ws) s arranged =
    cond_both (is_left w.kind) _ _ (HasReason (Braced ∷ ws) w s) (λ _. tt)
    (λ _. element_name_reason w ws s (Braced ∷ ws) (Pattern ∷ ClosesBrace ∷ ws) refl (λ is again. and_from _ _ is again))
step_reason w (ElementName ∷ ws) s arranged = element_name_reason w ws s (ElementName ∷ ws) ws refl (λ is again. and_from _ _ is again)
step_reason w (ClosesBrace ∷ ws) s arranged = cond_both (is_right_brace w.kind) _ _ (HasReason (ClosesBrace ∷ ws) w s) (λ _. tt) (λ _. refl)
step_reason w (ClassName ∷ ws) s arranged =
    cond_both (is_name w.kind) _ _ (HasReason (ClassName ∷ ws) w s) (λ is. class_at_reason w ws s (ClassName ∷ ws) ws s refl is (position (λ c. c.name.0 == w.name.0) s.classes) refl) (λ _. refl)
step_reason w (Terms u ∷ ws) s arranged =
    cond_both (is_right w.kind) _ _ (HasReason (Terms u ∷ ws) w s) (λ _. tt) (λ _. cond_both (is_caret w.kind) _ _ (HasReason (Terms u ∷ ws) w s) (λ _. tt) (λ _. refl))
step_reason w (Attribute u ∷ ws) s arranged =
    cond_both (is_name w.kind) _ _ (HasReason (Attribute u ∷ ws) w s)
    (λ is. field_at_reason w ws s u is (position (λ a. a.0 == w.name.0) (attributes_of (slice_get s.classes s.class))) refl) (λ _. refl)
step_reason w (Several u f ∷ ws) s arranged = several_reason w ws s u f
step_reason w (Place f ∷ ws) s arranged = place_reason w ws s (Place f ∷ ws) ws refl refl (λ e. ap is_some e) f
step_reason w (Tests f ∷ ws) s arranged =
    cond_both (is_right_brace w.kind) _ _ (HasReason (Tests f ∷ ws) w s) (λ _. tt) (λ _. test_reason w ws s (Tests f ∷ ws) (Tests f ∷ ws) refl refl (λ e. ap is_some e) f)
step_reason w (Tested f p ∷ ws) s arranged = tested_reason w ws s (Tested f p ∷ ws) ws refl refl (λ e. ap is_some e) f p (λ e. e)
step_reason w (Choice f ∷ ws) s arranged =
    cond_both (closes_choice w.keyword) _ _ (HasReason (Choice f ∷ ws) w s) (λ _. tt) (λ _. chosen_reason w ws s f (atom_of w.kind w.name))
step_reason w (Atom t ∷ ws) s arranged = atom_reason w ws s t (atom_of w.kind w.name)
step_reason w (ValueFor t ∷ ws) s arranged = value_for_reason w ws s t
step_reason w (Function t ∷ ws) s arranged = function_reason w ws s t w.keyword (and_parts (is_of_action t) (functions_fit ws) arranged.2).0
step_reason w (ExpressionUnit d ∷ ws) s arranged = unit_reason w ws s (ExpressionUnit d ∷ ws) ws refl refl (λ e. ap is_some e) d (λ full. ap not full)
step_reason w (ExpressionRest d waiting into ∷ ws) s arranged = expression_rest_reason w ws s d waiting into arranged.2
step_reason w (Bracketed d ∷ ws) s arranged = bracketed_reason w ws s d
step_reason w (SourceCell ∷ ws) s arranged =
    cond_both (is_variable w.kind) _ _ (HasReason (SourceCell ∷ ws) w s) (λ is. source_named_reason w ws s is (number_of w.name s.elements) refl) (λ _. refl)
step_reason w (SourceAttribute t ∷ ws) s arranged =
    cond_both (is_name w.kind) _ _ (HasReason (SourceAttribute t ∷ ws) w s)
    (λ is. source_at_reason w ws s t is (position (λ a. a.0 == w.name.0) (source_class s).attrs) refl) (λ _. refl)
step_reason w (SourceEnd t name ∷ ws) s arranged = source_end_reason w ws s t name arranged.1
step_reason w (Actions b ∷ ws) s arranged =
    cond_both (is_right w.kind) _ _ (HasReason (Actions b ∷ ws) w s) (λ _. tt) (λ _. cond_both (is_left w.kind) _ _ (HasReason (Actions b ∷ ws) w s) (λ _. tt) (λ _. refl))
step_reason w (ActionWord b ∷ ws) s arranged = action_word_reason w ws s b w.keyword
step_reason w (BuiltName ∷ ws) s arranged = cond_both (is_name w.kind) _ _ (HasReason (BuiltName ∷ ws) w s) (λ _. tt) (λ _. refl)
step_reason w (Modified ∷ ws) s arranged = modified_reason w ws s (cell_of w.kind w.name s) (cell_of_reason w ws s (Modified ∷ ws) refl refl (λ is e. and_from _ _ is (ap not e)) w.kind refl)
step_reason w (BoundName ∷ ws) s arranged = cond_both (is_variable w.kind) _ _ (HasReason (BoundName ∷ ws) w s) (λ _. tt) (λ _. refl)
step_reason w (BoundValue ∷ ws) s arranged =
    cond_both (is_right w.kind) _ _ (HasReason (BoundValue ∷ ws) w s) (λ _. tt)
    (λ _. value_reason w ws s (BoundValue ∷ ws) (Closes EndsWhole ∷ ws) refl refl (λ e. ap is_some e) ToBind refl (λ is x. tt))
step_reason w (CellName ∷ ws) s arranged = cond_both (is_variable w.kind) _ _ (HasReason (CellName ∷ ws) w s) (λ is. cell_bound_reason w ws s is s.made refl) (λ _. refl)
step_reason w (Cell ∷ ws) s arranged =
    cell_reason w ws s (Cell ∷ ws) ws (cell_of w.kind w.name s) (cell_of_reason w ws s (Cell ∷ ws) refl refl (λ is e. and_from _ _ is (ap not e)) w.kind refl)
step_reason w (Cells ∷ ws) s arranged =
    cond_both (is_right w.kind) _ _ (HasReason (Cells ∷ ws) w s) (λ _. tt)
    (λ _. cell_reason w ws s (Cells ∷ ws) (Cells ∷ ws) (cell_of w.kind w.name s) (cell_of_reason w ws s (Cells ∷ ws) refl refl (λ is e. and_from _ _ is (ap not e)) w.kind refl))
step_reason w (Items ∷ ws) s arranged =
    cond_both (is_right w.kind) _ _ (HasReason (Items ∷ ws) w s) (λ _. tt)
    (λ _. cond_both (is_left w.kind) _ _ (HasReason (Items ∷ ws) w s) (λ _. tt) (λ _. value_reason w ws s (Items ∷ ws) (Items ∷ ws) refl refl (λ e. ap is_some e) ToItem refl (λ is x. tt)))
step_reason w (ItemWord ∷ ws) s arranged = item_word_reason w ws s w.keyword
step_reason w (Columns c ∷ ws) s arranged = columns_reason w ws s c (small_of w.kind)
step_reason w (Count ∷ ws) s arranged = count_reason w ws s
step_reason w (StrategyName ∷ ws) s arranged = strategy_name_reason w ws s
step_reason w (TagOrAll ∷ ws) s arranged = tag_or_all_reason w ws s
step_reason w (Tags u ∷ ws) s arranged = tags_reason w ws s u
step_reason w (Shown ∷ ws) s arranged = shown_reason w ws s
step_reason w (NamedRule ∷ ws) s arranged = named_rule_reason w ws s (NamedRule ∷ ws) ws refl
step_reason w (NamedRules u ∷ ws) s arranged = named_rules_reason w ws s u
step_reason w (Level ∷ ws) s arranged = level_reason w ws s
step_reason w (Undone ∷ ws) s arranged = undone_reason w ws s
step_reason w (Closes e ∷ ws) s arranged = cond_both (is_right w.kind) _ _ (HasReason (Closes e ∷ ws) w s) (λ _. tt) (λ _. refl)

-- A word is refused for the reason that the fault names.
pub refused-because : (w : Word) (ws : List Wanted) (s : State) (f : Fault) → AreArranged ws s → step w ws s ≡ Refuses f → Because f w ws s
refused-because w ws s f arranged e = subst (HasReason ws w s) e (step_reason w ws s arranged)
