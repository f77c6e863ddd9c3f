-- What the machine does at a word that the grammar derives.
use Rattle.std.proofs.Common.{◌≡◌, ℕ, suc, arith, ◌+◌, ◌-◌, Bool, true, false, not, ◌&&◌, ◌||◌, ◌==◌, List, [], ◌∷◌, ◌++◌, length, take, refl, sym, ap, subst, ◌∙◌, cond, ◌⊎◌, inl, inr, Option, Some, None, Result, Ok, Err, true≢false, nat_lt, is_some, position, slice_get, nat_le}
use Rattle.std.specs.List.{list_any}
use Rattle.std.proofs.lemmas.Bool.{cond_both, and_parts, and_from, or_left, or_right, or_parts}
use Rattle.ops_base.specs.declared.values.Sym.{Sym}
use Rattle.ops_base.specs.declared.values.Value.{Value}
use Rattle.ops_base.specs.declared.values.Pred.{Pred}
use Rattle.ops_base.specs.declared.values.Pred.TheVariants as pred
use Rattle.ops_base.specs.declared.conditions.Part.{Part}
use Rattle.ops_base.specs.declared.actions.Term.{Term}
use Rattle.ops_base.specs.declared.actions.Term.TheVariants as term
use Rattle.ops_base.specs.declared.expression.Op.{Op}
use Rattle.ops_base.specs.declared.commands.Strategy.{Strategy}
use Rattle.ops_base.specs.declared.endings.Fault.{Fault}
use Rattle.ops_base.specs.Expression.{Formula}
use Rattle.ops_base.specs.Valid.{most_fields, most_conditions, class_of, is_vector, elements_of}
use Rattle.ops_tokens.specs.declared.token.TokenKind.{TokenKind}
use Rattle.ops_tokens.specs.declared.token.TokenKind.TheVariants as kind
use Rattle.ops_grammar.specs.declared.words.Word.{Word}
use Rattle.ops_grammar.specs.declared.words.Keyword.{Keyword}
use Rattle.ops_grammar.specs.declared.words.Keyword.TheVariants as keyword
use Rattle.ops_grammar.specs.Grammar.{Use, InPattern, InPut, InFixed, Target, ToTest, ToPut, ToTerms, ToConstants, ToItem, ToBind, EndsWhole, ToRemove, Column, Wanted, Forms, Attribute, VectorNames, Patterns, Pattern, Braced, ClosesBrace, ClassName, Terms, Several, Place, Tests, Choice, ValueFor, Function, Waiting, ExpressionUnit, ExpressionRest, Bracketed, SourceEnd, Atom, Tested, BoundValue, Cells, Items, ItemWord, Tags, Closes, State, Step, Next, Refuses, is_left, is_right, is_left_brace, is_right_brace, is_caret, is_name, is_variable, is_arrow, is_literal, is_inf, is_minus, opens_choice, closes_choice, pred_of, constant_of, value_of, atom_of, natural_of, small_of, is_one_of, number_of, may_declare, is_class, is_rule, is_second, makes_second, vector_declared, form, class_at, attributes_of, behind_attribute, field_at, with_bind, with_constant, variable_tested, constant_tested, tested, predicated, test, place, tests, chosen, atom_at, term_at, bound_at, constant_at, is_of_action, value_for, most_brackets, no_formula, with_formula, unit_bound, unit_at, expression_unit, is_compute, operation_of, operation_at, expression_ended, function, source_named, source_class, source_at, takes_several, ends_at_inf, source_end, with_element, terms, within, one_of_several, with_several, several, one_more, element_at, action_word, designated, numbered_cell, named_cell, cell_of, with_designated, with_modified, cell_bound, item_word, columns_at, counted, count_of, strategy_set, strategy_of, tag_at, is_all, level_of, undone_of, level_set, undone_set, ended, step, is_absent, begins_group, has_room, with_hole, with_choice_of, constant_by, function_depth, is_built, side_ended}
use Rattle.ops_grammar.specs.Derivation.{is_designator, is_operand, is_value, with_name, Derives, nothing, no_form, a_form, a_literalize, a_class, an_attribute, no_attribute, a_vector_declaration, a_vector, one_more_vector, no_more_vectors, a_production, a_rule, a_first, a_braced_first, a_negated_first, a_pattern, a_braced_pattern, a_negated_pattern, a_whole_pattern, a_name_before, a_name_behind, an_element_name, a_closed_brace, an_arrow, a_make, a_run, a_count, no_count, a_strategy, a_strategy_name, no_strategy_name, a_remove_command, all_tags, a_first_tag, a_wm, one_more_tag, no_more_tags, a_ppwm, a_shown_class, all_shown, a_cs, an_exit, a_pm, a_pbreak, a_named_rule, one_more_rule, no_more_rules, a_watch, a_back, a_level, some_undone, no_level, one_undone, a_class_name, a_term, no_term, a_scalar_attribute, a_vector_attribute, one_more_place, one_more_term, one_more_constant, no_more_of_several, a_value, a_literal_value, a_function, a_compute, a_genatom, an_accept, a_unit, a_bracketed_unit, a_bracketed_compute, a_bracketed_expression, an_operation, no_operation, a_substr, a_source, a_source_attribute, the_same_again, up_to_inf, an_atom, a_conjunction, no_more_tests, an_operand, a_literal, a_predicate, a_disjunction, one_more_operand, one_more_literal, one_more_predicate, one_more_disjunction, a_tested_operand, a_tested_literal, one_more_choice, no_more_choices, an_action, no_action, to_make, to_modify, to_bind, to_cbind, to_remove, to_write, to_halt, a_modified, a_bound_name, a_bound_value, no_bound_value, a_cell_name, a_cell, one_more_cell, no_more_cells, an_item, a_literal_item, an_item_form, no_item, a_crlf, a_tab, a_right, a_function_item, some_columns, a_closing, is_no_form, a_group, a_member, no_member, a_group_first, a_group_pattern, an_excise, a_matches, a_built_name, to_build}
use Rattle.ops_grammar.proofs.Constants.{constant_cases}
use Rattle.ops_grammar.proofs.Arranged.{AreArranged, kind_agrees}
use Rattle.ops_grammar.proofs.Derived.{forms_last, bind_vectors, constant_vectors, element_vectors, ended_vectors, side_vectors}
use Rattle.ops_grammar.proofs.Moved.{at_any_place, several_at_any_place, whatever_waits, at_any_depth}
use Rattle.ops_grammar.proofs.Proper.{is_other, is_mark, may_have, is_proper, arrow_marks, literal_marks, minus_marks, opening_marks, pred_marks, literal_no_opening, literal_no_pred, minus_no_arrow, pred_no_opening, not_met, mark_kind, no_mark, group_marks, group_no_arrow, group_no_minus, is_hole}

-- What derives goes on where the word is taken, and the word is refused in a form at most.
abbrev pub Went : Word → List Word → Step → Type 0
Went w ts (Next ws s) = is_proper w ≡ true → Derives s.vectors ws ts
Went w ts (Refuses f) = is_no_form f ≡ false

-- the same at the first of some words
abbrev pub Goes : List Word → List Wanted → State → Type 0
Goes [] ws s = Unit {0}
Goes (w ∷ ts) ws s = Went w ts (step w ws s)

-- ---- kinds of words

pub name_not_right : (k : TokenKind) → is_name k ≡ true → is_right k ≡ false
name_not_right kind.Right e = absurd (true≢false (sym e))
name_not_right _ e = refl

caret_not_right : (k : TokenKind) → is_caret k ≡ true → is_right k ≡ false
caret_not_right kind.Right e = absurd (true≢false (sym e))
caret_not_right _ e = refl

left_not_right : (k : TokenKind) → is_left k ≡ true → is_right k ≡ false
left_not_right kind.Right e = absurd (true≢false (sym e))
left_not_right _ e = refl

pub designator_not_right : (k : TokenKind) → is_designator k ≡ true → is_right k ≡ false
designator_not_right kind.Right e = absurd (true≢false (sym e))
designator_not_right _ e = refl

left_not_right_brace : (k : TokenKind) → is_left k ≡ true → is_right_brace k ≡ false
left_not_right_brace kind.Left e = refl
left_not_right_brace _ e = absurd (true≢false (sym e))

and_false : (a b : Bool) → a ≡ false → (a && b) ≡ false
and_false false b e = refl
and_false true b e = absurd (true≢false e)

left_brace_not_left : (k : TokenKind) → is_left_brace k ≡ true → is_left k ≡ false
left_brace_not_left kind.Left e = absurd (true≢false (sym e))
left_brace_not_left _ e = refl

count_not_right : (k : TokenKind) → is_some (count_of k) ≡ true → is_right k ≡ false
count_not_right kind.Right e = absurd (true≢false (sym e))
count_not_right _ e = refl

level_not_right : (k : TokenKind) → is_some (level_of k) ≡ true → is_right k ≡ false
level_not_right kind.Right e = absurd (true≢false (sym e))
level_not_right _ e = refl

undone_not_right : (k : TokenKind) → is_some (undone_of k) ≡ true → is_right k ≡ false
undone_not_right kind.Right e = absurd (true≢false (sym e))
undone_not_right _ e = refl

pub variable_not_left : (k : TokenKind) → is_variable k ≡ true → is_left k ≡ false
variable_not_left kind.Left e = absurd (true≢false (sym e))
variable_not_left _ e = refl

designator_not_left : (k : TokenKind) → is_designator k ≡ true → is_left k ≡ false
designator_not_left kind.Left e = absurd (true≢false (sym e))
designator_not_left _ e = refl

value_not_right : (k : TokenKind) (name : Sym) → (is_some (value_of k name) || is_variable k) ≡ true → is_right k ≡ false
value_not_right kind.Right name e = absurd (true≢false (sym e))
value_not_right _ name e = refl

value_not_left : (k : TokenKind) (name : Sym) → (is_some (value_of k name) || is_variable k) ≡ true → is_left k ≡ false
value_not_left kind.Left name e = absurd (true≢false (sym e))
value_not_left _ name e = refl

operand_not_left_brace : (k : TokenKind) (name : Sym) → (is_some (constant_of k name) || is_variable k) ≡ true → is_left_brace k ≡ false
operand_not_left_brace kind.LeftBrace name e = absurd (true≢false (sym e))
operand_not_left_brace _ name e = refl

operand_not_right_brace : (k : TokenKind) (name : Sym) → (is_some (constant_of k name) || is_variable k) ≡ true → is_right_brace k ≡ false
operand_not_right_brace kind.RightBrace name e = absurd (true≢false (sym e))
operand_not_right_brace _ name e = refl

-- what ends the values of a vector attribute
abbrev ends_several : TokenKind → Bool
ends_several k = is_right k || is_caret k

left_brace_goes_on : (k : TokenKind) → is_left_brace k ≡ true → ends_several k ≡ false
left_brace_goes_on kind.LeftBrace e = refl
left_brace_goes_on _ e = absurd (true≢false (sym e))

operand_goes_on : (k : TokenKind) (name : Sym) → (is_some (constant_of k name) || is_variable k) ≡ true → ends_several k ≡ false
operand_goes_on kind.Right name e = absurd (true≢false (sym e))
operand_goes_on kind.Caret name e = absurd (true≢false (sym e))
operand_goes_on _ name e = refl

value_goes_on : (k : TokenKind) (name : Sym) → (is_some (value_of k name) || is_variable k) ≡ true → ends_several k ≡ false
value_goes_on kind.Right name e = absurd (true≢false (sym e))
value_goes_on kind.Caret name e = absurd (true≢false (sym e))
value_goes_on _ name e = refl

left_goes_on : (k : TokenKind) → is_left k ≡ true → ends_several k ≡ false
left_goes_on kind.Left e = refl
left_goes_on _ e = absurd (true≢false (sym e))

mark_goes_on : (w : Word) → is_mark w.keyword ≡ true → is_proper w ≡ true → ends_several w.kind ≡ false
mark_goes_on w mark proper = ap ends_several (mark_kind w.kind w.keyword mark proper)

-- A place, a value and what ends several of them begin with words of their own.
place_begins : (f : ℕ) (vs : List Sym) (ws : List Wanted) (w : Word) (ts : List Word) → Derives vs (Place f ∷ ws) (w ∷ ts) → is_proper w ≡ true → ends_several w.kind ≡ false
place_begins f vs ws w ts (a_conjunction e d) proper = left_brace_goes_on w.kind e
place_begins f vs ws w ts (an_operand e d) proper = operand_goes_on w.kind w.name e
place_begins f vs ws w ts (a_literal e d) proper = mark_goes_on w (literal_marks w.keyword e) proper
place_begins f vs ws w ts (a_predicate {p = p} e d) proper = mark_goes_on w (pred_marks w.keyword p e) proper
place_begins f vs ws w ts (a_disjunction e d) proper = mark_goes_on w (opening_marks w.keyword e) proper

value_begins : (t : Target) (vs : List Sym) (ws : List Wanted) (w : Word) (ts : List Word) → Derives vs (ValueFor t ∷ ws) (w ∷ ts) → is_proper w ≡ true → ends_several w.kind ≡ false
value_begins t vs ws w ts (a_value e d) proper = value_goes_on w.kind w.name (and_parts (not (is_literal w.keyword)) _ e).1
value_begins t vs ws w ts (a_literal_value e d) proper = mark_goes_on w (literal_marks w.keyword e) proper
value_begins t vs ws w ts (a_function e of_action d) proper = left_goes_on w.kind e

terms_begin : (u : Use) (vs : List Sym) (ws : List Wanted) (w : Word) (ts : List Word) → Derives vs (Terms u ∷ ws) (w ∷ ts) → ends_several w.kind ≡ true
terms_begin u vs ws w ts (a_term e d) = or_right (is_right w.kind) _ e
terms_begin u vs ws w ts (no_term e d) = or_left _ _ e

-- An operand is no operator.
operand_unmarked : {A : Type 0} (w : Word) → is_operand w ≡ true → is_mark w.keyword ≡ true → is_proper w ≡ true → A
operand_unmarked w e mark proper = no_mark w (λ k. is_some (constant_of k w.name) || is_variable k) refl mark e proper

-- a word with a keyword is a symbol or an operator
keyword_kind : (k : TokenKind) (w : Keyword) → (is_other w || is_hole w) ≡ false → may_have k w ≡ true → (k ≡ kind.Operator) ⊎ (k ≡ kind.Symbol)
keyword_kind kind.Operator w named p = inl refl
keyword_kind kind.Symbol w named p = inr refl
keyword_kind kind.Quoted w named p = absurd (true≢false (sym p ∙ named))
keyword_kind _ w named p = absurd (true≢false (sym p ∙ (or_parts (is_other w) (is_hole w) named).0))

no_keyword : {A : Type 0} (w : Word) (is : TokenKind → Bool) → is kind.Operator ≡ false → is kind.Symbol ≡ false → (is_other w.keyword || is_hole w.keyword) ≡ false → is w.kind ≡ true → is_proper w ≡ true → A
no_keyword w is operator symbol named e proper =
    elim (keyword_kind w.kind w.keyword named proper) [
      | inl same ↦ absurd (true≢false (sym e ∙ ap is same ∙ operator))
      | inr same ↦ absurd (true≢false (sym e ∙ ap is same ∙ symbol))
    ]

operation_named : (k : Keyword) → is_some (operation_of k) ≡ true → (is_other k || is_hole k) ≡ false
operation_named keyword.Other e = absurd (true≢false (sym e))
operation_named (keyword.Hole variable at) e = absurd (true≢false (sym e))
operation_named _ e = refl

compute_named : (k : Keyword) → is_compute k ≡ true → (is_other k || is_hole k) ≡ false
compute_named keyword.Other e = absurd (true≢false (sym e))
compute_named (keyword.Hole variable at) e = absurd (true≢false (sym e))
compute_named _ e = refl

strategy_named : (k : Keyword) → is_some (strategy_of k) ≡ true → (is_other k || is_hole k) ≡ false
strategy_named keyword.Other e = absurd (true≢false (sym e))
strategy_named (keyword.Hole variable at) e = absurd (true≢false (sym e))
strategy_named _ e = refl

all_named : (k : Keyword) → is_all k ≡ true → (is_other k || is_hole k) ≡ false
all_named keyword.Other e = absurd (true≢false (sym e))
all_named (keyword.Hole variable at) e = absurd (true≢false (sym e))
all_named _ e = refl

-- a unit does not begin with `compute`
unit_begins : {A : Type 0} (d : ℕ) (vs : List Sym) (ws : List Wanted) (w : Word) (ts : List Word) → Derives vs (ExpressionUnit d ∷ ws) (w ∷ ts) → is_compute w.keyword ≡ true → is_proper w ≡ true → A
unit_begins d vs ws w ts (a_unit e derives) compute proper = no_keyword w is_designator refl refl (compute_named w.keyword compute) e proper
unit_begins d vs ws w ts (a_bracketed_unit e derives) compute proper = no_keyword w is_left refl refl (compute_named w.keyword compute) e proper

-- from nothing only nothing derives
abbrev IsNothing : List Wanted → List Word → Type 0
IsNothing [] [] = Unit {0}
IsNothing [] (w ∷ ts) = ⊥
IsNothing (w ∷ ws) ts = Unit {0}

only_nothing : (vs : List Sym) (ws : List Wanted) (ts : List Word) → Derives vs ws ts → IsNothing ws ts
only_nothing vs ws ts nothing = tt
only_nothing vs ws ts _ = tt

-- ---- each production

no_form_goes : (ws : List Wanted) (words : List Word) (s : State) → Derives s.vectors ws words → forms_last (Forms ∷ ws) ≡ true → Goes words (Forms ∷ ws) s
no_form_goes ws [] s d last = tt
no_form_goes [] (w ∷ ts) s d last = absurd (only_nothing s.vectors [] (w ∷ ts) d)
no_form_goes (v ∷ ws) (w ∷ ts) s d last = absurd (true≢false (sym last))

module _ (w : Word) (ts : List Word) where
  met : (b : Bool) (x y : Step) → b ≡ true → Went w ts x → Went w ts (cond b x y)
  met true x y e h = h
  met false x y e h = absurd (true≢false (sym e))

  unmet : (b : Bool) (x y : Step) → b ≡ false → Went w ts y → Went w ts (cond b x y)
  unmet true x y e h = absurd (true≢false e)
  unmet false x y e h = h

  module _ (ws : List Wanted) (s : State) where
    form_goes : (k : Keyword) → w.keyword ≡ k → Went w ts (form w k ws s) → Went w ts (form w w.keyword ws s)
    form_goes k e h = subst (λ (x : Keyword). Went w ts (form w x ws s)) (sym e) h

    action_goes : (b : Bool) (k : Keyword) → w.keyword ≡ k → Went w ts (action_word b k ws s) → Went w ts (action_word b w.keyword ws s)
    action_goes b k e h = subst (λ (x : Keyword). Went w ts (action_word b x ws s)) (sym e) h

    function_goes : (t : Target) (k : Keyword) → w.keyword ≡ k → Went w ts (function t k ws s) → Went w ts (function t w.keyword ws s)
    function_goes t k e h = subst (λ (x : Keyword). Went w ts (function t x ws s)) (sym e) h

    item_goes : (k : Keyword) → w.keyword ≡ k → Went w ts (item_word k ws s) → Went w ts (item_word w.keyword ws s)
    item_goes k e h = subst (λ (x : Keyword). Went w ts (item_word x ws s)) (sym e) h

    class_goes : (o : Option ℕ) → Derives s.vectors ws ts → Went w ts (class_at o ws s)
    class_goes (Some c) d = λ _. d
    class_goes None d = refl

    -- the state after the word may be another, with the same names
    same_names : (s' : State) → s'.vectors ≡ s.vectors → Derives s.vectors ws ts → Derives s'.vectors ws ts
    same_names s' same d = subst (λ (vs : List Sym). Derives vs ws ts) (sym same) d

    vector_declared_goes : Derives (with_name w.name s.vectors) ws ts → Went w ts (vector_declared w ws s)
    vector_declared_goes d =
        let named : (b : Bool) → is_one_of w.name s.vectors ≡ b → Derives (cond b s.vectors (s.vectors ++ w.name ∷ [])) ws ts =
        λ b e. subst (λ (c : Bool). Derives (cond c s.vectors (s.vectors ++ w.name ∷ [])) ws ts) e d in
        cond_both (is_one_of w.name s.vectors) _ _ (Went w ts) (λ e _. named true e)
        (λ e. cond_both (makes_second w.name s.classes) _ _ (Went w ts) (λ _. refl) (λ _ _. named false e))

    element_goes : (o : Option ℕ) → Derives s.vectors ws ts → Went w ts (element_at o w.name ws s)
    element_goes (Some c) d = refl
    element_goes None d = λ _. d

    -- an operand
    variable_goes : (f : ℕ) (p : Pred) (o : Option ℕ) → Derives s.vectors ws ts → Went w ts (variable_tested f p o w.name ws s)
    variable_goes f p (Some n) d = λ _. d
    variable_goes f pred.Eq None d = λ _. d
    variable_goes f _ None d = refl

    constant_goes : (f : ℕ) (p : Pred) (o : Option Value) → (is_some o || is_variable w.kind) ≡ true → Derives s.vectors ws ts → Went w ts (constant_tested f p w o ws s)
    constant_goes f p (Some v) e d = constant_cases w.keyword (λ r. Next ws (with_constant (ToTest f p) r v)) s (Went w ts) (λ _. refl) (λ _. d) (λ variable m found _. d)
    constant_goes f p None e d = met (is_variable w.kind) _ _ e (variable_goes f p (number_of w.name s.values) d)

    operand_goes : (f : ℕ) (p : Pred) → is_operand w ≡ true → Derives s.vectors ws ts → Went w ts (tested f p w ws s)
    operand_goes f p e d =
        cond_both (is_literal w.keyword) _ _ (Went w ts) (λ l proper. operand_unmarked w e (literal_marks w.keyword l) proper)
        (λ _. constant_goes f p (constant_of w.kind w.name) e d)

    -- a test in each of its forms
    predicated_goes : (f : ℕ) (o : Option Pred) → pred_of w.keyword ≡ o → is_operand w ≡ true → Derives s.vectors ws ts → Went w ts (predicated f w o ws s)
    predicated_goes f (Some p) is e d = λ proper. operand_unmarked w e (pred_marks w.keyword p is) proper
    predicated_goes f None is e d = operand_goes f pred.Eq e d

    test_operand_goes : (f : ℕ) → is_operand w ≡ true → Derives s.vectors ws ts → Went w ts (test f w ws s)
    test_operand_goes f e d =
        cond_both (opens_choice w.keyword) _ _ (Went w ts) (λ o proper. operand_unmarked w e (opening_marks w.keyword o) proper)
        (λ _. predicated_goes f (pred_of w.keyword) refl e d)

    -- where its predicate is this one
    test_by : (f : ℕ) (o : Option Pred) → pred_of w.keyword ≡ o → opens_choice w.keyword ≡ false → Went w ts (predicated f w o ws s) → Went w ts (test f w ws s)
    test_by f o e no_opening h =
        unmet (opens_choice w.keyword) _ _ no_opening (subst (λ (x : Option Pred). Went w ts (predicated f w x ws s)) (sym e) h)

    test_literal_goes : (f : ℕ) → is_literal w.keyword ≡ true → Derives s.vectors (Atom (ToTest f pred.Eq) ∷ ws) ts → Went w ts (test f w ws s)
    test_literal_goes f e d = test_by f None (literal_no_pred w.keyword e) (literal_no_opening w.keyword e) (met (is_literal w.keyword) _ _ e (λ _. d))

    test_predicate_goes : (f : ℕ) (p : Pred) → pred_of w.keyword ≡ Some p → Derives s.vectors (Tested f p ∷ ws) ts → Went w ts (test f w ws s)
    test_predicate_goes f p e d = test_by f (Some p) e (pred_no_opening w.keyword p e) (λ _. d)

    -- a test that is no brace
    place_goes : (f : ℕ) → is_mark w.keyword ≡ true → Went w ts (test f w ws s) → Went w ts (place f w ws s)
    place_goes f mark h = cond_both (is_left_brace w.kind) _ _ (Went w ts) (λ b proper. no_mark w is_left_brace refl mark b proper) (λ _. h)

    tests_go : (f : ℕ) → is_mark w.keyword ≡ true → Went w ts (test f w (Tests f ∷ ws) s) → Went w ts (tests f w ws s)
    tests_go f mark h = cond_both (is_right_brace w.kind) _ _ (Went w ts) (λ b proper. no_mark w is_right_brace refl mark b proper) (λ _. h)

    -- atoms
    chosen_goes : (o : Option Value) → is_some o ≡ true → Derives s.vectors ws ts → Went w ts (chosen w.keyword o ws s)
    chosen_goes (Some v) e d = constant_cases w.keyword (λ r. Next ws (with_choice_of r v)) s (Went w ts) (λ _. refl) (λ _. d) (λ variable m found _. d)
    chosen_goes None e d = absurd (true≢false (sym e))

    constant_word_goes : (t : Target) (v : Value) → Derives s.vectors ws ts → Went w ts (constant_by w.keyword (λ r. Next ws (with_constant t r v)) s)
    constant_word_goes t v d =
        constant_cases w.keyword (λ r. Next ws (with_constant t r v)) s (Went w ts) (λ _. refl) (λ _. same_names (with_constant t s v) (constant_vectors t s v) d)
        (λ variable m found _. same_names (with_constant t (with_hole s m) v) (constant_vectors t (with_hole s m) v) d)

    atom_goes : (t : Target) (o : Option Value) → is_some o ≡ true → Derives s.vectors ws ts → Went w ts (atom_at t w.keyword o ws s)
    atom_goes t (Some v) e d = constant_word_goes t v d
    atom_goes t None e d = absurd (true≢false (sym e))

    -- a value
    term_goes : (t : Target) (x : Term) → Derives s.vectors ws ts → Went w ts (term_at t x ws s)
    term_goes (ToPut f) x d = λ _. d
    term_goes ToTerms x d = λ _. d
    term_goes ToItem x d = λ _. d
    term_goes ToBind x d =
        let o : Option ℕ = number_of s.variable s.values in λ _. same_names (with_bind o s x) (bind_vectors o s x) d
    term_goes _ x d = refl

    bound_goes : (t : Target) (o : Option ℕ) → Derives s.vectors ws ts → Went w ts (bound_at t o ws s)
    bound_goes t (Some n) d = term_goes t (term.Variable n) d
    bound_goes t None d = refl

    constant_at_goes : (t : Target) (o : Option Value) → (is_some o || is_variable w.kind) ≡ true → Derives s.vectors ws ts → Went w ts (constant_at t w o ws s)
    constant_at_goes t (Some v) e d = constant_word_goes t v d
    constant_at_goes t None e d = met (is_variable w.kind) _ _ e (bound_goes t (number_of w.name s.values) d)

    value_goes : (t : Target) → is_value w ≡ true → Derives s.vectors ws ts → Went w ts (value_for t w ws s)
    value_goes t e d =
        let each = and_parts (not (is_literal w.keyword)) _ e in
        unmet (is_literal w.keyword) _ _ (not_met _ each.0)
        (unmet (is_left w.kind && is_of_action t) _ _ (ap (λ (b : Bool). b && is_of_action t) (value_not_left w.kind w.name each.1))
        (constant_at_goes t (value_of w.kind w.name) each.1 d))

    -- an expression
    unit_bound_goes : (o : Option ℕ) → Derives s.vectors ws ts → Went w ts (unit_bound o ws s)
    unit_bound_goes (Some n) d = λ _. d
    unit_bound_goes None d = refl

    unit_at_goes : (k : TokenKind) → is_designator k ≡ true → Derives s.vectors ws ts → Went w ts (unit_at k w.name ws s)
    unit_at_goes (kind.Whole n) e d = λ _. d
    unit_at_goes kind.Variable e d = unit_bound_goes (number_of w.name s.values) d
    unit_at_goes _ e d = absurd (true≢false (sym e))

    unit_goes : (depth : ℕ) → is_designator w.kind ≡ true → Derives s.vectors ws ts → Went w ts (expression_unit depth w ws s)
    unit_goes depth e d = unmet (is_left w.kind) _ _ (designator_not_left w.kind e) (unit_at_goes w.kind e d)

    -- A bracket past the limit is refused in a form.
    bracket_goes : (depth : ℕ) → is_left w.kind ≡ true → Derives s.vectors (Bracketed (suc depth) ∷ ws) ts → Went w ts (expression_unit depth w ws s)
    bracket_goes depth e d = met (is_left w.kind) _ _ e (cond_both (nat_lt depth most_brackets) _ _ (Went w ts) (λ _ _. d) (λ _. refl))

    operation_goes : (depth : ℕ) (waiting more : List Waiting) (into : Option Target) (o : Option Op) → is_some o ≡ true
        → Derives s.vectors (ExpressionUnit depth ∷ ExpressionRest depth more into ∷ ws) ts → Went w ts (operation_at depth waiting into o ws s)
    operation_goes depth waiting more into (Some o) e d = λ _. whatever_waits s.vectors depth more into ws ts d (record { left = s.formula; op = o } ∷ waiting)
    operation_goes depth waiting more into None e d = absurd (true≢false (sym e))

    term_improper : (t : Target) (x : Term) → ¬ (is_proper w ≡ true) → Went w ts (term_at t x ws s)
    term_improper (ToPut f) x improper = λ proper. absurd (improper proper)
    term_improper ToTerms x improper = λ proper. absurd (improper proper)
    term_improper ToItem x improper = λ proper. absurd (improper proper)
    term_improper ToBind x improper = λ proper. absurd (improper proper)
    term_improper _ x improper = refl

    -- functions
    called_goes : (t : Target) → is_left w.kind ≡ true → is_of_action t ≡ true → Derives s.vectors (Function t ∷ ws) ts → Went w ts (value_for t w ws s)
    called_goes t e of_action d =
        cond_both (is_literal w.keyword) _ _ (Went w ts) (λ l proper. no_mark w is_left refl (literal_marks w.keyword l) e proper)
        (λ _. met (is_left w.kind && is_of_action t) _ _ (and_from _ _ e of_action) (λ _. d))

    source_goes : (o : Option ℕ) → Derives s.vectors ws ts → Went w ts (source_named o ws s)
    source_goes (Some c) d = λ _. d
    source_goes None d = refl

    source_at_goes : (t : Target) (o : Option ℕ) → Derives s.vectors (SourceEnd t w.name ∷ Closes EndsWhole ∷ ws) ts → Went w ts (source_at t w.name o ws s)
    source_at_goes t (Some f) d = λ _. d
    source_at_goes t None d = refl

    same_goes : (t : Target) (name : Sym) → is_name w.kind ≡ true → (w.name.0 == name.0) ≡ true → ends_at_inf w s ≡ false → Derives s.vectors ws ts → Went w ts (source_end t name w ws s)
    same_goes t name e same other d =
        unmet (ends_at_inf w s) _ _ other
        (met (is_name w.kind && (w.name.0 == name.0)) _ _ (and_from _ _ e same) (term_goes t (term.One s.source s.source_field) d))

    inf_goes : (t : Target) (name : Sym) → ends_at_inf w s ≡ true → takes_several t ≡ true → Derives s.vectors ws ts → Went w ts (source_end t name w ws s)
    inf_goes t name e several d =
        met (ends_at_inf w s) _ _ e (met (takes_several t) _ _ several (term_goes t (term.Rest s.source) d))

    -- what stands after a vector attribute
    ended_goes : (u : Use) (s' : State) → ends_several w.kind ≡ true → ¬ (is_proper w ≡ true) → Went w ts (terms u w ws s')
    ended_goes u s' e improper =
        cond_both (is_right w.kind) _ _ (Went w ts) (λ _ proper. absurd (improper proper))
        (λ r. met (is_caret w.kind) _ _ (sym (ap (λ (b : Bool). b || is_caret w.kind) r) ∙ e) (λ proper. absurd (improper proper)))

    within_goes : (b : Bool) (x : Step) → Went w ts x → Went w ts (within b x)
    within_goes true x h = h
    within_goes false (Next ws' s') h = refl
    within_goes false (Refuses f) h = h

    one_goes : (u : Use) (f : ℕ) → (is_proper w ≡ true → ends_several w.kind ≡ false) → Went w ts (one_of_several u f w ws s) → Went w ts (several u f w ws s)
    one_goes u f goes_on h =
        cond_both (is_right w.kind || is_caret w.kind) _ _ (Went w ts)
        (λ e. ended_goes u (with_several u f s) e (λ proper. true≢false (sym e ∙ goes_on proper))) (λ _. h)

    -- one more condition
    one_more_goes : (is_proper w ≡ true → Derives s.vectors ws ts) → Went w ts (one_more ws s)
    one_more_goes h = cond_both (nat_lt (length (elements_of s.conditions)) most_conditions) _ _ (Went w ts) (λ _. h) (λ _. refl)

    -- a word that designates no cell is refused in a form
    abbrev InForm : Result ℕ Fault → Type 0
    InForm (Ok c) = Unit {0}
    InForm (Err f) = is_no_form f ≡ false

    designated_in_form : (before : ℕ) (o : Option Part) → InForm (designated before o s)
    designated_in_form before (Some c) =
        cond_both (is_absent c) _ _ InForm (λ _. refl) (λ _. cond_both (list_any is_absent (take before s.conditions)) _ _ InForm (λ _. refl) (λ _. tt))
    designated_in_form before None = refl

    numbered_in_form : (o : Option ℕ) → InForm (numbered_cell o s)
    numbered_in_form (Some n) = designated_in_form (n - 1) (slice_get s.conditions (n - 1))
    numbered_in_form None = refl

    named_in_form : (o : Option ℕ) → InForm (named_cell o)
    named_in_form (Some c) = tt
    named_in_form None = refl

    cell_in_form : (k : TokenKind) → is_designator k ≡ true → InForm (cell_of k w.name s)
    cell_in_form (kind.Whole n) e = numbered_in_form (natural_of n)
    cell_in_form kind.Variable e = named_in_form (number_of w.name s.elements)
    cell_in_form _ e = absurd (true≢false (sym e))

    designated_goes : (r : Result ℕ Fault) → InForm r → Derives s.vectors ws ts → Went w ts (with_designated r ws s)
    designated_goes (Ok c) in_form d = λ _. d
    designated_goes (Err f) in_form d = in_form

    modified_goes : (r : Result ℕ Fault) → InForm r → Derives s.vectors ws ts → Went w ts (with_modified r ws s)
    modified_goes (Ok c) in_form d = λ _. d
    modified_goes (Err f) in_form d = in_form

    -- `cbind`
    cell_bound_goes : (o : Option ℕ) → Derives s.vectors ws ts → Went w ts (cell_bound o w.name ws s)
    cell_bound_goes (Some class) d = λ _. d
    cell_bound_goes None d = refl

    -- a number of columns
    columns_go : (c : Column) (o : Option ℕ) → is_some o ≡ true → Derives s.vectors ws ts → Went w ts (columns_at c o ws s)
    columns_go c (Some n) e d = λ _. d
    columns_go c None e d = absurd (true≢false (sym e))

    -- the number of a run, and the name of a strategy
    counted_goes : (o : Option ℕ) → is_some o ≡ true → Derives s.vectors (Closes EndsWhole ∷ ws) ts → Went w ts (counted o ws s)
    counted_goes (Some n) e d = λ _. d
    counted_goes None e d = absurd (true≢false (sym e))

    strategy_goes : (o : Option Strategy) → is_some o ≡ true → Derives s.vectors (Closes EndsWhole ∷ ws) ts → Went w ts (strategy_set o ws s)
    strategy_goes (Some g) e d = λ _. d
    strategy_goes None e d = absurd (true≢false (sym e))

    -- a tag, and a trace level
    tag_goes : (o : Option ℕ) → is_some o ≡ true → Derives s.vectors ws ts → Went w ts (tag_at o ws s)
    tag_goes (Some n) e d = λ _. d
    tag_goes None e d = absurd (true≢false (sym e))

    level_goes : (o : Option ℕ) → is_some o ≡ true → Derives s.vectors (Closes EndsWhole ∷ ws) ts → Went w ts (level_set o ws s)
    level_goes (Some n) e d = λ _. d
    level_goes None e d = absurd (true≢false (sym e))

    undone_goes : (o : Option ℕ) → is_some o ≡ true → Derives s.vectors (Closes EndsWhole ∷ ws) ts → Went w ts (undone_set o ws s)
    undone_goes (Some n) e d = λ _. d
    undone_goes None e d = absurd (true≢false (sym e))

-- the end of an expression
ended_goes_on : (w : Word) (ts : List Word) (ws : List Wanted) (s : State) (into : Option Target) (f : Formula) → Derives s.vectors ws ts → Went w ts (expression_ended into f ws s)
ended_goes_on w ts ws s (Some t) f d = term_goes w ts ws (with_formula s no_formula) t (term.Compute f) d
ended_goes_on w ts ws s None f d = λ _. d

ended_improper : (w : Word) (ts : List Word) (ws : List Wanted) (s : State) (into : Option Target) (f : Formula) → ¬ (is_proper w ≡ true) → Went w ts (expression_ended into f ws s)
ended_improper w ts ws s (Some t) f improper = term_improper w ts ws (with_formula s no_formula) t (term.Compute f) improper
ended_improper w ts ws s None f improper = λ proper. absurd (improper proper)

-- an expression in brackets, the value of `bind` and a function in `write`
bracketed_more : (depth : ℕ) (ws : List Wanted) (words : List Word) (s : State) → Derives s.vectors (ExpressionUnit depth ∷ ExpressionRest depth [] None ∷ ws) words
    → Goes words (ExpressionUnit depth ∷ ExpressionRest depth [] None ∷ ws) s → Goes words (Bracketed depth ∷ ws) s
unfolding step
bracketed_more depth ws [] s d go = tt
bracketed_more depth ws (w ∷ ts) s d go =
    cond_both (is_compute w.keyword) _ _ (Went w ts) (λ compute proper. unit_begins depth s.vectors (ExpressionRest depth [] None ∷ ws) w ts d compute proper) (λ _. go)

bound_more : (ws : List Wanted) (words : List Word) (s : State) → Derives s.vectors (ValueFor ToBind ∷ Closes EndsWhole ∷ ws) words
    → Goes words (ValueFor ToBind ∷ Closes EndsWhole ∷ ws) s → Goes words (BoundValue ∷ ws) s
unfolding step
bound_more ws [] s d go = tt
bound_more ws (w ∷ ts) s d go =
    cond_both (is_right w.kind) _ _ (Went w ts)
    (λ right proper. absurd (true≢false (sym (or_left _ _ right) ∙ value_begins ToBind s.vectors (Closes EndsWhole ∷ ws) w ts d proper))) (λ _. go)

function_item_by : (w : Word) (ts : List Word) (ws : List Wanted) (s : State) (k : Keyword) → Went w ts (function ToItem k ws s) → Went w ts (item_word k ws s)
function_item_by w ts ws s keyword.Substr go = go
function_item_by w ts ws s keyword.Compute go = go
function_item_by w ts ws s keyword.Genatom go = go
function_item_by w ts ws s keyword.Accept go = go
function_item_by w ts ws s _ go = absurd (true≢false go)

function_item_more : (ws : List Wanted) (words : List Word) (s : State) → Goes words (Function ToItem ∷ ws) s → Goes words (ItemWord ∷ ws) s
unfolding step
function_item_more ws [] s go = tt
function_item_more ws (w ∷ ts) s go = function_item_by w ts ws s w.keyword go

-- after a vector attribute
place_more : (f : ℕ) (ws : List Wanted) (words : List Word) (s : State) → Derives s.vectors (Place f ∷ Several InPattern (suc f) ∷ ws) words
    → Goes words (Place f ∷ Several InPattern (suc f) ∷ ws) s → Goes words (Several InPattern f ∷ ws) s
unfolding step
place_more f ws [] s d go = tt
place_more f ws (w ∷ ts) s d go =
    let next : suc f ≡ f + 1 = omega arith in
    one_goes w ts ws s InPattern f (place_begins f s.vectors (Several InPattern (suc f) ∷ ws) w ts d)
    (within_goes w ts ws s (nat_lt f most_fields) (place f w (Several InPattern (f + 1) ∷ ws) s)
    (subst (λ (n : ℕ). Went w ts (place f w (Several InPattern n ∷ ws) s)) next go))

term_more : (f : ℕ) (ws : List Wanted) (words : List Word) (s : State) → Derives s.vectors (ValueFor ToTerms ∷ Several InPut f ∷ ws) words
    → Goes words (ValueFor ToTerms ∷ Several InPut f ∷ ws) s → Goes words (Several InPut f ∷ ws) s
unfolding step
term_more f ws [] s d go = tt
term_more f ws (w ∷ ts) s d go = one_goes w ts ws s InPut f (value_begins ToTerms s.vectors (Several InPut f ∷ ws) w ts d) go

constant_more : (f : ℕ) (ws : List Wanted) (words : List Word) (s : State) → Derives s.vectors (ValueFor ToConstants ∷ Several InFixed f ∷ ws) words
    → Goes words (ValueFor ToConstants ∷ Several InFixed f ∷ ws) s → Goes words (Several InFixed f ∷ ws) s
unfolding step
constant_more f ws [] s d go = tt
constant_more f ws (w ∷ ts) s d go =
    one_goes w ts ws s InFixed f (value_begins ToConstants s.vectors (Several InFixed f ∷ ws) w ts d)
    (within_goes w ts ws s (nat_lt (f + length s.constants) most_fields) (value_for ToConstants w (Several InFixed f ∷ ws) s) go)

no_more : (u : Use) (f : ℕ) (ws : List Wanted) (words : List Word) (s : State) → Derives s.vectors (Terms u ∷ ws) words
    → Goes words (Terms u ∷ ws) (with_several u f s) → Goes words (Several u f ∷ ws) s
unfolding step
no_more u f ws [] s d go = tt
no_more u f ws (w ∷ ts) s d go = met w ts (is_right w.kind || is_caret w.kind) _ _ (terms_begin u s.vectors ws w ts d) go

module _ (w : Word) (ts : List Word) (ws : List Wanted) (s : State) where
  -- an attribute is of the same kind in a derivation and for the machine
  abbrev Agrees : Option ℕ → Type 0
  Agrees o = (g : ℕ) → o ≡ Some g → is_vector (class_of s.classes s.class) g ≡ is_one_of w.name s.vectors

  scalar_goes : (u : Use) (f : ℕ) (o : Option ℕ) → Agrees o → is_one_of w.name s.vectors ≡ false → Derives s.vectors (behind_attribute u f ∷ Terms u ∷ ws) ts → Went w ts (field_at u o ws s)
  scalar_goes u f (Some g) agrees e d =
      cond_both (is_vector (class_of s.classes s.class) g) _ _ (Went w ts)
      (λ is. absurd (true≢false (sym is ∙ agrees g refl ∙ e))) (λ _ _. at_any_place s.vectors u f (Terms u ∷ ws) ts d g)
  scalar_goes u f None agrees e d = refl

  vector_goes : (u : Use) (f : ℕ) (o : Option ℕ) → Agrees o → is_one_of w.name s.vectors ≡ true → Derives s.vectors (Several u f ∷ ws) ts → Went w ts (field_at u o ws s)
  vector_goes u f (Some g) agrees e d =
      cond_both (is_vector (class_of s.classes s.class) g) _ _ (Went w ts)
      (λ _ _. several_at_any_place s.vectors u f ws ts d g) (λ isnt. absurd (true≢false (sym e ∙ sym (agrees g refl) ∙ isnt)))
  vector_goes u f None agrees e d = refl

  agrees_at : (u : Use) → AreArranged (Attribute u ∷ ws) s → Agrees (position (λ a. a.0 == w.name.0) (attributes_of (slice_get s.classes s.class)))
  agrees_at u arranged g at = kind_agrees (Attribute u ∷ ws) s w.name g arranged at

-- What derives goes on after its first word, or that is refused in a form.
pub derived_goes : (ws : List Wanted) (words : List Word) (s : State) → AreArranged ws s → Derives s.vectors ws words → forms_last ws ≡ true → Goes words ws s
unfolding step
derived_goes ws words s a nothing last = tt
derived_goes ws words s a (no_form {ws = rest} d) last = no_form_goes rest words s d last
derived_goes ws words s a (a_form {w = w} {ts = ts} e d) last = met w ts (is_left w.kind) _ _ e (λ _. d)
derived_goes ws words s a (a_literalize {ws = rest} {w = w} {ts = ts} e d) last =
    form_goes w ts rest s keyword.Literalize e (cond_both (may_declare s) _ _ (Went w ts) (λ _ _. d) (λ _. refl))
derived_goes ws words s a (a_class {w = w} {ts = ts} e d) last =
    met w ts (is_name w.kind) _ _ e (cond_both (is_class s w.name) _ _ (Went w ts) (λ _. refl) (λ _ _. d))
derived_goes ws words s a (an_attribute {w = w} {ts = ts} e d) last =
    unmet w ts (is_right w.kind) _ _ (name_not_right w.kind e)
    (met w ts (is_name w.kind) _ _ e
    (cond_both (is_one_of w.name s.attrs) _ _ (Went w ts) (λ _. refl)
    (λ _. cond_both (is_second w.name s) _ _ (Went w ts) (λ _. refl)
    (λ _. cond_both (nat_lt (length s.attrs) most_fields) _ _ (Went w ts) (λ _ _. d) (λ _. refl)))))
derived_goes ws words s a (no_attribute {w = w} {ts = ts} e d) last = met w ts (is_right w.kind) _ _ e (λ _. d)
derived_goes ws words s a (a_vector_declaration {ws = rest} {w = w} {ts = ts} e d) last =
    form_goes w ts rest s keyword.VectorAttribute e (cond_both (may_declare s) _ _ (Went w ts) (λ _ _. d) (λ _. refl))
derived_goes ws words s a (a_vector {ws = rest} {w = w} {ts = ts} e d) last = met w ts (is_name w.kind) _ _ e (vector_declared_goes w ts rest s d)
derived_goes ws words s a (one_more_vector {ws = rest} {w = w} {ts = ts} e d) last =
    unmet w ts (is_right w.kind) _ _ (name_not_right w.kind e) (met w ts (is_name w.kind) _ _ e (vector_declared_goes w ts (VectorNames ∷ rest) s d))
derived_goes ws words s a (no_more_vectors {w = w} {ts = ts} e d) last = met w ts (is_right w.kind) _ _ e (λ _. d)
derived_goes ws words s a (a_production {ws = rest} {w = w} {ts = ts} e d) last =
    form_goes w ts rest s keyword.Production e (λ _. d)
derived_goes ws words s a (a_rule {w = w} {ts = ts} e d) last =
    met w ts (is_name w.kind) _ _ e (cond_both (is_rule s w.name) _ _ (Went w ts) (λ _. refl) (λ _ _. d))
derived_goes ws words s a (a_first {w = w} {ts = ts} e d) last = met w ts (is_left w.kind) _ _ e (λ _. d)
derived_goes ws words s a (a_braced_first {w = w} {ts = ts} e d) last =
    unmet w ts (is_left w.kind) _ _ (left_brace_not_left w.kind e) (met w ts (is_left_brace w.kind) _ _ e (λ _. d))
derived_goes ws words s a (a_negated_first {w = w} {ts = ts} e d) last =
    cond_both (is_left w.kind) _ _ (Went w ts) (λ left proper. no_mark w is_left refl (minus_marks w.keyword e) left proper)
    (λ _. cond_both (is_left_brace w.kind) _ _ (Went w ts) (λ brace proper. no_mark w is_left_brace refl (minus_marks w.keyword e) brace proper)
    (λ _. met w ts (is_minus w.keyword || begins_group w.keyword) _ _ (or_left _ _ e) refl))
derived_goes ws words s a (a_pattern {ws = rest} {w = w} {ts = ts} e d) last =
    cond_both (is_arrow w.keyword) _ _ (Went w ts) (λ arrow proper. no_mark w is_left refl (arrow_marks w.keyword arrow) e proper)
    (λ _. met w ts (is_left w.kind) _ _ e (one_more_goes w ts (ClassName ∷ Terms InPattern ∷ Patterns ∷ rest) s (λ _. d)))
derived_goes ws words s a (a_braced_pattern {ws = rest} {w = w} {ts = ts} e d) last =
    cond_both (is_arrow w.keyword) _ _ (Went w ts) (λ arrow proper. no_mark w is_left_brace refl (arrow_marks w.keyword arrow) e proper)
    (λ _. unmet w ts (is_left w.kind) _ _ (left_brace_not_left w.kind e)
    (met w ts (is_left_brace w.kind) _ _ e (one_more_goes w ts (Braced ∷ Patterns ∷ rest) s (λ _. d))))
derived_goes ws words s a (a_negated_pattern {ws = rest} {w = w} {ts = ts} e d) last =
    unmet w ts (is_arrow w.keyword) _ _ (minus_no_arrow w.keyword e)
    (cond_both (is_left w.kind) _ _ (Went w ts)
    (λ left. one_more_goes w ts (ClassName ∷ Terms InPattern ∷ Patterns ∷ rest) s (λ proper. no_mark w is_left refl (minus_marks w.keyword e) left proper))
    (λ _. cond_both (is_left_brace w.kind) _ _ (Went w ts)
    (λ brace. one_more_goes w ts (Braced ∷ Patterns ∷ rest) s (λ proper. no_mark w is_left_brace refl (minus_marks w.keyword e) brace proper))
    (λ _. met w ts (is_minus w.keyword) _ _ e (one_more_goes w ts (Pattern ∷ Patterns ∷ rest) (record s { negated = true; around = length s.values }) (λ _. d)))))
derived_goes ws words s a (a_group_first {w = w} {ts = ts} e d) last =
    cond_both (is_left w.kind) _ _ (Went w ts) (λ left proper. no_mark w is_left refl (group_marks w.keyword e) left proper)
    (λ _. cond_both (is_left_brace w.kind) _ _ (Went w ts) (λ brace proper. no_mark w is_left_brace refl (group_marks w.keyword e) brace proper)
    (λ _. met w ts (is_minus w.keyword || begins_group w.keyword) _ _ (or_right _ _ e) refl))
derived_goes ws words s a (a_group_pattern {ws = rest} {w = w} {ts = ts} e d) last =
    unmet w ts (is_arrow w.keyword) _ _ (group_no_arrow w.keyword e)
    (cond_both (is_left w.kind) _ _ (Went w ts)
    (λ left. one_more_goes w ts (ClassName ∷ Terms InPattern ∷ Patterns ∷ rest) s (λ proper. no_mark w is_left refl (group_marks w.keyword e) left proper))
    (λ _. cond_both (is_left_brace w.kind) _ _ (Went w ts)
    (λ brace. one_more_goes w ts (Braced ∷ Patterns ∷ rest) s (λ proper. no_mark w is_left_brace refl (group_marks w.keyword e) brace proper))
    (λ _. unmet w ts (is_minus w.keyword) _ _ (group_no_minus w.keyword e) (met w ts (begins_group w.keyword) _ _ e (λ _. d)))))
derived_goes ws words s a (a_group {w = w} {ts = ts} e d) last = met w ts (is_left_brace w.kind) _ _ e (λ _. d)
derived_goes ws words s a (a_member {n = n} {ws = rest} {w = w} {ts = ts} e d) last =
    unmet w ts (is_right_brace w.kind && nat_le 2 n) _ _ (and_false _ _ (left_not_right_brace w.kind e))
    (met w ts (is_left w.kind) _ _ e (cond_both (has_room s) _ _ (Went w ts) (λ _ _. d) (λ _. refl)))
derived_goes ws words s a (no_member {n = n} {w = w} {ts = ts} e two d) last =
    met w ts (is_right_brace w.kind && nat_le 2 n) _ _ (and_from _ _ e two) (λ _. d)
derived_goes ws words s a (a_whole_pattern {w = w} {ts = ts} e d) last = met w ts (is_left w.kind) _ _ e (λ _. d)
derived_goes ws words s a (a_name_before {ws = rest} {w = w} {ts = ts} e d) last =
    unmet w ts (is_left w.kind) _ _ (variable_not_left w.kind e)
    (met w ts (is_variable w.kind) _ _ e (element_goes w ts (Pattern ∷ ClosesBrace ∷ rest) s (number_of w.name s.elements) d))
derived_goes ws words s a (a_name_behind {w = w} {ts = ts} e d) last = met w ts (is_left w.kind) _ _ e (λ _. d)
derived_goes ws words s a (an_element_name {ws = rest} {w = w} {ts = ts} e d) last =
    met w ts (is_variable w.kind) _ _ e (element_goes w ts rest s (number_of w.name s.elements) d)
derived_goes ws words s a (a_closed_brace {w = w} {ts = ts} e d) last = met w ts (is_right_brace w.kind) _ _ e (λ _. d)
derived_goes ws words s a (an_arrow {w = w} {ts = ts} e d) last = met w ts (is_arrow w.keyword) _ _ (ap is_arrow e) (λ _. d)
derived_goes ws words s a (a_make {ws = rest} {w = w} {ts = ts} e d) last = form_goes w ts rest s keyword.Make e (λ _. d)
derived_goes ws words s a (a_run {ws = rest} {w = w} {ts = ts} e d) last = form_goes w ts rest s keyword.Run e (λ _. d)
derived_goes ws words s a (a_count {ws = rest} {w = w} {ts = ts} e d) last =
    unmet w ts (is_right w.kind) _ _ (count_not_right w.kind e) (counted_goes w ts rest s (count_of w.kind) e d)
derived_goes ws words s a (no_count {w = w} {ts = ts} e d) last = met w ts (is_right w.kind) _ _ e (λ _. d)
derived_goes ws words s a (a_strategy {ws = rest} {w = w} {ts = ts} e d) last = form_goes w ts rest s keyword.Strategy e (λ _. d)
derived_goes ws words s a (a_strategy_name {ws = rest} {w = w} {ts = ts} e d) last =
    cond_both (is_right w.kind) _ _ (Went w ts) (λ right proper. no_keyword w is_right refl refl (strategy_named w.keyword e) right proper)
    (λ _. strategy_goes w ts rest s (strategy_of w.keyword) e d)
derived_goes ws words s a (no_strategy_name {w = w} {ts = ts} e d) last = met w ts (is_right w.kind) _ _ e (λ _. d)
derived_goes ws words s a (a_remove_command {ws = rest} {w = w} {ts = ts} e d) last = form_goes w ts rest s keyword.Remove e (λ _. d)
derived_goes ws words s a (all_tags {w = w} {ts = ts} e d) last = met w ts (is_all w.keyword) _ _ e (λ _. d)
derived_goes ws words s a (a_first_tag {ws = rest} {w = w} {ts = ts} e d) last =
    cond_both (is_all w.keyword) _ _ (Went w ts) (λ all proper. no_keyword w (λ k. is_some (count_of k)) refl refl (all_named w.keyword all) e proper)
    (λ _. tag_goes w ts (Tags ToRemove ∷ rest) s (count_of w.kind) e d)
derived_goes ws words s a (a_wm {ws = rest} {w = w} {ts = ts} e d) last = form_goes w ts rest s keyword.Wm e (λ _. d)
derived_goes ws words s a (one_more_tag {u = u} {ws = rest} {w = w} {ts = ts} e d) last =
    unmet w ts (is_right w.kind) _ _ (count_not_right w.kind e) (tag_goes w ts (Tags u ∷ rest) s (count_of w.kind) e d)
derived_goes ws words s a (no_more_tags {w = w} {ts = ts} e d) last = met w ts (is_right w.kind) _ _ e (λ _. d)
derived_goes ws words s a (a_ppwm {ws = rest} {w = w} {ts = ts} e d) last = form_goes w ts rest s keyword.Ppwm e (λ _. d)
derived_goes ws words s a (a_shown_class {ws = rest} {w = w} {ts = ts} e d) last =
    unmet w ts (is_right w.kind) _ _ (name_not_right w.kind e)
    (met w ts (is_name w.kind) _ _ e
    (class_goes w ts (Terms InFixed ∷ rest) (record s { fixed = []; shows = true }) (position (λ c. c.name.0 == w.name.0) s.classes) d))
derived_goes ws words s a (all_shown {w = w} {ts = ts} e d) last = met w ts (is_right w.kind) _ _ e (λ _. d)
derived_goes ws words s a (a_cs {ws = rest} {w = w} {ts = ts} e d) last = form_goes w ts rest s keyword.Cs e (λ _. d)
derived_goes ws words s a (an_exit {ws = rest} {w = w} {ts = ts} e d) last = form_goes w ts rest s keyword.Exit e (λ _. d)
derived_goes ws words s a (a_pm {ws = rest} {w = w} {ts = ts} e d) last = form_goes w ts rest s keyword.Pm e (λ _. d)
derived_goes ws words s a (a_pbreak {ws = rest} {w = w} {ts = ts} e d) last = form_goes w ts rest s keyword.Pbreak e (λ _. d)
derived_goes ws words s a (an_excise {ws = rest} {w = w} {ts = ts} e d) last = form_goes w ts rest s keyword.Excise e (λ _. d)
derived_goes ws words s a (a_matches {ws = rest} {w = w} {ts = ts} e d) last = form_goes w ts rest s keyword.Matches e (λ _. d)
derived_goes ws words s a (a_named_rule {w = w} {ts = ts} e d) last = met w ts (is_name w.kind) _ _ e (λ _. d)
derived_goes ws words s a (one_more_rule {w = w} {ts = ts} e d) last =
    unmet w ts (is_right w.kind) _ _ (name_not_right w.kind e) (met w ts (is_name w.kind) _ _ e (λ _. d))
derived_goes ws words s a (no_more_rules {w = w} {ts = ts} e d) last = met w ts (is_right w.kind) _ _ e (λ _. d)
derived_goes ws words s a (a_watch {ws = rest} {w = w} {ts = ts} e d) last = form_goes w ts rest s keyword.Watch e (λ _. d)
derived_goes ws words s a (a_back {ws = rest} {w = w} {ts = ts} e d) last = form_goes w ts rest s keyword.Back e (λ _. d)
derived_goes ws words s a (a_level {ws = rest} {w = w} {ts = ts} e d) last =
    unmet w ts (is_right w.kind) _ _ (level_not_right w.kind e) (level_goes w ts rest s (level_of w.kind) e d)
derived_goes ws words s a (some_undone {ws = rest} {w = w} {ts = ts} e d) last =
    unmet w ts (is_right w.kind) _ _ (undone_not_right w.kind e) (undone_goes w ts rest s (undone_of w.kind) e d)
derived_goes ws words s a (no_level {w = w} {ts = ts} e d) last = met w ts (is_right w.kind) _ _ e (λ _. d)
derived_goes ws words s a (one_undone {w = w} {ts = ts} e d) last = met w ts (is_right w.kind) _ _ e (λ _. d)
derived_goes ws words s a (a_class_name {ws = rest} {w = w} {ts = ts} e d) last =
    met w ts (is_name w.kind) _ _ e (class_goes w ts rest s (position (λ c. c.name.0 == w.name.0) s.classes) d)
derived_goes ws words s a (a_term {w = w} {ts = ts} e d) last =
    unmet w ts (is_right w.kind) _ _ (caret_not_right w.kind e) (met w ts (is_caret w.kind) _ _ e (λ _. d))
derived_goes ws words s a (no_term {u = u} {ws = rest} {w = w} {ts = ts} e d) last =
    met w ts (is_right w.kind) _ _ e (λ _. same_names w ts rest s (with_element u s) (element_vectors u s) d)
derived_goes ws words s a (a_scalar_attribute {u = u} f {ws = rest} {w = w} {ts = ts} is e d) last =
    met w ts (is_name w.kind) _ _ is
    (scalar_goes w ts rest s u f (position (λ a. a.0 == w.name.0) (attributes_of (slice_get s.classes s.class))) (agrees_at w ts rest s u a) e d)
derived_goes ws words s a (a_vector_attribute {u = u} f {ws = rest} {w = w} {ts = ts} is e d) last =
    met w ts (is_name w.kind) _ _ is
    (vector_goes w ts rest s u f (position (λ a. a.0 == w.name.0) (attributes_of (slice_get s.classes s.class))) (agrees_at w ts rest s u a) e d)
derived_goes ws words s a (one_more_place {f = f} {ws = rest} d) last =
    place_more f rest words s d (derived_goes (Place f ∷ Several InPattern (suc f) ∷ rest) words s a d last)
derived_goes ws words s a (one_more_term {f = f} {ws = rest} d) last =
    term_more f rest words s d (derived_goes (ValueFor ToTerms ∷ Several InPut f ∷ rest) words s a d last)
derived_goes ws words s a (one_more_constant {f = f} {ws = rest} d) last =
    constant_more f rest words s d (derived_goes (ValueFor ToConstants ∷ Several InFixed f ∷ rest) words s a d last)
derived_goes ws words s a (no_more_of_several {u = InPattern} {f = f} {ws = rest} d) last =
    no_more InPattern f rest words s d (derived_goes (Terms InPattern ∷ rest) words (with_several InPattern f s) a d last)
derived_goes ws words s a (no_more_of_several {u = InPut} {f = f} {ws = rest} d) last =
    no_more InPut f rest words s d (derived_goes (Terms InPut ∷ rest) words (with_several InPut f s) a d last)
derived_goes ws words s a (no_more_of_several {u = InFixed} {f = f} {ws = rest} d) last =
    no_more InFixed f rest words s d (derived_goes (Terms InFixed ∷ rest) words (with_several InFixed f s) a d last)
derived_goes ws words s a (a_value {t = t} {ws = rest} {w = w} {ts = ts} e d) last = value_goes w ts rest s t e d
derived_goes ws words s a (a_literal_value {w = w} {ts = ts} e d) last = met w ts (is_literal w.keyword) _ _ e (λ _. d)
derived_goes ws words s a (a_function {t = t} {ws = rest} {w = w} {ts = ts} e of_action d) last = called_goes w ts rest s t e of_action d
derived_goes ws words s a (a_substr {t = t} {ws = rest} {w = w} {ts = ts} e d) last = function_goes w ts rest s t keyword.Substr e (λ _. d)
derived_goes ws words s a (a_compute {t = t} depth {ws = rest} {w = w} {ts = ts} e d) last =
    function_goes w ts rest s t keyword.Compute e (λ _. at_any_depth s.vectors depth t rest ts d (function_depth (is_built s)))
derived_goes ws words s a (a_genatom {t = t} {ws = rest} {w = w} {ts = ts} e d) last =
    function_goes w ts rest s t keyword.Genatom e (term_goes w ts (Closes EndsWhole ∷ rest) s t term.Fresh d)
derived_goes ws words s a (an_accept {t = t} {ws = rest} {w = w} {ts = ts} e d) last =
    function_goes w ts rest s t keyword.Accept e (term_goes w ts (Closes EndsWhole ∷ rest) s t term.Accept d)
derived_goes ws words s a (a_unit {d = depth} {ws = rest} {w = w} {ts = ts} e d) last = unit_goes w ts rest s depth e d
derived_goes ws words s a (a_bracketed_unit {d = depth} {ws = rest} {w = w} {ts = ts} e d) last = bracket_goes w ts rest s depth e d
derived_goes ws words s a (a_bracketed_compute {w = w} {ts = ts} e d) last = met w ts (is_compute w.keyword) _ _ (ap is_compute e) (λ _. d)
derived_goes ws words s a (a_bracketed_expression {d = depth} {ws = rest} d) last =
    bracketed_more depth rest words s d (derived_goes (ExpressionUnit depth ∷ ExpressionRest depth [] None ∷ rest) words s a d last)
derived_goes ws words s a (an_operation {d = depth} {waiting = waiting} more {into = into} {ws = rest} {w = w} {ts = ts} e d) last =
    cond_both (is_right w.kind) _ _ (Went w ts)
    (λ right. ended_improper w ts rest s into _ (λ proper. no_keyword w is_right refl refl (operation_named w.keyword e) right proper))
    (λ _. operation_goes w ts rest s depth waiting more into (operation_of w.keyword) e d)
derived_goes ws words s a (no_operation {into = into} {ws = rest} {w = w} {ts = ts} e d) last =
    met w ts (is_right w.kind) _ _ e (ended_goes_on w ts rest s into _ d)
derived_goes ws words s a (a_source {ws = rest} {w = w} {ts = ts} e d) last =
    met w ts (is_variable w.kind) _ _ e (source_goes w ts rest s (number_of w.name s.elements) d)
derived_goes ws words s a (a_source_attribute {t = t} {ws = rest} {w = w} {ts = ts} e d) last =
    met w ts (is_name w.kind) _ _ e (source_at_goes w ts rest s t (position (λ a. a.0 == w.name.0) (source_class s).attrs) d)
derived_goes ws words s a (the_same_again {t = t} {name = name} {ws = rest} {w = w} {ts = ts} e same other d) last =
    same_goes w ts rest s t name e same (ap (λ (b : Bool). is_inf w.keyword && b) a.2 ∙ other) d
derived_goes ws words s a (up_to_inf {t = t} {name = name} {ws = rest} {w = w} {ts = ts} e vector several d) last =
    inf_goes w ts rest s t name (and_from _ _ e (a.2 ∙ vector)) several d
derived_goes ws words s a (an_atom {t = t} {ws = rest} {w = w} {ts = ts} e d) last = atom_goes w ts rest s t (atom_of w.kind w.name) e d
derived_goes ws words s a (a_conjunction {w = w} {ts = ts} e d) last = met w ts (is_left_brace w.kind) _ _ e (λ _. d)
derived_goes ws words s a (no_more_tests {w = w} {ts = ts} e d) last = met w ts (is_right_brace w.kind) _ _ e (λ _. d)
derived_goes ws words s a (an_operand {f = f} {ws = rest} {w = w} {ts = ts} e d) last =
    unmet w ts (is_left_brace w.kind) _ _ (operand_not_left_brace w.kind w.name e) (test_operand_goes w ts rest s f e d)
derived_goes ws words s a (a_literal {f = f} {ws = rest} {w = w} {ts = ts} e d) last =
    place_goes w ts rest s f (literal_marks w.keyword e) (test_literal_goes w ts rest s f e d)
derived_goes ws words s a (a_predicate {f = f} {p = p} {ws = rest} {w = w} {ts = ts} e d) last =
    place_goes w ts rest s f (pred_marks w.keyword p e) (test_predicate_goes w ts rest s f p e d)
derived_goes ws words s a (a_disjunction {f = f} {ws = rest} {w = w} {ts = ts} e d) last =
    place_goes w ts rest s f (opening_marks w.keyword e) (met w ts (opens_choice w.keyword) _ _ e (λ _. d))
derived_goes ws words s a (one_more_operand {f = f} {ws = rest} {w = w} {ts = ts} e d) last =
    unmet w ts (is_right_brace w.kind) _ _ (operand_not_right_brace w.kind w.name e) (test_operand_goes w ts (Tests f ∷ rest) s f e d)
derived_goes ws words s a (one_more_literal {f = f} {ws = rest} {w = w} {ts = ts} e d) last =
    tests_go w ts rest s f (literal_marks w.keyword e) (test_literal_goes w ts (Tests f ∷ rest) s f e d)
derived_goes ws words s a (one_more_predicate {f = f} {p = p} {ws = rest} {w = w} {ts = ts} e d) last =
    tests_go w ts rest s f (pred_marks w.keyword p e) (test_predicate_goes w ts (Tests f ∷ rest) s f p e d)
derived_goes ws words s a (one_more_disjunction {f = f} {ws = rest} {w = w} {ts = ts} e d) last =
    tests_go w ts rest s f (opening_marks w.keyword e) (met w ts (opens_choice w.keyword) _ _ e (λ _. d))
derived_goes ws words s a (a_tested_operand {f = f} {p = p} {ws = rest} {w = w} {ts = ts} e d) last = operand_goes w ts rest s f p e d
derived_goes ws words s a (a_tested_literal {w = w} {ts = ts} e d) last = met w ts (is_literal w.keyword) _ _ e (λ _. d)
derived_goes ws words s a (one_more_choice {f = f} {ws = rest} {w = w} {ts = ts} e d) last =
    let each = and_parts (not (closes_choice w.keyword)) _ e in
    unmet w ts (closes_choice w.keyword) _ _ (not_met _ each.0) (chosen_goes w ts (Choice f ∷ rest) s (atom_of w.kind w.name) each.1 d)
derived_goes ws words s a (no_more_choices {w = w} {ts = ts} e d) last = met w ts (closes_choice w.keyword) _ _ e (λ _. d)
derived_goes ws words s a (an_action {w = w} {ts = ts} e d) last =
    unmet w ts (is_right w.kind) _ _ (left_not_right w.kind e) (met w ts (is_left w.kind) _ _ e (λ _. d))
derived_goes ws words s a (no_action {b = b} {ws = rest} {w = w} {ts = ts} e d) last =
    met w ts (is_right w.kind) _ _ e (λ _. same_names w ts rest s (side_ended b s w.past) (side_vectors w rest s b w.past) d)
derived_goes ws words s a (to_make {b = b} {ws = rest} {w = w} {ts = ts} e d) last = action_goes w ts rest s b keyword.Make e (λ _. d)
derived_goes ws words s a (to_modify {b = b} {ws = rest} {w = w} {ts = ts} e d) last = action_goes w ts rest s b keyword.Modify e (λ _. d)
derived_goes ws words s a (to_bind {b = b} {ws = rest} {w = w} {ts = ts} e d) last = action_goes w ts rest s b keyword.Bind e (λ _. d)
derived_goes ws words s a (to_cbind {b = b} {ws = rest} {w = w} {ts = ts} e d) last = action_goes w ts rest s b keyword.Cbind e (λ _. d)
derived_goes ws words s a (to_remove {b = b} {ws = rest} {w = w} {ts = ts} e d) last = action_goes w ts rest s b keyword.Remove e (λ _. d)
derived_goes ws words s a (to_write {b = b} {ws = rest} {w = w} {ts = ts} e d) last = action_goes w ts rest s b keyword.Write e (λ _. d)
derived_goes ws words s a (to_halt {b = b} {ws = rest} {w = w} {ts = ts} e d) last = action_goes w ts rest s b keyword.Halt e (λ _. d)
derived_goes ws words s a (to_build {ws = rest} {w = w} {ts = ts} e d) last = action_goes w ts rest s false keyword.Build e (λ _. d)
derived_goes ws words s a (a_built_name {w = w} {ts = ts} e d) last = met w ts (is_name w.kind) _ _ e (λ _. d)
derived_goes ws words s a (a_modified {ws = rest} {w = w} {ts = ts} e d) last =
    modified_goes w ts rest s (cell_of w.kind w.name s) (cell_in_form w ts rest s w.kind e) d
derived_goes ws words s a (a_bound_name {w = w} {ts = ts} e d) last = met w ts (is_variable w.kind) _ _ e (λ _. d)
derived_goes ws words s a (a_bound_value {ws = rest} d) last =
    bound_more rest words s d (derived_goes (ValueFor ToBind ∷ Closes EndsWhole ∷ rest) words s a d last)
derived_goes ws words s a (no_bound_value {ws = rest} {w = w} {ts = ts} e d) last =
    let o : Option ℕ = number_of s.variable s.values in
    met w ts (is_right w.kind) _ _ e (λ _. same_names w ts rest s (with_bind o s term.Fresh) (bind_vectors o s term.Fresh) d)
derived_goes ws words s a (a_cell_name {ws = rest} {w = w} {ts = ts} e d) last =
    met w ts (is_variable w.kind) _ _ e (cell_bound_goes w ts rest s s.made d)
derived_goes ws words s a (a_cell {ws = rest} {w = w} {ts = ts} e d) last =
    designated_goes w ts rest s (cell_of w.kind w.name s) (cell_in_form w ts rest s w.kind e) d
derived_goes ws words s a (one_more_cell {ws = rest} {w = w} {ts = ts} e d) last =
    unmet w ts (is_right w.kind) _ _ (designator_not_right w.kind e)
    (designated_goes w ts (Cells ∷ rest) s (cell_of w.kind w.name s) (cell_in_form w ts (Cells ∷ rest) s w.kind e) d)
derived_goes ws words s a (no_more_cells {w = w} {ts = ts} e d) last = met w ts (is_right w.kind) _ _ e (λ _. d)
derived_goes ws words s a (an_item {ws = rest} {w = w} {ts = ts} e d) last =
    let each = and_parts (not (is_literal w.keyword)) _ e in
    unmet w ts (is_right w.kind) _ _ (value_not_right w.kind w.name each.1)
    (unmet w ts (is_left w.kind) _ _ (value_not_left w.kind w.name each.1) (value_goes w ts (Items ∷ rest) s ToItem e d))
derived_goes ws words s a (a_literal_item {w = w} {ts = ts} e d) last =
    cond_both (is_right w.kind) _ _ (Went w ts) (λ right proper. no_mark w is_right refl (literal_marks w.keyword e) right proper)
    (λ _. cond_both (is_left w.kind) _ _ (Went w ts) (λ left proper. no_mark w is_left refl (literal_marks w.keyword e) left proper)
    (λ _. met w ts (is_literal w.keyword) _ _ e (λ _. d)))
derived_goes ws words s a (an_item_form {w = w} {ts = ts} e d) last =
    unmet w ts (is_right w.kind) _ _ (left_not_right w.kind e) (met w ts (is_left w.kind) _ _ e (λ _. d))
derived_goes ws words s a (no_item {w = w} {ts = ts} e d) last = met w ts (is_right w.kind) _ _ e (λ _. d)
derived_goes ws words s a (a_crlf {ws = rest} {w = w} {ts = ts} e d) last = item_goes w ts rest s keyword.Crlf e (λ _. d)
derived_goes ws words s a (a_tab {ws = rest} {w = w} {ts = ts} e d) last = item_goes w ts rest s keyword.Tabto e (λ _. d)
derived_goes ws words s a (a_right {ws = rest} {w = w} {ts = ts} e d) last = item_goes w ts rest s keyword.Rjust e (λ _. d)
derived_goes ws words s a (a_function_item {ws = rest} d) last =
    function_item_more rest words s (derived_goes (Function ToItem ∷ rest) words s a d last)
derived_goes ws words s a (some_columns {c = column} {ws = rest} {w = w} {ts = ts} e d) last =
    columns_go w ts rest s column (small_of w.kind) e d
derived_goes ws words s a (a_closing {e = end} {ws = rest} {w = w} {ts = ts} e d) last =
    met w ts (is_right w.kind) _ _ e (λ _. same_names w ts rest s (ended end s) (ended_vectors end s) d)

module _ (w : Word) (ws : List Wanted) (s : State) (arranged : AreArranged ws s) (last : forms_last ws ≡ true) where
  -- a word that is refused in no form goes on to no derivation
  pub refused_in_no_form : (f : Fault) → step w ws s ≡ Refuses f → is_no_form f ≡ true → (ts : List Word) → ¬ Derives s.vectors ws (w ∷ ts)
  refused_in_no_form f e is ts d =
      let no : is_no_form f ≡ false = subst (Went w ts) e (derived_goes ws (w ∷ ts) s arranged d last) in true≢false (sym is ∙ no)

  -- where a word is taken, a derivation goes on after it
  pub derived_behind : (ws' : List Wanted) (s' : State) → step w ws s ≡ Next ws' s' → is_proper w ≡ true → (ts : List Word) → Derives s.vectors ws (w ∷ ts) → Derives s'.vectors ws' ts
  derived_behind ws' s' e proper ts d = let go : Went w ts (Next ws' s') = subst (Went w ts) e (derived_goes ws (w ∷ ts) s arranged d last) in go proper
