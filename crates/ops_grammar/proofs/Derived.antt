-- What a word does, against the grammar alone.
use Rattle.ops_base.specs.declared.rules.Rule.{Rule}
use Rattle.std.proofs.Common.{◌≡◌, ℕ, suc, arith, ◌+◌, Bool, true, false, not, ◌&&◌, ◌||◌, List, [], ◌∷◌, ◌++◌, ◌∙◌, cond, refl, sym, ap, Option, Some, None, Result, Ok, Err, true≢false, subst, ◌==◌, nat_lt, length, is_some, position, slice_get, nat_le}
use Rattle.std.proofs.lemmas.Bool.{cond_both, or_right, and_from, and_parts}
use Rattle.ops_base.specs.declared.values.Sym.{Sym}
use Rattle.ops_base.specs.declared.values.Value.{Value}
use Rattle.ops_base.specs.declared.values.Pred.{Pred}
use Rattle.ops_base.specs.declared.values.Pred.TheVariants as pred
use Rattle.ops_base.specs.declared.actions.Term.{Term}
use Rattle.ops_base.specs.declared.actions.Term.TheVariants as term
use Rattle.ops_base.specs.declared.expression.Op.{Op}
use Rattle.ops_base.specs.declared.commands.Strategy.{Strategy}
use Rattle.ops_base.specs.declared.endings.Fault.{Fault}
use Rattle.ops_base.specs.Expression.{Formula}
use Rattle.ops_base.specs.Valid.{most_fields, most_conditions, class_of, is_vector, elements_of}
use Rattle.ops_tokens.specs.declared.token.TokenKind.{TokenKind}
use Rattle.ops_tokens.specs.declared.token.TokenKind.TheVariants as kind
use Rattle.ops_grammar.specs.declared.words.Word.{Word}
use Rattle.ops_grammar.specs.declared.words.Keyword.{Keyword}
use Rattle.ops_grammar.specs.declared.words.Keyword.TheVariants as keyword
use Rattle.ops_grammar.specs.Grammar.{Use, InPattern, InPut, InFixed, Target, ToTest, ToPut, ToFixed, ToTerms, ToConstants, ToItem, ToBind, Ends, EndsHalt, EndsCrlf, EndsCs, EndsExit, EndsWhole, TagUse, ToRemove, NameUse, Column, Wanted, Forms, Form, ClassDeclared, Attributes, VectorName, VectorNames, RuleName, FirstPattern, Patterns, Pattern, Braced, ElementName, ClosesBrace, ClassName, Terms, Attribute, Several, Place, Tests, Tested, Choice, Atom, ValueFor, Function, Waiting, ExpressionUnit, ExpressionRest, Bracketed, SourceCell, SourceAttribute, SourceEnd, Actions, ActionWord, Modified, BoundName, BoundValue, CellName, Cell, Cells, Items, ItemWord, Columns, Count, StrategyName, TagOrAll, Tags, Shown, NamedRule, NamedRules, Level, Undone, Closes, State, Step, Next, Refuses, is_left, is_right, is_left_brace, is_right_brace, is_caret, is_name, is_variable, is_arrow, is_literal, is_inf, is_minus, opens_choice, closes_choice, pred_of, constant_of, value_of, atom_of, small_of, is_one_of, number_of, may_declare, is_class, is_rule, form, class_declared, is_second, attributes, makes_second, vector_declared, vector_name, vector_names, class_at, class_name, attributes_of, behind_attribute, field_at, attribute, with_bind, with_constant, variable_tested, constant_tested, tested, predicated, test, place, tests, chosen, choice, atom_at, term_at, bound_at, constant_at, is_of_action, value_for, most_brackets, no_formula, with_formula, unit_bound, unit_at, expression_unit, bracketed, is_compute, operation_of, operation_at, expression_ended, expression_rest, function, source_named, source_cell, source_class, source_at, source_attribute, takes_several, ends_at_inf, source_end, with_element, terms, within, one_of_several, with_several, several, rule_name, first_pattern, one_more, patterns, pattern, element_at, element_name, braced, closes_brace, actions, action_word, cell_of, with_designated, cell, with_modified, modified, bound_name, bound_value, cell_bound, cell_name, cells, items, item_word, columns_at, counted, count_of, count, strategy_set, strategy_of, strategy_name, tag_at, is_all, tag_or_all, tags, shown, named_rule, named_rules, level_of, undone_of, level_set, undone_set, level, undone, ended, closes, forms, step, begins_group, GroupBrace, Members, members, group, has_room, BuiltName, with_hole, with_choice_of, Outer, side_ended, build_ended, rule_of, build_word}
use Rattle.ops_grammar.specs.Derivation.{is_whole, is_designator, is_operand, is_value, is_choice, with_name, Derives, a_form, a_literalize, a_class, an_attribute, no_attribute, a_vector_declaration, a_vector, one_more_vector, no_more_vectors, a_production, a_rule, a_first, a_braced_first, a_negated_first, a_pattern, a_braced_pattern, a_negated_pattern, a_whole_pattern, a_name_before, a_name_behind, an_element_name, a_closed_brace, an_arrow, a_make, a_run, a_count, no_count, a_strategy, a_strategy_name, no_strategy_name, a_remove_command, all_tags, a_first_tag, a_wm, one_more_tag, no_more_tags, a_ppwm, a_shown_class, all_shown, a_cs, an_exit, a_pm, a_pbreak, a_named_rule, one_more_rule, no_more_rules, a_watch, a_back, a_level, some_undone, no_level, one_undone, a_class_name, a_term, no_term, a_scalar_attribute, a_vector_attribute, one_more_place, one_more_term, one_more_constant, no_more_of_several, a_value, a_literal_value, a_function, a_compute, a_genatom, an_accept, a_unit, a_bracketed_unit, a_bracketed_compute, a_bracketed_expression, an_operation, no_operation, a_substr, a_source, a_source_attribute, the_same_again, up_to_inf, an_atom, a_conjunction, no_more_tests, an_operand, a_literal, a_predicate, a_disjunction, one_more_operand, one_more_literal, one_more_predicate, one_more_disjunction, a_tested_operand, a_tested_literal, one_more_choice, no_more_choices, an_action, no_action, to_make, to_modify, to_bind, to_cbind, to_remove, to_write, to_halt, a_modified, a_bound_name, a_bound_value, no_bound_value, a_cell_name, a_cell, one_more_cell, no_more_cells, an_item, a_literal_item, an_item_form, no_item, a_crlf, a_tab, a_right, a_function_item, some_columns, a_closing, is_no_form, a_group, a_member, no_member, a_group_first, a_group_pattern, an_excise, a_matches, a_built_name, to_build}
use Rattle.ops_grammar.proofs.Constants.{constant_cases}
use Rattle.ops_grammar.proofs.Completed.{completed, attribute_completed}
use Rattle.ops_grammar.proofs.Arranged.{AreArranged, StayArranged, stays_arranged, kind_agrees}

-- forms are wanted only after all else
abbrev pub forms_last : List Wanted → Bool
forms_last [] = true
forms_last (Forms ∷ []) = true
forms_last (Forms ∷ w ∷ ws) = false
forms_last (w ∷ ws) = forms_last ws

-- they stay so where a word is taken
abbrev pub Stays : List Wanted → List Wanted → Type 0
Stays ws ws' = forms_last ws ≡ true → forms_last ws' ≡ true

-- The step continues what derives after it, with the names of vector attributes that were read by then, or the word
-- derives where it is refused in a form.
abbrev pub Continues : List Sym → List Wanted → Word → Step → Type 0
Continues vs ws w (Next ws' s') = Stays ws ws' × ((ts : List Word) → Derives s'.vectors ws' ts → Derives vs ws (w ∷ ts))
Continues vs ws w (Refuses f) = is_no_form f ≡ false → (ts : List Word) × Derives vs ws (w ∷ ts)

-- ---- a word that is no declaration of a vector attribute leaves the names of vector attributes

pub bind_vectors : (o : Option ℕ) (s : State) (t : Term) → (with_bind o s t).vectors ≡ s.vectors
bind_vectors (Some n) s t = refl
bind_vectors None s t = refl

pub constant_vectors : (t : Target) (s : State) (v : Value) → (with_constant t s v).vectors ≡ s.vectors
constant_vectors (ToTest f p) s v = refl
constant_vectors (ToPut f) s v = refl
constant_vectors (ToFixed f) s v = refl
constant_vectors ToTerms s v = refl
constant_vectors ToConstants s v = refl
constant_vectors ToItem s v = refl
constant_vectors ToBind s v = bind_vectors (number_of s.variable s.values) s (term.Constant v)

pub element_vectors : (u : Use) (s : State) → (with_element u s).vectors ≡ s.vectors
element_vectors InPattern s = cond_both s.grouped _ _ (λ (t : State). t.vectors ≡ s.vectors) (λ _. refl) (λ _. refl)
element_vectors InPut s = refl
element_vectors InFixed s = refl

pub several_vectors : (u : Use) (f : ℕ) (s : State) → (with_several u f s).vectors ≡ s.vectors
several_vectors InPattern f s = refl
several_vectors InPut f s = refl
several_vectors InFixed f s = refl

pub ended_vectors : (e : Ends) (s : State) → (ended e s).vectors ≡ s.vectors
ended_vectors EndsHalt s = refl
ended_vectors EndsCrlf s = refl
ended_vectors EndsCs s = refl
ended_vectors EndsExit s = refl
ended_vectors EndsWhole s = refl

-- ---- words

no_fault : {A : Type 0} → true ≡ false → A
no_fault e = absurd (true≢false e)

arrow_of : (k : Keyword) → is_arrow k ≡ true → k ≡ keyword.Arrow
arrow_of keyword.Arrow e = refl
arrow_of _ e = absurd (true≢false (sym e))

compute_of : (k : Keyword) → is_compute k ≡ true → k ≡ keyword.Compute
compute_of keyword.Compute e = refl
compute_of _ e = absurd (true≢false (sym e))

constant_operand : (w : Word) (v : Value) → constant_of w.kind w.name ≡ Some v → is_operand w ≡ true
constant_operand w v e = ap (λ (o : Option Value). is_some o || is_variable w.kind) e

variable_operand : (w : Word) → is_variable w.kind ≡ true → is_operand w ≡ true
variable_operand w e = or_right (is_some (constant_of w.kind w.name)) _ e

constant_value : (w : Word) (v : Value) → is_literal w.keyword ≡ false → value_of w.kind w.name ≡ Some v → is_value w ≡ true
constant_value w v l e = and_from _ _ (ap not l) (ap (λ (o : Option Value). is_some o || is_variable w.kind) e)

variable_value : (w : Word) → is_literal w.keyword ≡ false → is_variable w.kind ≡ true → is_value w ≡ true
variable_value w l e = and_from _ _ (ap not l) (or_right (is_some (value_of w.kind w.name)) _ e)

atom_choice : (w : Word) (v : Value) → closes_choice w.keyword ≡ false → atom_of w.kind w.name ≡ Some v → is_choice w ≡ true
atom_choice w v c e = and_from _ _ (ap not c) (ap (λ (o : Option Value). is_some o) e)

module _ (w : Word) (ws : List Wanted) (s : State) where
  -- with what is wanted after it, the word derives
  behind_names : (vs : List Sym) (head : List Wanted) (ws' : List Wanted) → ((ts : List Word) → Derives vs ws' ts → Derives s.vectors head (w ∷ ts)) → (ts : List Word) × Derives s.vectors head (w ∷ ts)
  behind_names vs head ws' more = let c = completed vs ws' in (c.0, more c.0 c.1)

  behind : (head : List Wanted) (ws' : List Wanted) → ((ts : List Word) → Derives s.vectors ws' ts → Derives s.vectors head (w ∷ ts)) → (ts : List Word) × Derives s.vectors head (w ∷ ts)
  behind head ws' more = behind_names s.vectors head ws' more

  -- the state after the word may be another, with the same names
  kept : (s' : State) → s'.vectors ≡ s.vectors → (head ws' : List Wanted) → ((ts : List Word) → Derives s.vectors ws' ts → Derives s.vectors head (w ∷ ts)) → (ts : List Word) → Derives s'.vectors ws' ts → Derives s.vectors head (w ∷ ts)
  kept s' same head ws' more ts d = more ts (subst (λ (vs : List Sym). Derives vs ws' ts) same d)

  forms_continue : Continues s.vectors (Forms ∷ ws) w (forms w ws s)
  forms_continue = cond_both (is_left w.kind) _ _ (Continues s.vectors (Forms ∷ ws) w) (λ e. (λ h. h, λ ts d. a_form e d)) (λ _ f. no_fault f)

  form_continues : (k : Keyword) → w.keyword ≡ k → Continues s.vectors (Form ∷ ws) w (form w k ws s)
  form_continues keyword.Literalize e =
      cond_both (may_declare s) _ _ (Continues s.vectors (Form ∷ ws) w) (λ _. (λ h. h, λ ts d. a_literalize e d)) (λ _ _. behind (Form ∷ ws) (ClassDeclared ∷ Attributes ∷ ws) (λ ts d. a_literalize e d))
  form_continues keyword.VectorAttribute e =
      cond_both (may_declare s) _ _ (Continues s.vectors (Form ∷ ws) w) (λ _. (λ h. h, λ ts d. a_vector_declaration e d))
      (λ _ _. behind (Form ∷ ws) (VectorName ∷ VectorNames ∷ ws) (λ ts d. a_vector_declaration e d))
  form_continues keyword.Production e = (λ h. h, λ ts d. a_production e d)
  form_continues keyword.Make e = (λ h. h, λ ts d. a_make e d)
  form_continues keyword.Remove e = (λ h. h, λ ts d. a_remove_command e d)
  form_continues keyword.Run e = (λ h. h, λ ts d. a_run e d)
  form_continues keyword.Wm e = (λ h. h, λ ts d. a_wm e d)
  form_continues keyword.Ppwm e = (λ h. h, λ ts d. a_ppwm e d)
  form_continues keyword.Cs e = (λ h. h, λ ts d. a_cs e d)
  form_continues keyword.Pm e = (λ h. h, λ ts d. a_pm e d)
  form_continues keyword.Strategy e = (λ h. h, λ ts d. a_strategy e d)
  form_continues keyword.Watch e = (λ h. h, λ ts d. a_watch e d)
  form_continues keyword.Back e = (λ h. h, λ ts d. a_back e d)
  form_continues keyword.Pbreak e = (λ h. h, λ ts d. a_pbreak e d)
  form_continues keyword.Excise e = (λ h. h, λ ts d. an_excise e d)
  form_continues keyword.Matches e = (λ h. h, λ ts d. a_matches e d)
  form_continues keyword.Exit e = (λ h. h, λ ts d. an_exit e d)
  form_continues _ e = λ f. no_fault f

  class_declared_continues : Continues s.vectors (ClassDeclared ∷ ws) w (class_declared w ws s)
  class_declared_continues =
      cond_both (is_name w.kind) _ _ (Continues s.vectors (ClassDeclared ∷ ws) w)
      (λ e. cond_both (is_class s w.name) _ _ (Continues s.vectors (ClassDeclared ∷ ws) w) (λ _ _. behind (ClassDeclared ∷ ws) ws (λ ts d. a_class e d)) (λ _. (λ h. h, λ ts d. a_class e d)))
      (λ _ f. no_fault f)

  attributes_continue : Continues s.vectors (Attributes ∷ ws) w (attributes w ws s)
  attributes_continue =
      let one : is_name w.kind ≡ true → (ts : List Word) × Derives s.vectors (Attributes ∷ ws) (w ∷ ts) = λ e. behind (Attributes ∷ ws) (Attributes ∷ ws) (λ ts d. an_attribute e d) in
      cond_both (is_right w.kind) _ _ (Continues s.vectors (Attributes ∷ ws) w) (λ e. (λ h. h, λ ts d. no_attribute e d))
      (λ _. cond_both (is_name w.kind) _ _ (Continues s.vectors (Attributes ∷ ws) w)
      (λ e. cond_both (is_one_of w.name s.attrs) _ _ (Continues s.vectors (Attributes ∷ ws) w) (λ _ _. one e)
      (λ _. cond_both (is_second w.name s) _ _ (Continues s.vectors (Attributes ∷ ws) w) (λ _ _. one e)
      (λ _. cond_both (nat_lt (length s.attrs) most_fields) _ _ (Continues s.vectors (Attributes ∷ ws) w) (λ _. (λ h. h, λ ts d. an_attribute e d)) (λ _ _. one e))))
      (λ _ f. no_fault f))

  -- the name of a vector attribute in front of those that may follow it, or of what is wanted after it
  vector_declared_continues : (head ws' : List Wanted) → Stays head ws' → ((ts : List Word) → Derives (with_name w.name s.vectors) ws' ts → Derives s.vectors head (w ∷ ts)) → Continues s.vectors head w (vector_declared w ws' s)
  vector_declared_continues head ws' stay more =
      let named : (b : Bool) → is_one_of w.name s.vectors ≡ b → cond b s.vectors (s.vectors ++ w.name ∷ []) ≡ with_name w.name s.vectors =
      λ b e. ap (λ (c : Bool). cond c s.vectors (s.vectors ++ w.name ∷ [])) (sym e) in
      cond_both (is_one_of w.name s.vectors) _ _ (Continues s.vectors head w)
      (λ e. (stay, λ ts d. more ts (subst (λ (vs : List Sym). Derives vs ws' ts) (named true e) d)))
      (λ e. cond_both (makes_second w.name s.classes) _ _ (Continues s.vectors head w) (λ _ _. behind_names (with_name w.name s.vectors) head ws' more)
      (λ _. (stay, λ ts d. more ts (subst (λ (vs : List Sym). Derives vs ws' ts) (named false e) d))))

  vector_name_continues : (head ws' : List Wanted) → Stays head ws' → (is_name w.kind ≡ true → (ts : List Word) → Derives (with_name w.name s.vectors) ws' ts → Derives s.vectors head (w ∷ ts)) → Continues s.vectors head w (vector_name w ws' s)
  vector_name_continues head ws' stay more =
      cond_both (is_name w.kind) _ _ (Continues s.vectors head w) (λ e. vector_declared_continues head ws' stay (more e)) (λ _ f. no_fault f)

  vector_names_continue : Continues s.vectors (VectorNames ∷ ws) w (vector_names w ws s)
  vector_names_continue =
      cond_both (is_right w.kind) _ _ (Continues s.vectors (VectorNames ∷ ws) w) (λ e. (λ h. h, λ ts d. no_more_vectors e d))
      (λ _. vector_name_continues (VectorNames ∷ ws) (VectorNames ∷ ws) (λ h. h) (λ e ts d. one_more_vector e d))

  rule_name_continues : Continues s.vectors (RuleName ∷ ws) w (rule_name w ws s)
  rule_name_continues =
      cond_both (is_name w.kind) _ _ (Continues s.vectors (RuleName ∷ ws) w)
      (λ e. cond_both (is_rule s w.name) _ _ (Continues s.vectors (RuleName ∷ ws) w) (λ _ _. behind (RuleName ∷ ws) ws (λ ts d. a_rule e d)) (λ _. (λ h. h, λ ts d. a_rule e d)))
      (λ _ f. no_fault f)

  negated_first : (b c : Bool) → is_minus w.keyword ≡ b → begins_group w.keyword ≡ c → (b || c) ≡ true → (ts : List Word) × Derives s.vectors (FirstPattern ∷ ws) (w ∷ ts)
  negated_first true c is of e = behind (FirstPattern ∷ ws) (Pattern ∷ ws) (λ ts d. a_negated_first is d)
  negated_first false true is of e = behind (FirstPattern ∷ ws) (GroupBrace ∷ ws) (λ ts d. a_group_first of d)
  negated_first false false is of e = absurd (true≢false (sym e))

  first_pattern_continues : Continues s.vectors (FirstPattern ∷ ws) w (first_pattern w ws s)
  first_pattern_continues =
      cond_both (is_left w.kind) _ _ (Continues s.vectors (FirstPattern ∷ ws) w) (λ e. (λ h. h, λ ts d. a_first e d))
      (λ _. cond_both (is_left_brace w.kind) _ _ (Continues s.vectors (FirstPattern ∷ ws) w) (λ e. (λ h. h, λ ts d. a_braced_first e d))
      (λ _. cond_both (is_minus w.keyword || begins_group w.keyword) _ _ (Continues s.vectors (FirstPattern ∷ ws) w) (λ e _. negated_first (is_minus w.keyword) (begins_group w.keyword) refl refl e)
      (λ _ f. no_fault f)))

  -- one more member
  members_continue : (n : ℕ) → Continues s.vectors (Members n ∷ ws) w (members n w ws s)
  members_continue n =
      cond_both (is_right_brace w.kind && nat_le 2 n) _ _ (Continues s.vectors (Members n ∷ ws) w)
      (λ e. let each = and_parts (is_right_brace w.kind) (nat_le 2 n) e in (λ h. h, λ ts d. no_member each.0 each.1 d))
      (λ _. cond_both (is_left w.kind) _ _ (Continues s.vectors (Members n ∷ ws) w)
      (λ e. cond_both (has_room s) _ _ (Continues s.vectors (Members n ∷ ws) w) (λ _. (λ h. h, λ ts d. a_member e d))
      (λ _ _. behind_names s.vectors (Members n ∷ ws) (ClassName ∷ Terms InPattern ∷ Members (suc n) ∷ ws) (λ ts d. a_member e d)))
      (λ _ f. no_fault f))

  group_continues : Continues s.vectors (GroupBrace ∷ ws) w (group w ws s)
  group_continues =
      cond_both (is_left_brace w.kind) _ _ (Continues s.vectors (GroupBrace ∷ ws) w) (λ e. (λ h. h, λ ts d. a_group e d)) (λ _ f. no_fault f)

  -- one more condition, or none where there is no room
  one_more_continues : (ws' : List Wanted) (s' : State) → Stays (Patterns ∷ ws) ws' → ((ts : List Word) → Derives s'.vectors ws' ts → Derives s.vectors (Patterns ∷ ws) (w ∷ ts)) → Continues s.vectors (Patterns ∷ ws) w (one_more ws' s')
  one_more_continues ws' s' stay more =
      cond_both (nat_lt (length (elements_of s'.conditions)) most_conditions) _ _ (Continues s.vectors (Patterns ∷ ws) w) (λ _. (stay, more)) (λ _ _. behind_names s'.vectors (Patterns ∷ ws) ws' more)

  patterns_continue : Continues s.vectors (Patterns ∷ ws) w (patterns w ws s)
  patterns_continue =
      cond_both (is_arrow w.keyword) _ _ (Continues s.vectors (Patterns ∷ ws) w) (λ e. (λ h. h, λ ts d. an_arrow (arrow_of w.keyword e) d))
      (λ _. cond_both (is_left w.kind) _ _ (Continues s.vectors (Patterns ∷ ws) w)
      (λ e. one_more_continues (ClassName ∷ Terms InPattern ∷ Patterns ∷ ws) s (λ h. h) (λ ts d. a_pattern e d))
      (λ _. cond_both (is_left_brace w.kind) _ _ (Continues s.vectors (Patterns ∷ ws) w)
      (λ e. one_more_continues (Braced ∷ Patterns ∷ ws) s (λ h. h) (λ ts d. a_braced_pattern e d))
      (λ _. cond_both (is_minus w.keyword) _ _ (Continues s.vectors (Patterns ∷ ws) w)
      (λ e. one_more_continues (Pattern ∷ Patterns ∷ ws) (record s { negated = true; around = length s.values }) (λ h. h) (λ ts d. a_negated_pattern e d))
      (λ _. cond_both (begins_group w.keyword) _ _ (Continues s.vectors (Patterns ∷ ws) w) (λ e. (λ h. h, λ ts d. a_group_pattern e d))
      (λ _ f. no_fault f)))))

  pattern_continues : Continues s.vectors (Pattern ∷ ws) w (pattern w ws s)
  pattern_continues =
      cond_both (is_left w.kind) _ _ (Continues s.vectors (Pattern ∷ ws) w) (λ e. (λ h. h, λ ts d. a_whole_pattern e d)) (λ _ f. no_fault f)

  -- an element variable in front of what is wanted after it
  element_at_continues : (head ws' : List Wanted) → Stays head ws' → ((ts : List Word) → Derives s.vectors ws' ts → Derives s.vectors head (w ∷ ts)) → (o : Option ℕ) → Continues s.vectors head w (element_at o w.name ws' s)
  element_at_continues head ws' stay more (Some c) = λ _. behind head ws' more
  element_at_continues head ws' stay more None = (stay, more)

  element_name_continues : (head ws' : List Wanted) → Stays head ws' → (is_variable w.kind ≡ true → (ts : List Word) → Derives s.vectors ws' ts → Derives s.vectors head (w ∷ ts)) → Continues s.vectors head w (element_name w ws' s)
  element_name_continues head ws' stay more =
      cond_both (is_variable w.kind) _ _ (Continues s.vectors head w)
      (λ e. element_at_continues head ws' stay (more e) (number_of w.name s.elements)) (λ _ f. no_fault f)

  braced_continues : Continues s.vectors (Braced ∷ ws) w (braced w ws s)
  braced_continues =
      cond_both (is_left w.kind) _ _ (Continues s.vectors (Braced ∷ ws) w) (λ e. (λ h. h, λ ts d. a_name_behind e d))
      (λ _. element_name_continues (Braced ∷ ws) (Pattern ∷ ClosesBrace ∷ ws) (λ h. h) (λ e ts d. a_name_before e d))

  closes_brace_continues : Continues s.vectors (ClosesBrace ∷ ws) w (closes_brace w ws s)
  closes_brace_continues =
      cond_both (is_right_brace w.kind) _ _ (Continues s.vectors (ClosesBrace ∷ ws) w) (λ e. (λ h. h, λ ts d. a_closed_brace e d)) (λ _ f. no_fault f)

  -- a class in front of what is wanted after it
  class_at_continues : (head ws' : List Wanted) → Stays head ws' → ((ts : List Word) → Derives s.vectors ws' ts → Derives s.vectors head (w ∷ ts)) → (o : Option ℕ) → Continues s.vectors head w (class_at o ws' s)
  class_at_continues head ws' stay more (Some c) = (stay, more)
  class_at_continues head ws' stay more None = λ _. behind head ws' more

  class_name_continues : (head ws' : List Wanted) → Stays head ws' → (is_name w.kind ≡ true → (ts : List Word) → Derives s.vectors ws' ts → Derives s.vectors head (w ∷ ts)) → Continues s.vectors head w (class_name w ws' s)
  class_name_continues head ws' stay more =
      cond_both (is_name w.kind) _ _ (Continues s.vectors head w)
      (λ e. class_at_continues head ws' stay (more e) (position (λ c. c.name.0 == w.name.0) s.classes)) (λ _ f. no_fault f)

  terms_continue : (u : Use) → Continues s.vectors (Terms u ∷ ws) w (terms u w ws s)
  terms_continue u =
      cond_both (is_right w.kind) _ _ (Continues s.vectors (Terms u ∷ ws) w) (λ e. (λ h. h, kept (with_element u s) (element_vectors u s) (Terms u ∷ ws) ws (λ ts d. no_term e d)))
      (λ _. cond_both (is_caret w.kind) _ _ (Continues s.vectors (Terms u ∷ ws) w) (λ e. (λ h. h, λ ts d. a_term e d)) (λ _ f. no_fault f))

  scalar_stays : (u : Use) (f : ℕ) → Stays (Attribute u ∷ ws) (behind_attribute u f ∷ Terms u ∷ ws)
  scalar_stays InPattern f = λ h. h
  scalar_stays InPut f = λ h. h
  scalar_stays InFixed f = λ h. h

  field_at_continues : (u : Use) → is_name w.kind ≡ true → (o : Option ℕ) → ((f : ℕ) → o ≡ Some f → is_vector (class_of s.classes s.class) f ≡ is_one_of w.name s.vectors) → Continues s.vectors (Attribute u ∷ ws) w (field_at u o ws s)
  field_at_continues u is (Some f) agrees =
      let same = sym (agrees f refl) in
      cond_both (is_vector (class_of s.classes s.class) f) _ _ (Continues s.vectors (Attribute u ∷ ws) w)
      (λ e. (λ h. h, λ ts d. a_vector_attribute f is (same ∙ e) d))
      (λ e. (scalar_stays u f, λ ts d. a_scalar_attribute f is (same ∙ e) d))
  field_at_continues u is None agrees = λ _. attribute_completed s.vectors u ws w (is_one_of w.name s.vectors) is refl (completed s.vectors ws)

  attribute_continues : (u : Use) → AreArranged (Attribute u ∷ ws) s → Continues s.vectors (Attribute u ∷ ws) w (attribute u w ws s)
  attribute_continues u a =
      cond_both (is_name w.kind) _ _ (Continues s.vectors (Attribute u ∷ ws) w)
      (λ e. field_at_continues u e (position (λ a. a.0 == w.name.0) (attributes_of (slice_get s.classes s.class))) (λ f at. kind_agrees (Attribute u ∷ ws) s w.name f a at)) (λ _ f. no_fault f)

  -- an operand in front of what is wanted after it
  module _ (head ws' : List Wanted) (stay : Stays head ws') where
    variable_tested_continues : ((ts : List Word) → Derives s.vectors ws' ts → Derives s.vectors head (w ∷ ts)) → (f : ℕ) (p : Pred) (o : Option ℕ) → Continues s.vectors head w (variable_tested f p o w.name ws' s)
    variable_tested_continues more f p (Some n) = (stay, more)
    variable_tested_continues more f pred.Eq None = (stay, more)
    variable_tested_continues more f _ None = λ _. behind head ws' more

    constant_tested_continues : (is_operand w ≡ true → (ts : List Word) → Derives s.vectors ws' ts → Derives s.vectors head (w ∷ ts)) → (f : ℕ) (p : Pred) (o : Option Value) → constant_of w.kind w.name ≡ o → Continues s.vectors head w (constant_tested f p w o ws' s)
    constant_tested_continues more f p (Some v) e =
        constant_cases w.keyword (λ r. Next ws' (with_constant (ToTest f p) r v)) s (Continues s.vectors head w) (λ _ _. behind head ws' (more (constant_operand w v e))) (stay, more (constant_operand w v e))
        (λ variable m found. (stay, more (constant_operand w v e)))
    constant_tested_continues more f p None e =
        cond_both (is_variable w.kind) _ _ (Continues s.vectors head w)
        (λ is. variable_tested_continues (more (variable_operand w is)) f p (number_of w.name s.values)) (λ _ f. no_fault f)

    tested_continues : (f : ℕ) (p : Pred) → (is_operand w ≡ true → (ts : List Word) → Derives s.vectors ws' ts → Derives s.vectors head (w ∷ ts))
        → (is_literal w.keyword ≡ true → (ts : List Word) → Derives s.vectors (Atom (ToTest f p) ∷ ws') ts → Derives s.vectors head (w ∷ ts)) → Continues s.vectors head w (tested f p w ws' s)
    tested_continues f p more literal =
        cond_both (is_literal w.keyword) _ _ (Continues s.vectors head w) (λ e. (stay, literal e))
        (λ _. constant_tested_continues more f p (constant_of w.kind w.name) refl)

    -- a test, in each of its forms
    module _ (f : ℕ) (operand : is_operand w ≡ true → (ts : List Word) → Derives s.vectors ws' ts → Derives s.vectors head (w ∷ ts))
        (literal : is_literal w.keyword ≡ true → (ts : List Word) → Derives s.vectors (Atom (ToTest f pred.Eq) ∷ ws') ts → Derives s.vectors head (w ∷ ts))
        (predicate : (p : Pred) → pred_of w.keyword ≡ Some p → (ts : List Word) → Derives s.vectors (Tested f p ∷ ws') ts → Derives s.vectors head (w ∷ ts))
        (disjunction : opens_choice w.keyword ≡ true → (ts : List Word) → Derives s.vectors (Choice f ∷ ws') ts → Derives s.vectors head (w ∷ ts)) where
      predicated_continues : (o : Option Pred) → pred_of w.keyword ≡ o → Continues s.vectors head w (predicated f w o ws' s)
      predicated_continues (Some p) e = (stay, predicate p e)
      predicated_continues None e = tested_continues f pred.Eq operand literal

      test_continues : Continues s.vectors head w (test f w ws' s)
      test_continues =
          cond_both (opens_choice w.keyword) _ _ (Continues s.vectors head w) (λ e. (stay, disjunction e))
          (λ _. predicated_continues (pred_of w.keyword) refl)

    -- a term in front of what is wanted after it
    term_at_continues : ((ts : List Word) → Derives s.vectors ws' ts → Derives s.vectors head (w ∷ ts)) → (t : Target) (x : Term) → Continues s.vectors head w (term_at t x ws' s)
    term_at_continues more (ToPut f) x = (stay, more)
    term_at_continues more ToTerms x = (stay, more)
    term_at_continues more ToItem x = (stay, more)
    term_at_continues more ToBind x =
        let o : Option ℕ = number_of s.variable s.values in (stay, kept (with_bind o s x) (bind_vectors o s x) head ws' more)
    term_at_continues more _ x = λ _. behind head ws' more

    -- a value in front of what is wanted after it
    module _ (t : Target) (more : is_value w ≡ true → (ts : List Word) → Derives s.vectors ws' ts → Derives s.vectors head (w ∷ ts))
        (literal : is_literal w.keyword ≡ true → (ts : List Word) → Derives s.vectors (Atom t ∷ ws') ts → Derives s.vectors head (w ∷ ts))
        (called : is_left w.kind ≡ true → is_of_action t ≡ true → (ts : List Word) → Derives s.vectors (Function t ∷ ws') ts → Derives s.vectors head (w ∷ ts)) where
      bound_at_continues : is_value w ≡ true → (o : Option ℕ) → Continues s.vectors head w (bound_at t o ws' s)
      bound_at_continues e (Some n) = term_at_continues (more e) t (term.Variable n)
      bound_at_continues e None = λ _. behind head ws' (more e)

      constant_at_continues : is_literal w.keyword ≡ false → (o : Option Value) → value_of w.kind w.name ≡ o → Continues s.vectors head w (constant_at t w o ws' s)
      constant_at_continues l (Some v) e =
          constant_cases w.keyword (λ r. Next ws' (with_constant t r v)) s (Continues s.vectors head w) (λ _ _. behind head ws' (more (constant_value w v l e)))
          (stay, kept (with_constant t s v) (constant_vectors t s v) head ws' (more (constant_value w v l e)))
          (λ variable m found. (stay, kept (with_constant t (with_hole s m) v) (constant_vectors t (with_hole s m) v) head ws' (more (constant_value w v l e))))
      constant_at_continues l None e =
          cond_both (is_variable w.kind) _ _ (Continues s.vectors head w) (λ is. bound_at_continues (variable_value w l is) (number_of w.name s.values)) (λ _ f. no_fault f)

      value_for_continues : Continues s.vectors head w (value_for t w ws' s)
      value_for_continues =
          cond_both (is_literal w.keyword) _ _ (Continues s.vectors head w) (λ e. (stay, literal e))
          (λ l. cond_both (is_left w.kind && is_of_action t) _ _ (Continues s.vectors head w)
          (λ e. let each = and_parts (is_left w.kind) _ e in (stay, called each.0 each.1))
          (λ _. constant_at_continues l (value_of w.kind w.name) refl))

  value_continues : (t : Target) → Continues s.vectors (ValueFor t ∷ ws) w (value_for t w ws s)
  value_continues t =
      value_for_continues (ValueFor t ∷ ws) ws (λ h. h) t (λ e ts d. a_value e d) (λ e ts d. a_literal_value e d) (λ e of_action ts d. a_function e of_action d)

  -- `compute`, `genatom`, `accept` and `substr`
  function_continues : (t : Target) (k : Keyword) → w.keyword ≡ k → Continues s.vectors (Function t ∷ ws) w (function t k ws s)
  function_continues t keyword.Substr e = (λ h. h, λ ts d. a_substr e d)
  function_continues t keyword.Compute e = (λ h. h, λ ts d. a_compute _ e d)
  function_continues t keyword.Genatom e = term_at_continues (Function t ∷ ws) (Closes EndsWhole ∷ ws) (λ h. h) (λ ts d. a_genatom e d) t term.Fresh
  function_continues t keyword.Accept e = term_at_continues (Function t ∷ ws) (Closes EndsWhole ∷ ws) (λ h. h) (λ ts d. an_accept e d) t term.Accept
  function_continues t _ e = λ f. no_fault f

  -- a unit in front of what is wanted after it
  module _ (head ws' : List Wanted) (stay : Stays head ws') (unit : is_designator w.kind ≡ true → (ts : List Word) → Derives s.vectors ws' ts → Derives s.vectors head (w ∷ ts)) where
    unit_bound_continues : is_variable w.kind ≡ true → (o : Option ℕ) → Continues s.vectors head w (unit_bound o ws' s)
    unit_bound_continues e (Some n) = (stay, unit (or_right (is_whole w.kind) _ e))
    unit_bound_continues e None = λ _. behind head ws' (unit (or_right (is_whole w.kind) _ e))

    unit_at_continues : (k : TokenKind) → w.kind ≡ k → Continues s.vectors head w (unit_at k w.name ws' s)
    unit_at_continues (kind.Whole n) e = (stay, unit (ap is_designator e))
    unit_at_continues kind.Variable e = unit_bound_continues (ap is_variable e) (number_of w.name s.values)
    unit_at_continues _ e = λ f. no_fault f

    -- A bracket past the limit is refused, and continues the grammar too.
    expression_unit_continues : (d : ℕ) → (is_left w.kind ≡ true → (ts : List Word) → Derives s.vectors (Bracketed (suc d) ∷ ws') ts → Derives s.vectors head (w ∷ ts)) → Continues s.vectors head w (expression_unit d w ws' s)
    expression_unit_continues d bracket =
        cond_both (is_left w.kind) _ _ (Continues s.vectors head w)
        (λ left. cond_both (nat_lt d most_brackets) _ _ (Continues s.vectors head w) (λ _. (stay, bracket left)) (λ _ _. behind head (Bracketed (suc d) ∷ ws') (bracket left)))
        (λ _. unit_at_continues w.kind refl)

  bracketed_continues : (d : ℕ) → Continues s.vectors (Bracketed d ∷ ws) w (bracketed d w ws s)
  bracketed_continues d =
      cond_both (is_compute w.keyword) _ _ (Continues s.vectors (Bracketed d ∷ ws) w) (λ e. (λ h. h, λ ts d. a_bracketed_compute (compute_of w.keyword e) d))
      (λ _. expression_unit_continues (Bracketed d ∷ ws) (ExpressionRest d [] None ∷ ws) (λ h. h) (λ e ts d. a_bracketed_expression (a_unit e d)) d
      (λ e ts d. a_bracketed_expression (a_bracketed_unit e d)))

  operation_continues : (d : ℕ) (waiting : List Waiting) (into : Option Target) (o : Option Op) → operation_of w.keyword ≡ o → Continues s.vectors (ExpressionRest d waiting into ∷ ws) w (operation_at d waiting into o ws s)
  operation_continues d waiting into (Some o) e =
      (λ h. h, λ ts d. an_operation (record { left = s.formula; op = o } ∷ waiting) (ap (λ (o : Option Op). is_some o) e) d)
  operation_continues d waiting into None e = λ f. no_fault f

  source_named_continues : is_variable w.kind ≡ true → (o : Option ℕ) → Continues s.vectors (SourceCell ∷ ws) w (source_named o ws s)
  source_named_continues e (Some c) = (λ h. h, λ ts d. a_source e d)
  source_named_continues e None = λ _. behind (SourceCell ∷ ws) ws (λ ts d. a_source e d)

  source_cell_continues : Continues s.vectors (SourceCell ∷ ws) w (source_cell w ws s)
  source_cell_continues =
      cond_both (is_variable w.kind) _ _ (Continues s.vectors (SourceCell ∷ ws) w) (λ e. source_named_continues e (number_of w.name s.elements)) (λ _ f. no_fault f)

  source_at_continues : (t : Target) → is_name w.kind ≡ true → (o : Option ℕ) → Continues s.vectors (SourceAttribute t ∷ ws) w (source_at t w.name o ws s)
  source_at_continues t e (Some f) = (λ h. h, λ ts d. a_source_attribute e d)
  source_at_continues t e None = λ _. behind (SourceAttribute t ∷ ws) (SourceEnd t w.name ∷ Closes EndsWhole ∷ ws) (λ ts d. a_source_attribute e d)

  source_attribute_continues : (t : Target) → Continues s.vectors (SourceAttribute t ∷ ws) w (source_attribute t w ws s)
  source_attribute_continues t =
      cond_both (is_name w.kind) _ _ (Continues s.vectors (SourceAttribute t ∷ ws) w)
      (λ e. source_at_continues t e (position (λ a. a.0 == w.name.0) (source_class s).attrs)) (λ _ f. no_fault f)

  source_end_continues : (t : Target) (name : Sym) → is_vector (source_class s) s.source_field ≡ is_one_of name s.vectors → Continues s.vectors (SourceEnd t name ∷ ws) w (source_end t name w ws s)
  source_end_continues t name agrees =
      let at_inf : ends_at_inf w s ≡ (is_inf w.keyword && is_one_of name s.vectors) = ap (λ (b : Bool). is_inf w.keyword && b) agrees in
      cond_both (ends_at_inf w s) _ _ (Continues s.vectors (SourceEnd t name ∷ ws) w)
      (λ e. let each = and_parts (is_inf w.keyword) _ e in
      cond_both (takes_several t) _ _ (Continues s.vectors (SourceEnd t name ∷ ws) w)
      (λ several. term_at_continues (SourceEnd t name ∷ ws) ws (λ h. h) (λ ts d. up_to_inf each.0 (sym agrees ∙ each.1) several d) t (term.Rest s.source))
      (λ _ f. no_fault f))
      (λ other. cond_both (is_name w.kind && (w.name.0 == name.0)) _ _ (Continues s.vectors (SourceEnd t name ∷ ws) w)
      (λ e. let each = and_parts (is_name w.kind) _ e in
      term_at_continues (SourceEnd t name ∷ ws) ws (λ h. h) (λ ts d. the_same_again each.0 each.1 (sym at_inf ∙ other) d) t (term.One s.source s.source_field))
      (λ _ f. no_fault f))

  place_continues : (f : ℕ) → Continues s.vectors (Place f ∷ ws) w (place f w ws s)
  place_continues f =
      cond_both (is_left_brace w.kind) _ _ (Continues s.vectors (Place f ∷ ws) w) (λ e. (λ h. h, λ ts d. a_conjunction e d))
      (λ _. test_continues (Place f ∷ ws) ws (λ h. h) f (λ e ts d. an_operand e d) (λ e ts d. a_literal e d)
      (λ p e ts d. a_predicate e d) (λ e ts d. a_disjunction e d))

  tests_continue : (f : ℕ) → Continues s.vectors (Tests f ∷ ws) w (tests f w ws s)
  tests_continue f =
      cond_both (is_right_brace w.kind) _ _ (Continues s.vectors (Tests f ∷ ws) w) (λ e. (λ h. h, λ ts d. no_more_tests e d))
      (λ _. test_continues (Tests f ∷ ws) (Tests f ∷ ws) (λ h. h) f (λ e ts d. one_more_operand e d) (λ e ts d. one_more_literal e d)
      (λ p e ts d. one_more_predicate e d) (λ e ts d. one_more_disjunction e d))

  chosen_continues : (f : ℕ) → closes_choice w.keyword ≡ false → (o : Option Value) → atom_of w.kind w.name ≡ o → Continues s.vectors (Choice f ∷ ws) w (chosen w.keyword o (Choice f ∷ ws) s)
  chosen_continues f c (Some v) e =
      constant_cases w.keyword (λ r. Next (Choice f ∷ ws) (with_choice_of r v)) s (Continues s.vectors (Choice f ∷ ws) w) (λ _ _. behind (Choice f ∷ ws) (Choice f ∷ ws) (λ ts d. one_more_choice (atom_choice w v c e) d))
      (λ h. h, λ ts d. one_more_choice (atom_choice w v c e) d) (λ variable m found. (λ h. h, λ ts d. one_more_choice (atom_choice w v c e) d))
  chosen_continues f c None e = λ f. no_fault f

  choice_continues : (f : ℕ) → Continues s.vectors (Choice f ∷ ws) w (choice f w ws s)
  choice_continues f =
      cond_both (closes_choice w.keyword) _ _ (Continues s.vectors (Choice f ∷ ws) w) (λ e. (λ h. h, λ ts d. no_more_choices e d))
      (λ c. chosen_continues f c (atom_of w.kind w.name) refl)

  atom_continues : (t : Target) (o : Option Value) → atom_of w.kind w.name ≡ o → Continues s.vectors (Atom t ∷ ws) w (atom_at t w.keyword o ws s)
  atom_continues t (Some v) e =
      let more : (ts : List Word) → Derives s.vectors ws ts → Derives s.vectors (Atom t ∷ ws) (w ∷ ts) = λ ts d. an_atom (ap (λ (o : Option Value). is_some o) e) d in
      constant_cases w.keyword (λ r. Next ws (with_constant t r v)) s (Continues s.vectors (Atom t ∷ ws) w) (λ _ _. behind (Atom t ∷ ws) ws more)
      (λ h. h, kept (with_constant t s v) (constant_vectors t s v) (Atom t ∷ ws) ws more)
      (λ variable m found. (λ h. h, kept (with_constant t (with_hole s m) v) (constant_vectors t (with_hole s m) v) (Atom t ∷ ws) ws more))
  atom_continues t None e = λ f. no_fault f

  pub side_vectors : (b : Bool) (past : ℕ) → (side_ended b s past).vectors ≡ s.vectors
  side_vectors true past = by s.outer (rule_of s past)
    where
      by : (o : Option Outer) (r : Rule) → (build_ended o s r).vectors ≡ s.vectors
      by (Some o) r = refl
      by None r = refl
  side_vectors false past = refl

  actions_continue : (b : Bool) → Continues s.vectors (Actions b ∷ ws) w (actions b w ws s)
  actions_continue b =
      cond_both (is_right w.kind) _ _ (Continues s.vectors (Actions b ∷ ws) w) (λ e. (λ h. h, kept (side_ended b s w.past) (side_vectors b w.past) (Actions b ∷ ws) ws (λ ts d. no_action e d)))
      (λ _. cond_both (is_left w.kind) _ _ (Continues s.vectors (Actions b ∷ ws) w) (λ e. (λ h. h, λ ts d. an_action e d)) (λ _ f. no_fault f))

  build_continues : (b : Bool) → w.keyword ≡ keyword.Build → Continues s.vectors (ActionWord b ∷ ws) w (build_word b ws s)
  build_continues true e = λ f. no_fault f
  build_continues false e = (λ h. h, λ ts d. to_build e d)

  action_word_continues : (b : Bool) (k : Keyword) → w.keyword ≡ k → Continues s.vectors (ActionWord b ∷ ws) w (action_word b k ws s)
  action_word_continues b keyword.Make e = (λ h. h, λ ts d. to_make e d)
  action_word_continues b keyword.Modify e = (λ h. h, λ ts d. to_modify e d)
  action_word_continues b keyword.Bind e = (λ h. h, λ ts d. to_bind e d)
  action_word_continues b keyword.Cbind e = (λ h. h, λ ts d. to_cbind e d)
  action_word_continues b keyword.Remove e = (λ h. h, λ ts d. to_remove e d)
  action_word_continues b keyword.Write e = (λ h. h, λ ts d. to_write e d)
  action_word_continues b keyword.Halt e = (λ h. h, λ ts d. to_halt e d)
  action_word_continues b keyword.Build e = build_continues b e
  action_word_continues b _ e = λ f. no_fault f

  -- a designator, unless the word is refused as one that continues no form
  abbrev IsDesignator : Result ℕ Fault → Type 0
  IsDesignator (Ok c) = is_designator w.kind ≡ true
  IsDesignator (Err f) = is_no_form f ≡ false → is_designator w.kind ≡ true

  whichever : is_designator w.kind ≡ true → (r : Result ℕ Fault) → IsDesignator r
  whichever is (Ok c) = is
  whichever is (Err f) = λ _. is

  cell_of_designates : (k : TokenKind) → w.kind ≡ k → IsDesignator (cell_of k w.name s)
  cell_of_designates (kind.Whole n) e = whichever (ap is_designator e) (cell_of (kind.Whole n) w.name s)
  cell_of_designates kind.Variable e = whichever (ap is_designator e) (cell_of kind.Variable w.name s)
  cell_of_designates _ e = λ f. no_fault f

  -- a cell in front of those that may follow it, or of what is wanted after it
  designated_continues : (head ws' : List Wanted) → Stays head ws' → (is_designator w.kind ≡ true → (ts : List Word) → Derives s.vectors ws' ts → Derives s.vectors head (w ∷ ts)) → (r : Result ℕ Fault) → IsDesignator r → Continues s.vectors head w (with_designated r ws' s)
  designated_continues head ws' last more (Ok c) is = (last, more is)
  designated_continues head ws' last more (Err f) is = λ e. behind head ws' (more (is e))

  cell_continues : (head ws' : List Wanted) → Stays head ws' → (is_designator w.kind ≡ true → (ts : List Word) → Derives s.vectors ws' ts → Derives s.vectors head (w ∷ ts)) → Continues s.vectors head w (cell w.kind w.name ws' s)
  cell_continues head ws' last more = designated_continues head ws' last more (cell_of w.kind w.name s) (cell_of_designates w.kind refl)

  with_modified_continues : (r : Result ℕ Fault) → IsDesignator r → Continues s.vectors (Modified ∷ ws) w (with_modified r ws s)
  with_modified_continues (Ok c) is = (λ h. h, λ ts d. a_modified is d)
  with_modified_continues (Err f) is = λ e. behind (Modified ∷ ws) ws (λ ts d. a_modified (is e) d)

  modified_continues : Continues s.vectors (Modified ∷ ws) w (modified w ws s)
  modified_continues = with_modified_continues (cell_of w.kind w.name s) (cell_of_designates w.kind refl)

  -- the variables of `bind` and of `cbind`
  bound_name_continues : Continues s.vectors (BoundName ∷ ws) w (bound_name w ws s)
  bound_name_continues =
      cond_both (is_variable w.kind) _ _ (Continues s.vectors (BoundName ∷ ws) w) (λ e. (λ h. h, λ ts d. a_bound_name e d)) (λ _ f. no_fault f)

  bound_value_continues : Continues s.vectors (BoundValue ∷ ws) w (bound_value w ws s)
  bound_value_continues =
      let o : Option ℕ = number_of s.variable s.values in
      cond_both (is_right w.kind) _ _ (Continues s.vectors (BoundValue ∷ ws) w)
      (λ e. (λ h. h, kept (with_bind o s term.Fresh) (bind_vectors o s term.Fresh) (BoundValue ∷ ws) ws (λ ts d. no_bound_value e d)))
      (λ _. value_for_continues (BoundValue ∷ ws) (Closes EndsWhole ∷ ws) (λ h. h) ToBind (λ e ts d. a_bound_value (a_value e d)) (λ e ts d. a_bound_value (a_literal_value e d))
      (λ e of_action ts d. a_bound_value (a_function e of_action d)))

  cell_bound_continues : is_variable w.kind ≡ true → (o : Option ℕ) → Continues s.vectors (CellName ∷ ws) w (cell_bound o w.name ws s)
  cell_bound_continues e (Some class) = (λ h. h, λ ts d. a_cell_name e d)
  cell_bound_continues e None = λ _. behind (CellName ∷ ws) ws (λ ts d. a_cell_name e d)

  cell_name_continues : Continues s.vectors (CellName ∷ ws) w (cell_name w ws s)
  cell_name_continues =
      cond_both (is_variable w.kind) _ _ (Continues s.vectors (CellName ∷ ws) w) (λ e. cell_bound_continues e s.made) (λ _ f. no_fault f)

  cells_continue : Continues s.vectors (Cells ∷ ws) w (cells w ws s)
  cells_continue =
      cond_both (is_right w.kind) _ _ (Continues s.vectors (Cells ∷ ws) w) (λ e. (λ h. h, λ ts d. no_more_cells e d))
      (λ _. cell_continues (Cells ∷ ws) (Cells ∷ ws) (λ h. h) (λ e ts d. one_more_cell e d))

  items_continue : Continues s.vectors (Items ∷ ws) w (items w ws s)
  items_continue =
      cond_both (is_right w.kind) _ _ (Continues s.vectors (Items ∷ ws) w) (λ e. (λ h. h, λ ts d. no_item e d))
      (λ _. cond_both (is_left w.kind) _ _ (Continues s.vectors (Items ∷ ws) w) (λ e. (λ h. h, λ ts d. an_item_form e d))
      (λ no_left. value_for_continues (Items ∷ ws) (Items ∷ ws) (λ h. h) ToItem (λ e ts d. an_item e d) (λ e ts d. a_literal_item e d)
      (λ left _ ts d. absurd (true≢false (sym left ∙ no_left)))))

  item_word_continues : (k : Keyword) → w.keyword ≡ k → Continues s.vectors (ItemWord ∷ ws) w (item_word k ws s)
  item_word_continues keyword.Crlf e = (λ h. h, λ ts d. a_crlf e d)
  item_word_continues keyword.Tabto e = (λ h. h, λ ts d. a_tab e d)
  item_word_continues keyword.Rjust e = (λ h. h, λ ts d. a_right e d)
  item_word_continues keyword.Substr e = (λ h. h, λ ts d. a_function_item (a_substr e d))
  item_word_continues keyword.Compute e = (λ h. h, λ ts d. a_function_item (a_compute _ e d))
  item_word_continues keyword.Genatom e = (λ h. h, λ ts d. a_function_item (a_genatom e d))
  item_word_continues keyword.Accept e = (λ h. h, λ ts d. a_function_item (an_accept e d))
  item_word_continues _ e = λ f. no_fault f

  columns_continue : (c : Column) (o : Option ℕ) → small_of w.kind ≡ o → Continues s.vectors (Columns c ∷ ws) w (columns_at c o ws s)
  columns_continue c (Some n) e = (λ h. h, λ ts d. some_columns (ap (λ (o : Option ℕ). is_some o) e) d)
  columns_continue c None e = λ f. no_fault f

  -- the number of a run, and the name of a strategy
  counted_continues : (o : Option ℕ) → count_of w.kind ≡ o → Continues s.vectors (Count ∷ ws) w (counted o ws s)
  counted_continues (Some n) e = (λ h. h, λ ts d. a_count (ap (λ (o : Option ℕ). is_some o) e) d)
  counted_continues None e = λ f. no_fault f

  count_continues : Continues s.vectors (Count ∷ ws) w (count w ws s)
  count_continues =
      cond_both (is_right w.kind) _ _ (Continues s.vectors (Count ∷ ws) w) (λ e. (λ h. h, λ ts d. no_count e d))
      (λ _. counted_continues (count_of w.kind) refl)

  strategy_continues : (o : Option Strategy) → strategy_of w.keyword ≡ o → Continues s.vectors (StrategyName ∷ ws) w (strategy_set o ws s)
  strategy_continues (Some g) e = (λ h. h, λ ts d. a_strategy_name (ap (λ (o : Option Strategy). is_some o) e) d)
  strategy_continues None e = λ f. no_fault f

  strategy_name_continues : Continues s.vectors (StrategyName ∷ ws) w (strategy_name w ws s)
  strategy_name_continues =
      cond_both (is_right w.kind) _ _ (Continues s.vectors (StrategyName ∷ ws) w) (λ e. (λ h. h, λ ts d. no_strategy_name e d))
      (λ _. strategy_continues (strategy_of w.keyword) refl)

  -- a tag in front of those that may follow it
  tag_at_continues : (head ws' : List Wanted) → Stays head ws' → (is_some (count_of w.kind) ≡ true → (ts : List Word) → Derives s.vectors ws' ts → Derives s.vectors head (w ∷ ts)) → (o : Option ℕ) → count_of w.kind ≡ o → Continues s.vectors head w (tag_at o ws' s)
  tag_at_continues head ws' stay more (Some n) e = (stay, more (ap (λ (o : Option ℕ). is_some o) e))
  tag_at_continues head ws' stay more None e = λ f. no_fault f

  tag_or_all_continues : Continues s.vectors (TagOrAll ∷ ws) w (tag_or_all w ws s)
  tag_or_all_continues =
      cond_both (is_all w.keyword) _ _ (Continues s.vectors (TagOrAll ∷ ws) w) (λ e. (λ h. h, λ ts d. all_tags e d))
      (λ _. tag_at_continues (TagOrAll ∷ ws) (Tags ToRemove ∷ ws) (λ h. h) (λ e ts d. a_first_tag e d) (count_of w.kind) refl)

  tags_continue : (u : TagUse) → Continues s.vectors (Tags u ∷ ws) w (tags u w ws s)
  tags_continue u =
      cond_both (is_right w.kind) _ _ (Continues s.vectors (Tags u ∷ ws) w) (λ e. (λ h. h, λ ts d. no_more_tags e d))
      (λ _. tag_at_continues (Tags u ∷ ws) (Tags u ∷ ws) (λ h. h) (λ e ts d. one_more_tag e d) (count_of w.kind) refl)

  -- the name of a production in front of those that may follow it
  named_rule_continues : (head ws' : List Wanted) → Stays head ws' → (is_name w.kind ≡ true → (ts : List Word) → Derives s.vectors ws' ts → Derives s.vectors head (w ∷ ts)) → Continues s.vectors head w (named_rule w ws' s)
  named_rule_continues head ws' stay more = cond_both (is_name w.kind) _ _ (Continues s.vectors head w) (λ e. (stay, more e)) (λ _ f. no_fault f)

  named_rules_continue : (u : NameUse) → Continues s.vectors (NamedRules u ∷ ws) w (named_rules u w ws s)
  named_rules_continue u =
      cond_both (is_right w.kind) _ _ (Continues s.vectors (NamedRules u ∷ ws) w) (λ e. (λ h. h, λ ts d. no_more_rules e d))
      (λ _. named_rule_continues (NamedRules u ∷ ws) (NamedRules u ∷ ws) (λ h. h) (λ e ts d. one_more_rule e d))

  -- a trace level
  level_set_continues : (o : Option ℕ) → level_of w.kind ≡ o → Continues s.vectors (Level ∷ ws) w (level_set o ws s)
  level_set_continues (Some n) e = (λ h. h, λ ts d. a_level (ap (λ (o : Option ℕ). is_some o) e) d)
  level_set_continues None e = λ f. no_fault f

  -- the number of firings that are undone
  undone_set_continues : (o : Option ℕ) → undone_of w.kind ≡ o → Continues s.vectors (Undone ∷ ws) w (undone_set o ws s)
  undone_set_continues (Some n) e = (λ h. h, λ ts d. some_undone (ap (λ (o : Option ℕ). is_some o) e) d)
  undone_set_continues None e = λ f. no_fault f

  level_continues : Continues s.vectors (Level ∷ ws) w (level w ws s)
  level_continues =
      cond_both (is_right w.kind) _ _ (Continues s.vectors (Level ∷ ws) w) (λ e. (λ h. h, λ ts d. no_level e d))
      (λ _. level_set_continues (level_of w.kind) refl)

  undone_continues : Continues s.vectors (Undone ∷ ws) w (undone w ws s)
  undone_continues =
      cond_both (is_right w.kind) _ _ (Continues s.vectors (Undone ∷ ws) w) (λ e. (λ h. h, λ ts d. one_undone e d))
      (λ _. undone_set_continues (undone_of w.kind) refl)

  closes_continues : (e : Ends) → Continues s.vectors (Closes e ∷ ws) w (closes e w ws s)
  closes_continues e = cond_both (is_right w.kind) _ _ (Continues s.vectors (Closes e ∷ ws) w) (λ is. (λ h. h, kept (ended e s) (ended_vectors e s) (Closes e ∷ ws) ws (λ ts d. a_closing is d))) (λ _ f. no_fault f)

module _ (w : Word) where
  -- where what derives from these derives from those too, a step that continues these continues those
  continues_so : (vs : List Sym) (from head : List Wanted) → Stays head from → ((ts : List Word) → Derives vs from ts → Derives vs head ts) → (x : Step) → Continues vs from w x → Continues vs head w x
  continues_so vs from head stay more (Next ws' s') c = (λ h. c.0 (stay h), λ ts d. more (w ∷ ts) (c.1 ts d))
  continues_so vs from head stay more (Refuses f) c = λ e. let k = c e in (k.0, more (w ∷ k.0) k.1)

  within_continues : (vs : List Sym) (head : List Wanted) (b : Bool) (x : Step) → Continues vs head w x → Continues vs head w (within b x)
  within_continues vs head true x c = c
  within_continues vs head false (Next ws' s') c = λ _. let k = completed s'.vectors ws' in (k.0, c.1 k.0 k.1)
  within_continues vs head false (Refuses f) c = c

  -- one place or value more
  one_of_several_continues : (ws : List Wanted) (s : State) (u : Use) (f : ℕ) → Continues s.vectors (Several u f ∷ ws) w (one_of_several u f w ws s)
  one_of_several_continues ws s InPattern f =
      let next : f + 1 ≡ suc f = omega arith in
      within_continues s.vectors (Several InPattern f ∷ ws) (nat_lt f most_fields) (place f w (Several InPattern (f + 1) ∷ ws) s)
      (continues_so s.vectors (Place f ∷ Several InPattern (f + 1) ∷ ws) (Several InPattern f ∷ ws) (λ h. h) (λ ts d. one_more_place (subst (λ (n : ℕ). Derives s.vectors (Place f ∷ Several InPattern n ∷ ws) ts) next d)) _
      (place_continues w (Several InPattern (f + 1) ∷ ws) s f))
  one_of_several_continues ws s InPut f =
      continues_so s.vectors (ValueFor ToTerms ∷ Several InPut f ∷ ws) (Several InPut f ∷ ws) (λ h. h) (λ ts d. one_more_term d) _
      (value_continues w (Several InPut f ∷ ws) s ToTerms)
  one_of_several_continues ws s InFixed f =
      within_continues s.vectors (Several InFixed f ∷ ws) (nat_lt (f + length s.constants) most_fields) (value_for ToConstants w (Several InFixed f ∷ ws) s)
      (continues_so s.vectors (ValueFor ToConstants ∷ Several InFixed f ∷ ws) (Several InFixed f ∷ ws) (λ h. h) (λ ts d. one_more_constant d) _
      (value_continues w (Several InFixed f ∷ ws) s ToConstants))

  several_continue : (ws : List Wanted) (s : State) (u : Use) (f : ℕ) → Continues s.vectors (Several u f ∷ ws) w (several u f w ws s)
  several_continue ws s u f =
      cond_both (is_right w.kind || is_caret w.kind) _ _ (Continues s.vectors (Several u f ∷ ws) w)
      (λ _. continues_so s.vectors (Terms u ∷ ws) (Several u f ∷ ws) (λ h. h) (λ ts d. no_more_of_several d) (terms u w ws (with_several u f s))
      (subst (λ (vs : List Sym). Continues vs (Terms u ∷ ws) w (terms u w ws (with_several u f s))) (several_vectors u f s) (terms_continue w ws (with_several u f s) u)))
      (λ _. one_of_several_continues ws s u f)

-- an expression ends: it is a unit of another, or the value of a function
expression_ended_continues : (w : Word) (head ws : List Wanted) (s : State) → Stays head ws → ((ts : List Word) → Derives s.vectors ws ts → Derives s.vectors head (w ∷ ts)) → (into : Option Target) (f : Formula) → Continues s.vectors head w (expression_ended into f ws s)
expression_ended_continues w head ws s stay more (Some t) f = term_at_continues w ws (with_formula s no_formula) head ws stay more t (term.Compute f)
expression_ended_continues w head ws s stay more None f = (stay, more)

expression_rest_continues : (w : Word) (ws : List Wanted) (s : State) (d : ℕ) (waiting : List Waiting) (into : Option Target) → Continues s.vectors (ExpressionRest d waiting into ∷ ws) w (expression_rest d waiting into w ws s)
expression_rest_continues w ws s d waiting into =
    cond_both (is_right w.kind) _ _ (Continues s.vectors (ExpressionRest d waiting into ∷ ws) w)
    (λ e. expression_ended_continues w (ExpressionRest d waiting into ∷ ws) ws s (λ h. h) (λ ts d. no_operation e d) into _)
    (λ _. operation_continues w ws s d waiting into (operation_of w.keyword) refl)

-- a class whose elements are shown, or none
shown_continues : (w : Word) (ws : List Wanted) (s : State) → Continues s.vectors (Shown ∷ ws) w (shown w ws s)
shown_continues w ws s =
    cond_both (is_right w.kind) _ _ (Continues s.vectors (Shown ∷ ws) w) (λ e. (λ h. h, λ ts d. all_shown e d))
    (λ _. class_name_continues w ws (record s { fixed = []; shows = true }) (Shown ∷ ws) (Terms InFixed ∷ ws) (λ h. h) (λ e ts d. a_shown_class e d))

step_continues : (w : Word) (ws : List Wanted) (s : State) → AreArranged ws s → Continues s.vectors ws w (step w ws s)
unfolding step
step_continues w [] s a = λ f. no_fault f
step_continues w (Forms ∷ ws) s a = forms_continue w ws s
step_continues w (Form ∷ ws) s a = form_continues w ws s w.keyword refl
step_continues w (ClassDeclared ∷ ws) s a = class_declared_continues w ws s
step_continues w (Attributes ∷ ws) s a = attributes_continue w ws s
step_continues w (VectorName ∷ ws) s a = vector_name_continues w ws s (VectorName ∷ ws) ws (λ h. h) (λ e ts d. a_vector e d)
step_continues w (VectorNames ∷ ws) s a = vector_names_continue w ws s
step_continues w (RuleName ∷ ws) s a = rule_name_continues w ws s
step_continues w (FirstPattern ∷ ws) s a = first_pattern_continues w ws s
step_continues w (Patterns ∷ ws) s a = patterns_continue w ws s
step_continues w (GroupBrace ∷ ws) s a = group_continues w ws s
step_continues w (Members n ∷ ws) s a = members_continue w ws s n
step_continues w (Pattern ∷ ws) s a = pattern_continues w ws s
step_continues w (Braced ∷ ws) s a = braced_continues w ws s
step_continues w (ElementName ∷ ws) s a = element_name_continues w ws s (ElementName ∷ ws) ws (λ h. h) (λ e ts d. an_element_name e d)
step_continues w (ClosesBrace ∷ ws) s a = closes_brace_continues w ws s
step_continues w (ClassName ∷ ws) s a = class_name_continues w ws s (ClassName ∷ ws) ws (λ h. h) (λ e ts d. a_class_name e d)
step_continues w (Terms u ∷ ws) s a = terms_continue w ws s u
step_continues w (Attribute u ∷ ws) s a = attribute_continues w ws s u a
step_continues w (Several u f ∷ ws) s a = several_continue w ws s u f
step_continues w (Place f ∷ ws) s a = place_continues w ws s f
step_continues w (Tests f ∷ ws) s a = tests_continue w ws s f
step_continues w (Tested f p ∷ ws) s a =
    tested_continues w ws s (Tested f p ∷ ws) ws (λ h. h) f p (λ e ts d. a_tested_operand e d) (λ e ts d. a_tested_literal e d)
step_continues w (Choice f ∷ ws) s a = choice_continues w ws s f
step_continues w (Atom t ∷ ws) s a = atom_continues w ws s t (atom_of w.kind w.name) refl
step_continues w (ValueFor t ∷ ws) s a = value_continues w ws s t
step_continues w (Function t ∷ ws) s a = function_continues w ws s t w.keyword refl
step_continues w (ExpressionUnit d ∷ ws) s a =
    expression_unit_continues w ws s (ExpressionUnit d ∷ ws) ws (λ h. h) (λ e ts d. a_unit e d) d (λ e ts d. a_bracketed_unit e d)
step_continues w (ExpressionRest d waiting into ∷ ws) s a = expression_rest_continues w ws s d waiting into
step_continues w (Bracketed d ∷ ws) s a = bracketed_continues w ws s d
step_continues w (SourceCell ∷ ws) s a = source_cell_continues w ws s
step_continues w (SourceAttribute t ∷ ws) s a = source_attribute_continues w ws s t
step_continues w (SourceEnd t name ∷ ws) s a = source_end_continues w ws s t name a.2
step_continues w (Actions b ∷ ws) s a = actions_continue w ws s b
step_continues w (ActionWord b ∷ ws) s a = action_word_continues w ws s b w.keyword refl
step_continues w (BuiltName ∷ ws) s a = cond_both (is_name w.kind) _ _ (Continues s.vectors (BuiltName ∷ ws) w) (λ e. (λ h. h, λ ts d. a_built_name e d)) (λ _ f. no_fault f)
step_continues w (Modified ∷ ws) s a = modified_continues w ws s
step_continues w (BoundName ∷ ws) s a = bound_name_continues w ws s
step_continues w (BoundValue ∷ ws) s a = bound_value_continues w ws s
step_continues w (CellName ∷ ws) s a = cell_name_continues w ws s
step_continues w (Cell ∷ ws) s a = cell_continues w ws s (Cell ∷ ws) ws (λ h. h) (λ e ts d. a_cell e d)
step_continues w (Cells ∷ ws) s a = cells_continue w ws s
step_continues w (Items ∷ ws) s a = items_continue w ws s
step_continues w (ItemWord ∷ ws) s a = item_word_continues w ws s w.keyword refl
step_continues w (Columns c ∷ ws) s a = columns_continue w ws s c (small_of w.kind) refl
step_continues w (Count ∷ ws) s a = count_continues w ws s
step_continues w (StrategyName ∷ ws) s a = strategy_name_continues w ws s
step_continues w (TagOrAll ∷ ws) s a = tag_or_all_continues w ws s
step_continues w (Tags u ∷ ws) s a = tags_continue w ws s u
step_continues w (Shown ∷ ws) s a = shown_continues w ws s
step_continues w (NamedRule ∷ ws) s a = named_rule_continues w ws s (NamedRule ∷ ws) ws (λ h. h) (λ e ts d. a_named_rule e d)
step_continues w (NamedRules u ∷ ws) s a = named_rules_continue w ws s u
step_continues w (Level ∷ ws) s a = level_continues w ws s
step_continues w (Undone ∷ ws) s a = undone_continues w ws s
step_continues w (Closes e ∷ ws) s a = closes_continues w ws s e

module _ (w : Word) (ws : List Wanted) (s : State) (arranged : AreArranged ws s) where
  taken_continues : (ws' : List Wanted) (s' : State) → step w ws s ≡ Next ws' s' → Continues s.vectors ws w (Next ws' s')
  taken_continues ws' s' e = subst (Continues s.vectors ws w) e (step_continues w ws s arranged)

  -- where a word is taken, what derives after it derives with it
  pub taken_derives : (ws' : List Wanted) (s' : State) → step w ws s ≡ Next ws' s' → (ts : List Word) → Derives s'.vectors ws' ts → Derives s.vectors ws (w ∷ ts)
  taken_derives ws' s' e = (taken_continues ws' s' e).1

  -- forms stay after all else
  pub taken_last : (ws' : List Wanted) (s' : State) → step w ws s ≡ Next ws' s' → forms_last ws ≡ true → forms_last ws' ≡ true
  taken_last ws' s' e = (taken_continues ws' s' e).0

  -- the classes stay arranged
  pub taken_arranged : (ws' : List Wanted) (s' : State) → step w ws s ≡ Next ws' s' → AreArranged ws' s'
  taken_arranged ws' s' e = subst StayArranged e (stays_arranged w ws s arranged)

  -- a word that is refused in a form goes on to a derivation
  pub refused_in_form : (f : Fault) → step w ws s ≡ Refuses f → is_no_form f ≡ false → (ts : List Word) × Derives s.vectors ws (w ∷ ts)
  refused_in_form f e = let c : Continues s.vectors ws w (Refuses f) = subst (Continues s.vectors ws w) e (step_continues w ws s arranged) in c
