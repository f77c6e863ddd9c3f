-- The place of an attribute does not matter for what derives after it, nor does what waits in an expression.
use Rattle.std.proofs.Common.{◌≡◌, ℕ, suc, List, [], ◌∷◌, ◌∙◌, refl, ap, subst, Option, Some, None}
use Rattle.ops_base.specs.declared.values.Sym.{Sym}
use Rattle.ops_grammar.specs.declared.words.Word.{Word}
use Rattle.ops_grammar.specs.Grammar.{Use, InPattern, InPut, InFixed, Target, ToTest, ToPut, ToFixed, ToTerms, ToConstants, ToItem, ToBind, Wanted, Terms, Several, Place, Tests, Tested, Choice, Atom, ValueFor, Function, Waiting, ExpressionUnit, ExpressionRest, SourceAttribute, SourceEnd, is_of_action, takes_several, behind_attribute, Bracketed}
use Rattle.ops_grammar.specs.Derivation.{Derives, nothing, no_form, a_form, a_literalize, a_class, an_attribute, no_attribute, a_vector_declaration, a_vector, one_more_vector, no_more_vectors, a_production, a_rule, a_first, a_braced_first, a_negated_first, a_pattern, a_braced_pattern, a_negated_pattern, a_whole_pattern, a_name_before, a_name_behind, an_element_name, a_closed_brace, an_arrow, a_make, a_run, a_count, no_count, a_strategy, a_strategy_name, no_strategy_name, a_remove_command, all_tags, a_first_tag, a_wm, one_more_tag, no_more_tags, a_ppwm, a_shown_class, all_shown, a_cs, an_exit, a_pm, a_pbreak, a_named_rule, one_more_rule, no_more_rules, a_watch, a_back, a_level, some_undone, no_level, one_undone, a_class_name, a_term, no_term, a_scalar_attribute, a_vector_attribute, one_more_place, one_more_term, one_more_constant, no_more_of_several, a_value, a_literal_value, a_function, a_compute, a_genatom, an_accept, a_unit, a_bracketed_unit, a_bracketed_compute, a_bracketed_expression, an_operation, no_operation, a_substr, a_source, a_source_attribute, the_same_again, up_to_inf, an_atom, a_conjunction, no_more_tests, an_operand, a_literal, a_predicate, a_disjunction, one_more_operand, one_more_literal, one_more_predicate, one_more_disjunction, a_tested_operand, a_tested_literal, one_more_choice, no_more_choices, an_action, no_action, to_make, to_modify, to_bind, to_cbind, to_remove, to_write, to_halt, a_modified, a_bound_name, a_bound_value, no_bound_value, a_cell_name, a_cell, one_more_cell, no_more_cells, an_item, a_literal_item, an_item_form, no_item, a_crlf, a_tab, a_right, a_function_item, some_columns, a_closing, a_group, a_member, no_member, a_group_first, a_group_pattern, an_excise, a_matches, a_built_name, to_build}

-- which place is to stand for each, and what is to wait in an expression for what waits there
record Move : Type 0 where
  place : ℕ → ℕ
  waiting : List Waiting → List Waiting
  pub depth : ℕ → ℕ

abbrev to_place : ℕ → Move
to_place g = record { place = λ f. g; waiting = λ waiting. waiting; depth = λ d. d }

abbrev to_waiting : List Waiting → Move
to_waiting more = record { place = λ f. f; waiting = λ waiting. more; depth = λ d. d }

abbrev standing_still : Move
standing_still = record { place = λ f. f; waiting = λ waiting. waiting; depth = λ d. d }

-- its places alone
abbrev place_only : Move → Move
place_only g = record { place = g.place; waiting = λ waiting. waiting; depth = g.depth }

-- where this many brackets are open
abbrev at_depth : (ℕ → ℕ) → ℕ → Move
at_depth place n = record { place = place; waiting = λ waiting. waiting; depth = λ d. n }

abbrev target_at : Move → Target → Target
target_at g (ToTest f p) = ToTest (g.place f) p
target_at g (ToPut f) = ToPut (g.place f)
target_at g (ToFixed f) = ToFixed (g.place f)
target_at g ToTerms = ToTerms
target_at g ToConstants = ToConstants
target_at g ToItem = ToItem
target_at g ToBind = ToBind

abbrev into_at : Move → Option Target → Option Target
into_at g (Some t) = Some (target_at g t)
into_at g None = None

-- the same at the other place
abbrev at_place : Move → Wanted → Wanted
at_place g (Several u f) = Several u (g.place f)
at_place g (Place f) = Place (g.place f)
at_place g (Tests f) = Tests (g.place f)
at_place g (Tested f p) = Tested (g.place f) p
at_place g (Choice f) = Choice (g.place f)
at_place g (Atom t) = Atom (target_at g t)
at_place g (ValueFor t) = ValueFor (target_at g t)
at_place g (Function t) = Function (target_at g t)
at_place g (ExpressionUnit d) = ExpressionUnit (g.depth d)
at_place g (Bracketed d) = Bracketed (g.depth d)
at_place g (ExpressionRest d waiting into) = ExpressionRest (g.depth d) (g.waiting waiting) (into_at g into)
at_place g (SourceAttribute t) = SourceAttribute (target_at g t)
at_place g (SourceEnd t name) = SourceEnd (target_at g t) name
at_place g w = w

-- the first that are wanted at these places
abbrev front : List Move → List Wanted → List Wanted
front [] ws = ws
front (g ∷ gs) [] = []
front (g ∷ gs) (w ∷ ws) = at_place g w ∷ front gs ws

behind_moved : (u : Use) (f : ℕ) (g : Move) → at_place g (behind_attribute u f) ≡ behind_attribute u (g.place f)
behind_moved InPattern f g = refl
behind_moved InPut f g = refl
behind_moved InFixed f g = refl

action_moved : (g : Move) (t : Target) → is_of_action (target_at g t) ≡ is_of_action t
action_moved g (ToPut f) = refl
action_moved g ToTerms = refl
action_moved g ToItem = refl
action_moved g ToBind = refl
action_moved g (ToTest f p) = refl
action_moved g (ToFixed f) = refl
action_moved g ToConstants = refl

several_moved : (g : Move) (t : Target) → takes_several (target_at g t) ≡ takes_several t
several_moved g ToTerms = refl
several_moved g ToItem = refl
several_moved g (ToPut f) = refl
several_moved g ToBind = refl
several_moved g (ToTest f p) = refl
several_moved g (ToFixed f) = refl
several_moved g ToConstants = refl

-- what derives from them derives from those too
front_moved : {vs : List Sym} {ws : List Wanted} {ts : List Word} → Derives vs ws ts → (gs : List Move) → Derives vs (front gs ws) ts
front_moved d [] = d
front_moved nothing (g ∷ gs) = nothing
front_moved (no_form d) (g ∷ gs) = no_form (front_moved d gs)
front_moved (a_form e d) (g ∷ gs) = a_form e (front_moved d (g ∷ g ∷ gs))
front_moved (a_literalize e d) (g ∷ gs) = a_literalize e (front_moved d (g ∷ g ∷ gs))
front_moved (a_class e d) (g ∷ gs) = a_class e (front_moved d gs)
front_moved (an_attribute e d) (g ∷ gs) = an_attribute e (front_moved d (g ∷ gs))
front_moved (no_attribute e d) (g ∷ gs) = no_attribute e (front_moved d gs)
front_moved (a_vector_declaration e d) (g ∷ gs) = a_vector_declaration e (front_moved d (g ∷ g ∷ gs))
front_moved (a_vector e d) (g ∷ gs) = a_vector e (front_moved d gs)
front_moved (one_more_vector e d) (g ∷ gs) = one_more_vector e (front_moved d (g ∷ gs))
front_moved (no_more_vectors e d) (g ∷ gs) = no_more_vectors e (front_moved d gs)
front_moved (a_production e d) (g ∷ gs) = a_production e (front_moved d (g ∷ g ∷ g ∷ g ∷ gs))
front_moved (a_rule e d) (g ∷ gs) = a_rule e (front_moved d gs)
front_moved (a_first e d) (g ∷ gs) = a_first e (front_moved d (g ∷ g ∷ gs))
front_moved (a_braced_first e d) (g ∷ gs) = a_braced_first e (front_moved d (g ∷ gs))
front_moved (a_negated_first e d) (g ∷ gs) = a_negated_first e (front_moved d (g ∷ gs))
front_moved (a_pattern e d) (g ∷ gs) = a_pattern e (front_moved d (g ∷ g ∷ g ∷ gs))
front_moved (a_braced_pattern e d) (g ∷ gs) = a_braced_pattern e (front_moved d (g ∷ g ∷ gs))
front_moved (a_negated_pattern e d) (g ∷ gs) = a_negated_pattern e (front_moved d (g ∷ g ∷ gs))
front_moved (a_group_first e d) (g ∷ gs) = a_group_first e (front_moved d (g ∷ gs))
front_moved (a_group_pattern e d) (g ∷ gs) = a_group_pattern e (front_moved d (g ∷ g ∷ gs))
front_moved (a_group e d) (g ∷ gs) = a_group e (front_moved d (g ∷ gs))
front_moved (a_member e d) (g ∷ gs) = a_member e (front_moved d (g ∷ g ∷ g ∷ gs))
front_moved (no_member e two d) (g ∷ gs) = no_member e two (front_moved d gs)
front_moved (a_whole_pattern e d) (g ∷ gs) = a_whole_pattern e (front_moved d (g ∷ g ∷ gs))
front_moved (a_name_before e d) (g ∷ gs) = a_name_before e (front_moved d (g ∷ g ∷ gs))
front_moved (a_name_behind e d) (g ∷ gs) = a_name_behind e (front_moved d (g ∷ g ∷ g ∷ g ∷ gs))
front_moved (an_element_name e d) (g ∷ gs) = an_element_name e (front_moved d gs)
front_moved (a_closed_brace e d) (g ∷ gs) = a_closed_brace e (front_moved d gs)
front_moved (an_arrow e d) (g ∷ gs) = an_arrow e (front_moved d gs)
front_moved (a_make e d) (g ∷ gs) = a_make e (front_moved d (g ∷ g ∷ gs))
front_moved (a_run e d) (g ∷ gs) = a_run e (front_moved d (g ∷ gs))
front_moved (a_count e d) (g ∷ gs) = a_count e (front_moved d (g ∷ gs))
front_moved (no_count e d) (g ∷ gs) = no_count e (front_moved d gs)
front_moved (a_strategy e d) (g ∷ gs) = a_strategy e (front_moved d (g ∷ gs))
front_moved (a_strategy_name e d) (g ∷ gs) = a_strategy_name e (front_moved d (g ∷ gs))
front_moved (no_strategy_name e d) (g ∷ gs) = no_strategy_name e (front_moved d gs)
front_moved (a_remove_command e d) (g ∷ gs) = a_remove_command e (front_moved d (g ∷ gs))
front_moved (all_tags e d) (g ∷ gs) = all_tags e (front_moved d (g ∷ gs))
front_moved (a_first_tag e d) (g ∷ gs) = a_first_tag e (front_moved d (g ∷ gs))
front_moved (a_wm e d) (g ∷ gs) = a_wm e (front_moved d (g ∷ gs))
front_moved (one_more_tag e d) (g ∷ gs) = one_more_tag e (front_moved d (g ∷ gs))
front_moved (no_more_tags e d) (g ∷ gs) = no_more_tags e (front_moved d gs)
front_moved (a_ppwm e d) (g ∷ gs) = a_ppwm e (front_moved d (g ∷ gs))
front_moved (a_shown_class e d) (g ∷ gs) = a_shown_class e (front_moved d (g ∷ gs))
front_moved (all_shown e d) (g ∷ gs) = all_shown e (front_moved d gs)
front_moved (a_cs e d) (g ∷ gs) = a_cs e (front_moved d (g ∷ gs))
front_moved (an_exit e d) (g ∷ gs) = an_exit e (front_moved d (g ∷ gs))
front_moved (a_pm e d) (g ∷ gs) = a_pm e (front_moved d (g ∷ g ∷ gs))
front_moved (a_pbreak e d) (g ∷ gs) = a_pbreak e (front_moved d (g ∷ gs))
front_moved (an_excise e d) (g ∷ gs) = an_excise e (front_moved d (g ∷ g ∷ gs))
front_moved (a_matches e d) (g ∷ gs) = a_matches e (front_moved d (g ∷ g ∷ gs))
front_moved (a_named_rule e d) (g ∷ gs) = a_named_rule e (front_moved d gs)
front_moved (one_more_rule e d) (g ∷ gs) = one_more_rule e (front_moved d (g ∷ gs))
front_moved (no_more_rules e d) (g ∷ gs) = no_more_rules e (front_moved d gs)
front_moved (a_watch e d) (g ∷ gs) = a_watch e (front_moved d (g ∷ gs))
front_moved (a_back e d) (g ∷ gs) = a_back e (front_moved d (g ∷ gs))
front_moved (a_level e d) (g ∷ gs) = a_level e (front_moved d (g ∷ gs))
front_moved (some_undone e d) (g ∷ gs) = some_undone e (front_moved d (g ∷ gs))
front_moved (no_level e d) (g ∷ gs) = no_level e (front_moved d gs)
front_moved (one_undone e d) (g ∷ gs) = one_undone e (front_moved d gs)
front_moved (a_class_name e d) (g ∷ gs) = a_class_name e (front_moved d gs)
front_moved (a_term e d) (g ∷ gs) = a_term e (front_moved d (g ∷ gs))
front_moved (no_term e d) (g ∷ gs) = no_term e (front_moved d gs)
front_moved (a_scalar_attribute {vs = vs} {u = u} f {ws = rest} {ts = ts} is e d) (g ∷ gs) =
    a_scalar_attribute (g.place f) is e (subst (λ (x : Wanted). Derives vs (x ∷ Terms u ∷ front gs rest) ts) (behind_moved u f g) (front_moved d (g ∷ g ∷ gs)))
front_moved (a_vector_attribute f is e d) (g ∷ gs) = a_vector_attribute (g.place f) is e (front_moved d (g ∷ gs))
front_moved (one_more_place {f = f} d) (g ∷ gs) = one_more_place (front_moved d (g ∷ to_place (suc (g.place f)) ∷ gs))
front_moved (one_more_term d) (g ∷ gs) = one_more_term (front_moved d (g ∷ g ∷ gs))
front_moved (one_more_constant d) (g ∷ gs) = one_more_constant (front_moved d (g ∷ g ∷ gs))
front_moved (no_more_of_several d) (g ∷ gs) = no_more_of_several (front_moved d (g ∷ gs))
front_moved (a_value e d) (g ∷ gs) = a_value e (front_moved d gs)
front_moved (a_literal_value e d) (g ∷ gs) = a_literal_value e (front_moved d (g ∷ gs))
front_moved (a_function {t = t} e of_action d) (g ∷ gs) = a_function e (action_moved g t ∙ of_action) (front_moved d (g ∷ gs))
front_moved (a_compute depth e d) (g ∷ gs) = a_compute (g.depth depth) e (front_moved d (g ∷ place_only g ∷ gs))
front_moved (a_genatom e d) (g ∷ gs) = a_genatom e (front_moved d (g ∷ gs))
front_moved (an_accept e d) (g ∷ gs) = an_accept e (front_moved d (g ∷ gs))
front_moved (a_unit e d) (g ∷ gs) = a_unit e (front_moved d gs)
front_moved (a_bracketed_unit {d = depth} e d) (g ∷ gs) = a_bracketed_unit e (front_moved d (at_depth g.place (suc (g.depth depth)) ∷ gs))
front_moved (a_bracketed_compute e d) (g ∷ gs) = a_bracketed_compute e (front_moved d (g ∷ place_only g ∷ gs))
front_moved (a_bracketed_expression d) (g ∷ gs) = a_bracketed_expression (front_moved d (g ∷ place_only g ∷ gs))
front_moved (an_operation more e d) (g ∷ gs) = an_operation (g.waiting more) e (front_moved d (g ∷ g ∷ gs))
front_moved (no_operation e d) (g ∷ gs) = no_operation e (front_moved d gs)
front_moved (a_substr e d) (g ∷ gs) = a_substr e (front_moved d (g ∷ g ∷ gs))
front_moved (a_source e d) (g ∷ gs) = a_source e (front_moved d gs)
front_moved (a_source_attribute e d) (g ∷ gs) = a_source_attribute e (front_moved d (g ∷ g ∷ gs))
front_moved (the_same_again e same other d) (g ∷ gs) = the_same_again e same other (front_moved d gs)
front_moved (up_to_inf {t = t} e vector several d) (g ∷ gs) = up_to_inf e vector (several_moved g t ∙ several) (front_moved d gs)
front_moved (an_atom e d) (g ∷ gs) = an_atom e (front_moved d gs)
front_moved (a_conjunction e d) (g ∷ gs) = a_conjunction e (front_moved d (g ∷ gs))
front_moved (no_more_tests e d) (g ∷ gs) = no_more_tests e (front_moved d gs)
front_moved (an_operand e d) (g ∷ gs) = an_operand e (front_moved d gs)
front_moved (a_literal e d) (g ∷ gs) = a_literal e (front_moved d (g ∷ gs))
front_moved (a_predicate e d) (g ∷ gs) = a_predicate e (front_moved d (g ∷ gs))
front_moved (a_disjunction e d) (g ∷ gs) = a_disjunction e (front_moved d (g ∷ gs))
front_moved (one_more_operand e d) (g ∷ gs) = one_more_operand e (front_moved d (g ∷ gs))
front_moved (one_more_literal e d) (g ∷ gs) = one_more_literal e (front_moved d (g ∷ g ∷ gs))
front_moved (one_more_predicate e d) (g ∷ gs) = one_more_predicate e (front_moved d (g ∷ g ∷ gs))
front_moved (one_more_disjunction e d) (g ∷ gs) = one_more_disjunction e (front_moved d (g ∷ g ∷ gs))
front_moved (a_tested_operand e d) (g ∷ gs) = a_tested_operand e (front_moved d gs)
front_moved (a_tested_literal e d) (g ∷ gs) = a_tested_literal e (front_moved d (g ∷ gs))
front_moved (one_more_choice e d) (g ∷ gs) = one_more_choice e (front_moved d (g ∷ gs))
front_moved (no_more_choices e d) (g ∷ gs) = no_more_choices e (front_moved d gs)
front_moved (an_action e d) (g ∷ gs) = an_action e (front_moved d (g ∷ g ∷ gs))
front_moved (no_action e d) (g ∷ gs) = no_action e (front_moved d gs)
front_moved (to_make e d) (g ∷ gs) = to_make e (front_moved d (g ∷ g ∷ gs))
front_moved (to_modify e d) (g ∷ gs) = to_modify e (front_moved d (g ∷ g ∷ gs))
front_moved (to_bind e d) (g ∷ gs) = to_bind e (front_moved d (g ∷ g ∷ gs))
front_moved (to_cbind e d) (g ∷ gs) = to_cbind e (front_moved d (g ∷ g ∷ gs))
front_moved (to_remove e d) (g ∷ gs) = to_remove e (front_moved d (g ∷ g ∷ gs))
front_moved (to_write e d) (g ∷ gs) = to_write e (front_moved d (g ∷ gs))
front_moved (to_halt e d) (g ∷ gs) = to_halt e (front_moved d (g ∷ gs))
front_moved (to_build e d) (g ∷ gs) = to_build e (front_moved d (g ∷ g ∷ g ∷ g ∷ gs))
front_moved (a_built_name e d) (g ∷ gs) = a_built_name e (front_moved d gs)
front_moved (a_modified e d) (g ∷ gs) = a_modified e (front_moved d gs)
front_moved (a_bound_name e d) (g ∷ gs) = a_bound_name e (front_moved d gs)
front_moved (a_bound_value d) (g ∷ gs) = a_bound_value (front_moved d (g ∷ g ∷ gs))
front_moved (no_bound_value e d) (g ∷ gs) = no_bound_value e (front_moved d gs)
front_moved (a_cell_name e d) (g ∷ gs) = a_cell_name e (front_moved d gs)
front_moved (a_cell e d) (g ∷ gs) = a_cell e (front_moved d gs)
front_moved (one_more_cell e d) (g ∷ gs) = one_more_cell e (front_moved d (g ∷ gs))
front_moved (no_more_cells e d) (g ∷ gs) = no_more_cells e (front_moved d gs)
front_moved (an_item e d) (g ∷ gs) = an_item e (front_moved d (g ∷ gs))
front_moved (a_literal_item e d) (g ∷ gs) = a_literal_item e (front_moved d (g ∷ g ∷ gs))
front_moved (an_item_form e d) (g ∷ gs) = an_item_form e (front_moved d (g ∷ g ∷ gs))
front_moved (no_item e d) (g ∷ gs) = no_item e (front_moved d gs)
front_moved (a_crlf e d) (g ∷ gs) = a_crlf e (front_moved d (g ∷ gs))
front_moved (a_tab e d) (g ∷ gs) = a_tab e (front_moved d (g ∷ g ∷ gs))
front_moved (a_right e d) (g ∷ gs) = a_right e (front_moved d (g ∷ g ∷ gs))
front_moved (a_function_item d) (g ∷ gs) = a_function_item (front_moved d (g ∷ gs))
front_moved (some_columns e d) (g ∷ gs) = some_columns e (front_moved d gs)
front_moved (a_closing e d) (g ∷ gs) = a_closing e (front_moved d gs)

pub at_any_place : (vs : List Sym) (u : Use) (f : ℕ) (ws : List Wanted) (ts : List Word) → Derives vs (behind_attribute u f ∷ ws) ts → (g : ℕ) → Derives vs (behind_attribute u g ∷ ws) ts
at_any_place vs u f ws ts d g =
    subst (λ (x : Wanted). Derives vs (x ∷ ws) ts) (behind_moved u f (to_place g)) (front_moved d (to_place g ∷ []))

pub several_at_any_place : (vs : List Sym) (u : Use) (f : ℕ) (ws : List Wanted) (ts : List Word) → Derives vs (Several u f ∷ ws) ts → (g : ℕ) → Derives vs (Several u g ∷ ws) ts
several_at_any_place vs u f ws ts d g = front_moved d (to_place g ∷ [])

target_stands : (t : Target) → target_at standing_still t ≡ t
target_stands (ToTest f p) = refl
target_stands (ToPut f) = refl
target_stands (ToFixed f) = refl
target_stands ToTerms = refl
target_stands ToConstants = refl
target_stands ToItem = refl
target_stands ToBind = refl

into_stands : (more : List Waiting) (into : Option Target) → into_at (to_waiting more) into ≡ into
into_stands more (Some t) = ap Some (target_stands t)
into_stands more None = refl

-- Whatever waits there, the same derives from a unit and the rest of an expression.
pub whatever_waits : (vs : List Sym) (d : ℕ) (waiting : List Waiting) (into : Option Target) (ws : List Wanted) (ts : List Word) → Derives vs (ExpressionUnit d ∷ ExpressionRest d waiting into ∷ ws) ts → (more : List Waiting) → Derives vs (ExpressionUnit d ∷ ExpressionRest d more into ∷ ws) ts
whatever_waits vs d waiting into ws ts derives more =
    subst (λ (o : Option Target). Derives vs (ExpressionUnit d ∷ ExpressionRest d more o ∷ ws) ts) (into_stands more into)
    (front_moved derives (standing_still ∷ to_waiting more ∷ []))

-- However many brackets are open around an expression, the same derives.
pub at_any_depth : (vs : List Sym) (d : ℕ) (t : Target) (ws : List Wanted) (ts : List Word) → Derives vs (ExpressionUnit d ∷ ExpressionRest d [] (Some t) ∷ ws) ts → (n : ℕ) → Derives vs (ExpressionUnit n ∷ ExpressionRest n [] (Some t) ∷ ws) ts
at_any_depth vs d t ws ts derives n =
    subst (λ (o : Option Target). Derives vs (ExpressionUnit n ∷ ExpressionRest n [] o ∷ ws) ts) (into_stands [] (Some t))
    (front_moved derives (at_depth (λ f. f) n ∷ at_depth (λ f. f) n ∷ []))
