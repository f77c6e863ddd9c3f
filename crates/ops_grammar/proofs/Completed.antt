-- What is wanted can be completed.
use Rattle.std.specs.Prelude.{List, [], ◌∷◌, pos}
use Rattle.std.proofs.Common.{◌≡◌, Bool, true, false, refl, suc, arith}
use Rattle.std.proofs.lemmas.Bool.{eq-eqb, le-leb}
use Rattle.ops_base.specs.declared.values.Sym.{Sym}
use Rattle.ops_tokens.specs.declared.token.TokenKind.TheVariants as kind
use Rattle.ops_grammar.specs.declared.words.Word.{Word}
use Rattle.ops_grammar.specs.declared.words.Keyword.{Keyword}
use Rattle.ops_grammar.specs.declared.words.Keyword.TheVariants as keyword
use Rattle.ops_grammar.specs.Grammar.{Use, InPattern, InPut, InFixed, Wanted, Forms, Form, ClassDeclared, Attributes, VectorName, VectorNames, RuleName, FirstPattern, Patterns, Pattern, Braced, ElementName, ClosesBrace, ClassName, Terms, Attribute, Several, Place, Tests, Tested, Choice, Atom, ValueFor, Function, ExpressionUnit, ExpressionRest, Bracketed, SourceCell, SourceAttribute, SourceEnd, Actions, ActionWord, Modified, BoundName, BoundValue, CellName, Cell, Cells, Items, ItemWord, Columns, Count, StrategyName, TagOrAll, Tags, Shown, NamedRule, NamedRules, Level, Undone, Closes, is_name, is_one_of, behind_attribute, GroupBrace, Members, BuiltName}
use Rattle.ops_grammar.specs.Derivation.{with_name, Derives, nothing, no_form, a_class, no_attribute, a_vector, no_more_vectors, a_rule, a_first, a_whole_pattern, a_name_before, an_element_name, a_closed_brace, an_arrow, a_run, no_count, no_strategy_name, all_tags, no_more_tags, all_shown, a_named_rule, no_more_rules, no_level, one_undone, a_class_name, no_term, a_scalar_attribute, a_vector_attribute, no_more_of_several, a_value, a_unit, a_bracketed_expression, no_operation, a_substr, a_source, a_source_attribute, the_same_again, an_atom, no_more_tests, an_operand, a_tested_operand, no_more_choices, no_action, to_halt, a_modified, a_bound_name, no_bound_value, a_cell_name, a_cell, no_more_cells, no_item, a_crlf, some_columns, a_closing, a_group, a_member, no_member, a_built_name}

abbrev closing : Word
closing = record { kind = kind.Right; keyword = keyword.Other; name = record { 0 = 0 }; first = 0; past = 0 }

abbrev opening : Word
opening = record { kind = kind.Left; keyword = keyword.Other; name = record { 0 = 0 }; first = 0; past = 0 }

-- a name, which may be a keyword too
abbrev named : Keyword → Word
named k = record { kind = kind.Symbol; keyword = k; name = record { 0 = 0 }; first = 0; past = 0 }

-- a name that is no keyword
abbrev again : Sym → Word
again name = record { kind = kind.Symbol; keyword = keyword.Other; name = name; first = 0; past = 0 }

abbrev number : Word
number = record { kind = kind.Whole (pos 1); keyword = keyword.Other; name = record { 0 = 0 }; first = 0; past = 0 }

abbrev variable : Word
variable = record { kind = kind.Variable; keyword = keyword.Other; name = record { 0 = 0 }; first = 0; past = 0 }

abbrev opening_brace : Word
opening_brace = record { kind = kind.LeftBrace; keyword = keyword.Other; name = record { 0 = 0 }; first = 0; past = 0 }

abbrev closing_brace : Word
closing_brace = record { kind = kind.RightBrace; keyword = keyword.Other; name = record { 0 = 0 }; first = 0; past = 0 }

abbrev closing_choice : Word
closing_choice = record { kind = kind.Operator; keyword = keyword.CloseChoice; name = record { 0 = 0 }; first = 0; past = 0 }

abbrev pub Completed : List Sym → List Wanted → Type 0
Completed vs ws = (ts : List Word) × Derives vs ws ts

-- a value after a scalar attribute
scalar_completed : (vs : List Sym) (u : Use) (ws : List Wanted) → Completed vs ws → Completed vs (behind_attribute u 0 ∷ Terms u ∷ ws)
scalar_completed vs InPattern ws c = (number ∷ closing ∷ c.0, an_operand refl (no_term refl c.1))
scalar_completed vs InPut ws c = (number ∷ closing ∷ c.0, a_value refl (no_term refl c.1))
scalar_completed vs InFixed ws c = (number ∷ closing ∷ c.0, a_value refl (no_term refl c.1))

-- the name of an attribute of either kind begins what is wanted where one is
pub attribute_completed : (vs : List Sym) (u : Use) (ws : List Wanted) (w : Word) (b : Bool) → is_name w.kind ≡ true → is_one_of w.name vs ≡ b → Completed vs ws → (ts : List Word) × Derives vs (Attribute u ∷ ws) (w ∷ ts)
attribute_completed vs u ws w true is e c = (closing ∷ c.0, a_vector_attribute 0 is e (no_more_of_several (no_term refl c.1)))
attribute_completed vs u ws w false is e c = let k = scalar_completed vs u ws c in (k.0, a_scalar_attribute 0 is e k.1)

-- `( C )`, `( )` and the like after a head
complete : (vs : List Sym) (w : Wanted) (ws : List Wanted) → ((vs : List Sym) → Completed vs ws) → Completed vs (w ∷ ws)
complete vs Forms ws c = ((c vs).0, no_form (c vs).1)
complete vs Form ws c = (named keyword.Run ∷ closing ∷ (c vs).0, a_run refl (no_count refl (c vs).1))
complete vs ClassDeclared ws c = (named keyword.Other ∷ (c vs).0, a_class refl (c vs).1)
complete vs Attributes ws c = (closing ∷ (c vs).0, no_attribute refl (c vs).1)
complete vs VectorName ws c = let k = c (with_name (record { 0 = 0 }) vs) in (named keyword.Other ∷ k.0, a_vector refl k.1)
complete vs VectorNames ws c = (closing ∷ (c vs).0, no_more_vectors refl (c vs).1)
complete vs RuleName ws c = (named keyword.Other ∷ (c vs).0, a_rule refl (c vs).1)
complete vs BuiltName ws c = (named keyword.Other ∷ (c vs).0, a_built_name refl (c vs).1)
complete vs FirstPattern ws c = (opening ∷ named keyword.Other ∷ closing ∷ (c vs).0, a_first refl (a_class_name refl (no_term refl (c vs).1)))
complete vs GroupBrace ws c = (opening_brace ∷ opening ∷ named keyword.Other ∷ closing ∷ opening ∷ named keyword.Other ∷ closing ∷ closing_brace ∷ (c vs).0, a_group refl (a_member refl (a_class_name refl (no_term refl (a_member refl (a_class_name refl (no_term refl (no_member refl refl (c vs).1))))))))
complete vs (Members n) ws c = (opening ∷ named keyword.Other ∷ closing ∷ opening ∷ named keyword.Other ∷ closing ∷ closing_brace ∷ (c vs).0, a_member refl (a_class_name refl (no_term refl (a_member refl (a_class_name refl (no_term refl (no_member refl (le-leb 2 (suc (suc n)) (omega arith)) (c vs).1)))))))
complete vs Patterns ws c = (named keyword.Arrow ∷ (c vs).0, an_arrow refl (c vs).1)
complete vs Pattern ws c = (opening ∷ named keyword.Other ∷ closing ∷ (c vs).0, a_whole_pattern refl (a_class_name refl (no_term refl (c vs).1)))
complete vs Braced ws c =
    (variable ∷ opening ∷ named keyword.Other ∷ closing ∷ closing_brace ∷ (c vs).0, a_name_before refl (a_whole_pattern refl (a_class_name refl (no_term refl (a_closed_brace refl (c vs).1)))))
complete vs ElementName ws c = (variable ∷ (c vs).0, an_element_name refl (c vs).1)
complete vs ClosesBrace ws c = (closing_brace ∷ (c vs).0, a_closed_brace refl (c vs).1)
complete vs ClassName ws c = (named keyword.Other ∷ (c vs).0, a_class_name refl (c vs).1)
complete vs (Terms u) ws c = (closing ∷ (c vs).0, no_term refl (c vs).1)
complete vs (Attribute u) ws c =
    let k = attribute_completed vs u ws (named keyword.Other) (is_one_of (record { 0 = 0 }) vs) refl refl (c vs) in (named keyword.Other ∷ k.0, k.1)
complete vs (Several u f) ws c = (closing ∷ (c vs).0, no_more_of_several (no_term refl (c vs).1))
complete vs (Place f) ws c = (number ∷ (c vs).0, an_operand refl (c vs).1)
complete vs (Tests f) ws c = (closing_brace ∷ (c vs).0, no_more_tests refl (c vs).1)
complete vs (Tested f p) ws c = (number ∷ (c vs).0, a_tested_operand refl (c vs).1)
complete vs (Choice f) ws c = (closing_choice ∷ (c vs).0, no_more_choices refl (c vs).1)
complete vs (Atom t) ws c = (number ∷ (c vs).0, an_atom refl (c vs).1)
complete vs (ValueFor t) ws c = (number ∷ (c vs).0, a_value refl (c vs).1)
complete vs (Function t) ws c =
    (named keyword.Substr ∷ variable ∷ named keyword.Other ∷ named keyword.Other ∷ closing ∷ (c vs).0, a_substr refl (a_source refl (a_source_attribute refl (the_same_again refl refl refl (a_closing refl (c vs).1)))))
complete vs (ExpressionUnit d) ws c = (number ∷ (c vs).0, a_unit refl (c vs).1)
complete vs (ExpressionRest d waiting into) ws c = (closing ∷ (c vs).0, no_operation refl (c vs).1)
complete vs (Bracketed d) ws c = (number ∷ closing ∷ (c vs).0, a_bracketed_expression (a_unit refl (no_operation refl (c vs).1)))
complete vs SourceCell ws c = (variable ∷ (c vs).0, a_source refl (c vs).1)
complete vs (SourceAttribute t) ws c =
    (named keyword.Other ∷ named keyword.Other ∷ closing ∷ (c vs).0, a_source_attribute refl (the_same_again refl refl refl (a_closing refl (c vs).1)))
complete vs (SourceEnd t name) ws c = (again name ∷ (c vs).0, the_same_again refl (eq-eqb name.0 name.0 refl) refl (c vs).1)
complete vs (Actions b) ws c = (closing ∷ (c vs).0, no_action refl (c vs).1)
complete vs (ActionWord b) ws c = (named keyword.Halt ∷ closing ∷ (c vs).0, to_halt refl (a_closing refl (c vs).1))
complete vs Modified ws c = (number ∷ (c vs).0, a_modified refl (c vs).1)
complete vs BoundName ws c = (variable ∷ (c vs).0, a_bound_name refl (c vs).1)
complete vs BoundValue ws c = (closing ∷ (c vs).0, no_bound_value refl (c vs).1)
complete vs CellName ws c = (variable ∷ (c vs).0, a_cell_name refl (c vs).1)
complete vs Cell ws c = (number ∷ (c vs).0, a_cell refl (c vs).1)
complete vs Cells ws c = (closing ∷ (c vs).0, no_more_cells refl (c vs).1)
complete vs Items ws c = (closing ∷ (c vs).0, no_item refl (c vs).1)
complete vs ItemWord ws c = (named keyword.Crlf ∷ closing ∷ (c vs).0, a_crlf refl (a_closing refl (c vs).1))
complete vs (Columns column) ws c = (number ∷ (c vs).0, some_columns refl (c vs).1)
complete vs Count ws c = (closing ∷ (c vs).0, no_count refl (c vs).1)
complete vs StrategyName ws c = (closing ∷ (c vs).0, no_strategy_name refl (c vs).1)
complete vs TagOrAll ws c = (named keyword.Times ∷ closing ∷ (c vs).0, all_tags refl (a_closing refl (c vs).1))
complete vs (Tags u) ws c = (closing ∷ (c vs).0, no_more_tags refl (c vs).1)
complete vs Shown ws c = (closing ∷ (c vs).0, all_shown refl (c vs).1)
complete vs NamedRule ws c = (named keyword.Other ∷ (c vs).0, a_named_rule refl (c vs).1)
complete vs (NamedRules u) ws c = (closing ∷ (c vs).0, no_more_rules refl (c vs).1)
complete vs Level ws c = (closing ∷ (c vs).0, no_level refl (c vs).1)
complete vs Undone ws c = (closing ∷ (c vs).0, one_undone refl (c vs).1)
complete vs (Closes e) ws c = (closing ∷ (c vs).0, a_closing refl (c vs).1)

-- everything that is wanted can be completed, whatever the names of vector attributes are
pub completed : (vs : List Sym) (ws : List Wanted) → (ts : List Word) × Derives vs ws ts
completed vs [] = ([], nothing)
completed vs (w ∷ ws) = complete vs w ws (λ names. completed names ws)
