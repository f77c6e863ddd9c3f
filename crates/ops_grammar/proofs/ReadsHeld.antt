-- Each symbol of what is read is the place of a spelling that is held.
use Rattle.std.proofs.Common.{◌≡◌, ℕ, ◌+◌, ◌<◌, ◌≤◌, Bool, true, false, not, cond, ◌==◌, ◌&&◌, ◌||◌, List, [], ◌∷◌, ◌++◌, length, map, refl, sym, ap, ◌∙◌, arith, Option, Some, None, Result, Ok, Err, IfSome, nat_lt, length-append, position, slice_get, nat_le}
use Rattle.std.specs.Prelude.{filter, bytes_eq}
use Rattle.std.specs.List.{list_all}
use Rattle.std.proofs.lemmas.Bool.{and_parts, and_from, cond_both, lt-ltb, ltb-true}
use Rattle.std.proofs.lemmas.List.Folds.{list_all-append}
use Rattle.std.proofs.lemmas.List.Sums.{prefix_len-le-length}
use Rattle.ops_base.specs.declared.values.Sym.{Sym}
use Rattle.ops_base.specs.declared.values.Value.{Value}
use Rattle.ops_base.specs.declared.values.Pred.{Pred}
use Rattle.ops_base.specs.declared.values.Pred.TheVariants as pred
use Rattle.ops_base.specs.declared.elements.Class.{Class}
use Rattle.ops_base.specs.declared.conditions.Operand.{Operand}
use Rattle.ops_base.specs.declared.conditions.Operand.TheVariants as operand
use Rattle.ops_base.specs.declared.conditions.Test.{Test}
use Rattle.ops_base.specs.declared.conditions.Condition.{Condition}
use Rattle.ops_base.specs.declared.conditions.Part.TheVariants.{One, Group}
use Rattle.ops_base.specs.declared.actions.Term.{Term}
use Rattle.ops_base.specs.declared.actions.Term.TheVariants as term
use Rattle.ops_base.specs.declared.actions.Put.{Put}
use Rattle.ops_base.specs.declared.actions.Item.{Item}
use Rattle.ops_base.specs.declared.actions.Item.TheVariants as item
use Rattle.ops_base.specs.declared.actions.Action.{Action}
use Rattle.ops_base.specs.declared.actions.Action.TheVariants as action
use Rattle.ops_base.specs.declared.expression.Op.{Op}
use Rattle.ops_base.specs.Expression.{Formula}
use Rattle.ops_base.specs.declared.rules.Rule.{Rule}
use Rattle.ops_base.specs.declared.commands.Fixed.{Fixed}
use Rattle.ops_base.specs.declared.commands.Command.{Command}
use Rattle.ops_base.specs.declared.commands.Command.TheVariants as command
use Rattle.ops_base.specs.declared.commands.Strategy.{Strategy}
use Rattle.ops_base.specs.declared.endings.Fault.{Fault}
use Rattle.ops_base.specs.declared.endings.Fault.TheVariants as fault
use Rattle.ops_base.specs.Names.{Spellings, only_nil, place_of, with_spelling}
use Rattle.ops_base.specs.Valid.{longest_list, most_fields, most_conditions, class_of, is_vector, elements_of}
use Rattle.ops_tokens.specs.declared.token.TokenKind.{TokenKind}
use Rattle.ops_tokens.specs.declared.token.TokenKind.TheVariants as kind
use Rattle.ops_tokens.specs.declared.token.LexFault.{LexFault}
use Rattle.ops_tokens.specs.declared.token.Token.{Token}
use Rattle.ops_tokens.specs.Tokens.{spelling}
use Rattle.ops_grammar.specs.declared.words.Word.{Word}
use Rattle.ops_grammar.specs.declared.words.Keyword.{Keyword}
use Rattle.ops_grammar.specs.declared.words.Keyword.TheVariants as keyword
use Rattle.ops_grammar.specs.Words.{lexed, has_name, names_with, word_of, words_from, names_from, word_before, tokens_of}
use Rattle.ops_grammar.specs.Grammar.{Use, Target, Ends, Column, TagUse, NameUse, Waiting, Wanted, State, Step, is_left, is_right, is_left_brace, is_right_brace, is_caret, is_name, is_variable, is_arrow, is_literal, is_minus, opens_choice, closes_choice, pred_of, constant_of, atom_of, value_of, small_of, is_one_of, number_of, may_declare, is_class, is_rule, form, class_declared, arranged, has_vector, with_class, is_second, attribute_declared, attributes, with_vector_last, with_vector, makes_second, vector_declared, vector_name, vector_names, class_at, class_name, attributes_of, field_at, attribute, with_test, with_put, with_fixed, with_item, with_bind, with_constant, with_bound, variable_tested, constant_tested, tested, predicated, test, place, tests, with_choice, chosen, choice, atom_at, term_at, bound_at, constant_at, is_of_action, value_for, most_brackets, no_formula, with_formula, completed, unit_bound, unit_at, expression_unit, bracketed, is_compute, operation_of, operation_at, expression_ended, expression_rest, function, source_named, source_cell, source_class, source_at, source_attribute, takes_several, ends_at_inf, source_end, with_action, with_command, with_condition, put_action, fixed_command, with_element, terms, within, one_of_several, with_several, several, rule_name, first_pattern, one_more, more_patterns, patterns, pattern, element_at, element_name, braced, closes_brace, classes_of_cells, with_rule, actions, action_word, cell_of, with_designated, with_modified, bound_name, bound_value, cell_bound, cell_name, cells, items, item_word, column_item, columns_at, ended, closes, count_of, counted, count, strategy_of, strategy_set, strategy_name, tag_at, is_all, tag_or_all, tag_command, tags, shown, named_rule, name_command, named_rules, level_of, undone_of, level_set, undone_set, level, undone, forms, step, Outcome, ends, after, goes, nothing_read, InPattern, InPut, InFixed, ToTest, ToPut, ToFixed, ToTerms, ToConstants, ToItem, ToBind, EndsHalt, EndsCrlf, EndsCs, EndsExit, EndsWhole, ToTab, ToRight, ToRemove, ToShow, ToPrint, ToBreak, Forms, Form, ClassDeclared, Attributes, VectorName, VectorNames, RuleName, FirstPattern, Patterns, Pattern, Braced, ElementName, ClosesBrace, ClassName, Terms, Attribute, Several, Place, Tests, Tested, Choice, Atom, ValueFor, Function, ExpressionUnit, ExpressionRest, Bracketed, SourceCell, SourceAttribute, SourceEnd, Actions, ActionWord, Modified, BoundName, BoundValue, CellName, Cell, Cells, Items, ItemWord, Columns, Count, StrategyName, TagOrAll, Tags, Shown, NamedRule, NamedRules, Level, Undone, Closes, Next, Refuses, begins_group, GroupBrace, Members, members, group, with_group, with_member, with_one, has_room, ToExcise, ToMatch, is_beginning, rules_with, commands_with, rule_of, Outer, counting, with_hole, with_choice_of, constant_by, build_ended, side_ended, build_word, built_name, BuiltName}
use Rattle.ops_grammar.specs.Reads.{Read, Placed, verdict, reads, read_tokens}
use Rattle.ops_base.specs.Symbols.{symbol_held, value_held, class_held, operand_held, part_held, condition_held, term_held, put_held, item_held, action_held, rule_held, fixed_held, command_held, is_held}
use Rattle.ops_grammar.proofs.Constants.{constant_cases}
use Rattle.ops_grammar.proofs.Lists.{all_push}

-- ---- lists

all_filter : {X : Type 0} (p q : X → Bool) (xs : List X) → list_all p xs ≡ true → list_all p (filter q xs) ≡ true
all_filter p q [] h = refl
all_filter p q (x ∷ xs) h =
    let parts = and_parts (p x) (list_all p xs) h in
    let rest = all_filter p q xs parts.1 in
    cond_both (q x) (x ∷ filter q xs) (filter q xs) (λ ys. list_all p ys ≡ true) (λ _. and_from _ _ parts.0 rest) (λ _. rest)

all_map : {X : Type 0} (p : X → Bool) (f : X → X) (xs : List X) → ((x : X) → p x ≡ true → p (f x) ≡ true) → list_all p xs ≡ true → list_all p (map f xs) ≡ true
all_map p f [] kept h = refl
all_map p f (x ∷ xs) kept h =
    let parts = and_parts (p x) (list_all p xs) h in and_from _ _ (kept x parts.0) (all_map p f xs kept parts.1)

-- ---- what was read so far

-- of the production around the one that is read
abbrev pub around_held : ℕ → Option Outer → Bool
around_held n None = true
around_held n (Some o) = symbol_held n o.name && list_all (part_held n) o.conditions && list_all (action_held n) o.actions

-- Each symbol of what was read so far is held among this many. Names of variables do not count, since no program keeps them.
pub record AreHeld (n : ℕ) (s : State) : Type 0 where
  pub classes : list_all (class_held n) s.classes ≡ true
  pub rules : list_all (rule_held n) s.rules ≡ true
  pub commands : list_all (command_held n) s.commands ≡ true
  pub vectors : list_all (symbol_held n) s.vectors ≡ true
  pub name : symbol_held n s.name ≡ true
  pub attrs : list_all (symbol_held n) s.attrs ≡ true
  pub tests : list_all (λ t. operand_held n t.operand) s.tests ≡ true
  pub choice : list_all (value_held n) s.choice ≡ true
  pub terms : list_all (term_held n) s.terms ≡ true
  pub constants : list_all (value_held n) s.constants ≡ true
  pub puts : list_all (put_held n) s.puts ≡ true
  pub fixed : list_all (fixed_held n) s.fixed ≡ true
  pub items : list_all (item_held n) s.items ≡ true
  pub conditions : list_all (part_held n) s.conditions ≡ true
  pub members : list_all (condition_held n) s.members ≡ true
  pub actions : list_all (action_held n) s.actions ≡ true
  pub named : list_all (symbol_held n) s.named ≡ true
  pub templates : list_all (rule_held n) s.templates ≡ true
  pub around : around_held n s.outer ≡ true

-- a step that goes on leaves them held
abbrev Keeps : ℕ → Step → Type 0
Keeps n (Next ws s) = AreHeld n s
Keeps n (Refuses f) = Unit {0}

module _ (n : ℕ) where
  -- ---- one part more

  test_kept : (s : State) (f : ℕ) (p : Pred) (o : Operand) (binds : Bool) → AreHeld n s → operand_held n o ≡ true → AreHeld n (with_test s f p o binds)
  test_kept s f p o binds h e =
      let one : Test = record { field = f; pred = p; operand = o; binds = binds } in
      assumption (all_push (λ (t : Test). operand_held n t.operand) s.tests one h.tests e)

  put_kept : (s : State) (f : ℕ) (t : Term) → AreHeld n s → term_held n t ≡ true → AreHeld n (with_put s f t)
  put_kept s f t h e =
      let one : Put = record { field = f; terms = t ∷ [] } in assumption (all_push (put_held n) s.puts one h.puts (and_from _ _ e refl))

  fixed_kept : (s : State) (f : ℕ) (v : Value) → AreHeld n s → value_held n v ≡ true → AreHeld n (with_fixed s f v)
  fixed_kept s f v h e =
      let one : Fixed = record { field = f; values = v ∷ [] } in assumption (all_push (fixed_held n) s.fixed one h.fixed (and_from _ _ e refl))

  term_kept : (s : State) (t : Term) → AreHeld n s → term_held n t ≡ true → AreHeld n (record s { terms = s.terms ++ t ∷ [] })
  term_kept s t h e = assumption (all_push (term_held n) s.terms t h.terms e)

  item_kept : (s : State) (i : Item) → AreHeld n s → item_held n i ≡ true → AreHeld n (with_item s i)
  item_kept s i h e = assumption (all_push (item_held n) s.items i h.items e)

  action_kept : (s : State) (a : Action) → AreHeld n s → action_held n a ≡ true → AreHeld n (with_action s a)
  action_kept s a h e = assumption (all_push (action_held n) s.actions a h.actions e)

  command_kept : (s : State) (c : Command) → AreHeld n s → command_held n c ≡ true → AreHeld n (with_command s c)
  command_kept s c h e = assumption (all_push (command_held n) s.commands c h.commands e)

  bind_kept : (o : Option ℕ) (s : State) (t : Term) → AreHeld n s → term_held n t ≡ true → AreHeld n (with_bind o s t)
  bind_kept (Some m) s t h e = action_kept s (action.Bind m t) h e
  bind_kept None s t h e = let more = action_kept s (action.Bind s.variables t) h e in assumption more

  counted_kept : (s : State) → AreHeld n s → AreHeld n (counting s)
  counted_kept s h = assumption h

  hole_kept : (s : State) (m : ℕ) → AreHeld n s → AreHeld n (with_hole s m)
  hole_kept s m h = assumption h

  constant_kept : (t : Target) (s : State) (v : Value) → AreHeld n s → value_held n v ≡ true → AreHeld n (with_constant t s v)
  constant_kept (ToTest f p) s v h e = counted_kept _ (test_kept s f p (operand.Constant v) false h e)
  constant_kept (ToPut f) s v h e = counted_kept _ (put_kept s f (term.Constant v) h e)
  constant_kept (ToFixed f) s v h e = fixed_kept s f v h e
  constant_kept ToTerms s v h e = counted_kept _ (term_kept s (term.Constant v) h e)
  constant_kept ToConstants s v h e = assumption (all_push (value_held n) s.constants v h.constants e)
  constant_kept ToItem s v h e = counted_kept _ (item_kept s (item.Print (term.Constant v)) h e)
  constant_kept ToBind s v h e = counted_kept _ (bind_kept (number_of s.variable s.values) s (term.Constant v) h e)

  -- ---- classes

  arranged_held : (vectors attrs : List Sym) → list_all (symbol_held n) attrs ≡ true → list_all (symbol_held n) (arranged vectors attrs) ≡ true
  arranged_held vectors attrs h =
      list_all-append (symbol_held n) (filter (λ a. not (is_one_of a vectors)) attrs) (filter (λ a. is_one_of a vectors) attrs)
      ∙ and_from _ _ (all_filter (symbol_held n) (λ a. not (is_one_of a vectors)) attrs h) (all_filter (symbol_held n) (λ a. is_one_of a vectors) attrs h)

  class_kept : (s : State) → AreHeld n s → AreHeld n (with_class s)
  class_kept s h =
      let one : Class = record { name = s.name; attrs = arranged s.vectors s.attrs; vector = has_vector s.vectors s.attrs } in
      assumption (refl, all_push (class_held n) s.classes one h.classes (and_from _ _ h.name (arranged_held s.vectors s.attrs h.attrs)))

  vector_last_held : (name : Sym) (c : Class) → class_held n c ≡ true → class_held n (with_vector_last name c) ≡ true
  vector_last_held name c h =
      let parts = and_parts (symbol_held n c.name) (list_all (symbol_held n) c.attrs) h in
      cond_both (is_one_of name c.attrs) (record c { attrs = arranged (name ∷ []) c.attrs; vector = true }) c (λ d. class_held n d ≡ true)
      (λ _. and_from _ _ parts.0 (arranged_held (name ∷ []) c.attrs parts.1)) (λ _. h)

  vector_kept : (s : State) (name : Sym) → AreHeld n s → symbol_held n name ≡ true → AreHeld n (with_vector s name)
  vector_kept s name h e =
      assumption (all_push (symbol_held n) s.vectors name h.vectors e, all_map (class_held n) (with_vector_last name) s.classes (vector_last_held name) h.classes)

  -- ---- conditions, elements and rules

  group_kept : (s : State) → AreHeld n s → AreHeld n (with_group s)
  group_kept s h = assumption (refl, all_push (part_held n) s.conditions (Group s.members) h.conditions h.members)

  member_kept : (s : State) → AreHeld n s → AreHeld n (with_member s)
  member_kept s h =
      let one : Condition = record { class = s.class; negated = false; tests = s.tests } in
      assumption (refl, all_push (condition_held n) s.members one h.members h.tests)

  one_kept : (s : State) → AreHeld n s → AreHeld n (with_one s)
  one_kept s h =
      let one : Condition = record { class = s.class; negated = s.negated; tests = s.tests } in
      assumption (refl, all_push (part_held n) s.conditions (One one) h.conditions h.tests)

  condition_kept : (s : State) → AreHeld n s → AreHeld n (with_condition s)
  condition_kept s h = cond_both s.grouped _ _ (AreHeld n) (λ _. member_kept s h) (λ _. one_kept s h)

  put_action_held : (o : Option ℕ) (class : ℕ) (puts : List Put) → list_all (put_held n) puts ≡ true → action_held n (put_action o class puts) ≡ true
  put_action_held None class puts h = h
  put_action_held (Some cell) class puts h = h

  fixed_command_held : (shows : Bool) (class : ℕ) (puts : List Fixed) → list_all (fixed_held n) puts ≡ true → command_held n (fixed_command shows class puts) ≡ true
  fixed_command_held false class puts h = h
  fixed_command_held true class puts h = h

  element_kept : (u : Use) (s : State) → AreHeld n s → AreHeld n (with_element u s)
  element_kept InPattern s h = condition_kept s h
  element_kept InPut s h =
      let more = action_kept s (put_action s.modified s.class s.puts) h (put_action_held s.modified s.class s.puts h.puts) in assumption (refl, more)
  element_kept InFixed s h =
      let more = command_kept s (fixed_command s.shows s.class s.fixed) h (fixed_command_held s.shows s.class s.fixed h.fixed) in assumption (refl, more)

  several_kept : (u : Use) (f : ℕ) (s : State) → AreHeld n s → AreHeld n (with_several u f s)
  several_kept InPattern f s h = h
  several_kept InPut f s h =
      let one : Put = record { field = f; terms = s.terms } in assumption (refl, all_push (put_held n) s.puts one h.puts h.terms)
  several_kept InFixed f s h =
      let one : Fixed = record { field = f; values = s.constants } in assumption (refl, all_push (fixed_held n) s.fixed one h.fixed h.constants)

  choice_kept : (s : State) (f : ℕ) → AreHeld n s → AreHeld n (with_choice s f)
  choice_kept s f h = let more = test_kept s f pred.Eq (operand.OneOf s.choice) false h h.choice in assumption (refl, more)

  rules_held : (b : Bool) (rules : List Rule) (r : Rule) → list_all (rule_held n) rules ≡ true → rule_held n r ≡ true → list_all (rule_held n) (rules_with b rules r) ≡ true
  rules_held true rules r h e = all_push (rule_held n) rules r h e
  rules_held false rules r h e = h

  commands_held : (b : Bool) (commands : List Command) (r : Rule) → list_all (command_held n) commands ≡ true → rule_held n r ≡ true → list_all (command_held n) (commands_with b commands r) ≡ true
  commands_held true commands r h e = h
  commands_held false commands r h e = all_push (command_held n) commands (command.Add r) h e

  rule_kept : (s : State) (past : ℕ) → AreHeld n s → AreHeld n (with_rule s past)
  rule_kept s past h =
      let held : rule_held n (rule_of s past) ≡ true = and_from _ _ (and_from _ _ h.name h.conditions) h.actions in
      assumption (refl, rules_held (is_beginning s) s.rules (rule_of s past) h.rules held, commands_held (is_beginning s) s.commands (rule_of s past) h.commands held)

  -- ---- constants

  constant_held : (k : TokenKind) (name : Sym) → symbol_held n name ≡ true → IfSome (constant_of k name) (λ v. value_held n v ≡ true)
  constant_held (kind.Whole z) name e = refl
  constant_held kind.Symbol name e = e
  constant_held kind.Quoted name e = e
  constant_held _ name e = tt

  atom_held : (k : TokenKind) (name : Sym) → symbol_held n name ≡ true → IfSome (atom_of k name) (λ v. value_held n v ≡ true)
  atom_held (kind.Whole z) name e = refl
  atom_held kind.Symbol name e = e
  atom_held kind.Quoted name e = e
  atom_held kind.Operator name e = e
  atom_held kind.Variable name e = e
  atom_held _ name e = tt

  value_of_held : (k : TokenKind) (name : Sym) → symbol_held n name ≡ true → IfSome (value_of k name) (λ v. value_held n v ≡ true)
  value_of_held (kind.Whole z) name e = refl
  value_of_held kind.Symbol name e = e
  value_of_held kind.Quoted name e = e
  value_of_held kind.Operator name e = e
  value_of_held _ name e = tt

module _ (n : ℕ) (w : Word) (named : symbol_held n w.name ≡ true) where
  -- ---- declarations

  forms_keeps : (ws : List Wanted) (s : State) → AreHeld n s → Keeps n (forms w ws s)
  forms_keeps ws s h = cond_both (is_left w.kind) _ _ (Keeps n) (λ _. assumption h) (λ _. tt)

  form_keeps : (k : Keyword) (ws : List Wanted) (s : State) → AreHeld n s → Keeps n (form w k ws s)
  form_keeps keyword.Literalize ws s h = cond_both (may_declare s) _ _ (Keeps n) (λ _. h) (λ _. tt)
  form_keeps keyword.VectorAttribute ws s h = cond_both (may_declare s) _ _ (Keeps n) (λ _. h) (λ _. tt)
  form_keeps keyword.Production ws s h = h
  form_keeps keyword.Make ws s h = assumption (refl, h)
  form_keeps keyword.Remove ws s h = assumption h
  form_keeps keyword.Run ws s h = h
  form_keeps keyword.Wm ws s h = assumption h
  form_keeps keyword.Ppwm ws s h = h
  form_keeps keyword.Cs ws s h = h
  form_keeps keyword.Pm ws s h = assumption (refl, h)
  form_keeps keyword.Strategy ws s h = h
  form_keeps keyword.Watch ws s h = h
  form_keeps keyword.Back ws s h = h
  form_keeps keyword.Pbreak ws s h = assumption (refl, h)
  form_keeps keyword.Excise ws s h = assumption (refl, h)
  form_keeps keyword.Matches ws s h = assumption (refl, h)
  form_keeps keyword.Exit ws s h = h
  form_keeps _ ws s h = tt

  class_declared_keeps : (ws : List Wanted) (s : State) → AreHeld n s → Keeps n (class_declared w ws s)
  class_declared_keeps ws s h =
      cond_both (is_name w.kind) _ _ (Keeps n) (λ _. cond_both (is_class s w.name) _ _ (Keeps n) (λ _. tt) (λ _. assumption (refl, named, h))) (λ _. tt)

  attribute_declared_keeps : (ws : List Wanted) (s : State) → AreHeld n s → Keeps n (attribute_declared w ws s)
  attribute_declared_keeps ws s h =
      cond_both (is_one_of w.name s.attrs) _ _ (Keeps n) (λ _. tt)
      (λ _. cond_both (is_second w.name s) _ _ (Keeps n) (λ _. tt)
      (λ _. cond_both (nat_lt (length s.attrs) most_fields) _ _ (Keeps n) (λ _. assumption (all_push (symbol_held n) s.attrs w.name h.attrs named)) (λ _. tt)))

  attributes_keeps : (ws : List Wanted) (s : State) → AreHeld n s → Keeps n (attributes w ws s)
  attributes_keeps ws s h =
      cond_both (is_right w.kind) _ _ (Keeps n) (λ _. class_kept n s h)
      (λ _. cond_both (is_name w.kind) _ _ (Keeps n) (λ _. attribute_declared_keeps ws s h) (λ _. tt))

  vector_declared_keeps : (ws : List Wanted) (s : State) → AreHeld n s → Keeps n (vector_declared w ws s)
  vector_declared_keeps ws s h =
      cond_both (is_one_of w.name s.vectors) _ _ (Keeps n) (λ _. h)
      (λ _. cond_both (makes_second w.name s.classes) _ _ (Keeps n) (λ _. tt) (λ _. vector_kept n s w.name h named))

  vector_name_keeps : (ws : List Wanted) (s : State) → AreHeld n s → Keeps n (vector_name w ws s)
  vector_name_keeps ws s h = cond_both (is_name w.kind) _ _ (Keeps n) (λ _. vector_declared_keeps ws s h) (λ _. tt)

  vector_names_keeps : (ws : List Wanted) (s : State) → AreHeld n s → Keeps n (vector_names w ws s)
  vector_names_keeps ws s h = cond_both (is_right w.kind) _ _ (Keeps n) (λ _. h) (λ _. vector_name_keeps (VectorNames ∷ ws) s h)

  -- ---- elements

  class_at_keeps : (o : Option ℕ) (ws : List Wanted) (s : State) → AreHeld n s → Keeps n (class_at o ws s)
  class_at_keeps (Some c) ws s h = assumption h
  class_at_keeps None ws s h = tt

  class_name_keeps : (ws : List Wanted) (s : State) → AreHeld n s → Keeps n (class_name w ws s)
  class_name_keeps ws s h =
      cond_both (is_name w.kind) _ _ (Keeps n) (λ _. class_at_keeps (position (λ c. c.name.0 == w.name.0) s.classes) ws s h) (λ _. tt)

  field_at_keeps : (u : Use) (o : Option ℕ) (ws : List Wanted) (s : State) → AreHeld n s → Keeps n (field_at u o ws s)
  field_at_keeps u (Some f) ws s h = cond_both (is_vector (class_of s.classes s.class) f) _ _ (Keeps n) (λ _. assumption (refl, h)) (λ _. h)
  field_at_keeps u None ws s h = tt

  attribute_keeps : (u : Use) (ws : List Wanted) (s : State) → AreHeld n s → Keeps n (attribute u w ws s)
  attribute_keeps u ws s h =
      cond_both (is_name w.kind) _ _ (Keeps n)
      (λ _. field_at_keeps u (position (λ a. a.0 == w.name.0) (attributes_of (slice_get s.classes s.class))) ws s h) (λ _. tt)

  terms_keeps : (u : Use) (ws : List Wanted) (s : State) → AreHeld n s → Keeps n (terms u w ws s)
  terms_keeps u ws s h =
      cond_both (is_right w.kind) _ _ (Keeps n) (λ _. element_kept n u s h)
      (λ _. cond_both (is_caret w.kind) _ _ (Keeps n) (λ _. h) (λ _. tt))

  -- ---- tests

  bound_kept : (s : State) (f : ℕ) (name : Sym) → AreHeld n s → AreHeld n (with_bound s f name)
  bound_kept s f name h =
      let one : Test = record { field = f; pred = pred.Eq; operand = operand.Variable s.variables; binds = true } in
      assumption (all_push (λ (t : Test). operand_held n t.operand) s.tests one h.tests refl)

  constant_word_keeps : (t : Target) (v : Value) (ws : List Wanted) (s : State) → value_held n v ≡ true → AreHeld n s → Keeps n (constant_by w.keyword (λ r. Next ws (with_constant t r v)) s)
  constant_word_keeps t v ws s held h =
      constant_cases w.keyword (λ r. Next ws (with_constant t r v)) s (Keeps n) (λ _. tt) (constant_kept n t s v h held) (λ variable m found. constant_kept n t (with_hole s m) v (hole_kept n s m h) held)

  variable_tested_keeps : (f : ℕ) (p : Pred) (o : Option ℕ) (name : Sym) (ws : List Wanted) (s : State) → AreHeld n s → Keeps n (variable_tested f p o name ws s)
  variable_tested_keeps f p (Some m) name ws s h = test_kept n s f p (operand.Variable m) false h refl
  variable_tested_keeps f pred.Eq None name ws s h = bound_kept s f name h
  variable_tested_keeps f _ None name ws s h = tt

  constant_tested_keeps : (f : ℕ) (p : Pred) (o : Option Value) (ws : List Wanted) (s : State) → IfSome o (λ v. value_held n v ≡ true) → AreHeld n s → Keeps n (constant_tested f p w o ws s)
  constant_tested_keeps f p (Some v) ws s held h = constant_word_keeps (ToTest f p) v ws s held h
  constant_tested_keeps f p None ws s held h =
      cond_both (is_variable w.kind) _ _ (Keeps n) (λ _. variable_tested_keeps f p (number_of w.name s.values) w.name ws s h) (λ _. tt)

  tested_keeps : (f : ℕ) (p : Pred) (ws : List Wanted) (s : State) → AreHeld n s → Keeps n (tested f p w ws s)
  tested_keeps f p ws s h =
      cond_both (is_literal w.keyword) _ _ (Keeps n) (λ _. h)
      (λ _. constant_tested_keeps f p (constant_of w.kind w.name) ws s (constant_held n w.kind w.name named) h)

  predicated_keeps : (f : ℕ) (o : Option Pred) (ws : List Wanted) (s : State) → AreHeld n s → Keeps n (predicated f w o ws s)
  predicated_keeps f (Some p) ws s h = h
  predicated_keeps f None ws s h = tested_keeps f pred.Eq ws s h

  one_test_keeps : (f : ℕ) (ws : List Wanted) (s : State) → AreHeld n s → Keeps n (test f w ws s)
  one_test_keeps f ws s h =
      cond_both (opens_choice w.keyword) _ _ (Keeps n) (λ _. assumption (refl, h)) (λ _. predicated_keeps f (pred_of w.keyword) ws s h)

  place_keeps : (f : ℕ) (ws : List Wanted) (s : State) → AreHeld n s → Keeps n (place f w ws s)
  place_keeps f ws s h = cond_both (is_left_brace w.kind) _ _ (Keeps n) (λ _. h) (λ _. one_test_keeps f ws s h)

  tests_keeps : (f : ℕ) (ws : List Wanted) (s : State) → AreHeld n s → Keeps n (tests f w ws s)
  tests_keeps f ws s h = cond_both (is_right_brace w.kind) _ _ (Keeps n) (λ _. h) (λ _. one_test_keeps f (Tests f ∷ ws) s h)

  chosen_keeps : (o : Option Value) (ws : List Wanted) (s : State) → IfSome o (λ v. value_held n v ≡ true) → AreHeld n s → Keeps n (chosen w.keyword o ws s)
  chosen_keeps (Some v) ws s held h =
      constant_cases w.keyword (λ r. Next ws (with_choice_of r v)) s (Keeps n) (λ _. tt) (more s h) (λ variable m found. more (with_hole s m) (hole_kept n s m h))
    where
      more : (r : State) → AreHeld n r → AreHeld n (with_choice_of r v)
      more r k = assumption (all_push (value_held n) r.choice v k.choice held)
  chosen_keeps None ws s held h = tt

  choice_keeps : (f : ℕ) (ws : List Wanted) (s : State) → AreHeld n s → Keeps n (choice f w ws s)
  choice_keeps f ws s h =
      cond_both (closes_choice w.keyword) _ _ (Keeps n) (λ _. choice_kept n s f h)
      (λ _. chosen_keeps (atom_of w.kind w.name) (Choice f ∷ ws) s (atom_held n w.kind w.name named) h)

  atom_at_keeps : (t : Target) (o : Option Value) (ws : List Wanted) (s : State) → IfSome o (λ v. value_held n v ≡ true) → AreHeld n s → Keeps n (atom_at t w.keyword o ws s)
  atom_at_keeps t (Some v) ws s held h = constant_word_keeps t v ws s held h
  atom_at_keeps t None ws s held h = tt

  -- ---- values

  term_at_keeps : (t : Target) (x : Term) (ws : List Wanted) (s : State) → AreHeld n s → term_held n x ≡ true → Keeps n (term_at t x ws s)
  term_at_keeps (ToPut f) x ws s h e = put_kept n s f x h e
  term_at_keeps ToTerms x ws s h e = term_kept n s x h e
  term_at_keeps ToItem x ws s h e = item_kept n s (item.Print x) h e
  term_at_keeps ToBind x ws s h e = bind_kept n (number_of s.variable s.values) s x h e
  term_at_keeps _ x ws s h e = tt

  bound_at_keeps : (t : Target) (o : Option ℕ) (ws : List Wanted) (s : State) → AreHeld n s → Keeps n (bound_at t o ws s)
  bound_at_keeps t (Some m) ws s h = term_at_keeps t (term.Variable m) ws s h refl
  bound_at_keeps t None ws s h = tt

  constant_at_keeps : (t : Target) (o : Option Value) (ws : List Wanted) (s : State) → IfSome o (λ v. value_held n v ≡ true) → AreHeld n s → Keeps n (constant_at t w o ws s)
  constant_at_keeps t (Some v) ws s held h = constant_word_keeps t v ws s held h
  constant_at_keeps t None ws s held h =
      cond_both (is_variable w.kind) _ _ (Keeps n) (λ _. bound_at_keeps t (number_of w.name s.values) ws s h) (λ _. tt)

  value_for_keeps : (t : Target) (ws : List Wanted) (s : State) → AreHeld n s → Keeps n (value_for t w ws s)
  value_for_keeps t ws s h =
      cond_both (is_literal w.keyword) _ _ (Keeps n) (λ _. h)
      (λ _. cond_both (is_left w.kind && is_of_action t) _ _ (Keeps n) (λ _. h)
      (λ _. constant_at_keeps t (value_of w.kind w.name) ws s (value_of_held n w.kind w.name named) h))

  -- ---- compute

  unit_bound_keeps : (o : Option ℕ) (ws : List Wanted) (s : State) → AreHeld n s → Keeps n (unit_bound o ws s)
  unit_bound_keeps (Some m) ws s h = assumption h
  unit_bound_keeps None ws s h = tt

  unit_at_keeps : (k : TokenKind) (ws : List Wanted) (s : State) → AreHeld n s → Keeps n (unit_at k w.name ws s)
  unit_at_keeps (kind.Whole m) ws s h = assumption h
  unit_at_keeps kind.Variable ws s h = unit_bound_keeps (number_of w.name s.values) ws s h
  unit_at_keeps _ ws s h = tt

  unit_keeps : (d : ℕ) (ws : List Wanted) (s : State) → AreHeld n s → Keeps n (expression_unit d w ws s)
  unit_keeps d ws s h =
      cond_both (is_left w.kind) _ _ (Keeps n) (λ _. cond_both (nat_lt d most_brackets) _ _ (Keeps n) (λ _. h) (λ _. tt)) (λ _. unit_at_keeps w.kind ws s h)

  bracketed_keeps : (d : ℕ) (ws : List Wanted) (s : State) → AreHeld n s → Keeps n (bracketed d w ws s)
  bracketed_keeps d ws s h = cond_both (is_compute w.keyword) _ _ (Keeps n) (λ _. h) (λ _. unit_keeps d (ExpressionRest d [] None ∷ ws) s h)

  operation_keeps : (d : ℕ) (waiting : List Waiting) (into : Option Target) (o : Option Op) (ws : List Wanted) (s : State) → AreHeld n s → Keeps n (operation_at d waiting into o ws s)
  operation_keeps d waiting into (Some o) ws s h = h
  operation_keeps d waiting into None ws s h = tt

  expression_ended_keeps : (into : Option Target) (f : Formula) (ws : List Wanted) (s : State) → AreHeld n s → Keeps n (expression_ended into f ws s)
  expression_ended_keeps (Some t) f ws s h = term_at_keeps t (term.Compute f) ws (with_formula s no_formula) (assumption h) refl
  expression_ended_keeps None f ws s h = assumption h

  expression_rest_keeps : (d : ℕ) (waiting : List Waiting) (into : Option Target) (ws : List Wanted) (s : State) → AreHeld n s → Keeps n (expression_rest d waiting into w ws s)
  expression_rest_keeps d waiting into ws s h =
      cond_both (is_right w.kind) _ _ (Keeps n) (λ _. expression_ended_keeps into (completed s.formula waiting) ws s h)
      (λ _. operation_keeps d waiting into (operation_of w.keyword) ws s h)

  -- ---- functions

  function_keeps : (t : Target) (k : Keyword) (ws : List Wanted) (s : State) → AreHeld n s → Keeps n (function t k ws s)
  function_keeps t keyword.Substr ws s h = h
  function_keeps t keyword.Compute ws s h = h
  function_keeps t keyword.Genatom ws s h = term_at_keeps t term.Fresh (Closes EndsWhole ∷ ws) s h refl
  function_keeps t keyword.Accept ws s h = term_at_keeps t term.Accept (Closes EndsWhole ∷ ws) s h refl
  function_keeps t _ ws s h = tt

  source_named_keeps : (o : Option ℕ) (ws : List Wanted) (s : State) → AreHeld n s → Keeps n (source_named o ws s)
  source_named_keeps (Some c) ws s h = assumption h
  source_named_keeps None ws s h = tt

  source_cell_keeps : (ws : List Wanted) (s : State) → AreHeld n s → Keeps n (source_cell w ws s)
  source_cell_keeps ws s h =
      cond_both (is_variable w.kind) _ _ (Keeps n) (λ _. source_named_keeps (number_of w.name s.elements) ws s h) (λ _. tt)

  source_at_keeps : (t : Target) (o : Option ℕ) (ws : List Wanted) (s : State) → AreHeld n s → Keeps n (source_at t w.name o ws s)
  source_at_keeps t (Some f) ws s h = assumption h
  source_at_keeps t None ws s h = tt

  source_attribute_keeps : (t : Target) (ws : List Wanted) (s : State) → AreHeld n s → Keeps n (source_attribute t w ws s)
  source_attribute_keeps t ws s h =
      cond_both (is_name w.kind) _ _ (Keeps n)
      (λ _. source_at_keeps t (position (λ a. a.0 == w.name.0) (source_class s).attrs) ws s h) (λ _. tt)

  source_end_keeps : (t : Target) (name : Sym) (ws : List Wanted) (s : State) → AreHeld n s → Keeps n (source_end t name w ws s)
  source_end_keeps t name ws s h =
      cond_both (ends_at_inf w s) _ _ (Keeps n)
      (λ _. cond_both (takes_several t) _ _ (Keeps n) (λ _. term_at_keeps t (term.Rest s.source) ws s h refl) (λ _. tt))
      (λ _. cond_both (is_name w.kind && (w.name.0 == name.0)) _ _ (Keeps n)
      (λ _. term_at_keeps t (term.One s.source s.source_field) ws s h refl) (λ _. tt))

  -- ---- the vector attribute

  within_keeps : (fits : Bool) (step : Step) → Keeps n step → Keeps n (within fits step)
  within_keeps true step h = h
  within_keeps false (Next ws s) h = tt
  within_keeps false (Refuses f) h = tt

  one_of_several_keeps : (u : Use) (f : ℕ) (ws : List Wanted) (s : State) → AreHeld n s → Keeps n (one_of_several u f w ws s)
  one_of_several_keeps InPattern f ws s h = within_keeps (nat_lt f most_fields) _ (place_keeps f (Several InPattern (f + 1) ∷ ws) s h)
  one_of_several_keeps InPut f ws s h = value_for_keeps ToTerms (Several InPut f ∷ ws) s h
  one_of_several_keeps InFixed f ws s h =
      within_keeps (nat_lt (f + length s.constants) most_fields) _ (value_for_keeps ToConstants (Several InFixed f ∷ ws) s h)

  several_keeps : (u : Use) (f : ℕ) (ws : List Wanted) (s : State) → AreHeld n s → Keeps n (several u f w ws s)
  several_keeps u f ws s h =
      cond_both (is_right w.kind || is_caret w.kind) _ _ (Keeps n) (λ _. terms_keeps u ws (with_several u f s) (several_kept n u f s h))
      (λ _. one_of_several_keeps u f ws s h)

  -- ---- productions

  rule_name_keeps : (ws : List Wanted) (s : State) → AreHeld n s → Keeps n (rule_name w ws s)
  rule_name_keeps ws s h =
      cond_both (is_name w.kind) _ _ (Keeps n) (λ _. cond_both (is_rule s w.name) _ _ (Keeps n) (λ _. tt) (λ _. assumption (refl, named, h))) (λ _. tt)

  first_pattern_keeps : (ws : List Wanted) (s : State) → AreHeld n s → Keeps n (first_pattern w ws s)
  first_pattern_keeps ws s h =
      cond_both (is_left w.kind) _ _ (Keeps n) (λ _. h)
      (λ _. cond_both (is_left_brace w.kind) _ _ (Keeps n) (λ _. h) (λ _. cond_both (is_minus w.keyword || begins_group w.keyword) _ _ (Keeps n) (λ _. tt) (λ _. tt)))

  one_more_keeps : (ws : List Wanted) (s : State) → AreHeld n s → Keeps n (one_more ws s)
  one_more_keeps ws s h = cond_both (nat_lt (length (elements_of s.conditions)) most_conditions) _ _ (Keeps n) (λ _. h) (λ _. tt)

  more_patterns_keeps : (ws : List Wanted) (s : State) → AreHeld n s → Keeps n (more_patterns w ws s)
  more_patterns_keeps ws s h =
      cond_both (is_left w.kind) _ _ (Keeps n) (λ _. one_more_keeps (ClassName ∷ Terms InPattern ∷ ws) s h)
      (λ _. cond_both (is_left_brace w.kind) _ _ (Keeps n) (λ _. one_more_keeps (Braced ∷ ws) s h)
      (λ _. cond_both (is_minus w.keyword) _ _ (Keeps n) (λ _. one_more_keeps (Pattern ∷ ws) (record s { negated = true; around = length s.values }) (assumption h))
      (λ _. cond_both (begins_group w.keyword) _ _ (Keeps n) (λ _. h) (λ _. tt))))

  members_keeps : (m : ℕ) (ws : List Wanted) (s : State) → AreHeld n s → Keeps n (members m w ws s)
  members_keeps m ws s h =
      cond_both (is_right_brace w.kind && nat_le 2 m) _ _ (Keeps n) (λ _. let more = group_kept n s h in assumption (refl, more))
      (λ _. cond_both (is_left w.kind) _ _ (Keeps n) (λ _. cond_both (has_room s) _ _ (Keeps n) (λ _. h) (λ _. tt)) (λ _. tt))

  group_keeps : (ws : List Wanted) (s : State) → AreHeld n s → Keeps n (group w ws s)
  group_keeps ws s h = cond_both (is_left_brace w.kind) _ _ (Keeps n) (λ _. assumption (refl, h)) (λ _. tt)

  patterns_keeps : (ws : List Wanted) (s : State) → AreHeld n s → Keeps n (patterns w ws s)
  patterns_keeps ws s h = cond_both (is_arrow w.keyword) _ _ (Keeps n) (λ _. assumption (refl, h)) (λ _. more_patterns_keeps (Patterns ∷ ws) s h)

  pattern_keeps : (ws : List Wanted) (s : State) → AreHeld n s → Keeps n (pattern w ws s)
  pattern_keeps ws s h = cond_both (is_left w.kind) _ _ (Keeps n) (λ _. h) (λ _. tt)

  element_at_keeps : (o : Option ℕ) (name : Sym) (ws : List Wanted) (s : State) → AreHeld n s → Keeps n (element_at o name ws s)
  element_at_keeps (Some c) name ws s h = tt
  element_at_keeps None name ws s h = assumption h

  element_name_keeps : (ws : List Wanted) (s : State) → AreHeld n s → Keeps n (element_name w ws s)
  element_name_keeps ws s h =
      cond_both (is_variable w.kind) _ _ (Keeps n) (λ _. element_at_keeps (number_of w.name s.elements) w.name ws s h) (λ _. tt)

  braced_keeps : (ws : List Wanted) (s : State) → AreHeld n s → Keeps n (braced w ws s)
  braced_keeps ws s h = cond_both (is_left w.kind) _ _ (Keeps n) (λ _. h) (λ _. element_name_keeps (Pattern ∷ ClosesBrace ∷ ws) s h)

  closes_brace_keeps : (ws : List Wanted) (s : State) → AreHeld n s → Keeps n (closes_brace w ws s)
  closes_brace_keeps ws s h = cond_both (is_right_brace w.kind) _ _ (Keeps n) (λ _. assumption h) (λ _. tt)

  -- ---- right sides

  template_kept : (o : Option Outer) (s : State) (past : ℕ) → around_held n o ≡ true → AreHeld n s → AreHeld n (build_ended o s (rule_of s past))
  template_kept None s past e h = h
  template_kept (Some o) s past e h =
      let build : Action = action.Build (length s.templates) s.holes in
      let whole = and_parts (symbol_held n o.name && list_all (part_held n) o.conditions) (list_all (action_held n) o.actions) e in
      let front = and_parts (symbol_held n o.name) (list_all (part_held n) o.conditions) whole.0 in
      let rule = and_from _ _ (and_from _ _ h.name h.conditions) h.actions in
      let templates = all_push (rule_held n) s.templates (rule_of s past) h.templates rule in
      let actions = all_push (action_held n) o.actions build whole.1 refl in
      assumption (refl, templates, actions, front.0, front.1, h)

  side_kept : (b : Bool) (s : State) (past : ℕ) → AreHeld n s → AreHeld n (side_ended b s past)
  side_kept false s past h = rule_kept n s past h
  side_kept true s past h = template_kept s.outer s past h.around h

  actions_keeps : (b : Bool) (ws : List Wanted) (s : State) → AreHeld n s → Keeps n (actions b w ws s)
  actions_keeps b ws s h =
      cond_both (is_right w.kind) _ _ (Keeps n) (λ _. side_kept b s w.past h) (λ _. cond_both (is_left w.kind) _ _ (Keeps n) (λ _. assumption h) (λ _. tt))

  build_keeps : (b : Bool) (ws : List Wanted) (s : State) → AreHeld n s → Keeps n (build_word b ws s)
  build_keeps true ws s h = tt
  build_keeps false ws s h = let around = and_from _ _ (and_from _ _ h.name h.conditions) h.actions in assumption (refl, around, h)

  built_name_keeps : (ws : List Wanted) (s : State) → AreHeld n s → Keeps n (built_name w ws s)
  built_name_keeps ws s h = cond_both (is_name w.kind) _ _ (Keeps n) (λ _. assumption (named, h)) (λ _. tt)

  action_word_keeps : (b : Bool) (k : Keyword) (ws : List Wanted) (s : State) → AreHeld n s → Keeps n (action_word b k ws s)
  action_word_keeps b keyword.Make ws s h = assumption (refl, h)
  action_word_keeps b keyword.Modify ws s h = assumption (refl, h)
  action_word_keeps b keyword.Bind ws s h = h
  action_word_keeps b keyword.Cbind ws s h = h
  action_word_keeps b keyword.Remove ws s h = assumption h
  action_word_keeps b keyword.Write ws s h = assumption (refl, h)
  action_word_keeps b keyword.Halt ws s h = h
  action_word_keeps b keyword.Build ws s h = build_keeps b ws s h
  action_word_keeps b _ ws s h = tt

  designated_keeps : (r : Result ℕ Fault) (ws : List Wanted) (s : State) → AreHeld n s → Keeps n (with_designated r ws s)
  designated_keeps (Ok c) ws s h = assumption h
  designated_keeps (Err f) ws s h = tt

  modified_keeps : (r : Result ℕ Fault) (ws : List Wanted) (s : State) → AreHeld n s → Keeps n (with_modified r ws s)
  modified_keeps (Ok c) ws s h = assumption h
  modified_keeps (Err f) ws s h = tt

  bound_name_keeps : (ws : List Wanted) (s : State) → AreHeld n s → Keeps n (bound_name w ws s)
  bound_name_keeps ws s h = cond_both (is_variable w.kind) _ _ (Keeps n) (λ _. assumption h) (λ _. tt)

  bound_value_keeps : (ws : List Wanted) (s : State) → AreHeld n s → Keeps n (bound_value w ws s)
  bound_value_keeps ws s h =
      cond_both (is_right w.kind) _ _ (Keeps n) (λ _. bind_kept n (number_of s.variable s.values) s term.Fresh h refl)
      (λ _. value_for_keeps ToBind (Closes EndsWhole ∷ ws) s h)

  cell_bound_keeps : (o : Option ℕ) (name : Sym) (ws : List Wanted) (s : State) → AreHeld n s → Keeps n (cell_bound o name ws s)
  cell_bound_keeps (Some class) name ws s h =
      let more = action_kept n s (action.Cbind (length (classes_of_cells s))) h refl in assumption more
  cell_bound_keeps None name ws s h = tt

  cell_name_keeps : (ws : List Wanted) (s : State) → AreHeld n s → Keeps n (cell_name w ws s)
  cell_name_keeps ws s h = cond_both (is_variable w.kind) _ _ (Keeps n) (λ _. cell_bound_keeps s.made w.name ws s h) (λ _. tt)

  cells_keeps : (ws : List Wanted) (s : State) → AreHeld n s → Keeps n (cells w ws s)
  cells_keeps ws s h =
      let more = action_kept n s (action.Remove s.cells) h refl in
      cond_both (is_right w.kind) _ _ (Keeps n) (λ _. assumption more) (λ _. designated_keeps (cell_of w.kind w.name s) (Cells ∷ ws) s h)

  items_keeps : (ws : List Wanted) (s : State) → AreHeld n s → Keeps n (items w ws s)
  items_keeps ws s h =
      let more = action_kept n s (action.Write s.items) h h.items in
      cond_both (is_right w.kind) _ _ (Keeps n) (λ _. assumption (refl, more))
      (λ _. cond_both (is_left w.kind) _ _ (Keeps n) (λ _. h) (λ _. value_for_keeps ToItem (Items ∷ ws) s h))

  item_word_keeps : (k : Keyword) (ws : List Wanted) (s : State) → AreHeld n s → Keeps n (item_word k ws s)
  item_word_keeps keyword.Crlf ws s h = h
  item_word_keeps keyword.Tabto ws s h = h
  item_word_keeps keyword.Rjust ws s h = h
  item_word_keeps keyword.Substr ws s h = function_keeps ToItem keyword.Substr ws s h
  item_word_keeps keyword.Compute ws s h = function_keeps ToItem keyword.Compute ws s h
  item_word_keeps keyword.Genatom ws s h = function_keeps ToItem keyword.Genatom ws s h
  item_word_keeps keyword.Accept ws s h = function_keeps ToItem keyword.Accept ws s h
  item_word_keeps _ ws s h = tt

  column_held : (c : Column) (m : ℕ) → item_held n (column_item c m) ≡ true
  column_held ToTab m = refl
  column_held ToRight m = refl

  columns_keeps : (c : Column) (o : Option ℕ) (ws : List Wanted) (s : State) → AreHeld n s → Keeps n (columns_at c o ws s)
  columns_keeps c (Some m) ws s h = item_kept n s (column_item c m) h (column_held c m)
  columns_keeps c None ws s h = tt

  ended_kept : (e : Ends) (s : State) → AreHeld n s → AreHeld n (ended e s)
  ended_kept EndsHalt s h = action_kept n s action.Halt h refl
  ended_kept EndsCrlf s h = item_kept n s item.Crlf h refl
  ended_kept EndsCs s h = command_kept n s command.Cs h refl
  ended_kept EndsExit s h = command_kept n s command.Exit h refl
  ended_kept EndsWhole s h = h

  closes_keeps : (e : Ends) (ws : List Wanted) (s : State) → AreHeld n s → Keeps n (closes e w ws s)
  closes_keeps e ws s h = cond_both (is_right w.kind) _ _ (Keeps n) (λ _. ended_kept e s h) (λ _. tt)

  -- ---- commands

  counted_keeps : (o : Option ℕ) (ws : List Wanted) (s : State) → AreHeld n s → Keeps n (counted o ws s)
  counted_keeps (Some m) ws s h = command_kept n s (command.Run (Some m)) h refl
  counted_keeps None ws s h = tt

  count_keeps : (ws : List Wanted) (s : State) → AreHeld n s → Keeps n (count w ws s)
  count_keeps ws s h =
      cond_both (is_right w.kind) _ _ (Keeps n) (λ _. command_kept n s (command.Run None) h refl) (λ _. counted_keeps (count_of w.kind) ws s h)

  strategy_set_keeps : (o : Option Strategy) (ws : List Wanted) (s : State) → AreHeld n s → Keeps n (strategy_set o ws s)
  strategy_set_keeps (Some g) ws s h = command_kept n s (command.Strategy (Some g)) h refl
  strategy_set_keeps None ws s h = tt

  strategy_name_keeps : (ws : List Wanted) (s : State) → AreHeld n s → Keeps n (strategy_name w ws s)
  strategy_name_keeps ws s h =
      cond_both (is_right w.kind) _ _ (Keeps n) (λ _. command_kept n s (command.Strategy None) h refl)
      (λ _. strategy_set_keeps (strategy_of w.keyword) ws s h)

  tag_keeps : (o : Option ℕ) (ws : List Wanted) (s : State) → AreHeld n s → Keeps n (tag_at o ws s)
  tag_keeps (Some m) ws s h = assumption h
  tag_keeps None ws s h = tt

  tag_or_all_keeps : (ws : List Wanted) (s : State) → AreHeld n s → Keeps n (tag_or_all w ws s)
  tag_or_all_keeps ws s h =
      cond_both (is_all w.keyword) _ _ (Keeps n) (λ _. command_kept n s command.RemoveAll h refl) (λ _. tag_keeps (count_of w.kind) (Tags ToRemove ∷ ws) s h)

  tag_command_held : (u : TagUse) (tags : List ℕ) → command_held n (tag_command u tags) ≡ true
  tag_command_held ToRemove tags = refl
  tag_command_held ToShow tags = refl

  tags_keeps : (u : TagUse) (ws : List Wanted) (s : State) → AreHeld n s → Keeps n (tags u w ws s)
  tags_keeps u ws s h =
      let more = command_kept n s (tag_command u s.tags) h (tag_command_held u s.tags) in
      cond_both (is_right w.kind) _ _ (Keeps n) (λ _. assumption more) (λ _. tag_keeps (count_of w.kind) (Tags u ∷ ws) s h)

  shown_keeps : (ws : List Wanted) (s : State) → AreHeld n s → Keeps n (shown w ws s)
  shown_keeps ws s h =
      cond_both (is_right w.kind) _ _ (Keeps n) (λ _. command_kept n s (command.Ppwm None) h refl)
      (λ _. class_name_keeps (Terms InFixed ∷ ws) (record s { fixed = []; shows = true }) (assumption (refl, h)))

  named_rule_keeps : (ws : List Wanted) (s : State) → AreHeld n s → Keeps n (named_rule w ws s)
  named_rule_keeps ws s h = cond_both (is_name w.kind) _ _ (Keeps n) (λ _. assumption (all_push (symbol_held n) s.named w.name h.named named)) (λ _. tt)

  name_command_held : (u : NameUse) (names : List Sym) → list_all (symbol_held n) names ≡ true → command_held n (name_command u names) ≡ true
  name_command_held ToPrint names h = h
  name_command_held ToBreak names h = h
  name_command_held ToExcise names h = h
  name_command_held ToMatch names h = h

  named_rules_keeps : (u : NameUse) (ws : List Wanted) (s : State) → AreHeld n s → Keeps n (named_rules u w ws s)
  named_rules_keeps u ws s h =
      let more = command_kept n s (name_command u s.named) h (name_command_held u s.named h.named) in
      cond_both (is_right w.kind) _ _ (Keeps n) (λ _. assumption (refl, more)) (λ _. named_rule_keeps (NamedRules u ∷ ws) s h)

  level_set_keeps : (o : Option ℕ) (ws : List Wanted) (s : State) → AreHeld n s → Keeps n (level_set o ws s)
  level_set_keeps (Some m) ws s h = command_kept n s (command.Watch (Some m)) h refl
  level_set_keeps None ws s h = tt

  undone_set_keeps : (o : Option ℕ) (ws : List Wanted) (s : State) → AreHeld n s → Keeps n (undone_set o ws s)
  undone_set_keeps (Some m) ws s h = command_kept n s (command.Back m) h refl
  undone_set_keeps None ws s h = tt

  level_keeps : (ws : List Wanted) (s : State) → AreHeld n s → Keeps n (level w ws s)
  level_keeps ws s h =
      cond_both (is_right w.kind) _ _ (Keeps n) (λ _. command_kept n s (command.Watch None) h refl) (λ _. level_set_keeps (level_of w.kind) ws s h)

  undone_keeps : (ws : List Wanted) (s : State) → AreHeld n s → Keeps n (undone w ws s)
  undone_keeps ws s h =
      cond_both (is_right w.kind) _ _ (Keeps n) (λ _. command_kept n s (command.Back 1) h refl) (λ _. undone_set_keeps (undone_of w.kind) ws s h)

  -- ---- a word

  step_keeps : (ws : List Wanted) (s : State) → AreHeld n s → Keeps n (step w ws s)
  unfolding step
  step_keeps [] s h = tt
  step_keeps (Forms ∷ ws) s h = forms_keeps ws s h
  step_keeps (Form ∷ ws) s h = form_keeps w.keyword ws s h
  step_keeps (ClassDeclared ∷ ws) s h = class_declared_keeps ws s h
  step_keeps (Attributes ∷ ws) s h = attributes_keeps ws s h
  step_keeps (VectorName ∷ ws) s h = vector_name_keeps ws s h
  step_keeps (VectorNames ∷ ws) s h = vector_names_keeps ws s h
  step_keeps (RuleName ∷ ws) s h = rule_name_keeps ws s h
  step_keeps (FirstPattern ∷ ws) s h = first_pattern_keeps ws s h
  step_keeps (Patterns ∷ ws) s h = patterns_keeps ws s h
  step_keeps (GroupBrace ∷ ws) s h = group_keeps ws s h
  step_keeps (Members m ∷ ws) s h = members_keeps m ws s h
  step_keeps (Pattern ∷ ws) s h = pattern_keeps ws s h
  step_keeps (Braced ∷ ws) s h = braced_keeps ws s h
  step_keeps (ElementName ∷ ws) s h = element_name_keeps ws s h
  step_keeps (ClosesBrace ∷ ws) s h = closes_brace_keeps ws s h
  step_keeps (ClassName ∷ ws) s h = class_name_keeps ws s h
  step_keeps (Terms u ∷ ws) s h = terms_keeps u ws s h
  step_keeps (Attribute u ∷ ws) s h = attribute_keeps u ws s h
  step_keeps (Several u f ∷ ws) s h = several_keeps u f ws s h
  step_keeps (Place f ∷ ws) s h = place_keeps f ws s h
  step_keeps (Tests f ∷ ws) s h = tests_keeps f ws s h
  step_keeps (Tested f p ∷ ws) s h = tested_keeps f p ws s h
  step_keeps (Choice f ∷ ws) s h = choice_keeps f ws s h
  step_keeps (Atom t ∷ ws) s h = atom_at_keeps t (atom_of w.kind w.name) ws s (atom_held n w.kind w.name named) h
  step_keeps (ValueFor t ∷ ws) s h = value_for_keeps t ws s h
  step_keeps (Function t ∷ ws) s h = function_keeps t w.keyword ws s h
  step_keeps (ExpressionUnit d ∷ ws) s h = unit_keeps d ws s h
  step_keeps (ExpressionRest d waiting into ∷ ws) s h = expression_rest_keeps d waiting into ws s h
  step_keeps (Bracketed d ∷ ws) s h = bracketed_keeps d ws s h
  step_keeps (SourceCell ∷ ws) s h = source_cell_keeps ws s h
  step_keeps (SourceAttribute t ∷ ws) s h = source_attribute_keeps t ws s h
  step_keeps (SourceEnd t name ∷ ws) s h = source_end_keeps t name ws s h
  step_keeps (Actions b ∷ ws) s h = actions_keeps b ws s h
  step_keeps (ActionWord b ∷ ws) s h = action_word_keeps b w.keyword ws s h
  step_keeps (BuiltName ∷ ws) s h = built_name_keeps ws s h
  step_keeps (Modified ∷ ws) s h = modified_keeps (cell_of w.kind w.name s) ws s h
  step_keeps (BoundName ∷ ws) s h = bound_name_keeps ws s h
  step_keeps (BoundValue ∷ ws) s h = bound_value_keeps ws s h
  step_keeps (CellName ∷ ws) s h = cell_name_keeps ws s h
  step_keeps (Cell ∷ ws) s h = designated_keeps (cell_of w.kind w.name s) ws s h
  step_keeps (Cells ∷ ws) s h = cells_keeps ws s h
  step_keeps (Items ∷ ws) s h = items_keeps ws s h
  step_keeps (ItemWord ∷ ws) s h = item_word_keeps w.keyword ws s h
  step_keeps (Columns c ∷ ws) s h = columns_keeps c (small_of w.kind) ws s h
  step_keeps (Count ∷ ws) s h = count_keeps ws s h
  step_keeps (StrategyName ∷ ws) s h = strategy_name_keeps ws s h
  step_keeps (TagOrAll ∷ ws) s h = tag_or_all_keeps ws s h
  step_keeps (Tags u ∷ ws) s h = tags_keeps u ws s h
  step_keeps (Shown ∷ ws) s h = shown_keeps ws s h
  step_keeps (NamedRule ∷ ws) s h = named_rule_keeps ws s h
  step_keeps (NamedRules u ∷ ws) s h = named_rules_keeps u ws s h
  step_keeps (Level ∷ ws) s h = level_keeps ws s h
  step_keeps (Undone ∷ ws) s h = undone_keeps ws s h
  step_keeps (Closes e ∷ ws) s h = closes_keeps e ws s h

-- ---- names only grow

name_placed : (held : List (List ℕ)) (s : List ℕ) → place_of held s < length (with_spelling held s)
name_placed held s =
    let le = prefix_len-le-length (λ t. not (bytes_eq s t)) held in
    let more = length-append held (s ∷ []) in
    cond_both (nat_lt (place_of held s) (length held)) held (held ++ s ∷ []) (λ new. place_of held s < length new) (λ t. ltb-true _ _ t) (λ _. omega (arith, le, more))

spellings_grow : (held : List (List ℕ)) (s : List ℕ) → length held ≤ length (with_spelling held s)
spellings_grow held s =
    let more = length-append held (s ∷ []) in
    cond_both (nat_lt (place_of held s) (length held)) held (held ++ s ∷ []) (λ new. length held ≤ length new) (λ _. omega arith) (λ _. omega (arith, more))

names_grow : (names : Spellings) (k : TokenKind) (s : List ℕ) → length names.held ≤ length (names_with names k s).held
names_grow names k s =
    cond_both (has_name k) (record names { held = with_spelling names.held s }) names (λ new. length names.held ≤ length new.held) (λ _. spellings_grow names.held s) (λ _. omega arith)

-- the name of a word is held after its token
name_held : (names : Spellings) (b : Bool) (s : List ℕ) → 0 < length names.held → cond b (place_of names.held s) 0 < length (cond b (record names { held = with_spelling names.held s }) names).held
name_held names true s some = name_placed names.held s
name_held names false s some = some

names_grow_on : (text : List ℕ) (names : Spellings) (ts : List Token) → length names.held ≤ length (names_from text names ts).held
names_grow_on text names [] = omega arith
names_grow_on text names (t ∷ ts) =
    let one = names_grow names t.kind (spelling text t) in
    let others = names_grow_on text (names_with names t.kind (spelling text t)) ts in
    omega (arith, one, others)

-- ---- the walk over the words

-- what was read is held
abbrev IsDone : ℕ → Outcome → Type 0
IsDone n (Ok s) = is_held n s.classes s.rules s.templates s.commands ≡ true
IsDone n (Err e) = Unit {0}

ends_held : (n : ℕ) (ws : List Wanted) (s : State) → AreHeld n s → IsDone n (ends ws s)
unfolding ends
ends_held n [] s h = and_from _ _ (and_from _ _ (and_from _ _ h.classes h.rules) h.templates) h.commands
ends_held n (Forms ∷ ws) s h = ends_held n ws s h
ends_held n (w ∷ ws) s h = tt

goes_by : (n : ℕ) (w : Word) (rest : List Wanted → State → Outcome) (r : Step) → ((ws : List Wanted) (s : State) → AreHeld n s → IsDone n (rest ws s)) → Keeps n r → IsDone n (after rest w r)
goes_by n w rest (Next ws s) ih h = ih ws s h
goes_by n w rest (Refuses f) ih h = tt

goes_held : (source : List ℕ) (names : Spellings) (ts : List Token) (n : ℕ) (ws : List Wanted) (s : State) → 0 < length names.held → length (names_from source names ts).held ≤ n → AreHeld n s → IsDone n (goes (words_from source names ts) ws s)
unfolding goes
goes_held source names [] n ws s some le h = ends_held n ws s h
goes_held source names (t ∷ ts) n ws s some le h =
    let names' = names_with names t.kind (spelling source t) in
    let w = word_before (word_of source names t) ts in
    let lt : w.name.0 < length names'.held = name_held names (has_name t.kind) (spelling source t) some in
    let grown = names_grow names t.kind (spelling source t) in
    let others = names_grow_on source names' ts in
    goes_by n w (goes (words_from source names' ts)) (step w ws s) (λ ws' s' h'. goes_held source names' ts n ws' s' (omega (arith, some, grown)) le h')
    (step_keeps n w (lt-ltb w.name.0 n (omega (arith, lt, others, le))) ws s h)

-- ---- the law

nothing_held : (n : ℕ) → 0 < n → AreHeld n nothing_read
nothing_held n some = assumption (refl, lt-ltb 0 n some)

verdict_held : (text : ℕ) (names : Spellings) (stop : Option LexFault) (o : Outcome) (r : Read) → IsDone (length names.held) o → verdict text names stop o ≡ Ok r → is_held (length r.names.held) r.classes r.rules r.templates r.commands ≡ true
verdict_held text names stop (Err (f, Some w)) r done e = absurd (cc)
verdict_held text names stop (Err (f, None)) r done e = absurd (cc)
verdict_held text names (Some f) (Ok s) r done e = absurd (cc)
verdict_held text names None (Ok s) r done e =
    let same : record { classes = s.classes; rules = s.rules; templates = s.templates; commands = s.commands; names = names } ≡ r = cc in
    ap (λ (q : Read). is_held (length q.names.held) q.classes q.rules q.templates q.commands) (sym same) ∙ done

by_length : (text : List ℕ) (r : Read) (long : Bool) → (let x : Result Read Placed = cond long (Err (record { fault = fault.TooLong; at = 0 })) (read_tokens text (lexed text).stop (tokens_of text)) in x ≡ Ok r) → is_held (length r.names.held) r.classes r.rules r.templates r.commands ≡ true
by_length text r true e = absurd (cc)
by_length text r false e =
    let names = names_from text only_nil (tokens_of text) in
    let grown = names_grow_on text only_nil (tokens_of text) in
    verdict_held (length text) names (lexed text).stop (goes (words_from text only_nil (tokens_of text)) (Forms ∷ []) nothing_read) r
    (goes_held text only_nil (tokens_of text) (length names.held) (Forms ∷ []) nothing_read (omega arith) (omega arith) (nothing_held (length names.held) (omega (arith, grown))))
    e

pub reads-held : (text : List ℕ) (r : Read) → reads text ≡ Ok r → is_held (length r.names.held) r.classes r.rules r.templates r.commands ≡ true
unfolding reads
reads-held text r e = by_length text r (nat_lt longest_list (length text)) e
