-- Each word leads from what has a spelling to what has one.
use Rattle.std.proofs.Common.{◌≡◌, ℕ, suc, ◌+◌, ◌-◌, ◌<◌, Bool, true, false, ◌&&◌, ◌||◌, ◌==◌, not, cond, List, [], ◌∷◌, ◌++◌, length, take, refl, sym, ap, ◌∙◌, arith, Option, Some, None, is_some, Result, Ok, Err, nat_lt, nat_le, pos, unwrap_or, slice_get, position, get_or, length-append, subst, true≢false, ◌≤◌}
use Rattle.std.specs.List.{list_all, list_any}
use Rattle.std.proofs.lemmas.Bool.{cond_both, and_parts, and_from, or_left, or_right, eqb-true, lt-ltb, ltb-true, leb-true, le-leb}
use Rattle.std.proofs.lemmas.List.Elements.{All-push}
use Rattle.std.proofs.lemmas.List.Quantifiers.{position-Some}
use Rattle.std.proofs.lemmas.Option.{slice_get-get_or}
use Rattle.std.proofs.lemmas.List.{take_all}
use Rattle.ops_base.specs.declared.values.Sym.{Sym}
use Rattle.ops_base.specs.declared.values.Value.{Value}
use Rattle.ops_base.specs.declared.values.Pred.{Pred}
use Rattle.ops_base.specs.declared.values.Pred.TheVariants as pred
use Rattle.ops_base.specs.declared.elements.Class.{Class}
use Rattle.ops_base.specs.declared.conditions.Operand.{Operand}
use Rattle.ops_base.specs.declared.conditions.Operand.TheVariants as operand
use Rattle.ops_base.specs.declared.conditions.Test.{Test}
use Rattle.ops_base.specs.declared.conditions.Condition.{Condition}
use Rattle.ops_base.specs.declared.conditions.Part.{Part}
use Rattle.ops_base.specs.declared.conditions.Part.TheVariants.{One, Group}
use Rattle.ops_base.specs.declared.expression.Op.{Op}
use Rattle.ops_base.specs.Expression.{Formula}
use Rattle.ops_base.specs.Expression as formula
use Rattle.ops_base.specs.declared.actions.Term.{Term}
use Rattle.ops_base.specs.declared.actions.Term.TheVariants as term
use Rattle.ops_base.specs.declared.actions.Put.{Put}
use Rattle.ops_base.specs.declared.actions.Hole.{Hole}
use Rattle.ops_base.specs.declared.actions.Item.{Item}
use Rattle.ops_base.specs.declared.actions.Item.TheVariants as item
use Rattle.ops_base.specs.declared.actions.Action.TheVariants as action
use Rattle.ops_base.specs.declared.rules.Rule.{Rule}
use Rattle.ops_base.specs.declared.commands.Fixed.{Fixed}
use Rattle.ops_base.specs.declared.commands.Command.{Command}
use Rattle.ops_base.specs.declared.commands.Command.TheVariants as command
use Rattle.ops_base.specs.declared.commands.Strategy.{Strategy}
use Rattle.ops_base.specs.declared.endings.Fault.{Fault}
use Rattle.ops_base.specs.declared.endings.Fault.TheVariants as fault
use Rattle.ops_base.specs.Filling.{one, in_test, in_condition, in_part, in_term, in_put, in_item, total}
use Rattle.ops_base.specs.Valid.{most_fields, most_conditions, no_class, class_of, is_attribute, is_vector, is_column, is_natural, cells_of, fixed_is_valid, elements_of, first_is_positive}
use Rattle.ops_tokens.specs.declared.token.TokenKind.{TokenKind}
use Rattle.ops_tokens.specs.declared.token.TokenKind.TheVariants as kind
use Rattle.ops_grammar.specs.declared.words.Word.{Word}
use Rattle.ops_grammar.specs.declared.words.Keyword.{Keyword}
use Rattle.ops_grammar.specs.declared.words.Keyword.TheVariants as keyword
use Rattle.ops_grammar.specs.Grammar.{Use, InPattern, InPut, InFixed, Target, ToTest, ToPut, ToFixed, ToTerms, ToConstants, ToItem, ToBind, EndsWhole, Column, ToTab, ToRight, TagUse, ToRemove, ToShow, NameUse, ToPrint, ToBreak, Wanted, Forms, Attributes, VectorNames, Patterns, Pattern, ClosesBrace, Terms, Several, Choice, ExpressionRest, SourceAttribute, Cells, Items, Tags, NamedRules, Closes, is_left, is_right, is_left_brace, is_right_brace, is_caret, is_name, is_variable, is_arrow, is_literal, is_minus, opens_choice, closes_choice, pred_of, constant_of, atom_of, value_of, natural_of, small_of, is_one_of, number_of, precedes_classes, may_declare, is_class, is_rule, form, class_declared, is_second, attribute_declared, attributes, arranged, has_vector, makes_second, vector_declared, vector_name, class_at, class_name, attributes_of, behind_attribute, field_at, with_test, with_item, with_constant, with_bound, variable_tested, constant_tested, tested, predicated, test, with_choice, chosen, choice, atom_at, term_at, bound_at, constant_at, is_of_action, value_for, function, most_brackets, no_formula, with_formula, Waiting, completed, is_compute, operation_of, unit_bound, unit_at, expression_unit, bracketed, operation_at, expression_rest, source_named, source_class, source_at, takes_several, is_inf, ends_at_inf, source_end, with_command, fixed_command, with_element, with_several, terms, within, one_of_several, several, place, one_more, patterns, element_at, element_name, action_word, classes_of_cells, designated, numbered_cell, named_cell, cell_of, with_designated, with_modified, bound_value, cell_bound, item_word, column_item, columns_at, count_of, counted, count, strategy_of, strategy_set, strategy_name, tag_at, is_all, tag_or_all, tag_command, tags, shown, named_rule, name_command, named_rules, level_of, undone_of, level_set, undone_set, level, undone, State, Step, Next, Refuses, step, is_absent, begins_group, members, group, with_member, with_one, has_room, ClassName, ToExcise, ToMatch, Outer, with_bind, counting, constant_by, with_choice_of, build_word, build_ended, side_ended, rule_of}
use Rattle.ops_grammar.specs.Spelling.{nothing_numbered, tests_are_plain, after_tests, after_conditions, InSight, cell_is_plain, term_is_plain, put_is_plain, item_is_plain, command_is_plain, after_members, members_are_plain, Numbered, is_add}
use Rattle.ops_grammar.proofs.Lists.{all_push, all_none, all_at}
use Rattle.ops_grammar.proofs.Parts.{has_cell, elements_push, no_elements, elements_push_group}
use Rattle.ops_grammar.proofs.Sound.{Braces, Bare, NamedBefore, NamedBehind, behind, HasTags, HasNames, at, outer, AsMember, several_at, several_outer, sides, below}
use Rattle.ops_grammar.proofs.Constants.{constant_cases}
use Rattle.ops_grammar.proofs.PlainClasses.{IsArranged, IsAttributes, class_arranged, classes_arranged, attributes_begun, attribute_pushed}
use Rattle.ops_grammar.proofs.PlainFormulas.{IsOperand, AreOperands, AreOpen, outermost, bracket, operand_completed, operand_bracketed}
use Rattle.ops_grammar.proofs.Plain.{numbers_in, in_sight, Base, Right, Declaring, Around, IsBegun, IsOfCell, IsElement, Conditions, HasCells, HasItems, AtTags, AtNames, HasAttribute, IsVector, HasMore, HasSeveral, IsSource, Spot, HasPlace, HasTarget, Counted, left_count, right_count, RightSet, depth_of, at_built_name, behind_place, behind_test, behind_target, IsPlainly, at_forms, at_form, at_class_declared, at_attributes, at_vector_name, at_vector_names, at_rule_name, at_first_pattern, at_patterns, at_pattern, at_braced, at_element_name, at_closes_brace, at_class_name, at_terms, at_attribute, at_several, at_place, at_tests, at_tested, at_choice, at_atom, at_value, at_function, at_expression_unit, at_last_rest, at_bracketed_rest, at_bracketed, at_source_cell, at_source_attribute, at_source_end, at_actions, at_action_word, at_modified, at_bound_name, at_bound_value, at_cell_name, at_cell, at_cells, at_items, at_item_word, at_columns, at_whole, at_crlf, at_halt, at_count, at_strategy_name, at_tag_or_all, at_tags, at_shown, at_named_rule, at_named_rules, at_level, at_undone, at_cs, at_exit, Keeps, after_conditions-push, conditions_push, condition_counted, begun_positive, begins_first, begins_behind, number_sighted, cells_more, number_below, below_more, placed, numbered_inside, AmongMembers, at_group, at_members, members_push, after_members-push, positive_push, numbered_in, Left}
use Rattle.ops_grammar.proofs.PlainKept.{command_kept, commands_still, action_kept, element_kept, bind_kept, cell_kept, test_kept, test_bound, choosing, put_kept, fixed_kept, several_begun, several_kept, term_pushed, constant_pushed, right_kept, negated_begun, rule_kept, element_bound, counted_before, choice_pushed, right_set, read_at, build_begins, build_ends}
use Rattle.ops_grammar.proofs.PlainBuilt.{Grows, constant_grows, hole_grows, total-push, recounted, right_done}

-- ---- designators

designated_by : (b m : Bool) (before c : ℕ) → (let r : Result ℕ Fault = cond b (Err fault.BadDesignator) (cond m (Err fault.AmbiguousDesignator) (Ok before)) in r ≡ Ok c) → (b ≡ false) × (m ≡ false) × (before ≡ c)
designated_by true m before c e = absurd (cc)
designated_by false true before c e = absurd (cc)
designated_by false false before c e = (refl, refl, cc)

designated_there : (s : State) (before : ℕ) (o : Option Part) (c : ℕ) → slice_get s.conditions before ≡ o → designated before o s ≡ Ok c → c < length (classes_of_cells s)
designated_there s before None c e found = absurd (cc)
designated_there s before (Some d) c e found =
    let parts = designated_by (is_absent d) (list_any is_absent (take before s.conditions)) before c found in
    let lt = has_cell s.conditions before d e parts.0 parts.1 in
    let same = parts.2 in
    omega (arith, length-append (cells_of s.conditions) s.further, lt, same)

numbered_there : (s : State) (o : Option ℕ) (c : ℕ) → numbered_cell o s ≡ Ok c → c < length (classes_of_cells s)
numbered_there s (Some m) c found = designated_there s (m - 1) (slice_get s.conditions (m - 1)) c refl found
numbered_there s None c found = absurd (cc)

named_there : (s : State) (name : Sym) (o : Option ℕ) (c : ℕ) → Right s → number_of name s.elements ≡ o → named_cell o ≡ Ok c → c < length (classes_of_cells s)
named_there s name (Some n) c g e found =
    let same : n ≡ c = cc in
    let lt : n < length (classes_of_cells s) = ltb-true _ _ (number_below name s.elements n (length (classes_of_cells s)) g.named e) in omega (arith, lt, same)
named_there s name None c g e found = absurd (cc)

-- what a word designates is a cell
cell_there : (s : State) (k : TokenKind) (name : Sym) (c : ℕ) → Right s → cell_of k name s ≡ Ok c → c < length (classes_of_cells s)
cell_there s (kind.Whole z) name c g found = numbered_there s (natural_of z) c found
cell_there s kind.Variable name c g found = named_there s name (number_of name s.elements) c g refl found
cell_there s _ name c g found = absurd (cc)

-- ---- columns, counts and trace levels

-- a number that is taken where it passes does so
passed_by : (f : ℕ → Bool) (b : Bool) (m n : ℕ) → f m ≡ b → (let o : Option ℕ = cond b (Some m) None in o ≡ Some n) → f n ≡ true
passed_by f true m n is e = let same : m ≡ n = cc in ap f (sym same) ∙ is
passed_by f false m n is e = absurd (cc)

small_there : (k : TokenKind) (n : ℕ) → small_of k ≡ Some n → is_column n ≡ true
small_there (kind.Whole (pos m)) n e = passed_by is_column (is_column m) m n refl e
small_there _ n e = absurd (cc)

count_there : (k : TokenKind) (n : ℕ) → count_of k ≡ Some n → is_natural n ≡ true
count_there (kind.Whole (pos m)) n e = passed_by is_natural (is_natural m) m n refl e
count_there _ n e = absurd (cc)

level_there : (k : TokenKind) (n : ℕ) → level_of k ≡ Some n → nat_le n 2 ≡ true
level_there (kind.Whole (pos m)) n e = passed_by (λ i. nat_le i 2) (nat_le m 2) m n refl e
level_there _ n e = absurd (cc)

undone_there : (k : TokenKind) (n : ℕ) → undone_of k ≡ Some n → (nat_le 1 n && nat_le n 32) ≡ true
undone_there (kind.Whole (pos m)) n e = passed_by (λ i. nat_le 1 i && nat_le i 32) (nat_le 1 m && nat_le m 32) m n refl e
undone_there _ n e = absurd (cc)

column_plain : (classes : List Class) (k : InSight) (c : Column) (n : ℕ) → is_column n ≡ true → item_is_plain classes k (column_item c n) ≡ true
column_plain classes k ToTab n is = is
column_plain classes k ToRight n is = is

column_counts : (c : Column) (n : ℕ) → in_item (column_item c n) ≡ 0
column_counts ToTab n = refl
column_counts ToRight n = refl

-- ---- commands

-- with one more tag or name there are enough
tag_enough : (u : TagUse) (tags : List ℕ) (tag : ℕ) → HasTags u (tags ++ tag ∷ [])
tag_enough ToRemove tags tag = omega (arith, length-append tags (tag ∷ []))
tag_enough ToShow tags tag = tt

name_enough : (u : NameUse) (names : List Sym) (name : Sym) → HasNames u (names ++ name ∷ [])
name_enough ToPrint names name = omega (arith, length-append names (name ∷ []))
name_enough ToBreak names name = tt
name_enough ToExcise names name = omega (arith, length-append names (name ∷ []))
name_enough ToMatch names name = omega (arith, length-append names (name ∷ []))

tags_plain : (classes : List Class) (templates : List Rule) (u : TagUse) (tags : List ℕ) → list_all is_natural tags ≡ true → HasTags u tags → command_is_plain classes templates (tag_command u tags) ≡ true
tags_plain classes templates ToRemove tags natural enough = and_from _ _ (lt-ltb _ _ enough) natural
tags_plain classes templates ToShow tags natural enough = natural

names_plain : (classes : List Class) (templates : List Rule) (u : NameUse) (names : List Sym) → HasNames u names → command_is_plain classes templates (name_command u names) ≡ true
names_plain classes templates ToPrint names enough = lt-ltb _ _ enough
names_plain classes templates ToBreak names enough = refl
names_plain classes templates ToExcise names enough = lt-ltb _ _ enough
names_plain classes templates ToMatch names enough = lt-ltb _ _ enough

constants_plain : (classes : List Class) (templates : List Rule) (shows : Bool) (class : ℕ) (puts : List Fixed) → class < length classes → list_all (fixed_is_valid (class_of classes class)) puts ≡ true → command_is_plain classes templates (fixed_command shows class puts) ≡ true
constants_plain classes templates false class puts lt fields = and_from _ _ (lt-ltb _ _ lt) fields
constants_plain classes templates true class puts lt fields = and_from _ _ (lt-ltb _ _ lt) fields

tags_other : (u : TagUse) (tags : List ℕ) → not (is_add (tag_command u tags)) ≡ true
tags_other ToRemove tags = refl
tags_other ToShow tags = refl

names_other : (u : NameUse) (names : List Sym) → not (is_add (name_command u names)) ≡ true
names_other ToPrint names = refl
names_other ToBreak names = refl
names_other ToExcise names = refl
names_other ToMatch names = refl

constants_other : (shows : Bool) (class : ℕ) (puts : List Fixed) → not (is_add (fixed_command shows class puts)) ≡ true
constants_other false class puts = refl
constants_other true class puts = refl

-- ---- values of actions

acting : (p : Spot) (t : Target) (s : State) → is_of_action t ≡ true → HasTarget p t s → Right s
acting p (ToPut f) s is g = g.0.around.1
acting p ToTerms s is g = g.0.around.1
acting p ToItem s is g = g.1
acting p ToBind s is g = g.1
acting p _ s is g = absurd (true≢false (sym is))

-- The cell and the field of a `substr` that is read do not matter.
sourcing : (p : Spot) (t : Target) (s : State) (cell field : ℕ) → is_of_action t ≡ true → HasTarget p t s → HasTarget p t (record s { source = cell; source_field = field })
sourcing p (ToPut f) s cell field is g = (record { around = g.0.around; class = g.0.class; fields = g.0.fields }, g.1)
sourcing p ToTerms s cell field is g = (record { around = g.0.around; class = g.0.class; fields = g.0.fields }, g.1, g.2, g.3)
sourcing p ToItem s cell field is g = g
sourcing p ToBind s cell field is g = g
sourcing p _ s cell field is g = absurd (true≢false (sym is))

-- Nor does the operand that was read last.
forming : (p : Spot) (t : Target) (s : State) (f : Formula) → is_of_action t ≡ true → HasTarget p t s → HasTarget p t (with_formula s f)
forming p (ToPut f) s x is g = (record { around = g.0.around; class = g.0.class; fields = g.0.fields }, g.1)
forming p ToTerms s x is g = (record { around = g.0.around; class = g.0.class; fields = g.0.fields }, g.1, g.2, g.3)
forming p ToItem s x is g = g
forming p ToBind s x is g = g
forming p _ s x is g = absurd (true≢false (sym is))

item_pushed : (s : State) (c : ℕ) (hs : List Hole) (i : Item) → HasItems s → item_is_plain s.classes (in_sight s) i ≡ true → Counted s.outer hs c (right_count s + total in_item s.items + in_item i) → HasItems (read_at c hs (with_item s i))
item_pushed s c hs i g plain h =
    let more = total-push in_item s.items i in (
      record { base = g.0.base; outside = g.0.outside; counts = recounted s.outer hs c _ _ (omega (arith, more)) h },
      g.1,
      all_push (item_is_plain s.classes (in_sight s)) s.items i g.2 plain,
    )

-- one that is no constant
item_still : (s : State) (i : Item) → HasItems s → item_is_plain s.classes (in_sight s) i ≡ true → in_item i ≡ 0 → HasItems (with_item s i)
item_still s i g plain none = item_pushed s s.counted s.holes i g plain (recounted s.outer s.holes s.counted _ _ (omega (arith, none)) g.0.counts)

-- a `bind` leaves a production where it is
bind_ends : (o : Option ℕ) (s : State) (x : Term) → RightSet 0 (with_bind o s x) × Right (with_bind o s x) → IsPlainly (with_bind o s x) (sides s.outer)
bind_ends (Some n) s x g = at_actions g
bind_ends None s x g = at_actions g

bind_counts : (o : Option ℕ) (s : State) (x : Term) → with_bind o (counting s) x ≡ counting (with_bind o s x)
bind_counts (Some n) s x = refl
bind_counts None s x = refl

term_keeps : (p : Spot) (t : Target) (x : Term) (s : State) → HasTarget p t s → term_is_plain s.classes (in_sight s) (takes_several t) x ≡ true → in_term x ≡ 0 → Keeps (term_at t x (behind_target s.outer (placed s p) t) s)
term_keeps p (ToPut f) x s g plain none = at_terms p.braces InPut (put_kept s s.counted s.holes f x g.0 g.1 plain (recounted s.outer s.holes s.counted _ _ (omega (arith, none)) g.0.around.0.counts))
term_keeps p ToTerms x s g plain none = at_several p.braces InPut p.vector (term_pushed s s.counted s.holes p.vector x g plain (recounted s.outer s.holes s.counted _ _ (omega (arith, none)) g.0.around.0.counts))
term_keeps p ToItem x s g plain none = at_items (item_still s (item.Print x) g plain none)
term_keeps p ToBind x s g plain none =
    at_whole (sides s.outer) (bind_ends (number_of s.variable s.values) s x (bind_kept s s.counted s.holes x (number_of s.variable s.values) refl g plain (recounted s.outer s.holes s.counted _ _ (omega (arith, none)) g.0.counts)))
term_keeps p _ x s g plain none = tt

-- where a bracket is to be closed before
closing_keeps : (t : Target) (x : Term) (ws : List Wanted) (s : State) → Keeps (term_at t x ws s) → Keeps (term_at t x (Closes EndsWhole ∷ ws) s)
closing_keeps (ToPut f) x ws s h = at_whole ws h
closing_keeps ToTerms x ws s h = at_whole ws h
closing_keeps ToItem x ws s h = at_whole ws h
closing_keeps ToBind x ws s h = at_whole ws h
closing_keeps _ x ws s h = tt

source_plain : (s : State) → Right s → IsSource s → cell_is_plain s.classes (in_sight s) s.source ≡ true
source_plain s g lt = and_from _ _ (lt-ltb _ _ lt) (all_at (λ c. nat_lt c (length s.classes)) (classes_of_cells s) s.source 0 g.cells lt)

module _ (w : Word) where
  -- ---- declarations

  declaring : (s : State) → Base s → may_declare s ≡ true → Declaring s
  declaring s g e = let parts = and_parts (length s.rules == 0) (list_all precedes_classes s.commands) e in (g, eqb-true _ _ parts.0, parts.1)

  form_keeps : (s : State) → Base s → (k : Keyword) → Keeps (form w k (Forms ∷ []) s)
  form_keeps s g keyword.Literalize =
      cond_both (may_declare s) _ _ Keeps
      (λ e. at_class_declared (declaring s g e)) (λ _. tt)
  form_keeps s g keyword.VectorAttribute =
      cond_both (may_declare s) _ _ Keeps
      (λ e. at_vector_name (declaring s g e)) (λ _. tt)
  form_keeps s g keyword.Production = at_rule_name g
  form_keeps s g keyword.Make = at_class_name Bare InFixed (g, refl)
  form_keeps s g keyword.Remove = at_tag_or_all (g, refl)
  form_keeps s g keyword.Run = at_count g
  form_keeps s g keyword.Wm = at_tags ToShow (g, refl, tt)
  form_keeps s g keyword.Ppwm = at_shown g
  form_keeps s g keyword.Cs = at_cs g
  form_keeps s g keyword.Pm = at_named_rule ToPrint g
  form_keeps s g keyword.Strategy = at_strategy_name g
  form_keeps s g keyword.Watch = at_level g
  form_keeps s g keyword.Back = at_undone g
  form_keeps s g keyword.Pbreak = at_named_rules ToBreak (g, tt)
  form_keeps s g keyword.Excise = at_named_rule ToExcise g
  form_keeps s g keyword.Matches = at_named_rule ToMatch g
  form_keeps s g keyword.Exit = at_exit g
  form_keeps s g _ = tt

  class_declared_keeps : (s : State) → Declaring s → Keeps (class_declared w (Attributes ∷ Forms ∷ []) s)
  class_declared_keeps s g = cond_both (is_name w.kind) _ _ Keeps (λ _. cond_both (is_class s w.name) _ _ Keeps (λ _. tt) (λ _. at_attributes (g, attributes_begun s.vectors))) (λ _. tt)

  attribute_declared_keeps : (s : State) → Declaring s × IsAttributes s.vectors s.attrs → Keeps (attribute_declared w (Forms ∷ []) s)
  attribute_declared_keeps s g =
      cond_both (is_one_of w.name s.attrs) _ _ Keeps (λ _. tt)
      (λ apart. cond_both (is_second w.name s) _ _ Keeps (λ _. tt)
      (λ second. cond_both (nat_lt (length s.attrs) most_fields) _ _ Keeps
      (λ room. at_attributes (g.0, attribute_pushed s.vectors s.attrs w.name g.1 apart second (ltb-true _ _ room))) (λ _. tt)))

  attributes_keep : (s : State) → Declaring s × IsAttributes s.vectors s.attrs → Keeps (attributes w (Forms ∷ []) s)
  attributes_keep s g =
      cond_both (is_right w.kind) _ _ Keeps
      (λ _. at_forms (record {
        arranged = All-push (IsArranged s.vectors) s.classes (record { name = s.name; attrs = arranged s.vectors s.attrs; vector = has_vector s.vectors s.attrs }) g.0.0.arranged (class_arranged s.vectors s.name s.attrs g.1);
        rules_plain = all_none _ s.rules g.0.1;
        commands_plain = commands_still s.classes _ s.templates s.commands g.0.2 g.0.0.commands_plain;
        order = g.0.0.order;
        size = g.0.0.size;
      }))
      (λ _. cond_both (is_name w.kind) _ _ Keeps (λ _. attribute_declared_keeps s g) (λ _. tt))

  vector_declared_keeps : (s : State) → Declaring s → Keeps (vector_declared w (VectorNames ∷ Forms ∷ []) s)
  vector_declared_keeps s g =
      cond_both (is_one_of w.name s.vectors) _ _ Keeps (λ _. at_vector_names g)
      (λ _. cond_both (makes_second w.name s.classes) _ _ Keeps (λ _. tt)
      (λ second. at_vector_names (
        record {
          arranged = classes_arranged s.vectors w.name s.classes g.0.arranged second;
          rules_plain = all_none _ s.rules g.1;
          commands_plain = commands_still s.classes _ s.templates s.commands g.2 g.0.commands_plain;
          order = g.0.order;
          size = g.0.size;
        },
        g.1,
        g.2,
      )))

  vector_name_keeps : (s : State) → Declaring s → Keeps (vector_name w (VectorNames ∷ Forms ∷ []) s)
  vector_name_keeps s g = cond_both (is_name w.kind) _ _ Keeps (λ _. vector_declared_keeps s g) (λ _. tt)

  -- ---- elements

  abbrev spot : Braces → Option ℕ → Bool → ℕ → Spot
  spot b more among vector = record { braces = b; more = more; among = among; vector = vector }

  element_named : (u : Use) (s : State) (c : ℕ) → Around u 0 s × IsBegun u s → c < length s.classes → IsElement u 0 (record s { class = c })
  element_named InPattern s c h lt = record { around = h.0; class = lt; fields = ap (tests_are_plain (class_of s.classes c) (numbered_inside s)) h.1 }
  element_named InPut s c h lt = record { around = h.0; class = lt; fields = (ap (list_all (put_is_plain s.classes (in_sight s) (class_of s.classes c))) h.1.0, subst (λ (m : Option ℕ). IsOfCell m (in_sight s) c) (sym h.1.1) tt) }
  element_named InFixed s c h lt = record { around = h.0; class = lt; fields = ap (list_all (fixed_is_valid (class_of s.classes c))) h.1 }

  class_at_keeps : (b : Braces) (u : Use) (s : State) → Around u 0 s × IsBegun u s → (o : Option ℕ) → position (λ c. c.name.0 == w.name.0) s.classes ≡ o → Keeps (class_at o (Terms u ∷ behind s.outer (at s b) u) s)
  class_at_keeps b u s g (Some c) e = at_terms b u (element_named u s c g (position-Some (λ c. c.name.0 == w.name.0) s.classes c no_class e).0)
  class_at_keeps b u s g None e = tt

  class_name_keeps : (b : Braces) (u : Use) (s : State) → Around u 0 s × IsBegun u s → Keeps (class_name w (Terms u ∷ behind s.outer (at s b) u) s)
  class_name_keeps b u s g = cond_both (is_name w.kind) _ _ Keeps (λ _. class_at_keeps b u s g (position (λ c. c.name.0 == w.name.0) s.classes) refl) (λ _. tt)

  attribute_keeps : (b : Braces) (u : Use) (f : ℕ) (s : State) → IsElement u 0 s → HasAttribute s f → IsVector s f false → Keeps (Next (behind_attribute u f ∷ Terms u ∷ behind s.outer (at s b) u) s)
  attribute_keeps b InPattern f s g a v = at_place b None f (g, or_left _ _ a, tt)
  attribute_keeps b InPut f s g a v = at_value (spot b None false f) (ToPut f) (g, a)
  attribute_keeps b InFixed f s g a v = at_value (spot b None false f) (ToFixed f) (g, a, v)

  field_keeps : (b : Braces) (u : Use) (f : ℕ) (s : State) → IsElement u 0 s → HasAttribute s f → Keeps (field_at u (Some f) (behind s.outer (at s b) u) s)
  field_keeps b u f s g a =
      cond_both (is_vector (class_of s.classes s.class) f) _ _ Keeps (λ v. at_several b u f (several_begun u s f g a v)) (λ v. attribute_keeps b u f s g a v)

  field_at_keeps : (b : Braces) (u : Use) (s : State) → IsElement u 0 s → (o : Option ℕ) → position (λ a. a.0 == w.name.0) (attributes_of (slice_get s.classes s.class)) ≡ o → Keeps (field_at u o (behind s.outer (at s b) u) s)
  field_at_keeps b u s g None e = tt
  field_at_keeps b u s g (Some f) e =
      let c = get_or s.classes s.class no_class in
      let here : slice_get s.classes s.class ≡ Some c = slice_get-get_or s.classes s.class no_class g.class in
      let lt : f < length c.attrs = (position-Some (λ a. a.0 == w.name.0) c.attrs f (record { 0 = 0 }) (rw here at e)).0 in
      field_keeps b u f s g (ap (λ (o : Option Class). nat_lt f (length (unwrap_or o no_class).attrs)) here ∙ lt-ltb _ _ lt)

  -- ---- tests

  place_ends : (b : Braces) (more : Option ℕ) (s : State) → IsElement InPattern 0 s → HasMore more s → Keeps (Next (behind_place s.outer (at s b) more) s)
  place_ends b None s g m = at_terms b InPattern g
  place_ends b (Some f) s g m = at_several b InPattern f (g, m)

  test_goes_on : (b : Braces) (more : Option ℕ) (among : Bool) (f : ℕ) (s : State) → HasPlace more f 0 s → Keeps (Next (behind_test s.outer (at s b) more among f) s)
  test_goes_on b more true f s g = at_tests b more f g
  test_goes_on b more false f s g = place_ends b more s g.0 g.2

  more_tested : (more : Option ℕ) (s : State) (c : ℕ) (hs : List Hole) (f : ℕ) (q : Pred) (o : Operand) (binds : Bool) → HasMore more s → HasMore more (read_at c hs (with_test s f q o binds))
  more_tested None s c hs f q o binds m = tt
  more_tested (Some g) s c hs f q o binds m = m

  more_bound : (more : Option ℕ) (s : State) (f : ℕ) (name : Sym) → HasMore more s → HasMore more (with_bound s f name)
  more_bound None s f name m = tt
  more_bound (Some g) s f name m = m

  more_chosen : (more : Option ℕ) (s : State) (f : ℕ) → HasMore more s → HasMore more (with_choice s f)
  more_chosen None s f m = tt
  more_chosen (Some g) s f m = m

  place_choosing : (more : Option ℕ) (f n : ℕ) (s : State) (vs : List Value) → HasPlace more f n s → HasPlace more f n (record s { choice = vs })
  place_choosing None f n s vs g = (choosing s n vs g.0, g.1, tt)
  place_choosing (Some m) f n s vs g = (choosing s n vs g.0, g.1, g.2)

  place_pushed : (more : Option ℕ) (f : ℕ) (s : State) (c : ℕ) (hs : List Hole) (v : Value) → HasPlace more f (total one s.choice) s → Counted s.outer hs c (left_count s + total one s.choice + 1)
      → HasPlace more f (total one (s.choice ++ v ∷ [])) (record s { choice = s.choice ++ v ∷ []; counted = c; holes = hs })
  place_pushed None f s c hs v g h = (choice_pushed s c hs v g.0 h, g.1, tt)
  place_pushed (Some m) f s c hs v g h = (choice_pushed s c hs v g.0 h, g.1, g.2)

  -- ---- values

  -- the holes do not matter to a command
  fixed_holes : (s : State) (hs : List Hole) → IsElement InFixed 0 s → IsElement InFixed 0 (record s { holes = hs })
  fixed_holes s hs g = record { around = g.around; class = g.class; fields = g.fields }

  constant_keeps : (p : Spot) (t : Target) (v : Value) (s : State) (hs : List Hole) → HasTarget p t s → Grows s.outer s.holes s.counted 1 hs (suc s.counted) → Keeps (Next (behind_target s.outer (placed s p) t) (with_constant t (record s { holes = hs }) v))
  constant_keeps p (ToTest f q) v s hs g more =
      let c = suc s.counted in
      let same : left_count s + 0 + 1 ≡ left_count s + 1 = omega arith in
      test_goes_on p.braces p.more p.among f (read_at c hs (with_test s f q (operand.Constant v) false))
      (test_kept s c hs 0 f q (operand.Constant v) g.0 g.1 refl (recounted s.outer hs c _ _ same (more (left_count s + 0) g.0.around.0.counts)), g.1, more_tested p.more s c hs f q (operand.Constant v) false g.2)
  constant_keeps p (ToPut f) v s hs g more =
      at_terms p.braces InPut (put_kept s (suc s.counted) hs f (term.Constant v) g.0 g.1 refl (more (right_count s + (total in_put s.puts + 0)) g.0.around.0.counts))
  constant_keeps p (ToFixed f) v s hs g more = at_terms p.braces InFixed (fixed_kept (record s { holes = hs }) f v (fixed_holes s hs g.0) g.1 g.2)
  constant_keeps p ToTerms v s hs g more =
      at_several p.braces InPut p.vector (term_pushed s (suc s.counted) hs p.vector (term.Constant v) g refl (more (right_count s + (total in_put s.puts + total in_term s.terms)) g.0.around.0.counts))
  constant_keeps p ToConstants v s hs g more =
      at_several p.braces InFixed p.vector (constant_pushed (record s { holes = hs }) p.vector v (fixed_holes s hs g.0.0, g.0.1, g.0.2, g.0.3) g.1)
  constant_keeps p ToItem v s hs g more = at_items (item_pushed s (suc s.counted) hs (item.Print (term.Constant v)) g refl (more (right_count s + total in_item s.items) g.0.counts))
  constant_keeps p ToBind v s hs g more =
      let o = number_of s.variable s.values in
      let x : Term = term.Constant v in
      subst (λ (r : State). IsPlainly r (Closes EndsWhole ∷ sides s.outer)) (bind_counts o (record s { holes = hs }) x)
      (at_whole (sides s.outer) (bind_ends o (read_at (suc s.counted) hs s) x (bind_kept s (suc s.counted) hs x o refl g refl (more (right_count s + 0) g.0.counts))))

  -- a constant, or the hole in its place
  held_keeps : (p : Spot) (t : Target) (v : Value) (s : State) → HasTarget p t s → (k : Keyword) → Keeps (constant_by k (λ r. Next (behind_target s.outer (placed s p) t) (with_constant t r v)) s)
  held_keeps p t v s g k =
      constant_cases k (λ r. Next (behind_target s.outer (placed s p) t) (with_constant t r v)) s Keeps (λ _. tt)
      (constant_keeps p t v s s.holes g (constant_grows s.outer s.holes s.counted))
      (λ variable n found. constant_keeps p t v s (s.holes ++ record { number = s.counted; variable = n } ∷ []) g (hole_grows s.outer s.holes s.counted variable n found))

  bound_keeps : (p : Spot) (t : Target) (s : State) → HasTarget p t s → (o : Option ℕ) → number_of w.name s.values ≡ o → Keeps (bound_at t o (behind_target s.outer (placed s p) t) s)
  bound_keeps p t s g (Some n) e = term_keeps p t (term.Variable n) s g (number_sighted w.name s.values n e) refl
  bound_keeps p t s g None e = tt

  constant_at_keeps : (p : Spot) (t : Target) (s : State) → HasTarget p t s → (o : Option Value) → Keeps (constant_at t w o (behind_target s.outer (placed s p) t) s)
  constant_at_keeps p t s g (Some v) = held_keeps p t v s g w.keyword
  constant_at_keeps p t s g None = cond_both (is_variable w.kind) _ _ Keeps (λ _. bound_keeps p t s g (number_of w.name s.values) refl) (λ _. tt)

  value_keeps : (p : Spot) (t : Target) (s : State) → HasTarget p t s → Keeps (value_for t w (behind_target s.outer (placed s p) t) s)
  value_keeps p t s g =
      cond_both (is_literal w.keyword) _ _ Keeps (λ _. at_atom p t g)
      (λ _. cond_both (is_left w.kind && is_of_action t) _ _ Keeps (λ left. at_function p t g (and_parts (is_left w.kind) (is_of_action t) left).1)
      (λ _. constant_at_keeps p t s g (value_of w.kind w.name)))

  atom_keeps : (p : Spot) (t : Target) (s : State) → HasTarget p t s → (o : Option Value) → Keeps (atom_at t w.keyword o (behind_target s.outer (placed s p) t) s)
  atom_keeps p t s g (Some v) = held_keeps p t v s g w.keyword
  atom_keeps p t s g None = tt

  -- ---- functions

  function_keeps : (p : Spot) (t : Target) (s : State) → HasTarget p t s → is_of_action t ≡ true → (k : Keyword) → Keeps (function t k (behind_target s.outer (placed s p) t) s)
  function_keeps p t s g is keyword.Substr = at_source_cell p t g is
  function_keeps p t s g is keyword.Compute = at_expression_unit p t (depth_of s) (ExpressionRest (depth_of s) [] (Some t) ∷ behind_target s.outer (placed s p) t) g is (outermost [] tt)
  function_keeps p t s g is keyword.Genatom = closing_keeps t term.Fresh (behind_target s.outer (placed s p) t) s (term_keeps p t term.Fresh s g refl refl)
  function_keeps p t s g is keyword.Accept = closing_keeps t term.Accept (behind_target s.outer (placed s p) t) s (term_keeps p t term.Accept s g refl refl)
  function_keeps p t s g is _ = tt

  -- ---- compute

  -- what is wanted after a unit, where it is an operand
  open_leads : (p : Spot) (t : Target) (s : State) (d : ℕ) (ws : List Wanted) → HasTarget p t s → is_of_action t ≡ true → IsOperand (numbers_in s.values) d true s.formula → AreOpen (numbers_in s.values) (depth_of s) t (behind_target s.outer (placed s p) t) d ws → IsPlainly s ws
  open_leads p t s d ws g is f (outermost waiting waits) = at_last_rest p t waiting g is f waits
  open_leads p t s d ws g is f (bracket outside waiting further lt waits brackets) = at_bracketed_rest p t outside waiting further g is f lt waits brackets

  unit_bound_keeps : (p : Spot) (t : Target) (s : State) (d : ℕ) (ws : List Wanted) → HasTarget p t s → is_of_action t ≡ true → AreOpen (numbers_in s.values) (depth_of s) t (behind_target s.outer (placed s p) t) d ws → (name : Sym) (o : Option ℕ) → number_of name s.values ≡ o → Keeps (unit_bound o ws s)
  unit_bound_keeps p t s d ws g is brackets name (Some n) e = open_leads p t (with_formula s (formula.variable n)) d ws (forming p t s (formula.variable n) is g) is (refl, number_sighted name s.values n e) brackets
  unit_bound_keeps p t s d ws g is brackets name None e = tt

  unit_keeps : (p : Spot) (t : Target) (s : State) (d : ℕ) (ws : List Wanted) → HasTarget p t s → is_of_action t ≡ true → AreOpen (numbers_in s.values) (depth_of s) t (behind_target s.outer (placed s p) t) d ws → (k : TokenKind) (name : Sym) → Keeps (unit_at k name ws s)
  unit_keeps p t s d ws g is brackets (kind.Whole n) name = open_leads p t (with_formula s (formula.number n)) d ws (forming p t s (formula.number n) is g) is (refl, refl) brackets
  unit_keeps p t s d ws g is brackets kind.Variable name = unit_bound_keeps p t s d ws g is brackets name (number_of name s.values) refl
  unit_keeps p t s d ws g is brackets _ name = tt

  expression_unit_keeps : (p : Spot) (t : Target) (s : State) (d : ℕ) (ws : List Wanted) → HasTarget p t s → is_of_action t ≡ true → AreOpen (numbers_in s.values) (depth_of s) t (behind_target s.outer (placed s p) t) d ws → Keeps (expression_unit d w ws s)
  expression_unit_keeps p t s d ws g is brackets =
      cond_both (is_left w.kind) _ _ Keeps (λ _. cond_both (nat_lt d most_brackets) _ _ Keeps (λ lt. at_bracketed p t d ws g is lt brackets) (λ _. tt))
      (λ _. unit_keeps p t s d ws g is brackets w.kind w.name)

  bracketed_keeps : (p : Spot) (t : Target) (s : State) (d : ℕ) (ws : List Wanted) → HasTarget p t s → is_of_action t ≡ true → nat_lt d most_brackets ≡ true → AreOpen (numbers_in s.values) (depth_of s) t (behind_target s.outer (placed s p) t) d ws → Keeps (bracketed (suc d) w ws s)
  bracketed_keeps p t s d ws g is lt brackets =
      let inside = ExpressionRest (suc d) [] None ∷ ws in
      cond_both (is_compute w.keyword) _ _ Keeps (λ _. at_expression_unit p t (suc d) inside g is (bracket d [] ws lt tt brackets)) (λ _. expression_unit_keeps p t s (suc d) inside g is (bracket d [] ws lt tt brackets))

  -- an operation, or the end of the expression of a function
  last_operation_keeps : (p : Spot) (t : Target) (s : State) (waiting : List Waiting) → HasTarget p t s → is_of_action t ≡ true → IsOperand (numbers_in s.values) (depth_of s) true s.formula → AreOperands (numbers_in s.values) (depth_of s) waiting
      → (o : Option Op) → Keeps (operation_at (depth_of s) waiting (Some t) o (behind_target s.outer (placed s p) t) s)
  last_operation_keeps p t s waiting g is f waits (Some o) =
      let more : List Waiting = record { left = s.formula; op = o } ∷ waiting in
      at_expression_unit p t (depth_of s) (ExpressionRest (depth_of s) more (Some t) ∷ behind_target s.outer (placed s p) t) g is (outermost more (f, waits))
  last_operation_keeps p t s waiting g is f waits None = tt

  last_rest_keeps : (p : Spot) (t : Target) (s : State) (waiting : List Waiting) → HasTarget p t s → is_of_action t ≡ true → IsOperand (numbers_in s.values) (depth_of s) true s.formula → AreOperands (numbers_in s.values) (depth_of s) waiting
      → Keeps (expression_rest (depth_of s) waiting (Some t) w (behind_target s.outer (placed s p) t) s)
  last_rest_keeps p t s waiting g is f waits =
      let whole = operand_completed (numbers_in s.values) (depth_of s) waiting s.formula f waits in
      cond_both (is_right w.kind) _ _ Keeps
      (λ _. term_keeps p t (term.Compute (completed s.formula waiting)) (with_formula s no_formula) (forming p t s no_formula is g) (and_from _ _ whole.0 whole.1) refl)
      (λ _. last_operation_keeps p t s waiting g is f waits (operation_of w.keyword))

  -- an operation, or the end of an expression in brackets
  module _ (p : Spot) (t : Target) (s : State) (d : ℕ) (waiting : List Waiting) (ws : List Wanted) (g : HasTarget p t s) (is : is_of_action t ≡ true) (f : IsOperand (numbers_in s.values) (suc d) true s.formula) (lt : nat_lt d most_brackets ≡ true)
      (waits : AreOperands (numbers_in s.values) (suc d) waiting) (brackets : AreOpen (numbers_in s.values) (depth_of s) t (behind_target s.outer (placed s p) t) d ws) where
    bracketed_operation_keeps : (o : Option Op) → Keeps (operation_at (suc d) waiting None o ws s)
    bracketed_operation_keeps (Some o) =
        let more : List Waiting = record { left = s.formula; op = o } ∷ waiting in
        at_expression_unit p t (suc d) (ExpressionRest (suc d) more None ∷ ws) g is (bracket d more ws lt (f, waits) brackets)
    bracketed_operation_keeps None = tt

    bracketed_rest_keeps : Keeps (expression_rest (suc d) waiting None w ws s)
    bracketed_rest_keeps =
        let x = completed s.formula waiting in
        let whole = operand_completed (numbers_in s.values) (suc d) waiting s.formula f waits in
        cond_both (is_right w.kind) _ _ Keeps
        (λ _. open_leads p t (with_formula s x) d ws (forming p t s x is g) is (operand_bracketed (numbers_in s.values) d x lt whole) brackets) (λ _. bracketed_operation_keeps (operation_of w.keyword))

  -- ---- substr

  source_named_keeps : (p : Spot) (t : Target) (s : State) → HasTarget p t s → is_of_action t ≡ true → (o : Option ℕ) → number_of w.name s.elements ≡ o → Keeps (source_named o (SourceAttribute t ∷ behind_target s.outer (placed s p) t) s)
  source_named_keeps p t s g is (Some c) e =
      let right = (acting p t s is g) in
      at_source_attribute p t (sourcing p t s c s.source_field is g) is (ltb-true _ _ (number_below w.name s.elements c (length (classes_of_cells s)) right.named e))
  source_named_keeps p t s g is None e = tt

  source_at_keeps : (p : Spot) (t : Target) (s : State) → HasTarget p t s → is_of_action t ≡ true → IsSource s → (o : Option ℕ) → position (λ a. a.0 == w.name.0) (source_class s).attrs ≡ o
      → Keeps (source_at t w.name o (behind_target s.outer (placed s p) t) s)
  source_at_keeps p t s g is there (Some f) e =
      let lt : f < length (source_class s).attrs = (position-Some (λ a. a.0 == w.name.0) (source_class s).attrs f (record { 0 = 0 }) e).0 in
      at_source_end p t w.name (sourcing p t s s.source f is g) is there (lt-ltb _ _ lt)
  source_at_keeps p t s g is there None e = tt

  source_end_keeps : (p : Spot) (t : Target) (name : Sym) (s : State) → HasTarget p t s → is_of_action t ≡ true → IsSource s → is_attribute (source_class s) s.source_field ≡ true
      → Keeps (source_end t name w (Closes EndsWhole ∷ behind_target s.outer (placed s p) t) s)
  source_end_keeps p t name s g is there has =
      let plain = source_plain s (acting p t s is g) there in
      let ends : (x : Term) → term_is_plain s.classes (in_sight s) (takes_several t) x ≡ true → in_term x ≡ 0 → Keeps (term_at t x (Closes EndsWhole ∷ behind_target s.outer (placed s p) t) s) = λ x h. λ none. closing_keeps t x (behind_target s.outer (placed s p) t) s (term_keeps p t x s g h none) in
      cond_both (ends_at_inf w s) _ _ Keeps
      (λ inf. cond_both (takes_several t) _ _ Keeps
      (λ several.
      let vector = and_parts (is_inf w.keyword) (is_vector (source_class s) s.source_field) inf in
      ends (term.Rest s.source) (and_from _ _ (and_from _ _ several plain) (and_parts (source_class s).vector _ vector.1).0) refl) (λ _. tt))
      (λ _. cond_both (is_name w.kind && (w.name.0 == name.0)) _ _ Keeps (λ _. ends (term.One s.source s.source_field) (and_from _ _ plain has) refl) (λ _. tt))

  -- ---- a test, in a conjunction or alone

  -- what is wanted after it
  abbrev behind_it : Option Outer → Spot → ℕ → List Wanted
  behind_it o p f = behind_test o p.braces p.more p.among f

  variable_keeps : (p : Spot) (f : ℕ) (q : Pred) (s : State) → HasPlace p.more f 0 s → (o : Option ℕ) → number_of w.name s.values ≡ o
      → Keeps (variable_tested f q o w.name (behind_it s.outer (placed s p) f) s)
  variable_keeps p f q s g (Some n) e =
      test_goes_on p.braces p.more p.among f (with_test s f q (operand.Variable n) false)
      (test_kept s s.counted s.holes 0 f q (operand.Variable n) g.0 g.1 (number_sighted w.name s.values n e) g.0.around.0.counts, g.1, more_tested p.more s s.counted s.holes f q (operand.Variable n) false g.2)
  variable_keeps p f pred.Eq s g None e = test_goes_on p.braces p.more p.among f (with_bound s f w.name) (test_bound s f w.name g.0 g.1, g.1, more_bound p.more s f w.name g.2)
  variable_keeps p f _ s g None e = tt

  operand_keeps : (p : Spot) (f : ℕ) (q : Pred) (s : State) → HasPlace p.more f 0 s → (o : Option Value) → Keeps (constant_tested f q w o (behind_it s.outer (placed s p) f) s)
  operand_keeps p f q s g (Some v) = held_keeps p (ToTest f q) v s g w.keyword
  operand_keeps p f q s g None = cond_both (is_variable w.kind) _ _ Keeps (λ _. variable_keeps p f q s g (number_of w.name s.values) refl) (λ _. tt)

  tested_keeps : (p : Spot) (f : ℕ) (q : Pred) (s : State) → HasPlace p.more f 0 s → Keeps (tested f q w (behind_it s.outer (placed s p) f) s)
  tested_keeps p f q s g = cond_both (is_literal w.keyword) _ _ Keeps (λ _. at_atom p (ToTest f q) g) (λ _. operand_keeps p f q s g (constant_of w.kind w.name))

  predicated_keeps : (p : Spot) (f : ℕ) (s : State) → HasPlace p.more f 0 s → (o : Option Pred) → Keeps (predicated f w o (behind_it s.outer (placed s p) f) s)
  predicated_keeps p f s g (Some q) = at_tested p f q g
  predicated_keeps p f s g None = tested_keeps p f pred.Eq s g

  test_keeps : (p : Spot) (f : ℕ) (s : State) → HasPlace p.more f 0 s → Keeps (test f w (behind_it s.outer (placed s p) f) s)
  test_keeps p f s g = cond_both (opens_choice w.keyword) _ _ Keeps (λ _. at_choice p f (place_choosing p.more f 0 s [] g)) (λ _. predicated_keeps p f s g (pred_of w.keyword))

  place_keeps : (b : Braces) (more : Option ℕ) (f : ℕ) (s : State) → HasPlace more f 0 s → Keeps (place f w (behind_place s.outer (at s b) more) s)
  place_keeps b more f s g = cond_both (is_left_brace w.kind) _ _ Keeps (λ _. at_tests b more f g) (λ _. test_keeps (spot b more false f) f s g)

  chosen_keeps : (p : Spot) (f : ℕ) (s : State) → HasPlace p.more f (total one s.choice) s → (o : Option Value) → Keeps (chosen w.keyword o (Choice f ∷ behind_it s.outer (placed s p) f) s)
  chosen_keeps p f s g (Some v) =
      let ws = Choice f ∷ behind_it s.outer (placed s p) f in
      let pushed : (hs : List Hole) → Grows s.outer s.holes s.counted 1 hs (suc s.counted) → Keeps (Next ws (with_choice_of (record s { holes = hs }) v)) = λ hs more.
      at_choice p f (place_pushed p.more f s (suc s.counted) hs v g (more (left_count s + total one s.choice) g.0.around.0.counts)) in
      constant_cases w.keyword (λ r. Next ws (with_choice_of r v)) s Keeps (λ _. tt) (pushed s.holes (constant_grows s.outer s.holes s.counted))
      (λ variable n found. pushed (s.holes ++ record { number = s.counted; variable = n } ∷ []) (hole_grows s.outer s.holes s.counted variable n found))
  chosen_keeps p f s g None = tt

  choice_keeps : (p : Spot) (f : ℕ) (s : State) → HasPlace p.more f (total one s.choice) s → Keeps (choice f w (behind_it s.outer (placed s p) f) s)
  choice_keeps p f s g =
      cond_both (closes_choice w.keyword) _ _ Keeps
      (λ _. test_goes_on p.braces p.more p.among f (with_choice s f)
      (choosing (with_test s f pred.Eq (operand.OneOf s.choice) false) 0 [] (test_kept s s.counted s.holes (total one s.choice) f pred.Eq (operand.OneOf s.choice) g.0 g.1 refl g.0.around.0.counts), g.1, more_chosen p.more s f g.2))
      (λ _. chosen_keeps p f s g (atom_of w.kind w.name))

  -- ---- the end of an element

  stands : (b : Braces) (front : List Wanted) (s : State) → s.grouped ≡ false → IsPlainly s (front ++ behind s.outer (at s b) InPattern) → IsPlainly s (front ++ behind s.outer (outer b) InPattern)
  stands b front s e = subst (λ (c : Bool). IsPlainly s (front ++ behind s.outer (cond c (AsMember (length s.members)) (outer b)) InPattern)) e

  stands_among : (m : ℕ) (front : List Wanted) (s : State) → s.grouped ≡ true → length s.members ≡ m → IsPlainly s (front ++ behind s.outer (at s Bare) InPattern) → IsPlainly s (front ++ behind s.outer (AsMember m) InPattern)
  stands_among m front s e count r =
      subst (λ (k : ℕ). IsPlainly s (front ++ behind s.outer (AsMember k) InPattern)) count
      (subst (λ (c : Bool). IsPlainly s (front ++ behind s.outer (cond c (AsMember (length s.members)) Bare) InPattern)) e r)

  no_members : (s : State) → Left s → s.grouped ≡ false → length s.members ≡ 0
  no_members s h e = ap (λ (ms : List Condition). length ms) (h.alone e)

  conditions_keep : (b : Braces) (s : State) → Conditions s → Keeps (Next (behind s.outer (outer b) InPattern) s)
  conditions_keep Bare s g = at_patterns g
  conditions_keep NamedBefore s g = at_closes_brace g
  conditions_keep NamedBehind s g = at_element_name g
  conditions_keep (AsMember m) s g = at_patterns g

  element_keeps : (b : Braces) (u : Use) (s : State) → IsElement u 0 s → Keeps (Next (behind s.outer (at s b) u) (with_element u s))
  element_keeps b InPattern s g = by s.grouped refl
    where
      by : (d : Bool) → s.grouped ≡ d → Keeps (Next (behind s.outer (cond d (AsMember (length s.members)) (outer b)) InPattern) (cond d (with_member s) (with_one s)))
      by true e =
          let c : Condition = record { class = s.class; negated = false; tests = s.tests } in
          let k = after_conditions nothing_numbered s.conditions in
          let left = g.around.1 in
          let set = g.around.0 in
          let more : total in_condition (s.members ++ c ∷ []) ≡ total in_condition s.members + total in_test s.tests = total-push in_condition s.members c in
          at_members (suc (length s.members)) (
            record { base = set.base; outside = set.outside; counts = recounted s.outer s.holes s.counted _ _ (omega (arith, more)) set.counts },
            record {
              plain = left.plain;
              inside = members_push s.classes s.members k c left.inside (and_from _ _ (lt-ltb _ _ g.class) g.fields);
              alone = λ n. absurd (true≢false (sym e ∙ n));
              count = after_members-push s.members k c ∙ left.count;
              within = left.within;
              sight = left.sight;
              cells = left.cells;
            },
            refl,
            g.around.4 e,
            omega (arith, length-append s.members (c ∷ []), g.around.2),
            e,
            omega (arith, length-append s.members (c ∷ [])),
          )
      by false e =
          let c : Condition = record { class = s.class; negated = s.negated; tests = s.tests } in
          let k = after_conditions nothing_numbered s.conditions in
          let left = g.around.1 in
          let none = left.alone e in
          let all = after_conditions nothing_numbered (s.conditions ++ One c ∷ []) in
          let count = ap (λ (ms : List Condition). after_tests (after_members k ms) s.tests) (sym none) ∙ left.count in
          let fields = subst (λ (ms : List Condition). tests_are_plain (class_of s.classes s.class) (after_members k ms) s.tests ≡ true) none g.fields in
          let set = g.around.0 in
          let more : total in_part (s.conditions ++ One c ∷ []) ≡ total in_part s.conditions + total in_test s.tests = total-push in_part s.conditions (One c) in
          conditions_keep b (with_one s) (
            record { base = set.base; outside = set.outside; counts = recounted s.outer s.holes s.counted _ _ (omega (arith, more)) set.counts },
            record {
              plain = conditions_push s.classes s.conditions nothing_numbered (One c) left.plain (and_from _ _ (lt-ltb _ _ g.class) fields);
              inside = ap (λ (ms : List Condition). members_are_plain s.classes all ms) none;
              alone = left.alone;
              count = ap (λ (ms : List Condition). after_members all ms) none ∙ after_conditions-push s.conditions nothing_numbered (One c)
                  ∙ condition_counted s.negated s.around k (after_tests k s.tests) s.values s.variables count (λ is. left.sight (or_left _ _ is));
              within = λ is. absurd (true≢false (sym is ∙ e));
              sight = λ is. absurd (true≢false (sym is ∙ e));
              cells = below_more s.elements (length (cells_of s.conditions)) (length (cells_of (s.conditions ++ One c ∷ []))) (cells_more s.conditions (One c)) left.cells;
            },
            refl,
            begun_positive s.conditions c g.around.3,
            omega (arith, elements_push s.conditions c, g.around.2),
            refl,
            e,
          )
  element_keeps b InPut s g = at_actions (element_kept s g)
  element_keeps b InFixed s g = at_forms (command_kept s (fixed_command s.shows s.class s.fixed) g.around (constants_plain s.classes s.templates s.shows s.class s.fixed g.class g.fields) (constants_other s.shows s.class s.fixed))

  terms_keep : (b : Braces) (u : Use) (s : State) → IsElement u 0 s → Keeps (terms u w (behind s.outer (at s b) u) s)
  terms_keep b u s g =
      cond_both (is_right w.kind) _ _ Keeps (λ _. element_keeps b u s g) (λ _. cond_both (is_caret w.kind) _ _ Keeps (λ _. at_attribute b u g) (λ _. tt))

  -- ---- the vector attribute

  within_keeps : (b : Bool) (r : Step) → (b ≡ true → Keeps r) → Keeps (within b r)
  within_keeps true r keeps = keeps refl
  within_keeps false (Next ws s) keeps = tt
  within_keeps false (Refuses f) keeps = tt

  one_of_several_keeps : (b : Braces) (u : Use) (f : ℕ) (s : State) → HasSeveral u f s → Keeps (one_of_several u f w (behind s.outer (at s b) u) s)
  one_of_several_keeps b InPattern f s g =
      within_keeps (nat_lt f most_fields) (place f w (behind_place s.outer (at s b) (Some (f + 1))) s)
      (λ room. place_keeps b (Some (f + 1)) f s (g.0, or_right _ _ (and_from _ _ g.1 room), g.1))
  one_of_several_keeps b InPut f s g = value_keeps (spot b None false f) ToTerms s g
  one_of_several_keeps b InFixed f s g =
      within_keeps (nat_lt (f + length s.constants) most_fields) (value_for ToConstants w (Several InFixed f ∷ behind s.outer (at s b) InFixed) s)
      (λ room. value_keeps (spot b None false f) ToConstants s (g, ltb-true _ _ room))

  several_keep : (b : Braces) (u : Use) (f : ℕ) (s : State) → HasSeveral u f s → Keeps (several u f w (behind s.outer (at s b) u) s)
  several_keep b u f s g =
      cond_both (is_right w.kind || is_caret w.kind) _ _ Keeps (λ _. subst (λ (c : Braces). Keeps (terms u w (behind s.outer c u) (with_several u f s))) (several_at u f s b)
      (subst (λ (o : Option Outer). Keeps (terms u w (behind o (at (with_several u f s) b) u) (with_several u f s))) (several_outer u f s) (terms_keep b u (with_several u f s) (several_kept u s f g))))
      (λ _. one_of_several_keeps b u f s g)

  -- ---- productions

  -- one more condition
  one_more_keeps : (ws : List Wanted) (s : State) → (length (elements_of s.conditions) < most_conditions → IsPlainly s ws) → Keeps (one_more ws s)
  one_more_keeps ws s h = cond_both (nat_lt (length (elements_of s.conditions)) most_conditions) _ _ Keeps (λ lt. h (ltb-true _ _ lt)) (λ _. tt)

  patterns_keep : (s : State) → Conditions s → Keeps (patterns w (sides s.outer) s)
  patterns_keep s g =
      let none = no_members s g.1 g.6 in
      let outside : s.grouped ≡ true → first_is_positive s.conditions ≡ true = λ _. g.3 in
      cond_both (is_arrow w.keyword) _ _ Keeps (λ _. at_actions (right_set s g.0 g.1 g.2 g.6, right_kept s g.1 g.2 g.3 g.4 g.6))
      (λ _. cond_both (is_left w.kind) _ _ Keeps
      (λ _. one_more_keeps _ s (λ lt. stands Bare (ClassName ∷ Terms InPattern ∷ []) s g.6 (at_class_name Bare InPattern ((g.0, g.1, omega (arith, lt, none), begins_behind s.conditions s.negated g.3, outside), g.2))))
      (λ _. cond_both (is_left_brace w.kind) _ _ Keeps
      (λ _. one_more_keeps _ s (λ lt. at_braced (((g.0, g.1, omega (arith, lt, none), begins_behind s.conditions s.negated g.3, outside), g.2), g.6)))
      (λ _. cond_both (is_minus w.keyword) _ _ Keeps
      (λ _. let begun : State = record s { negated = true; around = length s.values } in
      one_more_keeps _ begun (λ lt. stands Bare (Pattern ∷ []) begun g.6 (at_pattern Bare ((g.0, negated_begun s g.1 g.2 g.6, omega (arith, lt, none), begins_behind s.conditions true g.3, outside), g.2))))
      (λ _. cond_both (begins_group w.keyword) _ _ Keeps (λ _. at_group g) (λ _. tt)))))

  group_keeps : (s : State) → Conditions s → Keeps (group w (Patterns ∷ sides s.outer) s)
  group_keeps s g =
      let count = counted_before s g.1 g.2 g.6 in
      let no_count : total in_condition s.members ≡ 0 = ap (λ (ms : List Condition). total in_condition ms) (g.1.alone g.6) in
      let none_tested : total in_test s.tests ≡ 0 = ap (λ (ts : List Test). total in_test ts) g.2 in
      cond_both (is_left_brace w.kind) _ _ Keeps
      (λ _. at_members 0 (
        record { base = g.0.base; outside = g.0.outside; counts = recounted s.outer s.holes s.counted _ _ (omega (arith, no_count, none_tested)) g.0.counts },
        record {
          plain = g.1.plain;
          inside = refl;
          alone = λ _. refl;
          count = count;
          within = λ _. omega arith;
          sight = λ _. ap numbers_in (take_all (length s.values) s.values (omega arith)) ∙ sym (ap (λ (k : Numbered). k.sight) count);
          cells = g.1.cells;
        },
        refl,
        g.3,
        omega (arith, g.4),
        refl,
        refl,
      )) (λ _. tt)

  members_keep : (m : ℕ) (s : State) → AmongMembers m s → Keeps (members m w (Patterns ∷ sides s.outer) s)
  members_keep m s g =
      let left = g.1 in
      let k = after_conditions nothing_numbered s.conditions in
      cond_both (is_right_brace w.kind && nat_le 2 m) _ _ Keeps
      (λ e.
      let two : 2 ≤ m = leb-true 2 m (and_parts (is_right_brace w.kind) (nat_le 2 m) e).1 in
      let counted = subst (λ (ts : List Test). after_tests (after_members k s.members) ts ≡ numbered_in s.values s.variables) g.2 left.count in
      let count = after_conditions-push s.conditions nothing_numbered (Group s.members)
      ∙ condition_counted true s.around k (after_members k s.members) s.values s.variables counted (λ _. left.sight (or_right _ _ g.5)) in
      let more : total in_part (s.conditions ++ Group s.members ∷ []) ≡ total in_part s.conditions + total in_condition s.members = total-push in_part s.conditions (Group s.members) in
      at_patterns (
        record { base = g.0.base; outside = g.0.outside; counts = recounted s.outer s.holes s.counted _ _ (omega (arith, more)) g.0.counts },
        record {
          plain = conditions_push s.classes s.conditions nothing_numbered (Group s.members) left.plain (and_from _ _ (le-leb 2 (length s.members) (omega (arith, two, g.6))) left.inside);
          inside = refl;
          alone = λ _. refl;
          count = subst (λ (ts : List Test). after_tests (after_conditions nothing_numbered (s.conditions ++ Group s.members ∷ [])) ts ≡ numbered_in (take s.around s.values) s.variables) (sym g.2) count;
          within = λ is. absurd (true≢false (sym is));
          sight = λ is. absurd (true≢false (sym is));
          cells = below_more s.elements (length (cells_of s.conditions)) (length (cells_of (s.conditions ++ Group s.members ∷ []))) (cells_more s.conditions (Group s.members)) left.cells;
        },
        g.2,
        positive_push s.conditions s.members g.3,
        omega (arith, elements_push_group s.conditions s.members, g.4),
        refl,
        refl,
      ))
      (λ _. cond_both (is_left w.kind) _ _ Keeps
      (λ _. cond_both (has_room s) _ _ Keeps
      (λ room. stands_among m (ClassName ∷ Terms InPattern ∷ []) s g.5 g.6
      (at_class_name Bare InPattern ((g.0, g.1, ltb-true _ _ room, begins_behind s.conditions s.negated g.3, λ _. g.3), g.2))) (λ _. tt)) (λ _. tt))

  -- an element variable in front of what may follow
  element_at_keeps : (ws : List Wanted) (s : State) → IsPlainly (record s { element = w.name }) ws → (o : Option ℕ) → Keeps (element_at o w.name ws s)
  element_at_keeps ws s h (Some c) = tt
  element_at_keeps ws s h None = h

  element_name_keeps : (ws : List Wanted) (s : State) → IsPlainly (record s { element = w.name }) ws → Keeps (element_name w ws s)
  element_name_keeps ws s h = cond_both (is_variable w.kind) _ _ Keeps (λ _. element_at_keeps ws s h (number_of w.name s.elements)) (λ _. tt)

  build_keeps : (s : State) → RightSet 0 s × Right s → (o : Option Outer) → s.outer ≡ o → Keeps (build_word (is_some o) (sides o) s)
  build_keeps s g None alone = let begun = build_begins s alone g.0 g.1 in at_built_name (begun.0, begun.1, refl, refl, refl, refl)
  build_keeps s g (Some o) inside = tt

  action_word_keeps : (s : State) → RightSet 0 s × Right s → (k : Keyword) → Keeps (action_word (is_some s.outer) k (sides s.outer) s)
  action_word_keeps s g keyword.Make = at_class_name Bare InPut (g, (refl, refl))
  action_word_keeps s g keyword.Modify = at_modified (g.0, g.1, refl)
  action_word_keeps s g keyword.Remove = at_cell (g.0, g.1, refl)
  action_word_keeps s g keyword.Write = at_items (g.0, g.1, refl)
  action_word_keeps s g keyword.Bind = at_bound_name g
  action_word_keeps s g keyword.Cbind = at_cell_name g
  action_word_keeps s g keyword.Halt = at_halt g
  action_word_keeps s g keyword.Build = build_keeps s g s.outer refl
  action_word_keeps s g _ = tt

  -- the production ends that is built, or one of the text
  ended_keeps : (s : State) → RightSet 0 s × Right s → (o : Option Outer) → s.outer ≡ o → Keeps (Next (below o) (side_ended (is_some o) s w.past))
  ended_keeps s g None alone = at_forms (rule_kept s w.past alone g.0 g.1)
  ended_keeps s g (Some o) inside =
      subst (λ (x : Option Outer). Keeps (Next (below (Some o)) (build_ended x s (rule_of s w.past)))) (sym inside) (at_actions (build_ends s w.past o inside g.0 g.1))

  -- ---- designators

  cell_keeps : (s : State) → HasCells s → (r : Result ℕ Fault) → cell_of w.kind w.name s ≡ r → Keeps (with_designated r (Cells ∷ sides s.outer) s)
  cell_keeps s g (Ok c) e =
      let more = length-append s.cells (c ∷ []) in
      let there = cell_there s w.kind w.name c g.1 e in
      at_cells ((g.0, g.1, all_push (λ c. nat_lt c (length (classes_of_cells s))) s.cells c g.2 (lt-ltb _ _ there)), omega (arith, more))
  cell_keeps s g (Err f) e = tt

  modified_keeps : (s : State) → RightSet 0 s × Right s × (s.puts ≡ []) → (r : Result ℕ Fault) → cell_of w.kind w.name s ≡ r → Keeps (with_modified r (Terms InPut ∷ sides s.outer) s)
  modified_keeps s g (Ok c) e =
      let none : total in_put s.puts ≡ 0 = ap (λ (ps : List Put). total in_put ps) g.2 in
      let there = cell_there s w.kind w.name c g.1 e in
      let class = unwrap_or (slice_get (classes_of_cells s) c) 0 in
      at_terms Bare InPut (record {
        around = (record { base = g.0.base; outside = g.0.outside; counts = recounted s.outer s.holes s.counted _ _ (omega (arith, none)) g.0.counts }, g.1);
        class = ltb-true _ _ (all_at (λ c. nat_lt c (length s.classes)) (classes_of_cells s) c 0 g.1.cells there);
        fields = (ap (list_all (put_is_plain s.classes (in_sight s) (class_of s.classes class))) g.2, (there, refl));
      })
  modified_keeps s g (Err f) e = tt

  cell_bound_keeps : (s : State) → RightSet 0 s × Right s → (o : Option ℕ) → s.made ≡ o → Keeps (cell_bound o w.name (Closes EndsWhole ∷ sides s.outer) s)
  cell_bound_keeps s g (Some class) e = at_whole (sides s.outer) (at_actions (cell_kept s class w.name e g.0 g.1))
  cell_bound_keeps s g None e = tt

  bound_value_keeps : (s : State) → RightSet 0 s × Right s → Keeps (bound_value w (sides s.outer) s)
  bound_value_keeps s g =
      cond_both (is_right w.kind) _ _ Keeps (λ _. bind_ends (number_of s.variable s.values) s term.Fresh (bind_kept s s.counted s.holes term.Fresh (number_of s.variable s.values) refl g refl (recounted s.outer s.holes s.counted _ _ (omega arith) g.0.counts))) (λ _. value_keeps (spot Bare None false 0) ToBind s g)

  -- ---- items

  item_word_keeps : (s : State) → HasItems s → (k : Keyword) → Keeps (item_word k (Items ∷ sides s.outer) s)
  item_word_keeps s g keyword.Crlf = at_crlf g
  item_word_keeps s g keyword.Tabto = at_columns ToTab g
  item_word_keeps s g keyword.Rjust = at_columns ToRight g
  item_word_keeps s g keyword.Substr = function_keeps (spot Bare None false 0) ToItem s g refl keyword.Substr
  item_word_keeps s g keyword.Compute = function_keeps (spot Bare None false 0) ToItem s g refl keyword.Compute
  item_word_keeps s g keyword.Genatom = function_keeps (spot Bare None false 0) ToItem s g refl keyword.Genatom
  item_word_keeps s g keyword.Accept = function_keeps (spot Bare None false 0) ToItem s g refl keyword.Accept
  item_word_keeps s g _ = tt

  columns_keep : (s : State) → HasItems s → (c : Column) → (o : Option ℕ) → small_of w.kind ≡ o → Keeps (columns_at c o (Closes EndsWhole ∷ Items ∷ sides s.outer) s)
  columns_keep s g c (Some n) e = at_whole (Items ∷ sides s.outer) (at_items (item_still s (column_item c n) g (column_plain s.classes (in_sight s) c n (small_there w.kind n e)) (column_counts c n)))
  columns_keep s g c None e = tt

  -- ---- commands

  -- a command more, and after it the next form
  command_keeps : (c : Command) (s : State) → Base s → command_is_plain s.classes s.templates c ≡ true → not (is_add c) ≡ true → Keeps (Next (Forms ∷ []) (with_command s c))
  command_keeps c s g plain other = at_forms (command_kept s c g plain other)

  -- or its bracket
  whole_command_keeps : (c : Command) (s : State) → Base s → command_is_plain s.classes s.templates c ≡ true → not (is_add c) ≡ true → Keeps (Next (Closes EndsWhole ∷ Forms ∷ []) (with_command s c))
  whole_command_keeps c s g plain other = at_whole (Forms ∷ []) (at_forms (command_kept s c g plain other))

  counted_keeps : (s : State) → Base s → (o : Option ℕ) → count_of w.kind ≡ o → Keeps (counted o (Forms ∷ []) s)
  counted_keeps s g (Some n) e = whole_command_keeps (command.Run (Some n)) s g (count_there w.kind n e) refl
  counted_keeps s g None e = tt

  count_keeps : (s : State) → Base s → Keeps (count w (Forms ∷ []) s)
  count_keeps s g = cond_both (is_right w.kind) _ _ Keeps (λ _. command_keeps (command.Run None) s g refl refl) (λ _. counted_keeps s g (count_of w.kind) refl)

  strategy_set_keeps : (s : State) → Base s → (o : Option Strategy) → Keeps (strategy_set o (Forms ∷ []) s)
  strategy_set_keeps s g (Some set) = whole_command_keeps (command.Strategy (Some set)) s g refl refl
  strategy_set_keeps s g None = tt

  strategy_name_keeps : (s : State) → Base s → Keeps (strategy_name w (Forms ∷ []) s)
  strategy_name_keeps s g =
      cond_both (is_right w.kind) _ _ Keeps (λ _. command_keeps (command.Strategy None) s g refl refl) (λ _. strategy_set_keeps s g (strategy_of w.keyword))

  level_set_keeps : (s : State) → Base s → (o : Option ℕ) → level_of w.kind ≡ o → Keeps (level_set o (Forms ∷ []) s)
  level_set_keeps s g (Some n) e = whole_command_keeps (command.Watch (Some n)) s g (level_there w.kind n e) refl
  level_set_keeps s g None e = tt

  undone_set_keeps : (s : State) → Base s → (o : Option ℕ) → undone_of w.kind ≡ o → Keeps (undone_set o (Forms ∷ []) s)
  undone_set_keeps s g (Some n) e = whole_command_keeps (command.Back n) s g (undone_there w.kind n e) refl
  undone_set_keeps s g None e = tt

  level_keeps : (s : State) → Base s → Keeps (level w (Forms ∷ []) s)
  level_keeps s g = cond_both (is_right w.kind) _ _ Keeps (λ _. command_keeps (command.Watch None) s g refl refl) (λ _. level_set_keeps s g (level_of w.kind) refl)

  undone_keeps : (s : State) → Base s → Keeps (undone w (Forms ∷ []) s)
  undone_keeps s g = cond_both (is_right w.kind) _ _ Keeps (λ _. command_keeps (command.Back 1) s g refl refl) (λ _. undone_set_keeps s g (undone_of w.kind) refl)

  tag_keeps : (u : TagUse) (s : State) → Base s → list_all is_natural s.tags ≡ true → (o : Option ℕ) → count_of w.kind ≡ o → Keeps (tag_at o (Tags u ∷ Forms ∷ []) s)
  tag_keeps u s g natural (Some n) e = at_tags u (g, all_push is_natural s.tags n natural (count_there w.kind n e), tag_enough u s.tags n)
  tag_keeps u s g natural None e = tt

  tag_or_all_keeps : (s : State) → Base s × (s.tags ≡ []) → Keeps (tag_or_all w (Forms ∷ []) s)
  tag_or_all_keeps s g =
      cond_both (is_all w.keyword) _ _ Keeps (λ _. whole_command_keeps command.RemoveAll s g.0 refl refl)
      (λ _. tag_keeps ToRemove s g.0 (ap (list_all is_natural) g.1) (count_of w.kind) refl)

  tags_keep : (u : TagUse) (s : State) → AtTags u s → Keeps (tags u w (Forms ∷ []) s)
  tags_keep u s g =
      cond_both (is_right w.kind) _ _ Keeps (λ _. at_forms (command_kept s (tag_command u s.tags) g.0 (tags_plain s.classes s.templates u s.tags g.1 g.2) (tags_other u s.tags)))
      (λ _. tag_keeps u s g.0 g.1 (count_of w.kind) refl)

  shown_keeps : (s : State) → Base s → Keeps (shown w (Forms ∷ []) s)
  shown_keeps s g =
      cond_both (is_right w.kind) _ _ Keeps (λ _. command_keeps (command.Ppwm None) s g refl refl) (λ _. class_name_keeps Bare InFixed (record s { fixed = []; shows = true }) (g, refl))

  named_rule_keeps : (u : NameUse) (s : State) → Base s → Keeps (named_rule w (NamedRules u ∷ Forms ∷ []) s)
  named_rule_keeps u s g = cond_both (is_name w.kind) _ _ Keeps (λ _. at_named_rules u (g, name_enough u s.named w.name)) (λ _. tt)

  named_rules_keep : (u : NameUse) (s : State) → AtNames u s → Keeps (named_rules u w (Forms ∷ []) s)
  named_rules_keep u s g =
      cond_both (is_right w.kind) _ _ Keeps (λ _. at_forms (command_kept s (name_command u s.named) g.0 (names_plain s.classes s.templates u s.named g.1) (names_other u s.named))) (λ _. named_rule_keeps u s g.0)

  -- ---- a word

  pub step_keeps : (s : State) (ws : List Wanted) → IsPlainly s ws → Keeps (step w ws s)
  unfolding step
  step_keeps s ws (at_forms g) = cond_both (is_left w.kind) _ _ Keeps (λ _. at_form g) (λ _. tt)
  step_keeps s ws (at_form g) = form_keeps s g w.keyword
  step_keeps s ws (at_class_declared g) = class_declared_keeps s g
  step_keeps s ws (at_attributes g) = attributes_keep s g
  step_keeps s ws (at_vector_name g) = vector_name_keeps s g
  step_keeps s ws (at_vector_names g) = cond_both (is_right w.kind) _ _ Keeps (λ _. at_forms g.0) (λ _. vector_name_keeps s g)
  step_keeps s ws (at_rule_name g) =
      cond_both (is_name w.kind) _ _ Keeps
      (λ _. cond_both (is_rule s w.name) _ _ Keeps (λ _. tt) (λ _. at_first_pattern (record { base = g; outside = tt; counts = tt }, record { plain = refl; inside = refl; alone = λ _. refl; count = refl; within = λ is. absurd (true≢false (sym is)); sight = λ is. absurd (true≢false (sym is)); cells = refl }, refl, refl, refl, refl))) (λ _. tt)
  step_keeps s ws (at_built_name g) = cond_both (is_name w.kind) _ _ Keeps (λ _. at_first_pattern g) (λ _. tt)
  step_keeps s ws (at_first_pattern g) =
      let none = no_elements s.conditions g.3 in
      let alone = no_members s g.1 g.5 in
      let outside : s.grouped ≡ true → first_is_positive s.conditions ≡ true = λ of. absurd (true≢false (sym of ∙ g.5)) in
      cond_both (is_left w.kind) _ _ Keeps (λ _. stands Bare (ClassName ∷ Terms InPattern ∷ []) s g.5 (at_class_name Bare InPattern ((g.0, g.1, omega (arith, none, alone), begins_first s.conditions s.negated g.3 g.4, outside), g.2)))
      (λ _. cond_both (is_left_brace w.kind) _ _ Keeps (λ _. at_braced (((g.0, g.1, omega (arith, none, alone), begins_first s.conditions s.negated g.3 g.4, outside), g.2), g.5))
      (λ _. cond_both (is_minus w.keyword || begins_group w.keyword) _ _ Keeps (λ _. tt) (λ _. tt)))
  step_keeps s ws (at_patterns g) = patterns_keep s g
  step_keeps s ws (at_group g) = group_keeps s g
  step_keeps s ws (at_members m g) = members_keep m s g
  step_keeps s ws (at_pattern b g) = cond_both (is_left w.kind) _ _ Keeps (λ _. at_class_name b InPattern g) (λ _. tt)
  step_keeps s ws (at_braced g) =
      cond_both (is_left w.kind) _ _ Keeps (λ _. stands NamedBehind (ClassName ∷ Terms InPattern ∷ []) s g.1 (at_class_name NamedBehind InPattern g.0))
      (λ _. element_name_keeps (Pattern ∷ ClosesBrace ∷ Patterns ∷ sides s.outer) s (stands NamedBefore (Pattern ∷ []) (record s { element = w.name }) g.1 (at_pattern NamedBefore g.0)))
  step_keeps s ws (at_element_name g) = element_name_keeps (ClosesBrace ∷ Patterns ∷ sides s.outer) s (at_closes_brace g)
  step_keeps s ws (at_closes_brace g) = cond_both (is_right_brace w.kind) _ _ Keeps (λ _. at_patterns (element_bound s g)) (λ _. tt)
  step_keeps s ws (at_class_name b u g) = class_name_keeps b u s g
  step_keeps s ws (at_terms b u g) = terms_keep b u s g
  step_keeps s ws (at_attribute b u g) =
      cond_both (is_name w.kind) _ _ Keeps (λ _. field_at_keeps b u s g (position (λ a. a.0 == w.name.0) (attributes_of (slice_get s.classes s.class))) refl) (λ _. tt)
  step_keeps s ws (at_several b u f g) = several_keep b u f s g
  step_keeps s ws (at_place b more f g) = place_keeps b more f s g
  step_keeps s ws (at_tests b more f g) = cond_both (is_right_brace w.kind) _ _ Keeps (λ _. place_ends b more s g.0 g.2) (λ _. test_keeps (spot b more true f) f s g)
  step_keeps s ws (at_tested p f q g) = tested_keeps p f q s g
  step_keeps s ws (at_choice p f g) = choice_keeps p f s g
  step_keeps s ws (at_atom p t g) = atom_keeps p t s g (atom_of w.kind w.name)
  step_keeps s ws (at_value p t g) = value_keeps p t s g
  step_keeps s ws (at_function p t g is) = function_keeps p t s g is w.keyword
  step_keeps s ws (at_expression_unit p t d further g is brackets) = expression_unit_keeps p t s d further g is brackets
  step_keeps s ws (at_last_rest p t waiting g is f waits) = last_rest_keeps p t s waiting g is f waits
  step_keeps s ws (at_bracketed_rest p t d waiting further g is f lt waits brackets) = bracketed_rest_keeps p t s d waiting further g is f lt waits brackets
  step_keeps s ws (at_bracketed p t d further g is lt brackets) = bracketed_keeps p t s d further g is lt brackets
  step_keeps s ws (at_source_cell p t g is) = cond_both (is_variable w.kind) _ _ Keeps (λ _. source_named_keeps p t s g is (number_of w.name s.elements) refl) (λ _. tt)
  step_keeps s ws (at_source_attribute p t g is there) =
      cond_both (is_name w.kind) _ _ Keeps (λ _. source_at_keeps p t s g is there (position (λ a. a.0 == w.name.0) (source_class s).attrs) refl) (λ _. tt)
  step_keeps s ws (at_source_end p t name g is there has) = source_end_keeps p t name s g is there has
  step_keeps s ws (at_actions g) =
      cond_both (is_right w.kind) _ _ Keeps (λ _. ended_keeps s g s.outer refl) (λ _. cond_both (is_left w.kind) _ _ Keeps (λ _. at_action_word g) (λ _. tt))
  step_keeps s ws (at_action_word g) = action_word_keeps s g w.keyword
  step_keeps s ws (at_modified g) = modified_keeps s g (cell_of w.kind w.name s) refl
  step_keeps s ws (at_bound_name g) = cond_both (is_variable w.kind) _ _ Keeps (λ _. at_bound_value g) (λ _. tt)
  step_keeps s ws (at_bound_value g) = bound_value_keeps s g
  step_keeps s ws (at_cell_name g) = cond_both (is_variable w.kind) _ _ Keeps (λ _. cell_bound_keeps s g s.made refl) (λ _. tt)
  step_keeps s ws (at_cell g) = cell_keeps s g (cell_of w.kind w.name s) refl
  step_keeps s ws (at_cells g) =
      cond_both (is_right w.kind) _ _ Keeps
      (λ _. at_actions (right_done s (action.Remove s.cells) 0 refl refl g.0.0, action_kept s (action.Remove s.cells) g.0.1 (and_from _ _ (lt-ltb _ _ g.1) g.0.2) refl)) (λ _. cell_keeps s g.0 (cell_of w.kind w.name s) refl)
  step_keeps s ws (at_items g) =
      cond_both (is_right w.kind) _ _ Keeps (λ _. at_actions (right_done s (action.Write s.items) (total in_item s.items) refl refl g.0, action_kept s (action.Write s.items) g.1 g.2 refl))
      (λ _. cond_both (is_left w.kind) _ _ Keeps (λ _. at_item_word g) (λ _. value_keeps (spot Bare None false 0) ToItem s g))
  step_keeps s ws (at_item_word g) = item_word_keeps s g w.keyword
  step_keeps s ws (at_columns c g) = columns_keep s g c (small_of w.kind) refl
  step_keeps s ws (at_whole behind g) = cond_both (is_right w.kind) _ _ Keeps (λ _. g) (λ _. tt)
  step_keeps s ws (at_crlf g) = cond_both (is_right w.kind) _ _ Keeps (λ _. at_items (item_still s item.Crlf g refl refl)) (λ _. tt)
  step_keeps s ws (at_halt g) = cond_both (is_right w.kind) _ _ Keeps (λ _. at_actions (right_done s action.Halt 0 refl refl g.0, action_kept s action.Halt g.1 refl refl)) (λ _. tt)
  step_keeps s ws (at_count g) = count_keeps s g
  step_keeps s ws (at_strategy_name g) = strategy_name_keeps s g
  step_keeps s ws (at_tag_or_all g) = tag_or_all_keeps s g
  step_keeps s ws (at_tags u g) = tags_keep u s g
  step_keeps s ws (at_shown g) = shown_keeps s g
  step_keeps s ws (at_named_rule u g) = named_rule_keeps u s g
  step_keeps s ws (at_named_rules u g) = named_rules_keep u s g
  step_keeps s ws (at_level g) = level_keeps s g
  step_keeps s ws (at_undone g) = undone_keeps s g
  step_keeps s ws (at_cs g) = cond_both (is_right w.kind) _ _ Keeps (λ _. command_keeps command.Cs s g refl refl) (λ _. tt)
  step_keeps s ws (at_exit g) = cond_both (is_right w.kind) _ _ Keeps (λ _. command_keeps command.Exit s g refl refl) (λ _. tt)
