-- What holds of what was read so far, so that it has a spelling.
use Rattle.std.proofs.Common.{◌≡◌, ℕ, suc, ◌+◌, ◌<◌, ◌≤◌, Bool, true, false, not, ◌||◌, ◌==◌, cond, List, [], ◌∷◌, ◌++◌, length, take, map, refl, sym, ap, ◌∙◌, arith, Option, Some, None, is_some, nat_lt, true≢false, ◌&&◌}
use Rattle.std.specs.List.{list_all, All}
use Rattle.std.proofs.lemmas.Bool.{and_parts, and_from, or_left, or_right, eq-eqb, ltb-true, lt-ltb, cond_both}
use Rattle.ops_base.specs.declared.values.Sym.{Sym}
use Rattle.ops_base.specs.declared.values.Pred.{Pred}
use Rattle.ops_base.specs.declared.elements.Class.{Class}
use Rattle.ops_base.specs.declared.conditions.Test.{Test}
use Rattle.ops_base.specs.declared.conditions.Condition.{Condition}
use Rattle.ops_base.specs.declared.conditions.Part.{Part}
use Rattle.ops_base.specs.declared.conditions.Part.TheVariants.{One, Group}
use Rattle.ops_base.specs.declared.actions.Hole.{Hole}
use Rattle.ops_base.specs.declared.actions.Action.{Action}
use Rattle.ops_base.specs.declared.rules.Rule.{Rule}
use Rattle.ops_base.specs.declared.commands.Command.{Command}
use Rattle.ops_base.specs.Filling.{one, in_test, in_condition, in_part, in_term, in_put, in_item, in_action, total}
use Rattle.ops_base.specs.Valid.{most_fields, most_conditions, is_in, class_of, is_attribute, is_vector, is_field, is_natural, first_is_positive, cells_of, fixed_is_valid, elements_of}
use Rattle.ops_grammar.specs.declared.words.Named.{Named}
use Rattle.ops_grammar.specs.Grammar.{Use, InPattern, InPut, InFixed, Target, ToTest, ToPut, ToFixed, ToTerms, ToConstants, ToItem, ToBind, EndsHalt, EndsCrlf, EndsCs, EndsExit, EndsWhole, Column, TagUse, NameUse, Wanted, Forms, Form, ClassDeclared, Attributes, VectorName, VectorNames, RuleName, FirstPattern, Patterns, Pattern, Braced, ElementName, ClosesBrace, ClassName, Terms, Attribute, Several, Place, Tests, Tested, Choice, Atom, ValueFor, Function, Waiting, ExpressionUnit, ExpressionRest, Bracketed, SourceCell, SourceAttribute, SourceEnd, Actions, ActionWord, BuiltName, Outer, Modified, BoundName, BoundValue, CellName, Cell, Cells, Items, ItemWord, Columns, Count, StrategyName, TagOrAll, Tags, Shown, NamedRule, NamedRules, Level, Undone, Closes, State, Step, Next, Refuses, number_of, renumbered, precedes_classes, is_of_action, most_brackets, function_depth, is_built, added_by, classes_of_cells, source_class, GroupBrace, Members}
use Rattle.ops_grammar.specs.Spelling.{Numbered, nothing_numbered, test_is_plain, after_test, tests_are_plain, after_tests, after_condition, after_part, condition_is_plain, part_is_plain, conditions_are_plain, after_conditions, InSight, at_arrow, class_of_cell, after_action, after_actions, term_is_plain, put_is_plain, item_is_plain, action_is_plain, actions_are_plain, rule_is_plain, command_is_plain, after_members, members_are_plain, builds_none, build_is_plain, holes_are_plain, templates_in, templates_by, are_next}
use Rattle.ops_grammar.proofs.Lists.{all_weaker}
use Rattle.ops_grammar.proofs.Sound.{Braces, sides, behind, HasTags, HasNames, at}
use Rattle.ops_grammar.proofs.PlainClasses.{IsArranged, IsAttributes}
use Rattle.ops_grammar.proofs.PlainFormulas.{IsOperand, AreOperands, AreOpen}

-- the forms that were read, where a production that is read builds from the templates with these numbers
pub record IsBase (vectors : List Sym) (classes : List Class) (rules templates : List Rule) (commands : List Command) (built : List ℕ) : Type 0 where
  pub arranged : All (IsArranged vectors) classes
  pub rules_plain : list_all (rule_is_plain classes templates) rules ≡ true
  pub commands_plain : list_all (command_is_plain classes templates) commands ≡ true
  pub order : are_next 0 (templates_by (rules ++ added_by commands) ++ built) ≡ true
  pub size : length (templates_by (rules ++ added_by commands) ++ built) ≡ length templates

-- the numbers of these variables
abbrev pub numbers_in : List Named → List ℕ
numbers_in values = map (λ v. v.number) values

-- these variables are in sight, and this many were given
abbrev pub numbered_in : List Named → ℕ → Numbered
numbered_in values variables = record { sight = numbers_in values; given = variables }

-- the left side of a rule up to some tests of a condition
pub record IsLeft (classes : List Class) (values elements : List Named) (variables : ℕ) (negated : Bool) (around : ℕ) (conditions : List Part) (tests : List Test) (grouped : Bool) (members : List Condition) : Type 0 where
  pub plain : conditions_are_plain classes nothing_numbered conditions ≡ true
  pub inside : members_are_plain classes (after_conditions nothing_numbered conditions) members ≡ true
  pub alone : grouped ≡ false → members ≡ []
  pub count : after_tests (after_members (after_conditions nothing_numbered conditions) members) tests ≡ numbered_in values variables
  pub within : (negated || grouped) ≡ true → around ≤ length values
  pub sight : (negated || grouped) ≡ true → numbers_in (take around values) ≡ (after_conditions nothing_numbered conditions).sight
  pub cells : list_all (λ e. nat_lt e.number (length (cells_of conditions))) elements ≡ true

-- the class of an element that was made, where one was
abbrev pub made_is_class : List Class → Option ℕ → Bool
made_is_class classes None = true
made_is_class classes (Some class) = nat_lt class (length classes)

-- A rule up to some actions, after which so much is in sight. A `build` is plain by a test.
pub record IsRight (builds : InSight → ℕ → List Hole → Bool) (built : Bool) (classes : List Class) (conditions : List Part) (k : InSight) (elements : List Named) (actions : List Action) : Type 0 where
  pub positive : first_is_positive conditions ≡ true
  pub few : length (elements_of conditions) ≤ most_conditions
  pub left : conditions_are_plain classes nothing_numbered conditions ≡ true
  pub plain : actions_are_plain builds classes (at_arrow built conditions) actions ≡ true
  pub sight : after_actions (at_arrow built conditions) actions ≡ k
  pub named : list_all (λ e. nat_lt e.number (length k.cells)) elements ≡ true
  pub cells : list_all (λ c. nat_lt c (length classes)) k.cells ≡ true
  pub made : made_is_class classes k.made ≡ true

-- a production in another one builds none
abbrev pub builds_of : List Class → List Rule → Option Outer → (InSight → ℕ → List Hole → Bool)
builds_of classes templates None = build_is_plain classes templates
builds_of classes templates (Some o) = builds_none

-- what is in sight in the production around
abbrev pub sight_of : Outer → InSight
sight_of o = record { built = false; variables = numbered_in o.values o.variables; cells = cells_of o.conditions ++ o.further; made = o.made }

-- the production around the one that is read, where there is one
abbrev pub HasOuter : List Class → List Rule → Option Outer → Type 0
HasOuter classes templates None = Unit {0}
HasOuter classes templates (Some o) = IsRight (build_is_plain classes templates) false classes o.conditions (sight_of o) o.elements o.actions

-- so many constants of a production in another one were read, and its holes are among them
abbrev pub Counted : Option Outer → List Hole → ℕ → ℕ → Type 0
Counted None holes counted n = Unit {0}
Counted (Some o) holes counted n = (counted ≡ n) × (holes_are_plain (numbers_in o.values) 0 counted holes ≡ true)

-- a production that is read, of which so many constants were read
pub record IsSet (vectors : List Sym) (classes : List Class) (rules templates : List Rule) (commands : List Command) (built : List ℕ) (outer : Option Outer) (holes : List Hole) (counted n : ℕ) : Type 0 where
  pub base : IsBase vectors classes rules templates commands built
  pub outside : HasOuter classes templates outer
  pub counts : Counted outer holes counted n

-- the numbers of the templates from which a production that is read builds before the one in it, and before more actions
abbrev pub built_around : Option Outer → List ℕ
built_around None = []
built_around (Some o) = templates_in o.actions

abbrev pub built_so_far : Option Outer → List Action → List ℕ
built_so_far None actions = templates_in actions
built_so_far (Some o) actions = templates_in o.actions

-- the first condition is positive, where this one stands after those
abbrev pub begins_positive : List Part → Bool → Bool
begins_positive [] negated = not negated
begins_positive ps negated = first_is_positive ps

abbrev pub Base : State → Type 0
Base s = IsBase s.vectors s.classes s.rules s.templates s.commands []

-- how many constants of a left side were read
abbrev pub left_count : State → ℕ
left_count s = total in_part s.conditions + total in_condition s.members + total in_test s.tests

-- a left side, of which so many more constants were read, and a right side
abbrev pub LeftSet : ℕ → State → Type 0
LeftSet n s = IsSet s.vectors s.classes s.rules s.templates s.commands (built_around s.outer) s.outer s.holes s.counted (left_count s + n)

abbrev pub right_count : State → ℕ
right_count s = total in_part s.conditions + total in_action s.actions

abbrev pub RightSet : ℕ → State → Type 0
RightSet n s = IsSet s.vectors s.classes s.rules s.templates s.commands (built_so_far s.outer s.actions) s.outer s.holes s.counted (right_count s + n)

abbrev pub Left : State → Type 0
Left s = IsLeft s.classes s.values s.elements s.variables s.negated s.around s.conditions s.tests s.grouped s.members

-- what is in sight in a right side
abbrev pub in_sight : State → InSight
in_sight s = record { built = is_some s.outer; variables = numbered_in s.values s.variables; cells = classes_of_cells s; made = s.made }

abbrev pub Right : State → Type 0
Right s = IsRight (builds_of s.classes s.templates s.outer) (is_some s.outer) s.classes s.conditions (in_sight s) s.elements s.actions

-- how many brackets are open in a function
abbrev pub depth_of : State → ℕ
depth_of s = function_depth (is_built s)

-- nothing was read that looks at the classes
abbrev pub Declaring : State → Type 0
Declaring s = Base s × (length s.rules ≡ 0) × (list_all precedes_classes s.commands ≡ true)

-- what is numbered before a test
abbrev pub numbered_inside : State → Numbered
numbered_inside s = after_members (after_conditions nothing_numbered s.conditions) s.members

-- an element stands in a production of which so many more constants were read, those of what it has aside
abbrev pub Around : Use → ℕ → State → Type 0
Around InPattern n s = LeftSet n s × Left s × (length (elements_of s.conditions) + length s.members < most_conditions) × (begins_positive s.conditions s.negated ≡ true) × (s.grouped ≡ true → first_is_positive s.conditions ≡ true)
Around InPut n s = RightSet (total in_put s.puts + n) s × Right s
Around InFixed n s = Base s

-- no attribute of an element was read, and of an action none but a `make`
abbrev pub IsBegun : Use → State → Type 0
IsBegun InPattern s = s.tests ≡ []
IsBegun InPut s = (s.puts ≡ []) × (s.modified ≡ None)
IsBegun InFixed s = s.fixed ≡ []

-- the class of a `modify` is that of its cell
abbrev pub IsOfCell : Option ℕ → InSight → ℕ → Type 0
IsOfCell None k class = Unit {0}
IsOfCell (Some cell) k class = (cell < length k.cells) × (class ≡ class_of_cell k cell)

abbrev pub HasFields : Use → State → Type 0
HasFields InPattern s = tests_are_plain (class_of s.classes s.class) (numbered_inside s) s.tests ≡ true
HasFields InPut s = (list_all (put_is_plain s.classes (in_sight s) (class_of s.classes s.class)) s.puts ≡ true) × IsOfCell s.modified (in_sight s) s.class
HasFields InFixed s = list_all (fixed_is_valid (class_of s.classes s.class)) s.fixed ≡ true

pub record IsElement (u : Use) (n : ℕ) (s : State) : Type 0 where
  pub around : Around u n s
  pub class : s.class < length s.classes
  pub fields : HasFields u s

abbrev pub HasCells : State → Type 0
HasCells s = RightSet 0 s × Right s × (list_all (λ c. nat_lt c (length (classes_of_cells s))) s.cells ≡ true)

abbrev pub HasItems : State → Type 0
HasItems s = RightSet (total in_item s.items) s × Right s × (list_all (item_is_plain s.classes (in_sight s)) s.items ≡ true)

-- the conditions of a rule up to the last of them
abbrev pub Conditions : State → Type 0
Conditions s =
    LeftSet 0 s × Left s × (s.tests ≡ []) × (first_is_positive s.conditions ≡ true) × (length (elements_of s.conditions) ≤ most_conditions) × (s.negated ≡ false) × (s.grouped ≡ false)

-- those and the members of a group up to the last of them
abbrev pub AmongMembers : ℕ → State → Type 0
AmongMembers n s =
    LeftSet 0 s × Left s × (s.tests ≡ []) × (first_is_positive s.conditions ≡ true) × (length (elements_of s.conditions) + length s.members ≤ most_conditions) × (s.grouped ≡ true) × (length s.members ≡ n)

-- a command up to its next tag, or to its next name
abbrev pub AtTags : TagUse → State → Type 0
AtTags u s = Base s × (list_all is_natural s.tags ≡ true) × HasTags u s.tags

abbrev pub AtNames : NameUse → State → Type 0
AtNames u s = Base s × HasNames u s.named

-- an attribute of the element's class
abbrev pub HasAttribute : State → ℕ → Type 0
HasAttribute s f = is_attribute (class_of s.classes s.class) f ≡ true

-- the vector attribute of the element's class
abbrev pub IsVector : State → ℕ → Bool → Type 0
IsVector s f b = is_vector (class_of s.classes s.class) f ≡ b

-- a scalar attribute, or a place of the vector attribute
abbrev pub HasField : State → ℕ → Type 0
HasField s f = is_field (class_of s.classes s.class) f ≡ true

-- a place more of the vector attribute may come
abbrev pub HasMore : Option ℕ → State → Type 0
HasMore None s = Unit {0}
HasMore (Some f) s = (class_of s.classes s.class).vector ≡ true

-- up to some of the places or values of the vector attribute
abbrev pub HasSeveral : Use → ℕ → State → Type 0
HasSeveral InPattern f s = IsElement InPattern 0 s × HasMore (Some f) s
HasSeveral InPut f s = IsElement InPut (total in_term s.terms) s × HasAttribute s f × IsVector s f true × (list_all (term_is_plain s.classes (in_sight s) true) s.terms ≡ true)
HasSeveral InFixed f s = IsElement InFixed 0 s × HasAttribute s f × IsVector s f true × (f + length s.constants ≤ most_fields)

-- Where a test or a value stands: in an element in these braces, with this place of the vector attribute after it, or none, and
-- in a conjunction or alone; or among the values of the vector attribute, which is this field.
pub record Spot : Type 0 where
  pub braces : Braces
  pub more : Option ℕ
  pub among : Bool
  pub vector : ℕ

-- where a group is read, it stands in that
abbrev pub placed : State → Spot → Spot
placed s p = record p { braces = at s p.braces }

-- a place of a pattern, with another one after it or none, where so many more constants were read
abbrev pub HasPlace : Option ℕ → ℕ → ℕ → State → Type 0
HasPlace more f n s = IsElement InPattern n s × HasField s f × HasMore more s

-- where a constant goes
abbrev pub HasTarget : Spot → Target → State → Type 0
HasTarget p (ToTest f q) s = HasPlace p.more f 0 s
HasTarget p (ToPut f) s = IsElement InPut 0 s × HasAttribute s f
HasTarget p (ToFixed f) s = IsElement InFixed 0 s × HasAttribute s f × IsVector s f false
HasTarget p ToTerms s = HasSeveral InPut p.vector s
HasTarget p ToConstants s = HasSeveral InFixed p.vector s × (p.vector + length s.constants < most_fields)
HasTarget p ToItem s = HasItems s
HasTarget p ToBind s = RightSet 0 s × Right s

-- the cell of a `substr` that is read
abbrev pub IsSource : State → Type 0
IsSource s = s.source < length (classes_of_cells s)

-- what is wanted after a place: another attribute, or another place of the vector attribute
abbrev pub behind_place : Option Outer → Braces → Option ℕ → List Wanted
behind_place o b None = Terms InPattern ∷ behind o b InPattern
behind_place o b (Some f) = Several InPattern f ∷ behind o b InPattern

-- what is wanted after a test: more of the conjunction that it stands in, or what is wanted after its place
abbrev pub behind_test : Option Outer → Braces → Option ℕ → Bool → ℕ → List Wanted
behind_test o b more true f = Tests f ∷ behind_place o b more
behind_test o b more false f = behind_place o b more

-- what is wanted after a constant
abbrev pub behind_target : Option Outer → Spot → Target → List Wanted
behind_target o p (ToTest f q) = behind_test o p.braces p.more p.among f
behind_target o p (ToPut f) = Terms InPut ∷ sides o
behind_target o p (ToFixed f) = Terms InFixed ∷ Forms ∷ []
behind_target o p ToTerms = Several InPut p.vector ∷ sides o
behind_target o p ToConstants = Several InFixed p.vector ∷ Forms ∷ []
behind_target o p ToItem = Items ∷ sides o
behind_target o p ToBind = Closes EndsWhole ∷ sides o

-- what may be wanted, and what then holds
pub data IsPlainly (s : State) : List Wanted → Type 0 where
  at_forms : Base s → IsPlainly s (Forms ∷ [])
  at_form : Base s → IsPlainly s (Form ∷ Forms ∷ [])
  at_class_declared : Declaring s → IsPlainly s (ClassDeclared ∷ Attributes ∷ Forms ∷ [])
  at_attributes : Declaring s × IsAttributes s.vectors s.attrs → IsPlainly s (Attributes ∷ Forms ∷ [])
  at_vector_name : Declaring s → IsPlainly s (VectorName ∷ VectorNames ∷ Forms ∷ [])
  at_vector_names : Declaring s → IsPlainly s (VectorNames ∷ Forms ∷ [])
  at_rule_name : Base s → IsPlainly s (RuleName ∷ FirstPattern ∷ Patterns ∷ Actions false ∷ Forms ∷ [])
  at_built_name : LeftSet 0 s × Left s × (s.tests ≡ []) × (length s.conditions ≡ 0) × (s.negated ≡ false) × (s.grouped ≡ false) → IsPlainly s (BuiltName ∷ FirstPattern ∷ Patterns ∷ sides s.outer)
  at_first_pattern : LeftSet 0 s × Left s × (s.tests ≡ []) × (length s.conditions ≡ 0) × (s.negated ≡ false) × (s.grouped ≡ false) → IsPlainly s (FirstPattern ∷ Patterns ∷ sides s.outer)
  at_patterns : Conditions s → IsPlainly s (Patterns ∷ sides s.outer)
  at_pattern : (b : Braces) → Around InPattern 0 s × (s.tests ≡ []) → IsPlainly s (Pattern ∷ behind s.outer (at s b) InPattern)
  at_group : Conditions s → IsPlainly s (GroupBrace ∷ Patterns ∷ sides s.outer)
  at_members : (n : ℕ) → AmongMembers n s → IsPlainly s (Members n ∷ Patterns ∷ sides s.outer)
  at_braced : (Around InPattern 0 s × (s.tests ≡ [])) × (s.grouped ≡ false) → IsPlainly s (Braced ∷ Patterns ∷ sides s.outer)
  at_element_name : Conditions s → IsPlainly s (ElementName ∷ ClosesBrace ∷ Patterns ∷ sides s.outer)
  at_closes_brace : Conditions s → IsPlainly s (ClosesBrace ∷ Patterns ∷ sides s.outer)
  at_class_name : (b : Braces) → (u : Use) → Around u 0 s × IsBegun u s → IsPlainly s (ClassName ∷ Terms u ∷ behind s.outer (at s b) u)
  at_terms : (b : Braces) → (u : Use) → IsElement u 0 s → IsPlainly s (Terms u ∷ behind s.outer (at s b) u)
  at_attribute : (b : Braces) → (u : Use) → IsElement u 0 s → IsPlainly s (Attribute u ∷ behind s.outer (at s b) u)
  at_several : (b : Braces) → (u : Use) → (f : ℕ) → HasSeveral u f s → IsPlainly s (Several u f ∷ behind s.outer (at s b) u)
  at_place : (b : Braces) → (more : Option ℕ) → (f : ℕ) → HasPlace more f 0 s → IsPlainly s (Place f ∷ behind_place s.outer (at s b) more)
  at_tests : (b : Braces) → (more : Option ℕ) → (f : ℕ) → HasPlace more f 0 s → IsPlainly s (Tests f ∷ behind_place s.outer (at s b) more)
  at_tested : (p : Spot) → (f : ℕ) → (q : Pred) → HasPlace p.more f 0 s → IsPlainly s (Tested f q ∷ behind_test s.outer (at s p.braces) p.more p.among f)
  at_choice : (p : Spot) → (f : ℕ) → HasPlace p.more f (total one s.choice) s → IsPlainly s (Choice f ∷ behind_test s.outer (at s p.braces) p.more p.among f)
  at_atom : (p : Spot) → (t : Target) → HasTarget p t s → IsPlainly s (Atom t ∷ behind_target s.outer (placed s p) t)
  at_value : (p : Spot) → (t : Target) → HasTarget p t s → IsPlainly s (ValueFor t ∷ behind_target s.outer (placed s p) t)
  at_function : (p : Spot) → (t : Target) → HasTarget p t s → is_of_action t ≡ true → IsPlainly s (Function t ∷ behind_target s.outer (placed s p) t)
  at_expression_unit : (p : Spot) → (t : Target) → (d : ℕ) → (ws : List Wanted) → HasTarget p t s → is_of_action t ≡ true → AreOpen (numbers_in s.values) (depth_of s) t (behind_target s.outer (placed s p) t) d ws → IsPlainly s (ExpressionUnit d ∷ ws)
  at_last_rest : (p : Spot) → (t : Target) → (waiting : List Waiting) → HasTarget p t s → is_of_action t ≡ true → IsOperand (numbers_in s.values) (depth_of s) true s.formula → AreOperands (numbers_in s.values) (depth_of s) waiting
      → IsPlainly s (ExpressionRest (depth_of s) waiting (Some t) ∷ behind_target s.outer (placed s p) t)
  at_bracketed_rest : (p : Spot) → (t : Target) → (d : ℕ) → (waiting : List Waiting) → (ws : List Wanted) → HasTarget p t s → is_of_action t ≡ true → IsOperand (numbers_in s.values) (suc d) true s.formula → nat_lt d most_brackets ≡ true
      → AreOperands (numbers_in s.values) (suc d) waiting → AreOpen (numbers_in s.values) (depth_of s) t (behind_target s.outer (placed s p) t) d ws → IsPlainly s (ExpressionRest (suc d) waiting None ∷ ws)
  at_bracketed : (p : Spot) → (t : Target) → (d : ℕ) → (ws : List Wanted) → HasTarget p t s → is_of_action t ≡ true → nat_lt d most_brackets ≡ true → AreOpen (numbers_in s.values) (depth_of s) t (behind_target s.outer (placed s p) t) d ws
      → IsPlainly s (Bracketed (suc d) ∷ ws)
  at_source_cell : (p : Spot) → (t : Target) → HasTarget p t s → is_of_action t ≡ true → IsPlainly s (SourceCell ∷ SourceAttribute t ∷ behind_target s.outer (placed s p) t)
  at_source_attribute : (p : Spot) → (t : Target) → HasTarget p t s → is_of_action t ≡ true → IsSource s → IsPlainly s (SourceAttribute t ∷ behind_target s.outer (placed s p) t)
  at_source_end : (p : Spot) → (t : Target) → (name : Sym) → HasTarget p t s → is_of_action t ≡ true → IsSource s → is_attribute (source_class s) s.source_field ≡ true
      → IsPlainly s (SourceEnd t name ∷ Closes EndsWhole ∷ behind_target s.outer (placed s p) t)
  at_actions : RightSet 0 s × Right s → IsPlainly s (sides s.outer)
  at_action_word : RightSet 0 s × Right s → IsPlainly s (ActionWord (is_some s.outer) ∷ sides s.outer)
  at_modified : RightSet 0 s × Right s × (s.puts ≡ []) → IsPlainly s (Modified ∷ Terms InPut ∷ sides s.outer)
  at_bound_name : RightSet 0 s × Right s → IsPlainly s (BoundName ∷ BoundValue ∷ sides s.outer)
  at_bound_value : RightSet 0 s × Right s → IsPlainly s (BoundValue ∷ sides s.outer)
  at_cell_name : RightSet 0 s × Right s → IsPlainly s (CellName ∷ Closes EndsWhole ∷ sides s.outer)
  at_cell : HasCells s → IsPlainly s (Cell ∷ Cells ∷ sides s.outer)
  at_cells : HasCells s × (0 < length s.cells) → IsPlainly s (Cells ∷ sides s.outer)
  at_items : HasItems s → IsPlainly s (Items ∷ sides s.outer)
  at_item_word : HasItems s → IsPlainly s (ItemWord ∷ Items ∷ sides s.outer)
  at_columns : (c : Column) → HasItems s → IsPlainly s (Columns c ∷ Closes EndsWhole ∷ Items ∷ sides s.outer)
  at_whole : (ws : List Wanted) → IsPlainly s ws → IsPlainly s (Closes EndsWhole ∷ ws)
  at_crlf : HasItems s → IsPlainly s (Closes EndsCrlf ∷ Items ∷ sides s.outer)
  at_halt : RightSet 0 s × Right s → IsPlainly s (Closes EndsHalt ∷ sides s.outer)
  at_count : Base s → IsPlainly s (Count ∷ Forms ∷ [])
  at_strategy_name : Base s → IsPlainly s (StrategyName ∷ Forms ∷ [])
  at_tag_or_all : Base s × (s.tags ≡ []) → IsPlainly s (TagOrAll ∷ Forms ∷ [])
  at_tags : (u : TagUse) → AtTags u s → IsPlainly s (Tags u ∷ Forms ∷ [])
  at_shown : Base s → IsPlainly s (Shown ∷ Forms ∷ [])
  at_named_rule : (u : NameUse) → Base s → IsPlainly s (NamedRule ∷ NamedRules u ∷ Forms ∷ [])
  at_named_rules : (u : NameUse) → AtNames u s → IsPlainly s (NamedRules u ∷ Forms ∷ [])
  at_level : Base s → IsPlainly s (Level ∷ Forms ∷ [])
  at_undone : Base s → IsPlainly s (Undone ∷ Forms ∷ [])
  at_cs : Base s → IsPlainly s (Closes EndsCs ∷ Forms ∷ [])
  at_exit : Base s → IsPlainly s (Closes EndsExit ∷ Forms ∷ [])

abbrev pub Keeps : Step → Type 0
Keeps (Next ws s) = IsPlainly s ws
Keeps (Refuses f) = Unit {0}

-- ---- one more part at the end

pub after_tests-push : (ts : List Test) (k : Numbered) (t : Test) → after_tests k (ts ++ t ∷ []) ≡ after_test (after_tests k ts) t
after_tests-push [] k t = refl
after_tests-push (x ∷ ts) k t = after_tests-push ts (after_test k x) t

pub tests_push : (c : Class) (ts : List Test) (k : Numbered) (t : Test) → tests_are_plain c k ts ≡ true → test_is_plain c (after_tests k ts) t ≡ true → tests_are_plain c k (ts ++ t ∷ []) ≡ true
tests_push c [] k t h e = and_from _ _ e refl
tests_push c (x ∷ ts) k t h e =
    let each = and_parts (test_is_plain c k x) (tests_are_plain c (after_test k x) ts) h in and_from _ _ each.0 (tests_push c ts (after_test k x) t each.1 e)

pub after_conditions-push : (cs : List Part) (k : Numbered) (c : Part) → after_conditions k (cs ++ c ∷ []) ≡ after_part (after_conditions k cs) c
after_conditions-push [] k c = refl
after_conditions-push (x ∷ cs) k c = after_conditions-push cs (after_part k x) c

pub conditions_push : (classes : List Class) (cs : List Part) (k : Numbered) (c : Part) → conditions_are_plain classes k cs ≡ true → part_is_plain classes (after_conditions k cs) c ≡ true → conditions_are_plain classes k (cs ++ c ∷ []) ≡ true
conditions_push classes [] k c h e = and_from _ _ e refl
conditions_push classes (x ∷ cs) k c h e =
    let each = and_parts (part_is_plain classes k x) (conditions_are_plain classes (after_part k x) cs) h in
    and_from _ _ each.0 (conditions_push classes cs (after_part k x) c each.1 e)

pub after_actions-push : (xs : List Action) (k : InSight) (a : Action) → after_actions k (xs ++ a ∷ []) ≡ after_action (after_actions k xs) a
after_actions-push [] k a = refl
after_actions-push (x ∷ xs) k a = after_actions-push xs (after_action k x) a

pub actions_push : (builds : InSight → ℕ → List Hole → Bool) (classes : List Class) (xs : List Action) (k : InSight) (a : Action) → actions_are_plain builds classes k xs ≡ true → action_is_plain builds classes (after_actions k xs) a ≡ true → actions_are_plain builds classes k (xs ++ a ∷ []) ≡ true
actions_push builds classes [] k a h e = and_from _ _ e refl
actions_push builds classes (x ∷ xs) k a h e =
    let each = and_parts (action_is_plain builds classes k x) (actions_are_plain builds classes (after_action k x) xs) h in
    and_from _ _ each.0 (actions_push builds classes xs (after_action k x) a each.1 e)

pub after_members-push : (cs : List Condition) (k : Numbered) (c : Condition) → after_members k (cs ++ c ∷ []) ≡ after_tests (after_members k cs) c.tests
after_members-push [] k c = refl
after_members-push (x ∷ cs) k c = after_members-push cs (after_tests k x.tests) c

pub members_push : (classes : List Class) (cs : List Condition) (k : Numbered) (c : Condition) → members_are_plain classes k cs ≡ true → (not c.negated && condition_is_plain classes (after_members k cs) c) ≡ true → members_are_plain classes k (cs ++ c ∷ []) ≡ true
members_push classes [] k c h e = and_from _ _ e refl
members_push classes (x ∷ cs) k c h e =
    let each = and_parts (not x.negated && condition_is_plain classes k x) (members_are_plain classes (after_tests k x.tests) cs) h in
    and_from _ _ each.0 (members_push classes cs (after_tests k x.tests) c each.1 e)

pub positive_push : (ps : List Part) (cs : List Condition) → first_is_positive ps ≡ true → first_is_positive (ps ++ Group cs ∷ []) ≡ true
positive_push [] cs h = absurd (true≢false (sym h))
positive_push (One d ∷ ps) cs h = h
positive_push (Group ds ∷ ps) cs h = h

-- what is in sight after a condition
pub condition_counted : (b : Bool) (around : ℕ) (k after : Numbered) (values : List Named) (variables : ℕ) → after ≡ numbered_in values variables → (b ≡ true → numbers_in (take around values) ≡ k.sight)
    → cond b (record { sight = k.sight; given = after.given }) after ≡ numbered_in (cond b (take around values) values) variables
condition_counted false around k after values variables count sight = count
condition_counted true around k after values variables count sight =
    ap (λ (ns : List ℕ). let n : Numbered = record { sight = ns; given = after.given } in n) (sym (sight refl)) ∙ ap (λ (m : Numbered). numbered_in (take around values) m.given) count

-- ---- the first condition

pub begun_positive : (cs : List Part) (c : Condition) → begins_positive cs c.negated ≡ true → first_is_positive (cs ++ One c ∷ []) ≡ true
begun_positive [] c h = h
begun_positive (One x ∷ cs) c h = h
begun_positive (Group ms ∷ cs) c h = h

pub begins_first : (cs : List Part) (b : Bool) → length cs ≡ 0 → b ≡ false → begins_positive cs b ≡ true
begins_first [] b none e = ap not e
begins_first (x ∷ cs) b none e = absurd (omega (arith, none))

pub begins_behind : (cs : List Part) (b : Bool) → first_is_positive cs ≡ true → begins_positive cs b ≡ true
begins_behind [] b h = absurd (true≢false (sym h))
begins_behind (x ∷ cs) b h = h

-- ---- the number of a variable

number_by : (b : Bool) (m n : ℕ) (rest : Option ℕ) (ns : List ℕ) → cond b (Some m) rest ≡ Some n → (rest ≡ Some n → is_in n ns ≡ true) → ((m == n) || is_in n ns) ≡ true
number_by true m n rest ns e ih = or_left _ _ (eq-eqb m n (cc))
number_by false m n rest ns e ih = or_right _ _ (ih e)

pub number_sighted : (name : Sym) (values : List Named) (n : ℕ) → number_of name values ≡ Some n → is_in n (numbers_in values) ≡ true
number_sighted name [] n e = absurd (cc)
number_sighted name (v ∷ vs) n e = number_by (v.name.0 == name.0) v.number n (number_of name vs) (numbers_in vs) e (number_sighted name vs n)

-- ---- cells

cells_by : (b : Bool) (c : ℕ) (xs ys : List ℕ) → length xs ≤ length ys → length (cond b xs (c ∷ xs)) ≤ length (cond b ys (c ∷ ys))
cells_by true c xs ys le = le
cells_by false c xs ys le = omega (arith, le)

-- a condition more takes no cell away
pub cells_more : (cs : List Part) (c : Part) → length (cells_of cs) ≤ length (cells_of (cs ++ c ∷ []))
cells_more [] c = omega arith
cells_more (Group ms ∷ cs) c = cells_more cs c
cells_more (One x ∷ cs) c = cells_by x.negated x.class (cells_of cs) (cells_of (cs ++ c ∷ [])) (cells_more cs c)

-- the first condition has a cell
pub some_cell : (cs : List Part) → first_is_positive cs ≡ true → 0 < length (cells_of cs)
some_cell [] h = absurd (true≢false (sym h))
some_cell (Group ms ∷ cs) h = absurd (true≢false (sym h))
some_cell (One c ∷ cs) h = cond_both c.negated _ _ (λ (ns : List ℕ). 0 < length ns) (λ is. absurd (true≢false (sym h ∙ ap not is))) (λ _. omega arith)

numbers_below : (b : Bool) (m n k : ℕ) (rest : Option ℕ) → cond b (Some m) rest ≡ Some n → nat_lt m k ≡ true → (rest ≡ Some n → nat_lt n k ≡ true) → nat_lt n k ≡ true
numbers_below true m n k rest e lt ih = let same : m ≡ n = cc in ap (λ (i : ℕ). nat_lt i k) (sym same) ∙ lt
numbers_below false m n k rest e lt ih = ih e

-- an element variable names a cell
pub number_below : (name : Sym) (elements : List Named) (n k : ℕ) → list_all (λ e. nat_lt e.number k) elements ≡ true → number_of name elements ≡ Some n → nat_lt n k ≡ true
number_below name [] n k h e = absurd (cc)
number_below name (v ∷ vs) n k h e =
    let parts = and_parts (nat_lt v.number k) (list_all (λ e. nat_lt e.number k) vs) h in
    numbers_below (v.name.0 == name.0) v.number n k (number_of name vs) e parts.0 (number_below name vs n k parts.1)

-- and one of a number that is no less
pub below_more : (elements : List Named) (m n : ℕ) → m ≤ n → list_all (λ e. nat_lt e.number m) elements ≡ true → list_all (λ e. nat_lt e.number n) elements ≡ true
below_more elements m n le h =
    all_weaker (λ e. nat_lt e.number m) (λ e. nat_lt e.number n) elements (λ e lt. let below : e.number < m = ltb-true e.number m lt in lt-ltb e.number n (omega (arith, below, le))) h

renumbered_by : (b : Bool) (v : Named) (vs rest : List Named) (n k : ℕ) → nat_lt v.number k ≡ true → list_all (λ e. nat_lt e.number k) vs ≡ true → list_all (λ e. nat_lt e.number k) rest ≡ true → nat_lt n k ≡ true
    → list_all (λ e. nat_lt e.number k) (cond b (record v { number = n } ∷ vs) (v ∷ rest)) ≡ true
renumbered_by true v vs rest n k first h e lt = and_from _ _ lt h
renumbered_by false v vs rest n k first h e lt = and_from _ _ first e

-- and one that is named anew
pub renumbered_below : (name : Sym) (n k : ℕ) (elements : List Named) → nat_lt n k ≡ true → list_all (λ e. nat_lt e.number k) elements ≡ true → list_all (λ e. nat_lt e.number k) (renumbered name n elements) ≡ true
renumbered_below name n k [] lt h = and_from _ _ lt refl
renumbered_below name n k (v ∷ vs) lt h =
    let parts = and_parts (nat_lt v.number k) (list_all (λ e. nat_lt e.number k) vs) h in
    renumbered_by (v.name.0 == name.0) v vs (renumbered name n vs) n k parts.0 parts.1 (renumbered_below name n k vs lt parts.1) lt

-- the cells of conditions have classes
cells_are_by : (b : Bool) (classes : List Class) (class : ℕ) (xs : List ℕ) → nat_lt class (length classes) ≡ true → list_all (λ c. nat_lt c (length classes)) xs ≡ true → list_all (λ c. nat_lt c (length classes)) (cond b xs (class ∷ xs)) ≡ true
cells_are_by true classes class xs lt h = h
cells_are_by false classes class xs lt h = and_from _ _ lt h

pub cells_are : (classes : List Class) (cs : List Part) (k : Numbered) → conditions_are_plain classes k cs ≡ true → list_all (λ c. nat_lt c (length classes)) (cells_of cs) ≡ true
cells_are classes [] k h = refl
cells_are classes (Group ms ∷ cs) k h =
    cells_are classes cs (after_part k (Group ms)) (and_parts (part_is_plain classes k (Group ms)) (conditions_are_plain classes (after_part k (Group ms)) cs) h).1
cells_are classes (One c ∷ cs) k h =
    let each = and_parts (condition_is_plain classes k c) (conditions_are_plain classes (after_condition k c) cs) h in
    let here = and_parts (nat_lt c.class (length classes)) (tests_are_plain (class_of classes c.class) k c.tests) each.0 in
    cells_are_by c.negated classes c.class (cells_of cs) here.0 (cells_are classes cs (after_condition k c) each.1)
