-- What holds of what was read so far, for each thing that may be wanted next.
use Rattle.std.proofs.Common.{◌≡◌, ℕ, ◌+◌, ◌<◌, ◌≤◌, Bool, true, false, not, ◌==◌, List, [], ◌∷◌, ◌++◌, length, map, take, nat_lt, Option, Some, None, is_some, unwrap_or, slice_get, suc, ◌&&◌, ◌||◌, if◌then◌else◌, refl}
use Rattle.std.specs.List.{list_all, list_any}
use Rattle.ops_base.specs.declared.values.Sym.{Sym}
use Rattle.ops_base.specs.declared.values.Pred.{Pred}
use Rattle.ops_base.specs.declared.elements.Class.{Class}
use Rattle.ops_base.specs.declared.conditions.Test.{Test}
use Rattle.ops_base.specs.declared.conditions.Condition.{Condition}
use Rattle.ops_base.specs.declared.conditions.Part.{Part}
use Rattle.ops_base.specs.declared.actions.Action.{Action}
use Rattle.ops_base.specs.declared.actions.Hole.{Hole}
use Rattle.ops_base.specs.declared.rules.Rule.{Rule}
use Rattle.ops_base.specs.declared.commands.Command.{Command}
use Rattle.ops_base.specs.Expression.{Formula, all_variables}
use Rattle.ops_base.specs.Valid.{most_fields, most_conditions, are_distinct, class_of, class_is_valid, is_attribute, is_vector, is_field, is_in, Sight, tests_are_valid, sight_after_tests, parts_are_valid, sight_after_parts, nothing_in_sight, first_is_positive, cells_of, known_of, is_cell, class_of_cell, is_natural, Known, known_after_actions, term_is_valid, put_is_valid, item_is_valid, actions_are_valid, rule_is_valid, fixed_is_valid, command_is_valid, elements_of, members_are_valid, sight_after_members, builds_from, rule_builds_from, command_builds_from, template_is_valid}
use Rattle.ops_grammar.specs.declared.words.Named.{Named}
use Rattle.ops_grammar.specs.Grammar.{Use, InPattern, InPut, InFixed, Target, ToTest, ToPut, ToFixed, ToTerms, ToConstants, ToItem, ToBind, EndsHalt, EndsCrlf, EndsCs, EndsExit, EndsWhole, Column, TagUse, ToRemove, ToShow, NameUse, ToPrint, ToBreak, Wanted, Forms, Form, ClassDeclared, Attributes, VectorName, VectorNames, RuleName, FirstPattern, Patterns, Pattern, Braced, ElementName, ClosesBrace, ClassName, Terms, Attribute, Several, Place, Tests, Tested, Choice, Atom, ValueFor, Function, Waiting, ExpressionUnit, ExpressionRest, Bracketed, SourceCell, SourceAttribute, SourceEnd, Actions, ActionWord, BuiltName, Outer, Modified, BoundName, BoundValue, CellName, Cell, Cells, Items, ItemWord, Columns, Count, StrategyName, TagOrAll, Tags, Shown, NamedRule, NamedRules, Level, Undone, Closes, precedes_classes, State, Step, Next, Refuses, GroupBrace, Members, with_several, ToExcise, ToMatch, added_by, has_title}
use Rattle.ops_grammar.specs.Spelling.{titles_are_distinct, is_add, adds_late}

-- the place of the production around the one that is read, and how many actions of it were read
abbrev pub first_around : Option Outer → ℕ
first_around None = 0
first_around (Some o) = o.first

abbrev pub actions_around : Option Outer → ℕ
actions_around None = 0
actions_around (Some o) = length o.actions

-- the form that is read began before the first place, and no list is longer than that place, but those of attributes
-- with values are not longer than the second
abbrev pub IsShortBy : ℕ → ℕ → State → Type 0
IsShortBy n m s =
    (s.first ≤ n) × (length s.classes ≤ n) × (length s.rules ≤ n) × (length s.commands ≤ n) × (length s.tests ≤ n) × (length s.puts ≤ m)
    × (length s.fixed ≤ m) × (length s.cells ≤ n) × (length s.items ≤ n) × (length s.actions ≤ n) × (length s.choice ≤ n)
    × (length s.terms ≤ n) × (length s.tags ≤ n) × (length s.named ≤ n) × (s.begun ≤ n) × (first_around s.outer ≤ n) × (actions_around s.outer ≤ n)

-- the form that is read began before the place, and no list is longer than the place
abbrev pub IsShort : ℕ → State → Type 0
IsShort n s = IsShortBy n n s

-- It is valid, and builds from templates among so many.
abbrev pub rule_is_sound : List Class → ℕ → ℕ → Rule → Bool
rule_is_sound classes text built r = rule_is_valid classes text r && rule_builds_from built r

abbrev pub command_is_sound : List Class → ℕ → ℕ → Command → Bool
command_is_sound classes text built c = command_is_valid classes text c && command_builds_from built c

-- a valid command that adds no production
abbrev pub other_is_sound : List Class → ℕ → Command → Bool
other_is_sound classes text c = command_is_valid classes text c && not (is_add c)

-- no production has that name
abbrev pub IsNew : Sym → List Rule → List Command → Type 0
IsNew name rules commands = (has_title name rules || has_title name (added_by commands)) ≡ false

-- the forms that were read, and the templates of a production that may be read
pub record IsProgram (text : ℕ) (classes : List Class) (rules templates : List Rule) (commands : List Command) (producing : Bool) : Type 0 where
  pub classes_valid : list_all class_is_valid classes ≡ true
  pub rules_valid : list_all (rule_is_sound classes text (length templates)) rules ≡ true
  pub templates_valid : list_all (template_is_valid classes text) templates ≡ true
  pub commands_valid : list_all (command_is_sound classes text (length templates)) commands ≡ true
  -- a template is one of a production
  pub unused : producing ≡ false → length rules ≡ 0 → list_all precedes_classes commands ≡ true → length templates ≡ 0
  pub class_names : are_distinct (map (λ c. c.name.0) classes) ≡ true
  pub rule_names : titles_are_distinct rules commands ≡ true
  pub late : adds_late commands ≡ true

-- a class may come
pub record IsDeclaring (text : ℕ) (classes : List Class) (rules templates : List Rule) (commands : List Command) : Type 0 where
  pub program : IsProgram text classes rules templates commands false
  pub no_rules : length rules ≡ 0
  pub commands_precede : list_all precedes_classes commands ≡ true

-- a class of that name may have these attributes
pub record IsClass (classes : List Class) (name : Sym) (attrs : List Sym) : Type 0 where
  pub is_new : list_any (λ c. c.name.0 == name.0) classes ≡ false
  pub few : length attrs ≤ most_fields
  pub distinct : are_distinct (map (λ a. a.0) attrs) ≡ true

abbrev pub numbers : List Named → List ℕ
numbers values = map (λ n. n.number) values

-- the variables of a rule that is read: those in sight, how many were given a number, whether its condition is negated,
-- how many are in sight around that, and the element variables
pub record Variables : Type 0 where
  pub values : List Named
  pub given : ℕ
  pub negated : Bool
  pub around : ℕ
  pub elements : List Named
  -- of a group that is read
  pub grouped : Bool
  pub members : List Condition
  -- the production around, and the holes of the one that is read
  pub outer : Option Outer
  pub holes : List Hole

-- what is in sight after the conditions
abbrev pub seen : List Part → Sight
seen conditions = sight_after_parts nothing_in_sight conditions

-- and after the members of a group that is read
abbrev pub inside : Variables → List Part → Sight
inside v conditions = sight_after_members (seen conditions) v.members

-- the variables around are put back at the end: of a negated condition, or of a group
abbrev pub keeps_around : Variables → Bool
keeps_around v = v.negated || v.grouped

abbrev pub all_below : ℕ → List ℕ → Bool
all_below k ns = list_all (λ n. nat_lt n k) ns

-- what the right side of a rule knows after some actions
abbrev pub known : List Part → List Action → Known
known conditions actions = known_after_actions (known_of conditions) actions

-- the class of the element that a right side made last, and the classes of the cells that it named
pub record Side : Type 0 where
  pub made : Option ℕ
  pub further : List ℕ

-- what is in sight is what the right side knows
pub record Knows (k : Known) (v : Variables) (conditions : List Part) (r : Side) : Type 0 where
  pub bound : list_all (λ n. is_in n k.bound) (numbers v.values) ≡ true
  pub given : all_below v.given k.given ≡ true
  pub counted : all_below v.given (numbers v.values) ≡ true
  pub cells : k.cells ≡ cells_of conditions ++ r.further
  pub elements : all_below (length k.cells) (numbers v.elements) ≡ true
  pub made : k.made ≡ r.made

-- the variables of a production around the one that is read
abbrev pub variables_in : Outer → Variables
variables_in o =
    record { values = o.values; given = o.variables; negated = false; around = 0; elements = o.elements; grouped = false; members = []; outer = None; holes = [] }

abbrev pub side_in : Outer → Side
side_in o = record { made = o.made; further = o.further }

-- the variables of holes are bound in the production around
abbrev pub holes_are_bound : Known → List Hole → Bool
holes_are_bound k hs = list_all (λ h. is_in h.variable k.bound) hs

-- a production around the one that is read, up to the action that builds that one
pub record IsOuter (classes : List Class) (rules templates : List Rule) (commands : List Command) (o : Outer) (hs : List Hole) : Type 0 where
  pub is_new : IsNew o.name rules commands
  pub few : length (elements_of o.conditions) ≤ most_conditions
  pub left : parts_are_valid classes nothing_in_sight o.conditions ≡ true
  pub some : first_is_positive o.conditions ≡ true
  pub valid : actions_are_valid classes (known_of o.conditions) o.actions ≡ true
  pub builds : list_all (builds_from (length templates)) o.actions ≡ true
  pub knows : Knows (known o.conditions o.actions) (variables_in o) o.conditions (side_in o)
  pub bound : holes_are_bound (known o.conditions o.actions) hs ≡ true

-- where a production stands: by itself, and its name is new, or in another one
abbrev pub Stands : List Class → List Rule → List Rule → List Command → Sym → Option Outer → List Hole → Type 0
Stands classes rules templates commands name None hs = IsNew name rules commands
Stands classes rules templates commands name (Some o) hs = IsOuter classes rules templates commands o hs

-- from how many templates its actions may build
abbrev pub allowed : Option Outer → ℕ → ℕ
allowed None n = n
allowed (Some o) n = 0

-- the left side of a rule up to some tests of a condition
pub record IsHead (text : ℕ) (classes : List Class) (rules templates : List Rule) (commands : List Command) (name : Sym) (v : Variables) (conditions : List Part) (tests : List Test) : Type 0 where
  pub program : IsProgram text classes rules templates commands true
  pub is_new : Stands classes rules templates commands name v.outer v.holes
  pub few : length (elements_of conditions) + length v.members ≤ most_conditions
  pub valid : parts_are_valid classes nothing_in_sight conditions ≡ true
  pub within : members_are_valid classes (seen conditions) v.members ≡ true
  pub alone : v.grouped ≡ false → v.members ≡ []
  pub first : 0 < length conditions → first_is_positive conditions ≡ true
  pub bound : (sight_after_tests (inside v conditions) tests).bound ≡ numbers v.values
  pub below : all_below v.given (sight_after_tests (inside v conditions) tests).given ≡ true
  pub room : keeps_around v ≡ true → v.around ≤ length v.values
  pub outside : keeps_around v ≡ true → (seen conditions).bound ≡ numbers (take v.around v.values)
  pub counted : all_below v.given (numbers v.values) ≡ true
  pub elements : all_below (length (cells_of conditions)) (numbers v.elements) ≡ true

-- a rule up to some actions
pub record IsBody (text : ℕ) (classes : List Class) (rules templates : List Rule) (commands : List Command) (name : Sym) (v : Variables) (conditions : List Part) (r : Side) (actions : List Action) : Type 0 where
  pub program : IsProgram text classes rules templates commands true
  pub is_new : Stands classes rules templates commands name v.outer v.holes
  pub few : length (elements_of conditions) ≤ most_conditions
  pub left : parts_are_valid classes nothing_in_sight conditions ≡ true
  pub some : first_is_positive conditions ≡ true
  pub valid : actions_are_valid classes (known_of conditions) actions ≡ true
  pub builds : list_all (builds_from (allowed v.outer (length templates))) actions ≡ true
  pub knows : Knows (known conditions actions) v conditions r

abbrev pub variables_of : State → Variables
variables_of s = record { values = s.values; given = s.variables; negated = s.negated; around = s.around; elements = s.elements; grouped = s.grouped; members = s.members; outer = s.outer; holes = s.holes }

abbrev pub side_of : State → Side
side_of s = record { made = s.made; further = s.further }

abbrev pub Program : ℕ → State → Type 0
Program text s = IsProgram text s.classes s.rules s.templates s.commands false

abbrev pub Declaring : ℕ → State → Type 0
Declaring text s = IsDeclaring text s.classes s.rules s.templates s.commands

abbrev pub Head : ℕ → State → Type 0
Head text s = IsHead text s.classes s.rules s.templates s.commands s.name (variables_of s) s.conditions s.tests

abbrev pub Body : ℕ → State → Type 0
Body text s = IsBody text s.classes s.rules s.templates s.commands s.name (variables_of s) s.conditions (side_of s) s.actions

-- what the right side of the rule that is read knows
abbrev pub known_in : State → Known
known_in s = known s.conditions s.actions

-- where an element stands
abbrev pub Around : Use → ℕ → State → Type 0
Around InPattern text s = Head text s × (length (elements_of s.conditions) + length s.members < most_conditions) × (length s.conditions ≡ 0 → s.negated ≡ false) × (s.grouped ≡ true → 0 < length s.conditions)
Around InPut text s = Body text s
Around InFixed text s = Program text s

-- no attribute of it was read
abbrev pub IsEmpty : Use → State → Type 0
IsEmpty InPattern s = s.tests ≡ []
IsEmpty InPut s = s.puts ≡ []
IsEmpty InFixed s = s.fixed ≡ []

-- what an action names: the class of a new element, or a cell, whose class that is
abbrev pub IsNamed : List Class → Known → ℕ → Option ℕ → Type 0
IsNamed classes k class None = class < length classes
IsNamed classes k class (Some cell) = (is_cell k cell ≡ true) × (class ≡ unwrap_or (slice_get k.cells cell) 0)

abbrev pub HasClass : Use → State → Type 0
HasClass InPattern s = s.class < length s.classes
HasClass InPut s = IsNamed s.classes (known_in s) s.class s.modified
HasClass InFixed s = s.class < length s.classes

-- an action names no cell
abbrev pub IsOfClass : Use → State → Type 0
IsOfClass InPattern s = Unit {0}
IsOfClass InPut s = s.modified ≡ None
IsOfClass InFixed s = Unit {0}

-- the attributes that were read
abbrev pub HasFields : Use → State → Type 0
HasFields InPattern s = tests_are_valid (class_of s.classes s.class) (inside (variables_of s) s.conditions) s.tests ≡ true
HasFields InPut s = list_all (put_is_valid s.classes (known_in s) (class_of s.classes s.class)) s.puts ≡ true
HasFields InFixed s = list_all (fixed_is_valid (class_of s.classes s.class)) s.fixed ≡ true

pub record IsElement (u : Use) (text : ℕ) (s : State) : Type 0 where
  pub around : Around u text s
  pub class : HasClass u s
  pub fields : HasFields u s

-- what stands around a pattern of a left side: nothing, or braces with the element variable before it or after it
pub data Braces : Type 0 where
  Bare : Braces
  NamedBefore : Braces
  NamedBehind : Braces
  -- among the members of a group, of which that number stand before
  AsMember : (count : ℕ) → Braces

-- what is wanted after the actions of a production: more of those of the one around, or forms
abbrev pub below : Option Outer → List Wanted
below None = Forms ∷ []
below (Some o) = Actions false ∷ Forms ∷ []

-- what is wanted after its left side, and after each action
abbrev pub sides : Option Outer → List Wanted
sides o = Actions (is_some o) ∷ below o

-- what is wanted after a pattern
abbrev pub behind_pattern : Option Outer → Braces → List Wanted
behind_pattern o Bare = Patterns ∷ sides o
behind_pattern o NamedBefore = ClosesBrace ∷ Patterns ∷ sides o
behind_pattern o NamedBehind = ElementName ∷ ClosesBrace ∷ Patterns ∷ sides o
behind_pattern o (AsMember n) = Members (suc n) ∷ Patterns ∷ sides o

-- a pattern stands in a group, where one is read
abbrev pub outer : Braces → Braces
outer (AsMember n) = Bare
outer b = b

abbrev pub at : State → Braces → Braces
at s b = if s.grouped then AsMember (length s.members) else outer b

-- what is wanted after an element
abbrev pub behind : Option Outer → Braces → Use → List Wanted
behind o b InPattern = behind_pattern o b
behind o b InPut = sides o
behind o b InFixed = Forms ∷ []

-- what is wanted after a place: more attributes, or more places of the vector attribute, the next of which is this field
abbrev pub behind_place : Option Outer → Braces → Option ℕ → List Wanted
behind_place o b None = Terms InPattern ∷ behind o b InPattern
behind_place o b (Some f) = Several InPattern f ∷ behind o b InPattern

-- what is wanted after a test: more tests of a conjunction, or what is wanted after its place
abbrev pub behind_test : Option Outer → Braces → Option ℕ → ℕ → Bool → List Wanted
behind_test o b more f true = Tests f ∷ behind_place o b more
behind_test o b more f false = behind_place o b more

-- an element that is read up to the value of an attribute
abbrev pub AtField : Use → ℕ → State → ℕ → Type 0
AtField u text s f = IsElement u text s × (is_attribute (class_of s.classes s.class) f ≡ true)

-- after the place more places may come
abbrev pub HasMore : Option ℕ → Class → Type 0
HasMore None c = Unit {0}
HasMore (Some f) c = c.vector ≡ true

-- a pattern that is read up to a place for this field
abbrev pub AtPlace : Option ℕ → ℕ → State → ℕ → Type 0
AtPlace more text s f = IsElement InPattern text s × (is_field (class_of s.classes s.class) f ≡ true) × HasMore more (class_of s.classes s.class)

-- an element that is read up to some places or values of its vector attribute
abbrev pub AtSeveral : Use → ℕ → State → ℕ → Type 0
AtSeveral InPattern text s f = IsElement InPattern text s × ((class_of s.classes s.class).vector ≡ true)
AtSeveral InPut text s f =
    IsElement InPut text s × (is_vector (class_of s.classes s.class) f ≡ true) × (list_all (term_is_valid s.classes (known_in s) true) s.terms ≡ true)
AtSeveral InFixed text s f = IsElement InFixed text s × (is_vector (class_of s.classes s.class) f ≡ true) × (f + length s.constants ≤ most_fields)

-- a left side up to a pattern
abbrev pub BeforePattern : ℕ → State → Type 0
BeforePattern text s = Around InPattern text s × IsEmpty InPattern s

-- a left side after a pattern
abbrev pub AfterPattern : ℕ → State → Type 0
AfterPattern text s = Head text s × (s.tests ≡ []) × (0 < length s.conditions) × (s.grouped ≡ false)

-- a left side among the members of a group
abbrev pub AmongMembers : ℕ → ℕ → State → Type 0
AmongMembers n text s = Head text s × (s.tests ≡ []) × (0 < length s.conditions) × (s.grouped ≡ true) × (length s.members ≡ n)

-- a right side up to an action with some cells, or with some items
abbrev pub HasCells : ℕ → State → Type 0
HasCells text s = Body text s × (list_all (is_cell (known_in s)) s.cells ≡ true)

abbrev pub HasItems : ℕ → State → Type 0
HasItems text s = Body text s × (list_all (item_is_valid s.classes (known_in s)) s.items ≡ true)

-- where a value of an action stands: after a scalar attribute, among the values of the vector attribute, in `write`, or
-- in `bind`
pub data Slot : Type 0 where
  InScalar : (field : ℕ) → Slot
  InVector : (field : ℕ) → Slot
  InWrite : Slot
  InBind : Slot

abbrev pub target_of : Slot → Target
target_of (InScalar f) = ToPut f
target_of (InVector f) = ToTerms
target_of InWrite = ToItem
target_of InBind = ToBind

-- what is wanted after the value
abbrev pub behind_value : Option Outer → Slot → List Wanted
behind_value o (InScalar f) = Terms InPut ∷ sides o
behind_value o (InVector f) = Several InPut f ∷ sides o
behind_value o InWrite = Items ∷ sides o
behind_value o InBind = Closes EndsWhole ∷ sides o

-- an action up to the value, or after it
abbrev pub AtValue : Slot → ℕ → State → Type 0
AtValue (InScalar f) text s = AtField InPut text s f
AtValue (InVector f) text s = AtSeveral InPut text s f
AtValue InWrite text s = HasItems text s
AtValue InBind text s = Body text s

-- the variables of a formula are known
abbrev pub formula_is_known : Known → Formula → Bool
formula_is_known k f = all_variables (λ v. is_in v k.bound) f

-- an expression that is open: the number of brackets that are open in it, and what waits there
pub record Opened : Type 0 where
  pub depth : ℕ
  pub waiting : List Waiting

-- the variables of all that waits in it are known
abbrev pub opened_is_known : Known → Opened → Bool
opened_is_known k o = list_all (λ w. formula_is_known k w.left) o.waiting

-- where the value of an expression goes, inside of those that are open: into the innermost of them, or to where the
-- function stands
abbrev pub into_opened : Slot → List Opened → Option Target
into_opened slot [] = Some (target_of slot)
into_opened slot (o ∷ os) = None

-- what is wanted after an operand of expressions that are open, the innermost first
abbrev pub behind_operand : Option Outer → Slot → List Opened → List Wanted
behind_operand around slot [] = behind_value around slot
behind_operand around slot (o ∷ os) = ExpressionRest o.depth o.waiting (into_opened slot os) ∷ behind_operand around slot os

-- a `compute` up to an operand, where all that waits is known
abbrev pub AtOperand : Slot → List Opened → ℕ → State → Type 0
AtOperand slot os text s = AtValue slot text s × (list_all (opened_is_known (known_in s)) os ≡ true)

-- one after an operand, which is known too
abbrev pub HasOperand : Slot → List Opened → ℕ → State → Type 0
HasOperand slot os text s = AtOperand slot os text s × (formula_is_known (known_in s) s.formula ≡ true)

-- a `substr` up to its first attribute, and up to what ends it
abbrev pub HasSource : Slot → ℕ → State → Type 0
HasSource slot text s = AtValue slot text s × (is_cell (known_in s) s.source ≡ true)

abbrev pub HasSourceField : Slot → ℕ → State → Type 0
HasSourceField slot text s = HasSource slot text s × (is_attribute (class_of_cell s.classes (known_in s) s.source) s.source_field ≡ true)

-- this many tags, or names, as the command that they are for needs
abbrev pub HasTags : TagUse → List ℕ → Type 0
HasTags ToRemove tags = 0 < length tags
HasTags ToShow tags = Unit {0}

abbrev pub HasNames : NameUse → List Sym → Type 0
HasNames ToPrint names = 0 < length names
HasNames ToBreak names = Unit {0}
HasNames ToExcise names = 0 < length names
HasNames ToMatch names = 0 < length names

-- a command up to its next tag, or to its next name
abbrev pub AtTags : TagUse → ℕ → State → Type 0
AtTags u text s = Program text s × (list_all is_natural s.tags ≡ true) × HasTags u s.tags

abbrev pub AtNames : NameUse → ℕ → State → Type 0
AtNames u text s = Program text s × HasNames u s.named

-- the end of several values leaves a group as it is
pub several_at : (u : Use) (f : ℕ) (s : State) (b : Braces) → at (with_several u f s) b ≡ at s b
several_at InPattern f s b = refl
several_at InPut f s b = refl
several_at InFixed f s b = refl

pub several_outer : (u : Use) (f : ℕ) (s : State) → (with_several u f s).outer ≡ s.outer
several_outer InPattern f s = refl
several_outer InPut f s = refl
several_outer InFixed f s = refl

-- what may be wanted, and what then holds
pub data IsRead (text : ℕ) (s : State) : List Wanted → Type 0 where
  at_forms : (Program text s) → IsRead text s (Forms ∷ [])
  at_form : (Program text s) → IsRead text s (Form ∷ Forms ∷ [])
  at_class_declared : (Declaring text s) → IsRead text s (ClassDeclared ∷ Attributes ∷ Forms ∷ [])
  at_attributes : (Declaring text s × IsClass s.classes s.name s.attrs) → IsRead text s (Attributes ∷ Forms ∷ [])
  at_vector_name : (Declaring text s) → IsRead text s (VectorName ∷ VectorNames ∷ Forms ∷ [])
  at_vector_names : (Declaring text s) → IsRead text s (VectorNames ∷ Forms ∷ [])
  at_rule_name : (Program text s) → IsRead text s (RuleName ∷ FirstPattern ∷ Patterns ∷ Actions false ∷ Forms ∷ [])
  at_built_name : (Head text s × (s.tests ≡ []) × (length s.conditions ≡ 0) × (s.negated ≡ false) × (s.grouped ≡ false) × (is_some s.outer ≡ true)) → IsRead text s (BuiltName ∷ FirstPattern ∷ Patterns ∷ sides s.outer)
  at_first_pattern : (Head text s × (s.tests ≡ []) × (length s.conditions ≡ 0) × (s.negated ≡ false) × (s.grouped ≡ false)) → IsRead text s (FirstPattern ∷ Patterns ∷ sides s.outer)
  at_patterns : (AfterPattern text s) → IsRead text s (Patterns ∷ sides s.outer)
  at_group : (AfterPattern text s) → IsRead text s (GroupBrace ∷ Patterns ∷ sides s.outer)
  at_members : (n : ℕ) → AmongMembers n text s → IsRead text s (Members n ∷ Patterns ∷ sides s.outer)
  at_pattern : (b : Braces) → (BeforePattern text s) → IsRead text s (Pattern ∷ behind s.outer (at s b) InPattern)
  at_braced : (BeforePattern text s × (s.grouped ≡ false)) → IsRead text s (Braced ∷ Patterns ∷ sides s.outer)
  at_element_name : (AfterPattern text s) → IsRead text s (ElementName ∷ ClosesBrace ∷ Patterns ∷ sides s.outer)
  at_closes_brace : (AfterPattern text s) → IsRead text s (ClosesBrace ∷ Patterns ∷ sides s.outer)
  at_class_name : (b : Braces) → (u : Use) → (Around u text s × IsEmpty u s × IsOfClass u s) → IsRead text s (ClassName ∷ Terms u ∷ behind s.outer (at s b) u)
  at_terms : (b : Braces) → (u : Use) → (IsElement u text s) → IsRead text s (Terms u ∷ behind s.outer (at s b) u)
  at_attribute : (b : Braces) → (u : Use) → (IsElement u text s) → IsRead text s (Attribute u ∷ behind s.outer (at s b) u)
  at_several : (b : Braces) → (u : Use) → (f : ℕ) → AtSeveral u text s f → IsRead text s (Several u f ∷ behind s.outer (at s b) u)
  at_place : (b : Braces) → (more : Option ℕ) → (f : ℕ) → AtPlace more text s f → IsRead text s (Place f ∷ behind_place s.outer (at s b) more)
  at_tests : (b : Braces) → (more : Option ℕ) → (f : ℕ) → AtPlace more text s f → IsRead text s (Tests f ∷ behind_place s.outer (at s b) more)
  at_tested : (b : Braces) → (more : Option ℕ) → (f : ℕ) → (p : Pred) → (among : Bool) → AtPlace more text s f → IsRead text s (Tested f p ∷ behind_test s.outer (at s b) more f among)
  at_choice : (b : Braces) → (more : Option ℕ) → (f : ℕ) → (among : Bool) → AtPlace more text s f → IsRead text s (Choice f ∷ behind_test s.outer (at s b) more f among)
  at_test_atom : (b : Braces) → (more : Option ℕ) → (f : ℕ) → (p : Pred) → (among : Bool) → AtPlace more text s f → IsRead text s (Atom (ToTest f p) ∷ behind_test s.outer (at s b) more f among)
  at_fixed_value : (f : ℕ) → AtField InFixed text s f → IsRead text s (ValueFor (ToFixed f) ∷ Terms InFixed ∷ behind None Bare InFixed)
  at_fixed_atom : (f : ℕ) → AtField InFixed text s f → IsRead text s (Atom (ToFixed f) ∷ Terms InFixed ∷ behind None Bare InFixed)
  at_constants_atom : (f : ℕ) → AtSeveral InFixed text s f → (f + length s.constants < most_fields) → IsRead text s (Atom ToConstants ∷ Several InFixed f ∷ behind None Bare InFixed)
  at_value : (slot : Slot) → AtValue slot text s → IsRead text s (ValueFor (target_of slot) ∷ behind_value s.outer slot)
  at_atom : (slot : Slot) → AtValue slot text s → IsRead text s (Atom (target_of slot) ∷ behind_value s.outer slot)
  at_function : (slot : Slot) → AtValue slot text s → IsRead text s (Function (target_of slot) ∷ behind_value s.outer slot)
  at_expression_unit : (slot : Slot) → (depth : ℕ) → (o : Opened) → (os : List Opened) → AtOperand slot (o ∷ os) text s → IsRead text s (ExpressionUnit depth ∷ behind_operand s.outer slot (o ∷ os))
  at_bracketed : (slot : Slot) → (depth : ℕ) → (o : Opened) → (os : List Opened) → AtOperand slot (o ∷ os) text s → IsRead text s (Bracketed depth ∷ behind_operand s.outer slot (o ∷ os))
  at_expression_rest : (slot : Slot) → (o : Opened) → (os : List Opened) → HasOperand slot (o ∷ os) text s → IsRead text s (behind_operand s.outer slot (o ∷ os))
  at_source_cell : (slot : Slot) → AtValue slot text s → IsRead text s (SourceCell ∷ SourceAttribute (target_of slot) ∷ behind_value s.outer slot)
  at_source_attribute : (slot : Slot) → HasSource slot text s → IsRead text s (SourceAttribute (target_of slot) ∷ behind_value s.outer slot)
  at_source_end : (slot : Slot) → (name : Sym) → HasSourceField slot text s → IsRead text s (SourceEnd (target_of slot) name ∷ Closes EndsWhole ∷ behind_value s.outer slot)
  at_value_end : (slot : Slot) → AtValue slot text s → IsRead text s (Closes EndsWhole ∷ behind_value s.outer slot)
  at_actions : (Body text s) → IsRead text s (sides s.outer)
  at_action_word : (Body text s) → IsRead text s (ActionWord (is_some s.outer) ∷ sides s.outer)
  at_modified : (Body text s × (s.puts ≡ [])) → IsRead text s (Modified ∷ Terms InPut ∷ sides s.outer)
  at_bound_name : (Body text s) → IsRead text s (BoundName ∷ BoundValue ∷ sides s.outer)
  at_bound_value : (Body text s) → IsRead text s (BoundValue ∷ sides s.outer)
  at_cell_name : (Body text s) → IsRead text s (CellName ∷ Closes EndsWhole ∷ sides s.outer)
  at_action_end : (Body text s) → IsRead text s (Closes EndsWhole ∷ sides s.outer)
  at_cell : (HasCells text s) → IsRead text s (Cell ∷ Cells ∷ sides s.outer)
  at_cells : (HasCells text s × (0 < length s.cells)) → IsRead text s (Cells ∷ sides s.outer)
  at_items : (HasItems text s) → IsRead text s (Items ∷ sides s.outer)
  at_item_word : (HasItems text s) → IsRead text s (ItemWord ∷ Items ∷ sides s.outer)
  at_columns : (c : Column) → (HasItems text s) → IsRead text s (Columns c ∷ Closes EndsWhole ∷ Items ∷ sides s.outer)
  at_crlf : (HasItems text s) → IsRead text s (Closes EndsCrlf ∷ Items ∷ sides s.outer)
  at_halt : (Body text s) → IsRead text s (Closes EndsHalt ∷ sides s.outer)
  at_count : (Program text s) → IsRead text s (Count ∷ Forms ∷ [])
  at_strategy_name : (Program text s) → IsRead text s (StrategyName ∷ Forms ∷ [])
  at_tag_or_all : (Program text s × (s.tags ≡ [])) → IsRead text s (TagOrAll ∷ Forms ∷ [])
  at_tags : (u : TagUse) → (AtTags u text s) → IsRead text s (Tags u ∷ Forms ∷ [])
  at_shown : (Program text s) → IsRead text s (Shown ∷ Forms ∷ [])
  at_named_rule : (u : NameUse) → (Program text s) → IsRead text s (NamedRule ∷ NamedRules u ∷ Forms ∷ [])
  at_named_rules : (u : NameUse) → (AtNames u text s) → IsRead text s (NamedRules u ∷ Forms ∷ [])
  at_level : (Program text s) → IsRead text s (Level ∷ Forms ∷ [])
  at_undone : (Program text s) → IsRead text s (Undone ∷ Forms ∷ [])
  at_cs : (Program text s) → IsRead text s (Closes EndsCs ∷ Forms ∷ [])
  at_exit : (Program text s) → IsRead text s (Closes EndsExit ∷ Forms ∷ [])
  at_command_end : (Program text s) → IsRead text s (Closes EndsWhole ∷ Forms ∷ [])

-- where a step leads, up to a place
abbrev pub Leads : ℕ → ℕ → Step → Type 0
Leads text n (Next ws s) = IsShort n s × IsRead text s ws
Leads text n (Refuses f) = Unit {0}
