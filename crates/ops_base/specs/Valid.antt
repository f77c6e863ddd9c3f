-- Which classes, rules and commands make a program.
use Rattle.std.specs.Prelude.{ℕ, ◌+◌, ◌^◌, List, [], ◌∷◌, ◌++◌, length, map, count_by, Bool, true, false, not, ◌==◌, ◌&&◌, ◌||◌, nat_lt, nat_le, if◌then◌else◌, Option, Some, None, is_some, unwrap_or, slice_get}
use Rattle.std.specs.List.{flat_map, list_all, list_any}
use Rattle.ops_base.specs.declared.values.Pred.{Pred}
use Rattle.ops_base.specs.declared.values.Pred.TheVariants as pred
use Rattle.ops_base.specs.declared.elements.Class.{Class}
use Rattle.ops_base.specs.declared.conditions.Operand.{Operand}
use Rattle.ops_base.specs.declared.conditions.Operand.TheVariants as operand
use Rattle.ops_base.specs.declared.conditions.Test.{Test}
use Rattle.ops_base.specs.declared.conditions.Condition.{Condition}
use Rattle.ops_base.specs.declared.conditions.Part.{Part}
use Rattle.ops_base.specs.declared.conditions.Part.TheVariants.{One, Group}
use Rattle.ops_base.specs.declared.actions.Term.{Term}
use Rattle.ops_base.specs.declared.actions.Term.TheVariants as term
use Rattle.ops_base.specs.declared.actions.Put.{Put}
use Rattle.ops_base.specs.declared.actions.Item.{Item}
use Rattle.ops_base.specs.declared.actions.Item.TheVariants as item
use Rattle.ops_base.specs.declared.actions.Action.{Action}
use Rattle.ops_base.specs.declared.actions.Action.TheVariants as action
use Rattle.ops_base.specs.declared.rules.Rule.{Rule}
use Rattle.ops_base.specs.declared.commands.Fixed.{Fixed}
use Rattle.ops_base.specs.declared.commands.Command.{Command}
use Rattle.ops_base.specs.declared.commands.Command.TheVariants as command
use Rattle.ops_base.specs.Expression.{all_variables}

-- no list of a program is longer, and no text
abbrev pub longest_list : ℕ
longest_list = 16777216

-- the fields of an element after its class
abbrev pub most_fields : ℕ
most_fields = 126

-- the condition elements of a production, members of groups counted
abbrev pub most_conditions : ℕ
most_conditions = 256

abbrev pub fits : {X : Type 0} → List X → Bool
fits xs = nat_le (length xs) longest_list

abbrev pub is_in : ℕ → List ℕ → Bool
is_in x xs = list_any (λ y. y == x) xs

-- none stands twice
abbrev pub are_distinct : List ℕ → Bool
are_distinct [] = true
are_distinct (x ∷ xs) = not (is_in x xs) && are_distinct xs

-- ---- classes

abbrev pub no_class : Class
no_class = record { name = record { 0 = 0 }; attrs = []; vector = false }

abbrev pub class_of : List Class → ℕ → Class
class_of classes c = unwrap_or (slice_get classes c) no_class

abbrev pub class_is_valid : Class → Bool
class_is_valid c =
    nat_le (length c.attrs) most_fields && are_distinct (map (λ a. a.0) c.attrs) && (not c.vector || nat_lt 0 (length c.attrs))

-- the attribute with this number
abbrev pub is_attribute : Class → ℕ → Bool
is_attribute c f = nat_lt f (length c.attrs)

-- the first place of the vector attribute
abbrev pub is_vector : Class → ℕ → Bool
is_vector c f = c.vector && (f + 1 == length c.attrs)

-- a scalar attribute, or a place of the vector attribute within the limit
abbrev pub is_field : Class → ℕ → Bool
is_field c f = is_attribute c f || (c.vector && nat_lt f most_fields)

-- ---- left sides

-- the variables that are in sight, and all that were bound so far
pub record Sight : Type 0 where
  pub bound : List ℕ
  pub given : List ℕ

abbrev pub is_equality : Pred → Bool
is_equality pred.Eq = true
is_equality _ = false

-- The first place of a variable binds it, by an equality; a later place stands where it is in sight.
abbrev pub operand_is_valid : Sight → Pred → Bool → Operand → Bool
operand_is_valid s p binds (operand.Constant v) = not binds
operand_is_valid s p binds (operand.OneOf vs) = not binds && fits vs
operand_is_valid s p binds (operand.Variable v) = if binds then is_equality p && not (is_in v s.given) else is_in v s.bound

abbrev pub test_is_valid : Class → Sight → Test → Bool
test_is_valid c s t = is_field c t.field && operand_is_valid s t.pred t.binds t.operand

abbrev pub sight_with : Sight → Operand → Sight
sight_with s (operand.Variable v) = record { bound = s.bound ++ v ∷ []; given = s.given ++ v ∷ [] }
sight_with s _ = s

abbrev pub sight_after : Sight → Test → Sight
sight_after s t = if t.binds then sight_with s t.operand else s

abbrev pub tests_are_valid : Class → Sight → List Test → Bool
tests_are_valid c s [] = true
tests_are_valid c s (t ∷ ts) = test_is_valid c s t && tests_are_valid c (sight_after s t) ts

abbrev pub sight_after_tests : Sight → List Test → Sight
sight_after_tests s [] = s
sight_after_tests s (t ∷ ts) = sight_after_tests (sight_after s t) ts

-- A variable that a negated condition binds is out of sight after it.
abbrev pub sight_after_condition : Sight → Condition → Sight
sight_after_condition s c =
    let after = sight_after_tests s c.tests in if c.negated then record { bound = s.bound; given = after.given } else after

abbrev pub condition_is_valid : List Class → Sight → Condition → Bool
condition_is_valid classes s c =
    nat_lt c.class (length classes) && fits c.tests && tests_are_valid (class_of classes c.class) s c.tests

-- the members of a group, each of which sees what those before it bind
abbrev pub members_are_valid : List Class → Sight → List Condition → Bool
members_are_valid classes s [] = true
members_are_valid classes s (c ∷ cs) =
    not c.negated && condition_is_valid classes s c && members_are_valid classes (sight_after_tests s c.tests) cs

abbrev pub sight_after_members : Sight → List Condition → Sight
sight_after_members s [] = s
sight_after_members s (c ∷ cs) = sight_after_members (sight_after_tests s c.tests) cs

-- what a group binds is out of sight after it
abbrev pub sight_after_part : Sight → Part → Sight
sight_after_part s (One c) = sight_after_condition s c
sight_after_part s (Group cs) = record { bound = s.bound; given = (sight_after_members s cs).given }

abbrev pub part_is_valid : List Class → Sight → Part → Bool
part_is_valid classes s (One c) = condition_is_valid classes s c
part_is_valid classes s (Group cs) = nat_le 2 (length cs) && members_are_valid classes s cs

abbrev pub parts_are_valid : List Class → Sight → List Part → Bool
parts_are_valid classes s [] = true
parts_are_valid classes s (p ∷ ps) = part_is_valid classes s p && parts_are_valid classes (sight_after_part s p) ps

abbrev pub sight_after_parts : Sight → List Part → Sight
sight_after_parts s [] = s
sight_after_parts s (p ∷ ps) = sight_after_parts (sight_after_part s p) ps

abbrev pub nothing_in_sight : Sight
nothing_in_sight = record { bound = []; given = [] }

-- the classes of the positive conditions, in order: those of the first cells
abbrev pub cells_of : List Part → List ℕ
cells_of [] = []
cells_of (One c ∷ ps) = if c.negated then cells_of ps else c.class ∷ cells_of ps
cells_of (Group cs ∷ ps) = cells_of ps

-- the conditions of a part
abbrev pub elements_in : Part → List Condition
elements_in (One c) = c ∷ []
elements_in (Group cs) = cs

-- all conditions, members of groups among them
abbrev pub elements_of : List Part → List Condition
elements_of ps = flat_map elements_in ps

-- one per condition, and one per test that does not bind
abbrev pub specificity_of : List Condition → ℕ
specificity_of [] = 0
specificity_of (c ∷ cs) = 1 + count_by (λ t. not t.binds) c.tests + specificity_of cs

-- the same, members of groups included
abbrev pub specificity : List Part → ℕ
specificity [] = 0
specificity (p ∷ ps) = specificity_of (elements_in p) + specificity ps

abbrev pub first_is_positive : List Part → Bool
first_is_positive [] = false
first_is_positive (One c ∷ ps) = not c.negated
first_is_positive (Group cs ∷ ps) = false

-- ---- right sides

-- the value variables in sight, all that were bound so far, the class of each cell, and the class of the element made last
pub record Known : Type 0 where
  pub bound : List ℕ
  pub given : List ℕ
  pub cells : List ℕ
  pub made : Option ℕ

abbrev pub is_cell : Known → ℕ → Bool
is_cell k cell = nat_lt cell (length k.cells)

abbrev pub class_of_cell : List Class → Known → ℕ → Class
class_of_cell classes k cell = class_of classes (unwrap_or (slice_get k.cells cell) 0)

-- `several` tells that several values may stand there
abbrev pub term_is_valid : List Class → Known → Bool → Term → Bool
term_is_valid classes k several (term.Constant v) = true
term_is_valid classes k several (term.Variable v) = is_in v k.bound
term_is_valid classes k several (term.Compute e) = all_variables (λ v. is_in v k.bound) e
term_is_valid classes k several (term.One cell field) = is_cell k cell && is_attribute (class_of_cell classes k cell) field
term_is_valid classes k several (term.Rest cell) = several && is_cell k cell && (class_of_cell classes k cell).vector
term_is_valid classes k several term.Fresh = true
term_is_valid classes k several term.Accept = true

-- a scalar attribute has exactly one value
abbrev pub put_is_valid : List Class → Known → Class → Put → Bool
put_is_valid classes k c p =
    is_attribute c p.field
    && (if is_vector c p.field then fits p.terms else length p.terms == 1)
    && list_all (term_is_valid classes k (is_vector c p.field)) p.terms

abbrev pub puts_are_valid : List Class → Known → Class → List Put → Bool
puts_are_valid classes k c ps = fits ps && list_all (put_is_valid classes k c) ps

abbrev pub is_column : ℕ → Bool
is_column n = nat_le 1 n && nat_le n 1024

abbrev pub item_is_valid : List Class → Known → Item → Bool
item_is_valid classes k (item.Print t) = term_is_valid classes k true t
item_is_valid classes k item.Crlf = true
item_is_valid classes k (item.TabTo n) = is_column n
item_is_valid classes k (item.RightIn n) = is_column n

abbrev pub action_is_valid : List Class → Known → Action → Bool
action_is_valid classes k (action.Make class puts) =
    nat_lt class (length classes) && puts_are_valid classes k (class_of classes class) puts
action_is_valid classes k (action.Modify cell puts) =
    is_cell k cell && puts_are_valid classes k (class_of_cell classes k cell) puts
action_is_valid classes k (action.Remove cells) = nat_lt 0 (length cells) && fits cells && list_all (is_cell k) cells
action_is_valid classes k (action.Write items) = fits items && list_all (item_is_valid classes k) items
action_is_valid classes k (action.Bind variable t) = term_is_valid classes k false t
action_is_valid classes k (action.Cbind cell) = is_some k.made && (cell == length k.cells)
action_is_valid classes k action.Halt = true
action_is_valid classes k (action.Build template holes) = list_all (λ h. is_in h.variable k.bound) holes

abbrev pub known_after : Known → Action → Known
known_after k (action.Make class puts) = record k { made = Some class }
known_after k (action.Modify cell puts) = record k { made = slice_get k.cells cell }
known_after k (action.Bind variable t) = record k { bound = k.bound ++ variable ∷ []; given = k.given ++ variable ∷ [] }
known_after k (action.Cbind cell) = record k { cells = k.cells ++ unwrap_or k.made 0 ∷ [] }
known_after k (action.Remove cells) = k
known_after k (action.Write items) = k
known_after k action.Halt = k
known_after k (action.Build template holes) = k

abbrev pub actions_are_valid : List Class → Known → List Action → Bool
actions_are_valid classes k [] = true
actions_are_valid classes k (a ∷ rest) = action_is_valid classes k a && actions_are_valid classes (known_after k a) rest

abbrev pub known_after_actions : Known → List Action → Known
known_after_actions k [] = k
known_after_actions k (a ∷ rest) = known_after_actions (known_after k a) rest

-- what a right side knows at its start
abbrev pub known_of : List Part → Known
known_of ps = let sight = sight_after_parts nothing_in_sight ps in record { bound = sight.bound; given = sight.given; cells = cells_of ps; made = None }

-- what it knows at its end
abbrev pub known_at_end : Rule → Known
known_at_end r = known_after_actions (known_of r.conditions) r.actions

-- ---- rules, commands, programs

abbrev pub rule_is_valid : List Class → ℕ → Rule → Bool
rule_is_valid classes text r =
    first_is_positive r.conditions && nat_le (length (elements_of r.conditions)) most_conditions
    && parts_are_valid classes nothing_in_sight r.conditions
    && fits r.actions && actions_are_valid classes (known_of r.conditions) r.actions
    && (r.specificity == specificity r.conditions)
    && list_all (λ v. nat_lt v r.variables) (known_at_end r).given && (r.cells == length (known_at_end r).cells)
    && nat_le r.first r.past && nat_le r.past text

-- a scalar attribute has exactly one value, and no value passes the last field
abbrev pub fixed_is_valid : Class → Fixed → Bool
fixed_is_valid c p =
    is_attribute c p.field
    && (if is_vector c p.field then nat_le (p.field + length p.values) most_fields else length p.values == 1)

abbrev pub fixed_are_valid : List Class → ℕ → List Fixed → Bool
fixed_are_valid classes class ps =
    nat_lt class (length classes) && fits ps && list_all (fixed_is_valid (class_of classes class)) ps

-- a number of a command, from 1 on
abbrev pub is_natural : ℕ → Bool
is_natural n = nat_le 1 n && nat_lt n (2 ^ 63)

abbrev pub command_is_valid : List Class → ℕ → Command → Bool
command_is_valid classes text (command.Make class puts) = fixed_are_valid classes class puts
command_is_valid classes text (command.Remove tags) = nat_lt 0 (length tags) && fits tags && list_all is_natural tags
command_is_valid classes text (command.Run None) = true
command_is_valid classes text (command.Run (Some n)) = is_natural n
command_is_valid classes text (command.Wm tags) = fits tags && list_all is_natural tags
command_is_valid classes text (command.Ppwm None) = true
command_is_valid classes text (command.Ppwm (Some p)) = fixed_are_valid classes p.0 p.1
command_is_valid classes text (command.Pm names) = nat_lt 0 (length names) && fits names
command_is_valid classes text (command.Watch None) = true
command_is_valid classes text (command.Watch (Some n)) = nat_le n 2
command_is_valid classes text (command.Pbreak names) = fits names
command_is_valid classes text (command.Add r) = rule_is_valid classes text r
command_is_valid classes text (command.Excise names) = nat_lt 0 (length names) && fits names
command_is_valid classes text (command.Back count) = nat_le 1 count && nat_le count 32
command_is_valid classes text (command.Matches names) = nat_lt 0 (length names) && fits names
command_is_valid classes text command.RemoveAll = true
command_is_valid classes text command.Cs = true
command_is_valid classes text (command.Strategy set) = true
command_is_valid classes text command.Exit = true

-- a production that is built builds none
abbrev pub is_build : Action → Bool
is_build (action.Build template holes) = true
is_build _ = false

abbrev pub template_is_valid : List Class → ℕ → Rule → Bool
template_is_valid classes text r = rule_is_valid classes text r && not (list_any is_build r.actions)

-- a template that an action names is among so many
abbrev pub builds_from : ℕ → Action → Bool
builds_from templates (action.Build template holes) = nat_lt template templates
builds_from templates _ = true

abbrev pub rule_builds_from : ℕ → Rule → Bool
rule_builds_from templates r = list_all (builds_from templates) r.actions

abbrev pub command_builds_from : ℕ → Command → Bool
command_builds_from templates (command.Add r) = rule_builds_from templates r
command_builds_from templates _ = true

-- the text has this many bytes
abbrev pub is_valid : List Class → List Rule → List Rule → List Command → ℕ → Bool
is_valid classes rules templates commands text =
    fits classes && fits commands && nat_le text longest_list
    && list_all class_is_valid classes && list_all (rule_is_valid classes text) rules
    && list_all (template_is_valid classes text) templates && list_all (command_is_valid classes text) commands
    && list_all (rule_builds_from (length templates)) rules && list_all (command_builds_from (length templates)) commands
    && are_distinct (map (λ c. c.name.0) classes) && are_distinct (map (λ r. r.name.0) rules)
