-- What productions and commands name exists: each variable, cell, class and template, and the number of each field. So
-- the values that the definitions use if one of these is absent never occur.
use Rattle.std.specs.Prelude.{◌≡◌, ℕ, List, [], ◌∷◌, Bool, true, false, ◌&&◌, ◌||◌, Some, None, slice_get, is_some, unwrap_or, option_map, Contains, IsTrue, IfOk}
use Rattle.std.specs.List.{flat_map, list_all, list_any}
use Rattle.ops_base.specs.declared.actions.Action.{Action}
use Rattle.ops_base.specs.declared.actions.Action.TheVariants as action
use Rattle.ops_base.specs.declared.actions.Item.{Item}
use Rattle.ops_base.specs.declared.actions.Item.TheVariants as item
use Rattle.ops_base.specs.declared.actions.Put.{Put}
use Rattle.ops_base.specs.declared.actions.Term.{Term}
use Rattle.ops_base.specs.declared.actions.Term.TheVariants as term
use Rattle.ops_base.specs.declared.commands.Command.{Command}
use Rattle.ops_base.specs.declared.commands.Command.TheVariants as command
use Rattle.ops_base.specs.declared.commands.Fixed.{Fixed}
use Rattle.ops_base.specs.declared.conditions.Condition.{Condition}
use Rattle.ops_base.specs.declared.conditions.Part.{Part}
use Rattle.ops_base.specs.declared.conditions.Part.TheVariants.{One, Group}
use Rattle.ops_base.specs.declared.conditions.Operand.{Operand}
use Rattle.ops_base.specs.declared.conditions.Operand.TheVariants as operand
use Rattle.ops_base.specs.declared.conditions.Test.{Test}
use Rattle.ops_base.specs.declared.direct.Partial.{Partial}
use Rattle.ops_base.specs.declared.elements.Change.{Change}
use Rattle.ops_base.specs.declared.elements.Change.TheVariants as change
use Rattle.ops_base.specs.declared.elements.Class.{Class}
use Rattle.ops_base.specs.declared.elements.Element.{Element}
use Rattle.ops_base.specs.declared.matching.Binding.{Binding}
use Rattle.ops_base.specs.declared.rules.Rule.{Rule}
use Rattle.ops_base.specs.ConflictSet.{at_part}
use Rattle.ops_base.specs.Expression.{all_variables}
use Rattle.ops_base.specs.Matching.{value_of, after_test, match_of}
use Rattle.ops_base.specs.Valid.{class_of, is_attribute, is_field, is_vector}
use Rattle.ops_base.specs.WorkingMemory.{change_done}
use Rattle.ops_io.specs.Output.{column_after}
use Rattle.ops_meaning.specs.Acting.{Setting, ActState, cell_of, element_of, action_done}

-- there is a class with this number
abbrev pub is_class : List Class → ℕ → Bool
is_class classes n = is_some (slice_get classes n)

-- ---- left sides

-- the variable that a value is compared with is bound
abbrev pub operand_finds : List Binding → Operand → Bool
operand_finds bindings (operand.Constant v) = true
operand_finds bindings (operand.OneOf vs) = true
operand_finds bindings (operand.Variable v) = is_some (value_of bindings v)

-- the field is one of the class, and if the test does not bind its variable, the variable is already bound
abbrev pub test_finds : Class → Test → List Binding → Bool
test_finds c t bindings = is_field c t.field && (t.binds || operand_finds bindings t.operand)

-- each test that is reached for the element, in the order of the tests
abbrev pub tests_find : Class → Element → List Test → List Binding → Bool
tests_find c e [] bindings = true
tests_find c e (t ∷ ts) bindings =
    test_finds c t bindings && unwrap_or (option_map (tests_find c e ts) (after_test t e bindings)) true

abbrev pub condition_finds : List Class → Condition → List Binding → Element → Bool
condition_finds classes c bindings e = is_class classes c.class && tests_find (class_of classes c.class) e c.tests bindings

-- Starting with these bindings: for each member of a group that is reached by way of elements that meet the members
-- before it, each test that is reached for an element finds everything that it names.
abbrev pub MembersFind : List Class → List Element → List Condition → List Binding → Type 0
MembersFind classes wm [] bindings = Unit {0}
MembersFind classes wm (c ∷ cs) bindings =
    (e : Element) → Contains wm e
    → IsTrue (condition_finds classes c bindings e)
    × ((next : List Binding) → match_of c e bindings ≡ Some next → MembersFind classes wm cs next)

-- the same for each condition of a part
abbrev pub PartFinds : List Class → List Element → Part → List Binding → Type 0
PartFinds classes wm (One c) bindings =
    (e : Element) → Contains wm e → IsTrue (condition_finds classes c bindings e)
PartFinds classes wm (Group cs) bindings = MembersFind classes wm cs bindings

-- Starting with these partial matches: for each condition that the walk reaches, including members of groups, each test
-- that is reached for an element finds everything that it names.
abbrev pub WalkFinds : List Class → List Element → List Part → List Partial → Type 0
WalkFinds classes wm [] ps = Unit {0}
WalkFinds classes wm (part ∷ parts) ps =
    ((p : Partial) → Contains ps p → PartFinds classes wm part p.bindings)
    × WalkFinds classes wm parts (flat_map (at_part wm part) ps)

-- Elements of working memory, one for each condition, lead from the one bindings to the other: each meets its condition
-- under the bindings that result from those before it.
abbrev pub LeadTo : List Element → List Condition → List Binding → List Binding → Type 0
LeadTo wm [] from to = from ≡ to
LeadTo wm (c ∷ cs) from to =
    (e : Element) × (next : List Binding) × Contains wm e × (match_of c e from ≡ Some next) × LeadTo wm cs next to

-- ---- right sides

-- the variable is bound
abbrev pub is_bound : ActState → ℕ → Bool
is_bound d v = is_some (value_of d.bindings v)

-- the cell holds an element whose class exists
abbrev pub is_held : List Class → ActState → ℕ → Bool
is_held classes d cell = is_some (slice_get d.cells cell) && is_class classes (cell_of d cell).class

-- the class of the element in a cell
abbrev pub held_class : List Class → ActState → ℕ → Class
held_class classes d cell = class_of classes (cell_of d cell).class

-- an element was made
abbrev pub is_add : Change → Bool
is_add (change.Add e) = true
is_add (change.Remove tag) = false

abbrev pub has_made : ActState → Bool
has_made d = list_any is_add d.changes

-- a term that gives exactly one value in every state
abbrev pub is_single : Term → Bool
is_single (term.Rest cell) = false
is_single _ = true

abbrev pub term_finds : List Class → ActState → Term → Bool
term_finds classes d (term.Constant v) = true
term_finds classes d (term.Variable v) = is_bound d v
term_finds classes d (term.Compute formula) = all_variables (is_bound d) formula
term_finds classes d (term.One cell field) = is_held classes d cell && is_attribute (held_class classes d cell) field
term_finds classes d (term.Rest cell) = is_held classes d cell && (held_class classes d cell).vector
term_finds classes d term.Fresh = true
term_finds classes d term.Accept = true

abbrev pub put_finds : List Class → ActState → Class → Put → Bool
put_finds classes d c p = is_attribute c p.field && list_all (term_finds classes d) p.terms

abbrev pub item_finds : List Class → ActState → Item → Bool
item_finds classes d (item.Print t) = term_finds classes d t
item_finds classes d item.Crlf = true
item_finds classes d (item.TabTo n) = true
item_finds classes d (item.RightIn n) = true

-- Each variable that the action evaluates is bound, and each cell that it names holds an element. Each class that it
-- names exists, and so does the class of each such element. Each field is one of its class. The term of `bind` gives
-- exactly one value. If the action binds a cell to the element that was made last, an element was made. The template
-- that it builds from is one of these.
abbrev pub action_finds : List Class → List Rule → ActState → Action → Bool
action_finds classes templates d (action.Make class puts) =
    is_class classes class && list_all (put_finds classes d (class_of classes class)) puts
action_finds classes templates d (action.Modify cell puts) =
    is_held classes d cell && list_all (put_finds classes d (held_class classes d cell)) puts
action_finds classes templates d (action.Remove cells) = list_all (is_held classes d) cells
action_finds classes templates d (action.Write items) = list_all (item_finds classes d) items
action_finds classes templates d (action.Bind variable t) = term_finds classes d t && is_single t
action_finds classes templates d (action.Cbind cell) = has_made d
action_finds classes templates d action.Halt = true
action_finds classes templates d (action.Build template holes) =
    is_some (slice_get templates template) && list_all (λ h. is_bound d h.variable) holes

-- Starting from a column and a state, P holds of each action with the state to which the actions before it lead.
abbrev pub EachAction : (Action → ActState → Type 0) → Setting → ℕ → List Action → ActState → Type 0
EachAction P s column [] d = Unit {0}
EachAction P s column (a ∷ rest) d =
    let e = action_done s column a d in
    P a d × IfOk e.outcome (λ next. EachAction P s (column_after column e.bytes) rest next)

-- Each action finds everything that it names.
abbrev pub AllFind : Setting → ℕ → List Action → ActState → Type 0
AllFind s column actions d = EachAction (λ a d. IsTrue (action_finds s.classes s.templates d a)) s column actions d

-- the bindings, the cells, the changes and working memory are the same
abbrev pub SeesTheSame : ActState → ActState → Type 0
SeesTheSame old new =
    (new.bindings ≡ old.bindings) × (new.cells ≡ old.cells) × (new.changes ≡ old.changes) × (new.wm ≡ old.wm)

-- each removal names an element that is present when the removal is made, so that a trace can show it
abbrev pub RemovalsFind : List Element → List Change → Type 0
RemovalsFind wm [] = Unit {0}
RemovalsFind wm (change.Add e ∷ cs) = RemovalsFind (change_done wm (change.Add e)) cs
RemovalsFind wm (change.Remove tag ∷ cs) =
    IsTrue (is_some (element_of wm tag)) × RemovalsFind (change_done wm (change.Remove tag)) cs

-- ---- commands

-- the attribute is one of the class, and if it is scalar, it is given a value
abbrev pub fixed_finds : Class → Fixed → Bool
fixed_finds c p = is_attribute c p.field && (is_vector c p.field || is_some (slice_get p.values 0))

-- the class that the command names exists, and so do the attributes
abbrev pub command_finds : List Class → Command → Bool
command_finds classes (command.Make class puts) =
    is_class classes class && list_all (fixed_finds (class_of classes class)) puts
command_finds classes (command.Ppwm (Some p)) = is_class classes p.0 && list_all (fixed_finds (class_of classes p.0)) p.1
command_finds classes (command.Ppwm None) = true
command_finds classes (command.Remove tags) = true
command_finds classes command.RemoveAll = true
command_finds classes (command.Run count) = true
command_finds classes (command.Wm tags) = true
command_finds classes command.Cs = true
command_finds classes (command.Pm names) = true
command_finds classes (command.Strategy set) = true
command_finds classes (command.Watch set) = true
command_finds classes (command.Pbreak names) = true
command_finds classes (command.Add r) = true
command_finds classes (command.Excise names) = true
command_finds classes (command.Back count) = true
command_finds classes (command.Matches names) = true
command_finds classes command.Exit = true
