-- What the conditions of a program ask for, one after another in text order.
use Rattle.std.specs.Prelude.{ℕ, ◌+◌, List, [], ◌∷◌, ◌++◌, map, flat_map, nat_lt, slice_get, if◌then◌else◌, Option, Some, None}
use Rattle.ops_base.specs.declared.values.Value.{Value}
use Rattle.ops_base.specs.declared.values.Pred.{Pred}
use Rattle.ops_base.specs.declared.values.Pred.TheVariants.{Eq}
use Rattle.ops_base.specs.declared.elements.Class.{Class}
use Rattle.ops_base.specs.declared.conditions.Operand.{Operand}
use Rattle.ops_base.specs.declared.conditions.Operand.TheVariants.{Constant, OneOf}
use Rattle.ops_base.specs.declared.conditions.Test.{Test}
use Rattle.ops_base.specs.declared.conditions.Condition.{Condition}
use Rattle.ops_base.specs.declared.conditions.Part.{Part}
use Rattle.ops_base.specs.declared.actions.Action.{Action}
use Rattle.ops_base.specs.declared.actions.Action.TheVariants as action
use Rattle.ops_base.specs.declared.rules.Rule.{Rule}
use Rattle.ops_base.specs.declared.commands.Command.{Command}
use Rattle.ops_base.specs.declared.commands.Command.TheVariants as command
use Rattle.ops_base.specs.WorkingMemory.{scalar_count}
use Rattle.ops_base.specs.Valid.{class_of, elements_in}
use Rattle.program_slips.specs.declared.asked.What.{What}
use Rattle.program_slips.specs.declared.asked.What.TheVariants as what
use Rattle.program_slips.specs.declared.asked.Ask.{Ask}
use Rattle.program_slips.specs.Unmet.{is_unmet}

-- the constants one of which the attribute must have
abbrev pub constants_by : Pred → Operand → List Value
constants_by Eq (Constant v) = v ∷ []
constants_by p (OneOf vs) = vs
constants_by p o = []

-- this is asked for by the condition with this number, in the production that begins at this byte of the text
abbrev pub ask_at : ℕ → ℕ → ℕ → What → Ask
ask_at at number class w = record { at = at; condition = number; class = class; what = w }

-- a place of a vector attribute asks for nothing here
abbrev pub asks_of_test : ℕ → ℕ → ℕ → ℕ → Test → List Ask
asks_of_test at number class scalars t =
    if nat_lt t.field scalars then map (λ v. ask_at at number class (what.Constant t.field v)) (constants_by t.pred t.operand) else []

-- an element of its class, what no element can have, and its constants
abbrev pub asks_of_condition : List Class → ℕ → ℕ → Condition → List Ask
asks_of_condition classes at number c =
    ask_at at number c.class what.Element ∷ (if is_unmet c then ask_at at number c.class what.Unmet ∷ [] else [])
    ++ flat_map (asks_of_test at number c.class (scalar_count (class_of classes c.class))) c.tests

-- The parts of a left side are counted from 1; the members of a group have its number.
abbrev pub asks_of_parts : List Class → ℕ → ℕ → List Part → List Ask
asks_of_parts classes at before [] = []
asks_of_parts classes at before (p ∷ ps) =
    flat_map (asks_of_condition classes at (before + 1)) (elements_in p) ++ asks_of_parts classes at (before + 1) ps

-- ---- productions that are built

-- Such a production asks for elements of its classes. A constant of it may be a hole, so its tests ask for nothing here.
abbrev pub asks_of_class : ℕ → ℕ → Condition → Ask
asks_of_class at number c = ask_at at number c.class what.Element

abbrev pub asks_of_classes : ℕ → ℕ → List Part → List Ask
asks_of_classes at before [] = []
asks_of_classes at before (p ∷ ps) = map (asks_of_class at (before + 1)) (elements_in p) ++ asks_of_classes at (before + 1) ps

abbrev pub asks_of_template : Option Rule → List Ask
asks_of_template (Some r) = asks_of_classes r.first 0 r.conditions
asks_of_template None = []

abbrev pub asks_of_action : List Rule → Action → List Ask
asks_of_action templates (action.Build template holes) = asks_of_template (slice_get templates template)
asks_of_action templates _ = []

-- ---- programs

abbrev pub asks_of_rule : List Class → List Rule → Rule → List Ask
asks_of_rule classes templates r = asks_of_parts classes r.first 0 r.conditions ++ flat_map (asks_of_action templates) r.actions

abbrev pub asks_of_command : List Class → List Rule → Command → List Ask
asks_of_command classes templates (command.Add r) = asks_of_rule classes templates r
asks_of_command classes templates _ = []

abbrev pub asks_of : List Class → List Rule → List Rule → List Command → List Ask
asks_of classes rules templates commands =
    flat_map (asks_of_rule classes templates) rules ++ flat_map (asks_of_command classes templates) commands
