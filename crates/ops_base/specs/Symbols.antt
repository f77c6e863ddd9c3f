-- The symbols of a program, of which each is the place of a spelling that is held.
use Rattle.std.specs.Prelude.{ℕ, List, Bool, true, ◌&&◌, nat_lt, Option, Some, None}
use Rattle.std.specs.List.{list_all}
use Rattle.ops_base.specs.declared.values.Sym.{Sym}
use Rattle.ops_base.specs.declared.values.Value.{Value}
use Rattle.ops_base.specs.declared.values.Value.TheVariants as value
use Rattle.ops_base.specs.declared.elements.Class.{Class}
use Rattle.ops_base.specs.declared.conditions.Operand.{Operand}
use Rattle.ops_base.specs.declared.conditions.Operand.TheVariants as operand
use Rattle.ops_base.specs.declared.conditions.Condition.{Condition}
use Rattle.ops_base.specs.declared.conditions.Part.{Part}
use Rattle.ops_base.specs.declared.conditions.Part.TheVariants.{One, Group}
use Rattle.ops_base.specs.declared.actions.Term.{Term}
use Rattle.ops_base.specs.declared.actions.Term.TheVariants as term
use Rattle.ops_base.specs.declared.actions.Put.{Put}
use Rattle.ops_base.specs.declared.actions.Item.{Item}
use Rattle.ops_base.specs.declared.actions.Item.TheVariants as item
use Rattle.ops_base.specs.declared.actions.Action.{Action}
use Rattle.ops_base.specs.declared.actions.Action.TheVariants as action
use Rattle.ops_base.specs.declared.rules.Rule.{Rule}
use Rattle.ops_base.specs.declared.commands.Fixed.{Fixed}
use Rattle.ops_base.specs.declared.commands.Command.{Command}
use Rattle.ops_base.specs.declared.commands.Command.TheVariants as command

-- the symbol is held among this many
abbrev pub symbol_held : ℕ → Sym → Bool
symbol_held n s = nat_lt s.0 n

abbrev pub value_held : ℕ → Value → Bool
value_held n (value.Symbol s) = symbol_held n s
value_held n (value.Whole z) = true

abbrev pub class_held : ℕ → Class → Bool
class_held n c = symbol_held n c.name && list_all (symbol_held n) c.attrs

abbrev pub operand_held : ℕ → Operand → Bool
operand_held n (operand.Constant v) = value_held n v
operand_held n (operand.OneOf vs) = list_all (value_held n) vs
operand_held n (operand.Variable v) = true

abbrev pub condition_held : ℕ → Condition → Bool
condition_held n c = list_all (λ t. operand_held n t.operand) c.tests

abbrev pub part_held : ℕ → Part → Bool
part_held n (One c) = condition_held n c
part_held n (Group cs) = list_all (condition_held n) cs

abbrev pub term_held : ℕ → Term → Bool
term_held n (term.Constant v) = value_held n v
term_held n _ = true

abbrev pub put_held : ℕ → Put → Bool
put_held n p = list_all (term_held n) p.terms

abbrev pub item_held : ℕ → Item → Bool
item_held n (item.Print t) = term_held n t
item_held n _ = true

abbrev pub action_held : ℕ → Action → Bool
action_held n (action.Make c puts) = list_all (put_held n) puts
action_held n (action.Modify c puts) = list_all (put_held n) puts
action_held n (action.Write items) = list_all (item_held n) items
action_held n (action.Bind v t) = term_held n t
action_held n (action.Remove cells) = true
action_held n (action.Cbind cell) = true
action_held n action.Halt = true
action_held n (action.Build template holes) = true

abbrev pub rule_held : ℕ → Rule → Bool
rule_held n r = symbol_held n r.name && list_all (part_held n) r.conditions && list_all (action_held n) r.actions

abbrev pub fixed_held : ℕ → Fixed → Bool
fixed_held n f = list_all (value_held n) f.values

-- the constants that a printed element must have
abbrev pub pattern_held : ℕ → Option (ℕ × List Fixed) → Bool
pattern_held n (Some p) = list_all (fixed_held n) p.1
pattern_held n None = true

abbrev pub command_held : ℕ → Command → Bool
command_held n (command.Make c puts) = list_all (fixed_held n) puts
command_held n (command.Ppwm p) = pattern_held n p
command_held n (command.Pm names) = list_all (symbol_held n) names
command_held n (command.Pbreak names) = list_all (symbol_held n) names
command_held n (command.Add r) = rule_held n r
command_held n (command.Excise names) = list_all (symbol_held n) names
command_held n (command.Matches names) = list_all (symbol_held n) names
command_held n (command.Remove tags) = true
command_held n command.RemoveAll = true
command_held n (command.Run count) = true
command_held n (command.Wm tags) = true
command_held n command.Cs = true
command_held n (command.Strategy set) = true
command_held n (command.Watch set) = true
command_held n (command.Back count) = true
command_held n command.Exit = true

-- each symbol of these classes, rules, templates and commands is held among this many
abbrev pub is_held : ℕ → List Class → List Rule → List Rule → List Command → Bool
is_held n classes rules templates commands =
    list_all (class_held n) classes && list_all (rule_held n) rules && list_all (rule_held n) templates && list_all (command_held n) commands
