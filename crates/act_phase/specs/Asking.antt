-- Which actions contain `accept`.
use Rattle.std.specs.Prelude.{ℕ, List, [], ◌∷◌, Bool, true, false, ◌&&◌, ◌||◌}
use Rattle.std.specs.List.{list_any}
use Rattle.ops_base.specs.declared.actions.Term.{Term}
use Rattle.ops_base.specs.declared.actions.Term.TheVariants as term
use Rattle.ops_base.specs.declared.actions.Put.{Put}
use Rattle.ops_base.specs.declared.actions.Item.{Item}
use Rattle.ops_base.specs.declared.actions.Item.TheVariants as item
use Rattle.ops_base.specs.declared.actions.Action.{Action}
use Rattle.ops_base.specs.declared.actions.Action.TheVariants as action
use Rattle.ops_base.specs.declared.rules.Rule.{Rule}
use Rattle.ops_base.specs.declared.commands.Command.{Command}
use Rattle.ops_base.specs.declared.commands.Command.TheVariants as command
use Rattle.ops_meaning.specs.Acting.{actions_of}

-- the term is `accept`
abbrev pub term_asks : Term → Bool
term_asks term.Accept = true
term_asks _ = false

-- an attribute is given the atom that `accept` reads
abbrev pub put_asks : Put → Bool
put_asks p = list_any term_asks p.terms

-- that atom is printed
abbrev pub item_asks : Item → Bool
item_asks (item.Print t) = term_asks t
item_asks _ = false

-- the action contains `accept`
abbrev pub action_asks : Action → Bool
action_asks (action.Make class puts) = list_any put_asks puts
action_asks (action.Modify cell puts) = list_any put_asks puts
action_asks (action.Write items) = list_any item_asks items
action_asks (action.Bind variable t) = term_asks t
action_asks (action.Remove cells) = false
action_asks (action.Cbind cell) = false
action_asks action.Halt = false
action_asks (action.Build template holes) = false

-- the action may change working memory
abbrev pub action_changes : Action → Bool
action_changes (action.Make class puts) = true
action_changes (action.Modify cell puts) = true
action_changes (action.Remove cells) = true
action_changes (action.Write items) = false
action_changes (action.Bind variable t) = false
action_changes (action.Cbind cell) = false
action_changes action.Halt = false
action_changes (action.Build template holes) = false

-- one of these actions contains `accept`, and comes after one that may change working memory or after an earlier change
abbrev pub asks_after : Bool → List Action → Bool
asks_after changed [] = false
asks_after changed (a ∷ rest) = (changed && action_asks a) || asks_after (changed || action_changes a) rest

-- the right side of the production with this number contains it
abbrev pub right_side_asks : List Rule → ℕ → Bool
right_side_asks rules n = list_any action_asks (actions_of rules n)

-- the right side of the production contains it
abbrev pub rule_asks : Rule → Bool
rule_asks r = list_any action_asks r.actions

-- a right side of these productions contains it
abbrev pub program_asks : List Rule → Bool
program_asks rules = list_any rule_asks rules

-- the right side of a production that the command adds contains it
abbrev pub command_asks : Command → Bool
command_asks (command.Add r) = rule_asks r
command_asks (command.Make class puts) = false
command_asks (command.Remove tags) = false
command_asks command.RemoveAll = false
command_asks (command.Run count) = false
command_asks (command.Wm tags) = false
command_asks (command.Ppwm pattern) = false
command_asks command.Cs = false
command_asks (command.Pm names) = false
command_asks (command.Strategy set) = false
command_asks (command.Watch set) = false
command_asks (command.Pbreak names) = false
command_asks (command.Excise names) = false
command_asks (command.Back count) = false
command_asks (command.Matches names) = false
command_asks command.Exit = false

-- a right side of these productions contains it, or that of a production that one of these templates gives, or that these
-- commands add
abbrev pub session_asks : List Rule → List Rule → List Command → Bool
session_asks rules templates commands = program_asks rules || program_asks templates || list_any command_asks commands
