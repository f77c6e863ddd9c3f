-- Properties of each firing of a session.
use Rattle.std.specs.Prelude.{ℕ, zero, suc, ◌+◌, ◌-◌, List, [], ◌∷◌, Option, Some, None, IfOk}
use Rattle.std.specs.Bool.{MatchBool}
use Rattle.ops_base.specs.declared.actions.Action.{Action}
use Rattle.ops_base.specs.declared.commands.Command.{Command}
use Rattle.ops_base.specs.declared.commands.Command.TheVariants as command
use Rattle.ops_base.specs.declared.rules.Inst.{Inst}
use Rattle.ops_base.specs.Names.{Spellings}
use Rattle.ops_io.specs.Coming.{Coming}
use Rattle.ops_io.specs.Output.{column_after}
use Rattle.ops_meaning.specs.Acting.{Setting, ActState, actions_of}
use Rattle.ops_meaning.specs.Acting as acting
use Rattle.ops_meaning.specs.Layout.{firing_bytes}
use Rattle.ops_meaning.specs.Running.{Course, Session, LastFiring, begun, command_done, firing, given_by, in_force, is_exit, last_of, line_of_pause, next_to_fire, one_less, turned_on}
use Rattle.run_laws.specs.Beginning.{BeginsAsMatched}
use Rattle.run_laws.specs.Elements.{AreWhole}
use Rattle.run_laws.specs.Finding.{AllFind, EachAction}

-- P holds of the next instantiation, if the run continues.
abbrev pub IfGoesOn : Option (List ℕ) → Option Inst → (Inst → Type 0) → Type 0
IfGoesOn (Some line) next P = Unit {0}
IfGoesOn None None P = Unit {0}
IfGoesOn None (Some i) P = P i

-- P holds of each firing of a run from here on: of its setting with the productions in force, of the column at which it
-- begins, of the instantiation that fires, and of the point that the session has reached before it.
abbrev pub EachOfRun : (Setting → ℕ → Inst → Course → Type 0) → ℕ → Setting → ℕ → Option LastFiring → Option ℕ → Session → Type 0
EachOfRun P zero s column last count k = Unit {0}
EachOfRun P (suc left) s column last count k =
    IfGoesOn (line_of_pause k.course.names k.rules k.breaks last count) (next_to_fire k.rules k.course)
    (λ i. let e = firing (in_force s k) column i k.course in
    P (in_force s k) column i k.course
    × IfOk e.outcome (λ t. EachOfRun P left s (column_after column e.bytes) (last_of k.rules i t) (one_less count) (turned_on t k)))

-- P holds of each firing of a command. Only `run` has any.
abbrev pub EachOfCommand : (Setting → ℕ → Inst → Course → Type 0) → Setting → ℕ → ℕ → Command → Session → Type 0
EachOfCommand P s limit column (command.Run count) k =
    EachOfRun P (limit - k.course.firings) (record s { watch = k.watch }) column None count k
EachOfCommand P s limit column _ k = Unit {0}

-- P holds of each firing of these commands, up to the first `exit`.
abbrev pub EachOfCommands : (Setting → ℕ → Inst → Course → Type 0) → Setting → ℕ → ℕ → List Command → Session → Type 0
EachOfCommands P s limit column [] k = Unit {0}
EachOfCommands P s limit column (c ∷ rest) k =
    MatchBool (is_exit c) (Unit {0})
    (let e = command_done (in_force s k) limit column c k in
    EachOfCommand P (in_force s k) limit column c k
    × IfOk e.outcome (λ next. EachOfCommands P s limit (column_after column e.bytes) rest next))

-- P holds of each firing of a session.
abbrev pub EachFiring : (Setting → ℕ → Inst → Course → Type 0) → Setting → ℕ → List Command → Spellings → Coming → Type 0
EachFiring P s limit commands names coming = EachOfCommands P s limit 0 commands (begun commands s.rules names coming)

-- the column at which the right side of a firing begins to write, if the firing begins at this one
abbrev pub column_after_line : Setting → ℕ → Inst → Course → ℕ
column_after_line s column i m = column_after column (firing_bytes s.watch column m.names s.rules (m.firings + 1) i)

-- before each action the cells hold whole elements
abbrev pub HoldWhole : Setting → ℕ → List Action → ActState → Type 0
HoldWhole s column actions d = EachAction (λ a d. AreWhole s.classes d.cells) s column actions d

-- In a firing, the elements of working memory and those of the cells are whole, the right side begins as matched, and
-- it finds everything that it names.
pub record FindsAll (s : Setting) (column : ℕ) (i : Inst) (m : Course) : Type 0 where
  pub whole : AreWhole s.classes m.wm
  pub begins : BeginsAsMatched s (given_by m) i
  pub finds : AllFind s (column_after_line s column i m) (actions_of s.rules i.rule) (acting.begun s i (given_by m))
  pub cells : HoldWhole s (column_after_line s column i m) (actions_of s.rules i.rule) (acting.begun s i (given_by m))
