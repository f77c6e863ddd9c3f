-- A session that ends before its commands are done is not told as one that has done them.
use Rattle.std.proofs.Common.{ℕ, zero, suc, ◌+◌, ◌-◌, List, [], ◌∷◌, Option, Some, None, Result, Ok, Err, MatchResult}
use Rattle.std.proofs.lemmas.Bool.{cond_both}
use Rattle.ops_base.specs.declared.commands.Command.{Command}
use Rattle.ops_base.specs.declared.commands.Command.TheVariants as command
use Rattle.ops_base.specs.declared.commands.Strategy.{Strategy}
use Rattle.ops_base.specs.declared.endings.Ending.{Ending}
use Rattle.ops_base.specs.declared.endings.Ending.TheVariants as ending
use Rattle.ops_base.specs.declared.rules.Inst.{Inst}
use Rattle.ops_base.specs.declared.values.Sym.{Sym}
use Rattle.ops_base.specs.Names.{Spellings}
use Rattle.ops_io.specs.Coming.{Coming}
use Rattle.ops_io.specs.Output.{column_after}
use Rattle.ops_meaning.specs.Acting.{Setting, Misdeed, Bad, NoInput, acted}
use Rattle.ops_meaning.specs.Effects.{Effect, writes, and_then, going_on, outcome_as}
use Rattle.ops_meaning.specs.Layout.{firing_bytes, rule_name}
use Rattle.ops_meaning.specs.Running.{Course, Session, LastFiring, begun, turn, line_of_pause, last_of, one_less, given_by, ended_in, turned_of, firing, run_on, next_to_fire, command_done, commands_done, session_of, in_force, is_exit, strategy_given, level_given, breaks_given, back_given, turned_on}
use Rattle.ops_meaning.proofs.Trails.{back_leaves}

-- an ending of a session whose commands are not all done
abbrev pub IsEarly : Ending → Type 0
IsEarly (ending.Done firings elements last) = ⊥
IsEarly (ending.Act firing rule name action kind) = Unit {0}
IsEarly (ending.Limit firings) = Unit {0}
IsEarly ending.ReadFault = Unit {0}
IsEarly ending.WriteFault = Unit {0}
IsEarly ending.OutOfMemory = Unit {0}

abbrev pub EndsEarly : {S : Type 0} → Result S Ending → Type 0
EndsEarly (Ok s) = Unit {0}
EndsEarly (Err e) = IsEarly e

then_early : {S T : Type 0} (bytes : List ℕ) (r : Result S Ending) (next : S → Effect Ending T) → EndsEarly r → ((s : S) → EndsEarly (next s).outcome) → EndsEarly (going_on bytes r next).outcome
then_early bytes (Ok s) next p q = q s
then_early bytes (Err e) next p q = p

misdeed_early : {S T : Type 0} (left : S → T) (firing rule : ℕ) (name : Sym) (r : Result S Misdeed) → EndsEarly (outcome_as left (ended_in firing rule name) r)
misdeed_early left firing rule name (Ok s) = tt
misdeed_early left firing rule name (Err (Bad action kind)) = tt
misdeed_early left firing rule name (Err NoInput) = tt

turn_early : (column : ℕ) (line : Option (List ℕ)) (k : Session) (next : Option Inst) (go_on : Inst → Effect Ending Session) → ((i : Inst) → EndsEarly (go_on i).outcome) → EndsEarly (turn column line k next go_on).outcome
turn_early column (Some line) k next go_on p = tt
turn_early column None k None go_on p = tt
turn_early column None k (Some i) go_on p = p i

firing_early : (s : Setting) (column : ℕ) (i : Inst) (m : Course) → EndsEarly (firing s column i m).outcome
firing_early s column i m =
    let behind = column_after column (firing_bytes s.watch column m.names s.rules (m.firings + 1) i) in
    misdeed_early (turned_of s.rules i m) (m.firings + 1) i.rule (rule_name s.rules i.rule) (acted s behind i (given_by m)).outcome

run_early : (left : ℕ) (s : Setting) (column : ℕ) (last : Option LastFiring) (count : Option ℕ) (k : Session) → EndsEarly (run_on left s column last count k).outcome
run_early zero s column last count k =
    turn_early column (line_of_pause k.course.names k.rules k.breaks last count) k (next_to_fire k.rules k.course) _ (λ i. tt)
run_early (suc left) s column last count k =
    turn_early column (line_of_pause k.course.names k.rules k.breaks last count) k (next_to_fire k.rules k.course) _
    (λ i. let e = firing (in_force s k) column i k.course in
    then_early e.bytes e.outcome (λ t. run_on left s (column_after column e.bytes) (last_of k.rules i t) (one_less count) (turned_on t k)) (firing_early (in_force s k) column i k.course)
    (λ t. run_early left s (column_after column e.bytes) (last_of k.rules i t) (one_less count) (turned_on t k)))

-- what is told and what comes back are no ends
back_early : (column count : ℕ) (k : Session) → EndsEarly (back_given column count k).outcome
back_early column count k =
    no_end (back_given column count k).outcome (back_leaves (λ k. Unit {0}) IsEarly column count k tt (λ n e is. tt))
  where
    no_end : (o : Result Session Ending) → MatchResult o (λ k. Unit {0}) IsEarly → EndsEarly o
    no_end (Ok k) p = tt
    no_end (Err e) p = p

strategy_early : (column : ℕ) (set : Option Strategy) (k : Session) → EndsEarly (strategy_given column set k).outcome
strategy_early column None k = tt
strategy_early column (Some g) k = tt

level_early : (column : ℕ) (set : Option ℕ) (k : Session) → EndsEarly (level_given column set k).outcome
level_early column None k = tt
level_early column (Some n) k = tt

breaks_early : (s : Setting) (column : ℕ) (names : List Sym) (k : Session) → EndsEarly (breaks_given s column names k).outcome
breaks_early s column [] k = tt
breaks_early s column (n ∷ ns) k = tt

command_early : (s : Setting) (limit column : ℕ) (c : Command) (k : Session) → EndsEarly (command_done s limit column c k).outcome
command_early s limit column (command.Run count) k = run_early (limit - k.course.firings) (record s { watch = k.watch }) column None count k
command_early s limit column (command.Strategy set) k = strategy_early column set k
command_early s limit column (command.Watch set) k = level_early column set k
command_early s limit column (command.Pbreak names) k = breaks_early s column names k
command_early s limit column (command.Make class puts) k = tt
command_early s limit column (command.Remove tags) k = tt
command_early s limit column command.RemoveAll k = tt
command_early s limit column (command.Wm tags) k = tt
command_early s limit column (command.Ppwm pattern) k = tt
command_early s limit column command.Cs k = tt
command_early s limit column (command.Pm names) k = tt
command_early s limit column (command.Add r) k = tt
command_early s limit column (command.Excise names) k = tt
command_early s limit column (command.Back count) k = back_early column count k
command_early s limit column (command.Matches names) k = tt
command_early s limit column command.Exit k = tt

commands_early : (s : Setting) (limit column : ℕ) (commands : List Command) (k : Session) → EndsEarly (commands_done s limit column commands k).outcome
commands_early s limit column [] k = tt
commands_early s limit column (c ∷ rest) k =
    let e = command_done (in_force s k) limit column c k in
    let go_on : ℕ → Session → Effect Ending Session = λ next k. commands_done s limit next rest k in
    cond_both (is_exit c) (writes [] k) (and_then column e go_on) (λ f. EndsEarly f.outcome) (λ _. tt)
    (λ _. then_early e.bytes e.outcome (go_on (column_after column e.bytes)) (command_early (in_force s k) limit column c k)
    (λ k. commands_early s limit (column_after column e.bytes) rest k))

-- A session that comes to no end of its commands ends early.
pub session_early : (s : Setting) (limit : ℕ) (commands : List Command) (names : Spellings) (coming : Coming) → EndsEarly (session_of s limit commands names coming).outcome
session_early s limit commands names coming = commands_early s limit 0 commands (begun commands s.rules names coming)
