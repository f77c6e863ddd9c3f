-- A session makes at most as many firings as its limit says, and a run with a number at most as many as that says.
use Rattle.std.proofs.Common.{◌≡◌, ℕ, zero, suc, ◌+◌, ◌-◌, ◌≤◌, List, [], ◌∷◌, Bool, true, false, cond, Option, Some, None, MatchResult, refl, ◌∙◌, arith}
use Rattle.std.specs.Prelude.{option_map, unwrap_or, fold}
use Rattle.std.specs.Option.{option_or}
use Rattle.std.proofs.lemmas.Bool.{cond_both}
use Rattle.ops_base.specs.declared.commands.Command.{Command}
use Rattle.ops_base.specs.declared.commands.Command.TheVariants as command
use Rattle.ops_base.specs.declared.commands.Strategy.{Strategy}
use Rattle.ops_base.specs.declared.endings.Ending.{Ending}
use Rattle.ops_base.specs.declared.rules.Inst.{Inst}
use Rattle.ops_base.specs.declared.rules.Rule.{Rule}
use Rattle.ops_base.specs.declared.values.Sym.{Sym}
use Rattle.ops_base.specs.Names.{Spellings}
use Rattle.ops_io.specs.Output.{column_after}
use Rattle.ops_meaning.specs.Acting.{Setting, Misdeed, Bad, NoInput, acted}
use Rattle.ops_meaning.specs.Effects.{Effect, writes, and_then}
use Rattle.ops_meaning.specs.Kept.{TellsLimit, KeepsLimit, IsLimited, IsCounted}
use Rattle.ops_meaning.specs.Layout.{firing_bytes, halted_line, counted_line, rule_name}
use Rattle.ops_meaning.specs.Running.{Course, Turned, Session, LastFiring, begun, turn, line_of_pause, line_of_break, last_of, one_less, given_by, ended_in, turned_of, firing, run_on, next_to_fire, command_done, commands_done, is_exit, strategy_given, level_given, breaks_given, in_force, rule_named, taken_out, taken_out_named, added, all_added, turned_on, fired_on}
use Rattle.ops_meaning.proofs.Doings.{goes_on, goes_as, ok_goes, EndsActions, KeptActed, acted_kept}
use Rattle.ops_meaning.proofs.Trails.{back_leaves}

-- what every turn leaves of a run whose end it does not come to
turn_leaves : (P : Session → Type 0) (R : Ending → Type 0) (column : ℕ) (line : Option (List ℕ)) (k : Session) (next : Option Inst) (go_on : Inst → Effect Ending Session) → P k
    → ((i : Inst) → MatchResult (go_on i).outcome P R) → MatchResult (turn column line k next go_on).outcome P R
turn_leaves P R column (Some line) k next go_on p q = p
turn_leaves P R column None k None go_on p q = p
turn_leaves P R column None k (Some i) go_on p q = q i

-- productions that come and go are no firings
taken_count : (name : Sym) (k : Session) → (taken_out_named name k).course.firings ≡ k.course.firings
taken_count name k = by (rule_named k.rules name)
  where
    by : (at : Option ℕ) → (unwrap_or (option_map (λ n. taken_out n k) at) k).course.firings ≡ k.course.firings
    by None = refl
    by (Some n) = refl

all_count : (built : List Rule) (k : Session) → (all_added built k).course.firings ≡ k.course.firings
all_count [] k = refl
all_count (r ∷ built) k = all_count built (added r k) ∙ taken_count r.name k

turned_count : (t : Turned) (k : Session) → t.course.firings ≡ k.course.firings + 1 → (turned_on t k).course.firings ≡ k.course.firings + 1
turned_count t k is = all_count t.built (fired_on t.course k) ∙ is

-- ---- the limit

module _ (limit : ℕ) where
  abbrev Within : Course → Type 0
  Within m = m.firings ≤ limit

  abbrev WithinSession : Session → Type 0
  WithinSession k = Within k.course

  ended_tells : (firing rule : ℕ) (name : Sym) (e : Misdeed) → firing ≤ limit → TellsLimit limit (ended_in firing rule name e)
  ended_tells firing rule name (Bad n k) p = p
  ended_tells firing rule name NoInput p = tt

  -- a firing is counted, and one that fails is named by its number
  firing_counts : (s : Setting) (column : ℕ) (i : Inst) (m : Course) → m.firings + 1 ≤ limit → MatchResult (firing s column i m).outcome (λ t. t.course.firings ≡ m.firings + 1) (TellsLimit limit)
  firing_counts s column i m within =
      let behind = column_after column (firing_bytes s.watch column m.names s.rules (m.firings + 1) i) in
      goes_as (KeptActed s.templates m.wm m.last m.names m.coming.fails) (λ (t : Turned). t.course.firings ≡ m.firings + 1) (EndsActions m.coming.fails) (TellsLimit limit) (turned_of s.rules i m) (ended_in (m.firings + 1) i.rule (rule_name s.rules i.rule)) (acted s behind i (given_by m)).outcome
      (acted_kept s behind i (given_by m)) (λ a q. refl) (λ e q. ended_tells (m.firings + 1) i.rule (rule_name s.rules i.rule) e within)

  taken_within : (n : ℕ) (k : Session) → WithinSession k → WithinSession (taken_out n k)
  taken_within n k p = p

  named_within : (name : Sym) (k : Session) → WithinSession k → WithinSession (taken_out_named name k)
  named_within name k p = by (rule_named k.rules name)
    where
      by : (at : Option ℕ) → WithinSession (unwrap_or (option_map (λ n. taken_out n k) at) k)
      by None = p
      by (Some n) = p

  added_within : (r : Rule) (k : Session) → WithinSession k → WithinSession (added r k)
  added_within r k p = named_within r.name k p

  run_limited : (left : ℕ) (s : Setting) (column : ℕ) (last : Option LastFiring) (count : Option ℕ) (k : Session) → k.course.firings + left ≡ limit
      → MatchResult (run_on left s column last count k).outcome WithinSession (TellsLimit limit)
  run_limited zero s column last count k is =
      turn_leaves WithinSession (TellsLimit limit) column (line_of_pause k.course.names k.rules k.breaks last count) k (next_to_fire k.rules k.course) _ (omega arith) (λ i. omega arith)
  run_limited (suc left) s column last count k is =
      turn_leaves WithinSession (TellsLimit limit) column (line_of_pause k.course.names k.rules k.breaks last count) k (next_to_fire k.rules k.course) _ (omega arith)
      (λ i. let e = firing (in_force s k) column i k.course in
      goes_on (λ (t : Turned). t.course.firings ≡ k.course.firings + 1) WithinSession (TellsLimit limit) e.bytes e.outcome (λ t. run_on left s (column_after column e.bytes) (last_of k.rules i t) (one_less count) (turned_on t k))
      (firing_counts (in_force s k) column i k.course (omega arith))
      (λ t q. let counted = turned_count t k q in run_limited left s (column_after column e.bytes) (last_of k.rules i t) (one_less count) (turned_on t k) (omega arith)))

  strategy_limited : (column : ℕ) (set : Option Strategy) (k : Session) → WithinSession k → KeepsLimit limit (strategy_given column set k).outcome
  strategy_limited column None k p = p
  strategy_limited column (Some g) k p = p

  level_limited : (column : ℕ) (set : Option ℕ) (k : Session) → WithinSession k → KeepsLimit limit (level_given column set k).outcome
  level_limited column None k p = p
  level_limited column (Some n) k p = p

  breaks_limited : (s : Setting) (column : ℕ) (names : List Sym) (k : Session) → WithinSession k → KeepsLimit limit (breaks_given s column names k).outcome
  breaks_limited s column [] k p = p
  breaks_limited s column (n ∷ ns) k p = p

  excised_within : (names : List Sym) (k : Session) → WithinSession k → WithinSession (fold (λ k name. taken_out_named name k) k names)
  excised_within [] k p = p
  excised_within (name ∷ names) k p = excised_within names (taken_out_named name k) (named_within name k p)

  command_limited : (s : Setting) (column : ℕ) (c : Command) (k : Session) → WithinSession k → KeepsLimit limit (command_done s limit column c k).outcome
  command_limited s column (command.Make class puts) k p = p
  command_limited s column (command.Remove tags) k p = p
  command_limited s column command.RemoveAll k p = p
  command_limited s column (command.Run count) k p =
      run_limited (limit - k.course.firings) (record s { watch = k.watch }) column None count k (omega arith)
  command_limited s column (command.Wm tags) k p = p
  command_limited s column (command.Ppwm pattern) k p = p
  command_limited s column command.Cs k p = p
  command_limited s column (command.Pm names) k p = p
  command_limited s column (command.Strategy set) k p = strategy_limited column set k p
  command_limited s column (command.Watch set) k p = level_limited column set k p
  command_limited s column (command.Pbreak names) k p = breaks_limited s column names k p
  command_limited s column (command.Add r) k p = added_within r k p
  command_limited s column (command.Excise names) k p = excised_within names k p
  command_limited s column (command.Back count) k p = back_leaves WithinSession (TellsLimit limit) column count k p (λ n e is. p)
  command_limited s column (command.Matches names) k p = p
  command_limited s column command.Exit k p = p

  commands_limited : (s : Setting) (column : ℕ) (commands : List Command) (k : Session) → WithinSession k → KeepsLimit limit (commands_done s limit column commands k).outcome
  commands_limited s column [] k p = p
  commands_limited s column (c ∷ rest) k p =
      let e = command_done (in_force s k) limit column c k in
      let go_on : ℕ → Session → Effect Ending Session = λ next k. commands_done s limit next rest k in
      cond_both (is_exit c) (writes [] k) (and_then column e go_on) (λ f. KeepsLimit limit f.outcome) (λ _. p)
      (λ _. goes_on WithinSession WithinSession (TellsLimit limit) e.bytes e.outcome (go_on (column_after column e.bytes)) (command_limited (in_force s k) column c k p)
      (λ k q. commands_limited s (column_after column e.bytes) rest k q))

-- a session keeps to its limit
pub session_limited : (s : Setting) (limit : ℕ) (commands : List Command) (names : Spellings) → IsLimited s limit commands names
session_limited s limit commands names coming =
    commands_limited limit s 0 commands (begun commands s.rules names coming) (omega arith)

-- ---- the number of a run

abbrev AtMost : ℕ → Session → Type 0
AtMost bound k = k.course.firings ≤ bound

abbrev Any : Ending → Type 0
Any e = Unit {0}

-- a run that has made all its firings goes on in no case
turn_stops : (P : Session → Type 0) (R : Ending → Type 0) (column : ℕ) (names : Spellings) (rules : List Rule) (last : Option LastFiring) (k : Session) (next : Option Inst) (go_on : Inst → Effect Ending Session) → P k
    → MatchResult (turn column (line_of_pause names rules k.breaks last (Some zero)) k next go_on).outcome P R
turn_stops P R column names rules None k next go_on p = p
turn_stops P R column names rules (Some l) k next go_on p = by l.halted (line_of_break names rules k.breaks l.rule)
  where
    by : (halted : Bool) (broken : Option (List ℕ)) → MatchResult (turn column (cond halted (Some halted_line) (option_or broken (Some counted_line))) k next go_on).outcome P R
    by true broken = p
    by false (Some line) = p
    by false None = p

run_counted : (bound left : ℕ) (s : Setting) (column : ℕ) (last : Option LastFiring) (n : ℕ) (k : Session) → k.course.firings + n ≡ bound
    → MatchResult (run_on left s column last (Some n) k).outcome (AtMost bound) Any
run_counted bound zero s column last n k is =
    turn_leaves (AtMost bound) Any column (line_of_pause k.course.names k.rules k.breaks last (Some n)) k (next_to_fire k.rules k.course) _ (omega arith) (λ i. tt)
run_counted bound (suc left) s column last zero k is =
    turn_stops (AtMost bound) Any column k.course.names k.rules last k (next_to_fire k.rules k.course) _ (omega arith)
run_counted bound (suc left) s column last (suc n) k is =
    turn_leaves (AtMost bound) Any column (line_of_pause k.course.names k.rules k.breaks last (Some (suc n))) k (next_to_fire k.rules k.course) _ (omega arith)
    (λ i. let e = firing (in_force s k) column i k.course in
    goes_on (λ (t : Turned). t.course.firings ≡ k.course.firings + 1) (AtMost bound) Any e.bytes e.outcome (λ t. run_on left s (column_after column e.bytes) (last_of k.rules i t) (one_less (Some (suc n))) (turned_on t k)) (counts i)
    (λ t q. let counted = turned_count t k q in run_counted bound left s (column_after column e.bytes) (last_of k.rules i t) (suc n - 1) (turned_on t k) (omega arith)))
  where
    counts : (i : Inst) → MatchResult (firing (in_force s k) column i k.course).outcome (λ (t : Turned). t.course.firings ≡ k.course.firings + 1) Any
    counts i =
        let m = k.course in
        let behind = column_after column (firing_bytes s.watch column m.names k.rules (m.firings + 1) i) in
        goes_as (KeptActed s.templates m.wm m.last m.names m.coming.fails) (λ (t : Turned). t.course.firings ≡ m.firings + 1) (EndsActions m.coming.fails) Any (turned_of k.rules i m) (ended_in (m.firings + 1) i.rule (rule_name k.rules i.rule)) (acted (in_force s k) behind i (given_by m)).outcome
        (acted_kept (in_force s k) behind i (given_by m)) (λ a q. refl) (λ e q. tt)

-- a run with a number makes at most this many firings
pub run_is_counted : (left : ℕ) (s : Setting) (k : Session) → IsCounted left s k
run_is_counted left s k column n =
    ok_goes (AtMost (k.course.firings + n)) (AtMost (k.course.firings + n)) Any (run_on left s column None (Some n) k).outcome (run_counted (k.course.firings + n) left s column None n k refl) (λ k p. p)
