-- A session without a `back` among its commands does the same with a trail as without one.
use Rattle.std.proofs.Common.{◌≡◌, ℕ, zero, suc, ◌-◌, List, [], ◌∷◌, ◌++◌, fold, Bool, true, false, cond, ◌||◌, Option, Some, None, option_map, unwrap_or, Result, Ok, Err, refl, ap, ◌∙◌}
use Rattle.std.specs.List.{list_any}
use Rattle.ops_base.specs.declared.commands.Command.{Command}
use Rattle.ops_base.specs.declared.commands.Command.TheVariants as command
use Rattle.ops_base.specs.declared.commands.Strategy.{Strategy}
use Rattle.ops_base.specs.declared.endings.Ending.{Ending}
use Rattle.ops_base.specs.declared.rules.Inst.{Inst}
use Rattle.ops_base.specs.declared.rules.Rule.{Rule}
use Rattle.ops_base.specs.declared.values.Sym.{Sym}
use Rattle.ops_io.specs.Output.{column_after}
use Rattle.ops_meaning.specs.Acting.{Setting}
use Rattle.ops_meaning.specs.Effects.{Effect, writes, led_by, going_on, and_then, told_as, outcome_as}
use Rattle.ops_meaning.specs.Running.{Session, LastFiring, added, all_added, breaks_given, command_done, commands_done, fired_on, firing, in_force, is_back, is_exit, last_of, level_given, line_of_pause, next_to_fire, one_less, rule_named, run_on, strategy_given, taken_out, taken_out_named, trail_emptied, turn, turned_on}
use Rattle.run_laws.specs.Undoing.{untrailed}

pub any_append : (xs ys : List Command) → list_any is_back (xs ++ ys) ≡ (list_any is_back xs || list_any is_back ys)
any_append [] ys = refl
any_append (x ∷ xs) ys = by (is_back x) (any_append xs ys)
  where
    by : (b : Bool) → list_any is_back (xs ++ ys) ≡ (list_any is_back xs || list_any is_back ys) → (b || list_any is_back (xs ++ ys)) ≡ ((b || list_any is_back xs) || list_any is_back ys)
    by true e = refl
    by false e = e

pub or_false : (b : Bool) → (b || false) ≡ b
or_false true = refl
or_false false = refl

pub or_none : (a b : Bool) → (a || b) ≡ false → (a ≡ false) × (b ≡ false)
or_none true b e = absurd (cc)
or_none false b e = (refl, e)

-- the same bytes and the same outcome, without the trail
abbrev bare : Effect Ending Session → Effect Ending Session
bare e = told_as untrailed (λ f. f) e

pub untrailed_left : (o : Result Session Ending) (k : Session) → outcome_as untrailed (λ f. f) o ≡ Ok k → (left : Session) × (o ≡ Ok left) × (untrailed left ≡ k)
untrailed_left (Ok left) k is = (left, refl, cc)
untrailed_left (Err e) k is = absurd (cc)

-- one part after another
then_bare : {S : Type 0} (bytes : List ℕ) (o : Result S Ending) (f g : S → Effect Ending Session) → ((s : S) → bare (f s) ≡ g s) → bare (going_on bytes o f) ≡ going_on bytes o g
then_bare bytes (Ok s) f g h = ap (led_by bytes) (h s)
then_bare bytes (Err e) f g h = refl

-- if the first part leaves a session
behind_bare : (bytes : List ℕ) (o : Result Session Ending) (f g : Session → Effect Ending Session) → ((k : Session) → bare (f k) ≡ g (untrailed k)) → bare (going_on bytes o f) ≡ going_on bytes (outcome_as untrailed (λ e. e) o) g
behind_bare bytes (Ok k) f g h = ap (led_by bytes) (h k)
behind_bare bytes (Err e) f g h = refl

turn_bare : (column : ℕ) (line : Option (List ℕ)) (k : Session) (next : Option Inst) (f g : Inst → Effect Ending Session) → ((i : Inst) → bare (f i) ≡ g i) → bare (turn column line k next f) ≡ turn column line (untrailed k) next g
turn_bare column (Some line) k next f g h = refl
turn_bare column None k None f g h = refl
turn_bare column None k (Some i) f g h = h i

named_untrailed : (name : Sym) (k : Session) → untrailed (taken_out_named name k) ≡ taken_out_named name (untrailed k)
named_untrailed name k = by (rule_named k.rules name)
  where
    by : (at : Option ℕ) → untrailed (unwrap_or (option_map (λ n. taken_out n k) at) k) ≡ unwrap_or (option_map (λ n. taken_out n (untrailed k)) at) (untrailed k)
    by None = refl
    by (Some n) = refl

all_untrailed : (names : List Sym) (k : Session) → untrailed (fold (λ k name. taken_out_named name k) k names) ≡ fold (λ k name. taken_out_named name k) (untrailed k) names
all_untrailed [] k = refl
all_untrailed (name ∷ names) k =
    all_untrailed names (taken_out_named name k) ∙ ap (λ j. fold (λ k name. taken_out_named name k) j names) (named_untrailed name k)

added_untrailed : (r : Rule) (k : Session) → untrailed (added r k) ≡ added r (untrailed k)
added_untrailed r k =
    let with_rule : Session → Session = λ left. record (trail_emptied left) { rules = left.rules ++ r ∷ []; breaks = left.breaks ++ false ∷ [] } in
    ap with_rule (named_untrailed r.name k)

all_added_untrailed : (built : List Rule) (k : Session) → untrailed (all_added built k) ≡ all_added built (untrailed k)
all_added_untrailed [] k = refl
all_added_untrailed (r ∷ built) k = all_added_untrailed built (added r k) ∙ ap (all_added built) (added_untrailed r k)

run_untrailed : (left : ℕ) (s : Setting) (column : ℕ) (last : Option LastFiring) (count : Option ℕ) (k : Session) → bare (run_on left s column last count k) ≡ run_on left s column last count (untrailed k)
run_untrailed zero s column last count k =
    turn_bare column (line_of_pause k.course.names k.rules k.breaks last count) k (next_to_fire k.rules k.course) _ _ (λ i. refl)
run_untrailed (suc left) s column last count k =
    turn_bare column (line_of_pause k.course.names k.rules k.breaks last count) k (next_to_fire k.rules k.course) _ _
    (λ i. let e = firing (in_force s k) column i k.course in
    then_bare e.bytes e.outcome
    (λ t. run_on left s (column_after column e.bytes) (last_of k.rules i t) (one_less count) (turned_on t k))
    (λ t. run_on left s (column_after column e.bytes) (last_of k.rules i t) (one_less count) (turned_on t (untrailed k)))
    (λ t. run_untrailed left s (column_after column e.bytes) (last_of k.rules i t) (one_less count) (turned_on t k)
    ∙ ap (run_on left s (column_after column e.bytes) (last_of k.rules i t) (one_less count)) (all_added_untrailed t.built (fired_on t.course k))))

strategy_untrailed : (column : ℕ) (set : Option Strategy) (k : Session) → bare (strategy_given column set k) ≡ strategy_given column set (untrailed k)
strategy_untrailed column None k = refl
strategy_untrailed column (Some g) k = refl

level_untrailed : (column : ℕ) (set : Option ℕ) (k : Session) → bare (level_given column set k) ≡ level_given column set (untrailed k)
level_untrailed column None k = refl
level_untrailed column (Some n) k = refl

breaks_untrailed : (s : Setting) (column : ℕ) (names : List Sym) (k : Session) → bare (breaks_given s column names k) ≡ breaks_given s column names (untrailed k)
breaks_untrailed s column [] k = refl
breaks_untrailed s column (n ∷ ns) k = refl

command_untrailed : (s : Setting) (limit column : ℕ) (c : Command) (k : Session) → is_back c ≡ false → bare (command_done s limit column c k) ≡ command_done s limit column c (untrailed k)
command_untrailed s limit column (command.Make class puts) k e = refl
command_untrailed s limit column (command.Remove tags) k e = refl
command_untrailed s limit column command.RemoveAll k e = refl
command_untrailed s limit column (command.Run count) k e = run_untrailed (limit - k.course.firings) (record s { watch = k.watch }) column None count k
command_untrailed s limit column (command.Wm tags) k e = refl
command_untrailed s limit column (command.Ppwm pattern) k e = refl
command_untrailed s limit column command.Cs k e = refl
command_untrailed s limit column (command.Pm names) k e = refl
command_untrailed s limit column (command.Strategy set) k e = strategy_untrailed column set k
command_untrailed s limit column (command.Watch set) k e = level_untrailed column set k
command_untrailed s limit column (command.Pbreak names) k e = breaks_untrailed s column names k
command_untrailed s limit column (command.Add r) k e = ap (λ (left : Session). let f : Effect Ending Session = writes [] left in f) (added_untrailed r k)
command_untrailed s limit column (command.Excise names) k e =
    ap (λ (left : Session). let f : Effect Ending Session = record { bytes = (command_done s limit column (command.Excise names) k).bytes; outcome = Ok left } in f) (all_untrailed names k)
command_untrailed s limit column (command.Back count) k e = absurd (cc)
command_untrailed s limit column (command.Matches names) k e = refl
command_untrailed s limit column command.Exit k e = refl

pub commands_untrailed : (s : Setting) (limit column : ℕ) (commands : List Command) (k : Session) → list_any is_back commands ≡ false → bare (commands_done s limit column commands k) ≡ commands_done s limit column commands (untrailed k)
commands_untrailed s limit column [] k e = refl
commands_untrailed s limit column (c ∷ rest) k e =
    let parts = or_none (is_back c) (list_any is_back rest) e in
    by (is_exit c) (go_on parts.0 (λ column k. commands_untrailed s limit column rest k parts.1))
  where
    next : ℕ → Session → Effect Ending Session
    next column k = commands_done s limit column rest k

    go_on : is_back c ≡ false → ((column : ℕ) (k : Session) → bare (next column k) ≡ next column (untrailed k))
        → bare (and_then column (command_done (in_force s k) limit column c k) next) ≡ and_then column (command_done (in_force s k) limit column c (untrailed k)) next
    go_on one all =
        let f = command_done (in_force s k) limit column c k in
        behind_bare f.bytes f.outcome (next (column_after column f.bytes)) (next (column_after column f.bytes)) (λ k. all (column_after column f.bytes) k)
        ∙ ap (λ (g : Effect Ending Session). and_then column g next) (command_untrailed (in_force s k) limit column c k one)

    by : (b : Bool) → bare (and_then column (command_done (in_force s k) limit column c k) next) ≡ and_then column (command_done (in_force s k) limit column c (untrailed k)) next
        → bare (cond b (writes [] k) (and_then column (command_done (in_force s k) limit column c k) next)) ≡ cond b (writes [] (untrailed k)) (and_then column (command_done (in_force s k) limit column c (untrailed k)) next)
    by true h = refl
    by false h = h
