-- Each mark of a session is of a production in force.
use Rattle.std.proofs.Common.{◌≡◌, ℕ, zero, suc, ◌+◌, ◌-◌, ◌<◌, List, [], ◌∷◌, ◌++◌, length, fold, Option, Some, None, option_map, unwrap_or, Result, Ok, Err, IfOk, false, slice_get, ap, inl, inr, ◌⊎◌, arith}
use Rattle.std.specs.List.{list_any}
use Rattle.ops_base.specs.Live.{without, moved_insts}
use Rattle.std.proofs.lemmas.Bool.{cond_both}
use Rattle.std.proofs.lemmas.List.Elements.{All-nil}
use Rattle.ops_base.specs.declared.commands.Command.{Command}
use Rattle.ops_base.specs.declared.commands.Command.TheVariants as command
use Rattle.ops_base.specs.declared.commands.Strategy.{Strategy}
use Rattle.ops_base.specs.declared.direct.Partial.{Partial}
use Rattle.ops_base.specs.declared.elements.Element.{Element}
use Rattle.ops_base.specs.declared.endings.Ending.{Ending}
use Rattle.ops_base.specs.declared.rules.Inst.{Inst}
use Rattle.ops_base.specs.declared.rules.Rule.{Rule}
use Rattle.ops_base.specs.declared.values.Sym.{Sym}
use Rattle.ops_base.specs.ConflictSet.{conflict_set, insts_from, insts_of, matches_of}
use Rattle.ops_base.specs.Instances.{AreOf}
use Rattle.ops_base.specs.Names.{Spellings}
use Rattle.ops_base.specs.Refraction.{is_among, still_fired}
use Rattle.ops_base.proofs.Filtered.{filter_member}
use Rattle.ops_base.proofs.Members.{IsMember, all_from_members, map_member, member_cases}
use Rattle.ops_io.specs.Coming.{Coming}
use Rattle.ops_io.specs.Output.{column_after}
use Rattle.ops_meaning.specs.Acting.{Setting, acted}
use Rattle.ops_meaning.specs.Effects.{Effect, and_then, writes}
use Rattle.ops_meaning.specs.Layout.{firing_bytes, rule_name}
use Rattle.ops_meaning.specs.Running.{Course, LastFiring, Session, Turned, added, all_added, begun, breaks_given, command_done, commands_done, ended_in, firing, given_by, in_force, is_exit, last_of, level_given, line_of_pause, next_to_fire, one_less, rule_named, run_on, session_of, strategy_given, taken_out, taken_out_named, turn, turned_of, Earlier, back_given, fired_on, is_back, restored, states_kept, trail_emptied, turned_on}
use Rattle.ops_meaning.proofs.Trails.{AreKept, back_leaves, firing_kept_too, is_kept, none_kept, none_yet, those_before}
use Rattle.run_laws.proofs.Orders.{marks_left}
use Rattle.run_laws.proofs.Parts.{if_ok, ok_as, ok_more, ok_on}

-- ---- a conflict set is of the productions

set_within : (n : ℕ) (rules : List Rule) (wm : List Element) (i : Inst) → IsMember i (insts_from n rules wm) → i.rule < n + length rules
set_within n [] wm i m = absurd m
set_within n (r ∷ rules) wm i m =
    by (λ h. set_within (n + 1) rules wm i h) (member_cases i (insts_of n (matches_of wm r.conditions)) (insts_from (n + 1) rules wm) m)
  where
    by : (IsMember i (insts_from (n + 1) rules wm) → i.rule < (n + 1) + length rules) → IsMember i (insts_of n (matches_of wm r.conditions)) ⊎ IsMember i (insts_from (n + 1) rules wm) → i.rule < n + length (r ∷ rules)
    by later (inl h) =
        let one = map_member (λ (p : Partial). record { rule = n; tags = p.tags }) i (matches_of wm r.conditions) h in
        let same : i.rule ≡ n = ap (λ (j : Inst). j.rule) one.2 in
        omega (arith, same)
    by later (inr h) = let within = later h in omega (arith, within)

-- so are the marks that are kept at the end of a phase
marks_kept : (rules : List Rule) (wm : List Element) (fired : List Inst) → AreOf rules (still_fired (conflict_set rules wm) fired)
marks_kept rules wm fired =
    all_from_members (λ (i : Inst). i.rule < length rules) (still_fired (conflict_set rules wm) fired)
    (λ i m. (let there = filter_member (λ (j : Inst). is_among fired j) i (conflict_set rules wm) m in
    let within = set_within 0 rules wm i there.0 in
    omega (arith, within)))

-- ---- a run

abbrev Marked : List Rule → Course → Type 0
Marked rules m = AreOf rules m.fired

any_ok : {E S : Type 0} (o : Result S E) → IfOk o (λ s. Unit {0})
any_ok (Ok s) = tt
any_ok (Err e) = tt

pub firing_marked : (s : Setting) (column : ℕ) (i : Inst) (m : Course) → IfOk (firing s column i m).outcome (λ t. Marked s.rules t.course)
firing_marked s column i m =
    let behind = column_after column (firing_bytes s.watch column m.names s.rules (m.firings + 1) i) in
    ok_as (λ a. Unit {0}) (λ (t : Turned). Marked s.rules t.course) (turned_of s.rules i m) (ended_in (m.firings + 1) i.rule (rule_name s.rules i.rule)) (acted s behind i (given_by m)).outcome
    (any_ok (acted s behind i (given_by m)).outcome)
    (λ a q. marks_kept s.rules (turned_of s.rules i m a).course.wm (m.fired ++ i ∷ []))

turn_marked : (P : Session → Type 0) (column : ℕ) (line : Option (List ℕ)) (k : Session) (next : Option Inst) (go_on : Inst → Effect Ending Session) → P k
    → ((i : Inst) → IfOk (go_on i).outcome P) → IfOk (turn column line k next go_on).outcome P
turn_marked P column (Some line) k next go_on p q = p
turn_marked P column None k None go_on p q = p
turn_marked P column None k (Some i) go_on p q = q i

-- ---- a session

-- the marks are of productions in force, and so are those of each state on the trail
abbrev MarkedEarlier : List Rule → Earlier → Type 0
MarkedEarlier rules e = AreOf rules e.fired

abbrev Good : Session → Type 0
Good k = Marked k.rules k.course × AreKept (MarkedEarlier k.rules) k

back_good : (n : ℕ) (e : Earlier) (k : Session) → Good k → slice_get (states_kept k) n ≡ Some e → Good (restored n k e)
back_good n e k g is = (is_kept (MarkedEarlier k.rules) k n e g.1 is, those_before (MarkedEarlier k.rules) n k e g.1)

emptied_good : (k : Session) → Marked k.rules k.course → Good (trail_emptied k)
emptied_good k h = (h, none_kept (MarkedEarlier k.rules) k)

named_good : (name : Sym) (k : Session) → Good k → Good (taken_out_named name k)
named_good name k h = by (rule_named k.rules name)
  where
    by : (at : Option ℕ) → Good (unwrap_or (option_map (λ n. taken_out n k) at) k)
    by None = h
    by (Some n) = emptied_good (record k { rules = without n k.rules; breaks = without n k.breaks; course = record k.course { fired = moved_insts n k.course.fired } }) (marks_left n k.rules k.course.fired h.0)

all_good : (given : List Sym) (k : Session) → Good k → Good (fold (λ k name. taken_out_named name k) k given)
all_good [] k h = h
all_good (name ∷ given) k h = all_good given (taken_out_named name k) (named_good name k h)

one_more : (r : Rule) (rules : List Rule) → length rules < length (rules ++ r ∷ [])
one_more r [] = omega arith
one_more r (s ∷ rules) = let rest = one_more r rules in omega (arith, rest)

of_more : (r : Rule) (rules : List Rule) (insts : List Inst) → AreOf rules insts → AreOf (rules ++ r ∷ []) insts
of_more r rules insts h k d within = let low = h k d within in omega (arith, low, one_more r rules)

pub added_marked : (r : Rule) (k : Session) → Marked k.rules k.course → Marked (added r k).rules (added r k).course
added_marked r k h =
    let left = taken_out_named r.name k in of_more r left.rules left.course.fired (by (rule_named k.rules r.name))
  where
    by : (at : Option ℕ) → (let left : Session = unwrap_or (option_map (λ n. taken_out n k) at) k in Marked left.rules left.course)
    by None = h
    by (Some n) = marks_left n k.rules k.course.fired h

added_good : (r : Rule) (k : Session) → Good k → Good (added r k)
added_good r k h =
    let left = taken_out_named r.name k in
    emptied_good (record left { rules = left.rules ++ r ∷ []; breaks = left.breaks ++ false ∷ [] }) (added_marked r k h.0)

all_added_good : (built : List Rule) (k : Session) → Good k → Good (all_added built k)
all_added_good [] k h = h
all_added_good (r ∷ built) k h = all_added_good built (added r k) (added_good r k h)

turned_good : (t : Turned) (k : Session) → Good k → Marked k.rules t.course → Good (turned_on t k)
turned_good t k g h = all_added_good t.built (fired_on t.course k) (h, firing_kept_too (MarkedEarlier k.rules) t.course k g.0 g.1)

run_good : (left : ℕ) (s : Setting) (column : ℕ) (last : Option LastFiring) (count : Option ℕ) (k : Session) → Good k → IfOk (run_on left s column last count k).outcome Good
run_good zero s column last count k g =
    turn_marked Good column (line_of_pause k.course.names k.rules k.breaks last count) k (next_to_fire k.rules k.course) _ g (λ i. tt)
run_good (suc left) s column last count k g =
    turn_marked Good column (line_of_pause k.course.names k.rules k.breaks last count) k (next_to_fire k.rules k.course) _ g
    (λ i. let e = firing (in_force s k) column i k.course in
    ok_on (λ (t : Turned). Marked k.rules t.course) Good e.bytes e.outcome (λ t. run_on left s (column_after column e.bytes) (last_of k.rules i t) (one_less count) (turned_on t k)) (firing_marked (in_force s k) column i k.course)
    (λ t q. run_good left s (column_after column e.bytes) (last_of k.rules i t) (one_less count) (turned_on t k) (turned_good t k g q)))

strategy_good : (column : ℕ) (set : Option Strategy) (k : Session) → Good k → IfOk (strategy_given column set k).outcome Good
strategy_good column None k h = h
strategy_good column (Some g) k h = h

level_good : (column : ℕ) (set : Option ℕ) (k : Session) → Good k → IfOk (level_given column set k).outcome Good
level_good column None k h = h
level_good column (Some n) k h = h

breaks_good : (s : Setting) (column : ℕ) (names : List Sym) (k : Session) → Good k → IfOk (breaks_given s column names k).outcome Good
breaks_good s column [] k h = h
breaks_good s column (n ∷ ns) k h = h

command_good : (s : Setting) (limit column : ℕ) (c : Command) (k : Session) → Good k → IfOk (command_done (in_force s k) limit column c k).outcome Good
command_good s limit column (command.Make class puts) k h = (marks_kept k.rules _ k.course.fired, none_kept (MarkedEarlier k.rules) k)
command_good s limit column (command.Remove tags) k h = (marks_kept k.rules _ k.course.fired, none_kept (MarkedEarlier k.rules) k)
command_good s limit column command.RemoveAll k h = (marks_kept k.rules _ k.course.fired, none_kept (MarkedEarlier k.rules) k)
command_good s limit column (command.Run count) k h =
    run_good (limit - k.course.firings) (record (in_force s k) { watch = k.watch }) column None count k h
command_good s limit column (command.Wm tags) k h = h
command_good s limit column (command.Ppwm pattern) k h = h
command_good s limit column command.Cs k h = h
command_good s limit column (command.Pm names) k h = h
command_good s limit column (command.Strategy set) k h = strategy_good column set k h
command_good s limit column (command.Watch set) k h = level_good column set k h
command_good s limit column (command.Pbreak names) k h = breaks_good (in_force s k) column names k h
command_good s limit column (command.Add r) k h = added_good r k h
command_good s limit column (command.Excise given) k h = all_good given k h
command_good s limit column (command.Back count) k h =
    if_ok Good (λ (e : Ending). Unit {0}) (back_given column count k).outcome (back_leaves Good (λ e. Unit {0}) column count k h (λ n e is. back_good n e k h is))
command_good s limit column (command.Matches given) k h = h
command_good s limit column command.Exit k h = h

commands_good : (s : Setting) (limit column : ℕ) (commands : List Command) (k : Session) → Good k → IfOk (commands_done s limit column commands k).outcome Good
commands_good s limit column [] k h = h
commands_good s limit column (c ∷ rest) k h =
    let e = command_done (in_force s k) limit column c k in
    let go_on : ℕ → Session → Effect Ending Session = λ next k. commands_done s limit next rest k in
    cond_both (is_exit c) (writes [] k) (and_then column e go_on) (λ f. IfOk f.outcome Good) (λ _. h)
    (λ _. ok_on Good Good e.bytes e.outcome (go_on (column_after column e.bytes)) (command_good s limit column c k h)
    (λ k q. commands_good s limit (column_after column e.bytes) rest k q))

pub session_marked : (s : Setting) (limit : ℕ) (commands : List Command) (names : Spellings) (coming : Coming)
    → IfOk (session_of s limit commands names coming).outcome (λ k. AreOf k.rules k.course.fired)
session_marked s limit commands names coming =
    ok_more Good (λ (k : Session). AreOf k.rules k.course.fired) (session_of s limit commands names coming).outcome
    (commands_good s limit 0 commands (begun commands s.rules names coming) (All-nil (λ (i : Inst). i.rule < length s.rules), none_yet (MarkedEarlier s.rules) (list_any is_back commands)))
    (λ k g. g.0)
