-- `back` undoes firings that were made one after another.
use Rattle.std.proofs.Common.{◌≡◌, ℕ, zero, suc, ◌+◌, ◌-◌, ◌≤◌, ◌<◌, List, [], ◌∷◌, ◌++◌, length, drop, take, fold, Bool, true, false, cond, Option, Some, None, is_some, option_map, unwrap_or, Result, Ok, Err, IfOk, refl, sym, ap, ◌∙◌, subst, arith, nat_lt, slice_get, length-append}
use Rattle.std.specs.List.{list_any}
use Rattle.std.proofs.lemmas.Bool.{cond_both, le-ltb, lt-ltb}
use Rattle.std.proofs.lemmas.List.{length-drop}
use Rattle.ops_base.specs.declared.commands.Command.{Command}
use Rattle.ops_base.specs.declared.commands.Command.TheVariants as command
use Rattle.ops_base.specs.declared.commands.Strategy.{Strategy}
use Rattle.ops_base.specs.declared.endings.Ending.{Ending}
use Rattle.ops_base.specs.declared.rules.Inst.{Inst}
use Rattle.ops_base.specs.declared.rules.Rule.{Rule}
use Rattle.ops_base.specs.declared.values.Sym.{Sym}
use Rattle.ops_base.specs.Names.{Spellings}
use Rattle.ops_io.specs.Coming.{Coming}
use Rattle.ops_io.specs.Output.{column_after}
use Rattle.ops_meaning.specs.Acting.{Setting, Acted, Misdeed, acted}
use Rattle.ops_meaning.specs.Effects.{Effect, writes, and_then, going_on, outcome_as}
use Rattle.ops_meaning.specs.Kept.{AreFilledFrom}
use Rattle.ops_meaning.specs.Layout.{firing_bytes, kept_line, rule_name}
use Rattle.ops_meaning.specs.Running.{Course, Earlier, LastFiring, Session, Turned, added, all_added, back_given, begun, breaks_given, command_done, commands_done, earlier, ended_in, fired_on, firing, given_by, gone_back_to, in_force, is_back, is_exit, last_kept, last_of, level_given, line_of_pause, lists, next_to_fire, one_less, restored, rule_named, run_on, session_of, states_kept, strategy_given, taken_out, taken_out_named, trail_begun, turn, turned_of, turned_on}
use Rattle.ops_meaning.proofs.Trails.{back_leaves}
use Rattle.run_laws.specs.Undoing.{FireAlone, FireTo, IsUndone}
use Rattle.run_laws.proofs.Added.{firing_filled}
use Rattle.run_laws.proofs.Builds.{all_count, built_kept}
use Rattle.run_laws.proofs.Parts.{if_ok, ok_on}

-- ---- the last states of a trail

got_past : {X : Type 0} (d i : ℕ) (xs : List X) → slice_get (drop d xs) i ≡ slice_get xs (d + i)
got_past zero i xs = let same : zero + i ≡ i = omega arith in ap (slice_get xs) (sym same)
got_past (suc d) i [] = refl
got_past (suc d) i (x ∷ xs) = let same : suc d + i ≡ suc (d + i) = omega arith in got_past d i xs ∙ sym (ap (slice_get (x ∷ xs)) same)

got_last : {X : Type 0} (xs : List X) (x : X) → slice_get (xs ++ x ∷ []) (length xs) ≡ Some x
got_last [] x = refl
got_last (y ∷ xs) x = got_last xs x

got_before : {X : Type 0} (xs ys : List X) (i : ℕ) (x : X) → slice_get xs i ≡ Some x → slice_get (xs ++ ys) i ≡ Some x
got_before [] ys i x e = absurd (cc)
got_before (y ∷ xs) ys zero x e = e
got_before (y ∷ xs) ys (suc i) x e = got_before xs ys i x e

-- this state is the earliest of the last ones, of which there are this many
record IsEarliest (n : ℕ) (es : List Earlier) (e : Earlier) : Type 0 where
  enough : n ≤ length es
  there : slice_get es (length es - n) ≡ Some e

-- it is kept if this many are kept
earliest_kept : (n : ℕ) (all : List Earlier) (e : Earlier) → n ≤ 32 → IsEarliest n all e → IsEarliest n (last_kept all) e
earliest_kept n all e few h =
    let d = length all - 32 in
    let long = length-drop d all in
    let place : d + (length (drop d all) - n) ≡ length all - n = omega (arith, few, h.enough, long) in
    record {
      enough = omega (arith, few, h.enough, long);
      there = got_past d (length (drop d all) - n) all ∙ ap (slice_get all) place ∙ h.there;
    }

-- one more firing
earliest_first : (es : List Earlier) (e : Earlier) → IsEarliest 1 (es ++ e ∷ []) e
earliest_first es e =
    let long = length-append es (e ∷ []) in
    let place : length (es ++ e ∷ []) - 1 ≡ length es = omega (arith, long) in
    record { enough = omega (arith, long); there = ap (slice_get (es ++ e ∷ [])) place ∙ got_last es e }

earliest_then : (n : ℕ) (es : List Earlier) (e next : Earlier) → IsEarliest n es e → IsEarliest (n + 1) (es ++ next ∷ []) e
earliest_then n es e next h =
    let long = length-append es (next ∷ []) in
    let place : length (es ++ next ∷ []) - (n + 1) ≡ length es - n = omega (arith, long, h.enough) in
    record {
      enough = omega (arith, long, h.enough);
      there = ap (slice_get (es ++ next ∷ [])) place ∙ got_before es (next ∷ []) (length es - n) e h.there;
    }

-- ---- firings

-- there is a trail, and this state is the earliest of its last ones, of which there are this many
abbrev HasEarliest : ℕ → Session → Earlier → Type 0
HasEarliest n k e = (es : List Earlier) × (k.trail ≡ Some es) × IsEarliest n es e

one_more : (n : ℕ) (m : Course) (k : Session) (e : Earlier) → n + 1 ≤ 32 → HasEarliest n k e → HasEarliest (n + 1) (fired_on m k) e
one_more n m k e few h =
    let all = h.0 ++ earlier k.course ∷ [] in
    (last_kept all, ap (option_map (λ es. last_kept (es ++ earlier k.course ∷ []))) h.1, earliest_kept (n + 1) all e few (earliest_then n h.0 e (earlier k.course) h.2))

then_earliest : (s : Setting) (n j : ℕ) (k fired : Session) (e : Earlier) → HasEarliest j k e → j + n ≤ 32 → FireAlone s n k fired → HasEarliest (j + n) fired e
then_earliest s zero j k fired e h few to =
    let same : j + zero ≡ j = omega arith in
    let P : Session → Type 0 = λ k. HasEarliest (j + zero) k e in
    subst P to (subst (λ n. HasEarliest n k e) (sym same) h)
then_earliest s (suc n) j k fired e h few to =
    let same : (j + 1) + n ≡ j + suc n = omega arith in
    let t = to.2 in
    subst (λ n. HasEarliest n fired e) same (then_earliest s n (j + 1) (fired_on t.course k) fired e (one_more j t.course k e (omega (arith, few)) h) (omega (arith, few)) to.6)

fired_earliest : (s : Setting) (n : ℕ) (k fired : Session) → is_some k.trail ≡ true → 1 ≤ n → n ≤ 32 → FireAlone s n k fired → HasEarliest n fired (earlier k.course)
fired_earliest s zero k fired has some few to = absurd (omega (arith, some))
fired_earliest s (suc n) k fired has some few to =
    let t = to.2 in
    let same : 1 + n ≡ suc n = omega arith in
    subst (λ n. HasEarliest n fired (earlier k.course)) same
    (then_earliest s n 1 (fired_on t.course k) fired (earlier k.course) (by t.course k.trail refl has) (omega (arith, few)) to.6)
  where
    by : (m : Course) (o : Option (List Earlier)) → k.trail ≡ o → is_some o ≡ true → HasEarliest 1 (fired_on m k) (earlier k.course)
    by m None is has = absurd (cc)
    by m (Some es) is has =
        let all = es ++ earlier k.course ∷ [] in
        (last_kept all, ap (option_map (λ es. last_kept (es ++ earlier k.course ∷ []))) is, earliest_kept 1 all (earlier k.course) (omega arith) (earliest_first es (earlier k.course)))

pub firings_undone : (s t : Setting) (limit column n : ℕ) (k fired : Session) → is_some k.trail ≡ true → 1 ≤ n → n ≤ 32 → FireAlone s n k fired
    → (after : Session) × (command_done t limit column (command.Back n) fired ≡ writes [] after) × IsUndone n k fired after
firings_undone s t limit column n k fired has some few to =
    let h = fired_earliest s n k fired has some few to in
    let states : states_kept fired ≡ h.0 = ap (λ o. unwrap_or o []) h.1 in
    let at = length (states_kept fired) - n in
    let enough : nat_lt (length (states_kept fired)) n ≡ false = le-ltb (length (states_kept fired)) n (subst (λ es. n ≤ length es) (sym states) h.2.enough) in
    let there : slice_get (states_kept fired) at ≡ Some (earlier k.course) = subst (λ es. slice_get es (length es - n) ≡ Some (earlier k.course)) (sym states) h.2.there in
    let back = restored at fired (earlier k.course) in (
      back,
      ap (λ b. cond b (lists column (kept_line (length (states_kept fired)) ∷ []) fired) (writes [] (gone_back_to at fired))) enough
          ∙ ap (λ o. let f : Effect Ending Session = writes [] (unwrap_or (option_map (restored at fired) o) fired) in f) there,
      record {
        memory = refl;
        marks = refl;
        last_tag = refl;
        names = refl;
        firings = refl;
        strategy = refl;
        coming = refl;
        rules = refl;
        watch = refl;
        breaks = refl;
        trail = subst (λ o. option_map (take (length (unwrap_or o []) - n)) o ≡ option_map (λ es. take (length es - n) es) o) (sym h.1) refl;
      },
    )

-- ---- the firings that are kept

-- a firing that builds leaves no firing that can be undone
pub built_empties : (t : Turned) (k : Session) (r : Rule) (rest : List Rule) → t.built ≡ r ∷ rest → states_kept (turned_on t k) ≡ []
built_empties t k r rest is =
    ap (λ built. states_kept (all_added built (fired_on t.course k))) is ∙ built_kept r rest (fired_on t.course k)

-- a firing adds one state at most
fired_kept : (m : Course) (k : Session) → length (states_kept (fired_on m k)) ≤ length (states_kept k) + 1
fired_kept m k = by k.trail
  where
    by : (o : Option (List Earlier)) → length (unwrap_or (option_map (λ es. last_kept (es ++ earlier k.course ∷ [])) o) []) ≤ length (unwrap_or o []) + 1
    by None = omega arith
    by (Some es) =
        let all = es ++ earlier k.course ∷ [] in
        let more = length-append es (earlier k.course ∷ []) in
        let left = length-drop (length all - 32) all in
        omega (arith, more, left)

turned_kept : (t : Turned) (k : Session) → length (states_kept (turned_on t k)) ≤ length (states_kept k) + 1
turned_kept t k = by t.built
  where
    by : (built : List Rule) → length (states_kept (all_added built (fired_on t.course k))) ≤ length (states_kept k) + 1
    by [] = fired_kept t.course k
    by (r ∷ rest) = let none = ap length (built_kept r rest (fired_on t.course k)) in omega (arith, none)

fire_kept : (s : Setting) (n : ℕ) (k fired : Session) → FireTo s n k fired → length (states_kept fired) ≤ length (states_kept k) + n
fire_kept s zero k fired to =
    let same : length (states_kept k) ≡ length (states_kept fired) = ap (λ (k : Session). length (states_kept k)) to in
    omega (arith, same)
fire_kept s (suc n) k fired to =
    let one = turned_kept to.2 k in
    let rest = fire_kept s n (turned_on to.2 k) fired to.5 in
    omega (arith, one, rest)

-- if all of these firings are kept, none of them built a production
all_alone : (s : Setting) (n : ℕ) (k fired : Session) → FireTo s n k fired → n ≤ length (states_kept fired) → FireAlone s n k fired
all_alone s zero k fired to enough = to
all_alone s (suc n) k fired to enough =
    by to.2.built refl (fire_kept s n (turned_on to.2 k) fired to.5) (λ k to enough. all_alone s n k fired to enough)
  where
    by : (built : List Rule) → to.2.built ≡ built → length (states_kept fired) ≤ length (states_kept (turned_on to.2 k)) + n
        → ((k : Session) → FireTo s n k fired → n ≤ length (states_kept fired) → FireAlone s n k fired) → FireAlone s (suc n) k fired
    by [] none few later =
        let same : turned_on to.2 k ≡ fired_on to.2.course k = ap (λ built. all_added built (fired_on to.2.course k)) none in
        let rest : FireTo s n (fired_on to.2.course k) fired = subst (λ k. FireTo s n k fired) same to.5 in
        (to.0, to.1, to.2, to.3, to.4, none, later (fired_on to.2.course k) rest (omega (arith, enough)))
    by (r ∷ rest) is few later =
        let kept = ap length (built_empties to.2 k r rest is) in
        absurd (omega (arith, kept, few, enough))

-- without templates no firing builds
none_filled : (templates built : List Rule) → templates ≡ [] → AreFilledFrom templates built → built ≡ []
none_filled templates [] none h = refl
none_filled templates (r ∷ built) none h =
    let there : slice_get [] h.0.number ≡ Some h.0.template = ap (λ ts. slice_get ts h.0.number) (sym none) ∙ h.0.there in absurd (cc)

pub plain_alone : (s : Setting) (n : ℕ) (k fired : Session) → s.templates ≡ [] → FireTo s n k fired → FireAlone s n k fired
plain_alone s zero k fired none to = to
plain_alone s (suc n) k fired none to =
    let t = to.2 in
    let P : Result Turned Ending → Type 0 = λ o. IfOk o (λ t. AreFilledFrom s.templates t.built) in
    let alone : t.built ≡ [] = none_filled s.templates t.built none (subst P to.4 (firing_filled (in_force s k) to.0 to.1 k.course)) in
    let same : turned_on t k ≡ fired_on t.course k = ap (λ built. all_added built (fired_on t.course k)) alone in
    let rest : FireTo s n (fired_on t.course k) fired = subst (λ k. FireTo s n k fired) same to.5 in
    (to.0, to.1, t, to.3, to.4, alone, plain_alone s n (fired_on t.course k) fired none rest)

cut : (s : Setting) (m n all : ℕ) (k fired : Session) → m + n ≡ all → FireTo s all k fired → (middle : Session) × FireTo s m k middle × FireTo s n middle fired
cut s zero n all k fired e to =
    let same : all ≡ n = omega (arith, e) in (k, refl, subst (λ n. FireTo s n k fired) same to)
cut s (suc m) n zero k fired e to = absurd (omega (arith, e))
cut s (suc m) n (suc all) k fired e to =
    let rest = cut s m n all (turned_on to.2 k) fired (omega (arith, e)) to.5 in
    (rest.0, (to.0, to.1, to.2, to.3, to.4, rest.1), rest.2)

pub kept_alone : (s : Setting) (m n : ℕ) (k fired : Session) → FireTo s (m + n) k fired → n ≤ length (states_kept fired)
    → (middle : Session) × FireTo s m k middle × FireAlone s n middle fired
kept_alone s m n k fired to enough =
    let c = cut s m n (m + n) k fired refl to in (c.0, c.1, all_alone s n c.0 fired c.2 enough)

pub few_kept : (s : Setting) (limit column n : ℕ) (k : Session) → length (states_kept k) < n → command_done s limit column (command.Back n) k ≡ lists column (kept_line (length (states_kept k)) ∷ []) k
few_kept s limit column n k few =
    let kept = length (states_kept k) in
    ap (λ b. cond b (lists column (kept_line kept ∷ []) k) (writes [] (gone_back_to (kept - n) k))) (lt-ltb kept n few)

-- ---- a run

-- this many firings lead from the one to the other, and are counted
abbrev RunsTo : Setting → Session → Session → Type 0
RunsTo s k fired = (n : ℕ) × FireTo s n k fired × (fired.course.firings ≡ k.course.firings + n)

none_made : (s : Setting) (k : Session) → RunsTo s k k
none_made s k = (0, refl, omega arith)

firing_counted : (s : Setting) (column : ℕ) (i : Inst) (m : Course) → IfOk (firing s column i m).outcome (λ t. t.course.firings ≡ m.firings + 1)
firing_counted s column i m =
    by (acted s (column_after column (firing_bytes s.watch column m.names s.rules (m.firings + 1) i)) i (given_by m)).outcome
  where
    by : (o : Result Acted Misdeed) → IfOk (outcome_as (turned_of s.rules i m) (ended_in (m.firings + 1) i.rule (rule_name s.rules i.rule)) o) (λ t. t.course.firings ≡ m.firings + 1)
    by (Ok a) = refl
    by (Err e) = tt

turn_runs : (Q : Session → Type 0) (column : ℕ) (line : Option (List ℕ)) (k : Session) (next : Option Inst) (go_on : Inst → Effect Ending Session) → Q k
    → ((i : Inst) → next ≡ Some i → IfOk (go_on i).outcome Q) → IfOk (turn column line k next go_on).outcome Q
turn_runs Q column (Some line) k next go_on p q = p
turn_runs Q column None k None go_on p q = p
turn_runs Q column None k (Some i) go_on p q = q i refl

pub run_fires : (left : ℕ) (s : Setting) (column : ℕ) (last : Option LastFiring) (count : Option ℕ) (k : Session) → IfOk (run_on left s column last count k).outcome (RunsTo s k)
run_fires zero s column last count k =
    turn_runs (RunsTo s k) column (line_of_pause k.course.names k.rules k.breaks last count) k (next_to_fire k.rules k.course) _ (none_made s k) (λ i is. tt)
run_fires (suc left) s column last count k =
    turn_runs (RunsTo s k) column (line_of_pause k.course.names k.rules k.breaks last count) k (next_to_fire k.rules k.course) _ (none_made s k)
    (λ i is. let e = firing (in_force s k) column i k.course in by i is e.bytes e.outcome refl (firing_counted (in_force s k) column i k.course)
    (λ t. run_fires left s (column_after column e.bytes) (last_of k.rules i t) (one_less count) (turned_on t k)))
  where
    more : (i : Inst) → next_to_fire k.rules k.course ≡ Some i → (t : Turned) → (firing (in_force s k) column i k.course).outcome ≡ Ok t → t.course.firings ≡ k.course.firings + 1
        → (o : Result Session Ending) → IfOk o (RunsTo s (turned_on t k)) → IfOk o (RunsTo s k)
    more i is t made counted (Ok fired) h = (suc h.0, (column, i, t, is, made, h.1), omega (arith, all_count t.built (fired_on t.course k), counted, h.2))
    more i is t made counted (Err e) h = tt

    by : (i : Inst) → next_to_fire k.rules k.course ≡ Some i → (bytes : List ℕ) (o : Result Turned Ending) → (firing (in_force s k) column i k.course).outcome ≡ o → IfOk o (λ t. t.course.firings ≡ k.course.firings + 1)
        → ((t : Turned) → IfOk (run_on left s (column_after column bytes) (last_of k.rules i t) (one_less count) (turned_on t k)).outcome (RunsTo s (turned_on t k)))
        → IfOk (going_on bytes o (λ t. run_on left s (column_after column bytes) (last_of k.rules i t) (one_less count) (turned_on t k))).outcome (RunsTo s k)
    by i is bytes (Ok t) made counted later =
        more i is t made counted (run_on left s (column_after column bytes) (last_of k.rules i t) (one_less count) (turned_on t k)).outcome (later t)
    by i is bytes (Err e) made counted later = tt

-- ---- whether there is a trail

abbrev Keeps : Bool → Session → Type 0
Keeps b k = is_some k.trail ≡ b

mapped_keeps : {X Y : Type 0} (f : X → Y) (o : Option X) → is_some (option_map f o) ≡ is_some o
mapped_keeps f None = refl
mapped_keeps f (Some x) = refl

named_keeps : (b : Bool) (name : Sym) (k : Session) → Keeps b k → Keeps b (taken_out_named name k)
named_keeps b name k h = by (rule_named k.rules name)
  where
    by : (at : Option ℕ) → Keeps b (unwrap_or (option_map (λ n. taken_out n k) at) k)
    by None = h
    by (Some n) = mapped_keeps _ k.trail ∙ h

all_keep : (b : Bool) (given : List Sym) (k : Session) → Keeps b k → Keeps b (fold (λ k name. taken_out_named name k) k given)
all_keep b [] k h = h
all_keep b (name ∷ given) k h = all_keep b given (taken_out_named name k) (named_keeps b name k h)

strategy_keeps : (b : Bool) (column : ℕ) (set : Option Strategy) (k : Session) → Keeps b k → IfOk (strategy_given column set k).outcome (Keeps b)
strategy_keeps b column None k h = h
strategy_keeps b column (Some g) k h = h

level_keeps : (b : Bool) (column : ℕ) (set : Option ℕ) (k : Session) → Keeps b k → IfOk (level_given column set k).outcome (Keeps b)
level_keeps b column None k h = h
level_keeps b column (Some n) k h = h

breaks_keep : (b : Bool) (s : Setting) (column : ℕ) (names : List Sym) (k : Session) → Keeps b k → IfOk (breaks_given s column names k).outcome (Keeps b)
breaks_keep b s column [] k h = h
breaks_keep b s column (n ∷ ns) k h = h

added_keeps : (b : Bool) (r : Rule) (k : Session) → Keeps b k → Keeps b (added r k)
added_keeps b r k h = mapped_keeps _ (taken_out_named r.name k).trail ∙ named_keeps b r.name k h

all_added_keep : (b : Bool) (built : List Rule) (k : Session) → Keeps b k → Keeps b (all_added built k)
all_added_keep b [] k h = h
all_added_keep b (r ∷ built) k h = all_added_keep b built (added r k) (added_keeps b r k h)

run_keeps : (b : Bool) (left : ℕ) (s : Setting) (column : ℕ) (last : Option LastFiring) (count : Option ℕ) (k : Session) → Keeps b k → IfOk (run_on left s column last count k).outcome (Keeps b)
run_keeps b zero s column last count k h =
    turn_runs (Keeps b) column (line_of_pause k.course.names k.rules k.breaks last count) k (next_to_fire k.rules k.course) _ h (λ i is. tt)
run_keeps b (suc left) s column last count k h =
    turn_runs (Keeps b) column (line_of_pause k.course.names k.rules k.breaks last count) k (next_to_fire k.rules k.course) _ h
    (λ i is. let e = firing (in_force s k) column i k.course in
    ok_on (λ (t : Turned). t.course.firings ≡ k.course.firings + 1) (Keeps b) e.bytes e.outcome (λ t. run_on left s (column_after column e.bytes) (last_of k.rules i t) (one_less count) (turned_on t k)) (firing_counted (in_force s k) column i k.course)
    (λ t q. run_keeps b left s (column_after column e.bytes) (last_of k.rules i t) (one_less count) (turned_on t k) (all_added_keep b t.built (fired_on t.course k) (mapped_keeps _ k.trail ∙ h))))

command_keeps : (b : Bool) (s : Setting) (limit column : ℕ) (c : Command) (k : Session) → Keeps b k → IfOk (command_done s limit column c k).outcome (Keeps b)
command_keeps b s limit column (command.Make class puts) k h = mapped_keeps _ k.trail ∙ h
command_keeps b s limit column (command.Remove tags) k h = mapped_keeps _ k.trail ∙ h
command_keeps b s limit column command.RemoveAll k h = mapped_keeps _ k.trail ∙ h
command_keeps b s limit column (command.Run count) k h = run_keeps b (limit - k.course.firings) (record s { watch = k.watch }) column None count k h
command_keeps b s limit column (command.Wm tags) k h = h
command_keeps b s limit column (command.Ppwm pattern) k h = h
command_keeps b s limit column command.Cs k h = h
command_keeps b s limit column (command.Pm names) k h = h
command_keeps b s limit column (command.Strategy set) k h = strategy_keeps b column set k h
command_keeps b s limit column (command.Watch set) k h = level_keeps b column set k h
command_keeps b s limit column (command.Pbreak names) k h = breaks_keep b s column names k h
command_keeps b s limit column (command.Add r) k h = added_keeps b r k h
command_keeps b s limit column (command.Excise given) k h = all_keep b given k h
command_keeps b s limit column (command.Back count) k h =
    if_ok (Keeps b) (λ (e : Ending). Unit {0}) (back_given column count k).outcome (back_leaves (Keeps b) (λ e. Unit {0}) column count k h (λ n e is. mapped_keeps (take n) k.trail ∙ h))
command_keeps b s limit column (command.Matches given) k h = h
command_keeps b s limit column command.Exit k h = h

commands_keep : (b : Bool) (s : Setting) (limit column : ℕ) (commands : List Command) (k : Session) → Keeps b k → IfOk (commands_done s limit column commands k).outcome (Keeps b)
commands_keep b s limit column [] k h = h
commands_keep b s limit column (c ∷ rest) k h =
    let e = command_done (in_force s k) limit column c k in
    let go_on : ℕ → Session → Effect Ending Session = λ next k. commands_done s limit next rest k in
    cond_both (is_exit c) (writes [] k) (and_then column e go_on) (λ f. IfOk f.outcome (Keeps b)) (λ _. h)
    (λ _. ok_on (Keeps b) (Keeps b) e.bytes e.outcome (go_on (column_after column e.bytes)) (command_keeps b (in_force s k) limit column c k h)
    (λ k q. commands_keep b s limit (column_after column e.bytes) rest k q))

pub session_keeps : (s : Setting) (limit : ℕ) (commands : List Command) (names : Spellings) (coming : Coming)
    → IfOk (session_of s limit commands names coming).outcome (λ k. is_some k.trail ≡ list_any is_back commands)
session_keeps s limit commands names coming =
    commands_keep (list_any is_back commands) s limit 0 commands (begun commands s.rules names coming) (by (list_any is_back commands))
  where
    by : (b : Bool) → is_some (trail_begun b) ≡ b
    by true = refl
    by false = refl
