-- The walks over tests, conditions, actions and firings skip nothing.
use Rattle.std.proofs.Common.{◌||◌, ◌≡◌, option_map, unwrap_or, ℕ, zero, suc, ◌+◌, ◌-◌, ◌<◌, List, [], ◌∷◌, ◌++◌, Bool, true, false, cond, Option, Some, None, Result, Ok, Err, IfOk, refl, ap, sym, ◌∙◌, subst, inl, inr, ◌⊎◌, arith}
use Rattle.std.specs.Prelude.{Contains, option_and_then, ◌≢◌}
use Rattle.std.specs.Option.{option_or}
use Rattle.std.specs.Bool.{MatchBool}
use Rattle.std.specs.List.{flat_map, list_any}
use Rattle.std.proofs.lemmas.Bool.{and_parts}
use Rattle.ops_base.specs.declared.actions.Action.{Action}
use Rattle.ops_base.specs.declared.commands.Command.{Command}
use Rattle.ops_base.specs.declared.commands.Command.TheVariants as command
use Rattle.ops_base.specs.declared.conditions.Condition.{Condition}
use Rattle.ops_base.specs.declared.conditions.Part.{Part}
use Rattle.ops_base.specs.declared.conditions.Part.TheVariants.{One, Group}
use Rattle.ops_base.specs.declared.conditions.Test.{Test}
use Rattle.ops_base.specs.declared.direct.Partial.{Partial}
use Rattle.ops_base.specs.declared.elements.Class.{Class}
use Rattle.ops_base.specs.declared.elements.Element.{Element}
use Rattle.ops_base.specs.declared.endings.Ending.{Ending}
use Rattle.ops_base.specs.declared.endings.Ending.TheVariants as ending
use Rattle.ops_base.specs.declared.matching.Binding.{Binding}
use Rattle.ops_base.specs.declared.rules.Inst.{Inst}
use Rattle.ops_base.specs.declared.rules.Rule.{Rule}
use Rattle.ops_base.specs.ConflictSet.{at_part, walk}
use Rattle.ops_base.specs.Matching.{after_test, after_tests}
use Rattle.ops_base.specs.Names.{Spellings}
use Rattle.ops_io.specs.Coming.{Coming}
use Rattle.ops_io.specs.Output.{column_after}
use Rattle.ops_meaning.specs.Acting.{Setting, ActState, ActionError, Misdeed, Acted, in_action, action_done, actions_done, acted}
use Rattle.ops_meaning.specs.Effects.{Effect, writes, going_on, outcome_as}
use Rattle.ops_meaning.specs.Layout.{firing_bytes, rule_name}
use Rattle.ops_meaning.specs.Running.{Course, Turned, Session, LastFiring, begun, turn, line_of_break, line_of_count, line_of_pause, last_of, one_less, given_by, ended_in, turned_of, is_exit, in_force, firing, run_on, next_to_fire, command_done, commands_done, session_of, fired_on, turned_on, is_back, trail_begun}
use Rattle.run_laws.proofs.Builds.{all_count, all_watch}
use Rattle.run_laws.proofs.Parts.{ok_on}
use Rattle.run_laws.proofs.Untrailed.{untrailed_left, commands_untrailed, any_append, or_false}
use Rattle.run_laws.specs.Undoing.{untrailed}
use Rattle.run_laws.specs.Cuts.{GoesOnWith, HasMore, cut_after}
use Rattle.run_laws.specs.Finding.{EachAction, LeadTo, MembersFind, PartFinds, WalkFinds, condition_finds, test_finds, tests_find}
use Rattle.run_laws.specs.Firings.{IfGoesOn, EachOfRun, EachOfCommand, EachOfCommands, EachFiring}

-- ---- left sides

pub test_seen : (c : Class) (e : Element) (before after : List Test) (t : Test) (bindings next : List Binding)
    → tests_find c e (before ++ t ∷ after) bindings ≡ true → after_tests before e bindings ≡ Some next → test_finds c t next ≡ true
test_seen c e [] after t bindings next h is =
    let same : bindings ≡ next = cc in
    let Q : List Binding → Type 0 = λ b. test_finds c t b ≡ true in
    subst Q same (and_parts _ _ h).0
test_seen c e (b ∷ before) after t bindings next h is =
    by (after_test b e bindings) (λ found h is. test_seen c e before after t found next h is) (and_parts (test_finds c b bindings) _ h).1 is
  where
    by : (o : Option (List Binding)) → ((found : List Binding) → tests_find c e (before ++ t ∷ after) found ≡ true → after_tests before e found ≡ Some next → test_finds c t next ≡ true)
        → unwrap_or (option_map (tests_find c e (before ++ t ∷ after)) o) true ≡ true → option_and_then (λ b. after_tests before e b) o ≡ Some next → test_finds c t next ≡ true
    by None rest h is = absurd (cc)
    by (Some found) rest h is = rest found h is

part_seen : (classes : List Class) (wm : List Element) (before after : List Part) (part : Part) (ps : List Partial) (p : Partial)
    → WalkFinds classes wm (before ++ part ∷ after) ps → Contains (walk wm before ps) p → PartFinds classes wm part p.bindings
part_seen classes wm [] after part ps p each k = each.0 p k
part_seen classes wm (b ∷ before) after part ps p each k =
    part_seen classes wm before after part (flat_map (at_part wm b) ps) p each.1 k

pub condition_seen : (classes : List Class) (wm : List Element) (before after : List Part) (c : Condition) (ps : List Partial) (p : Partial) (e : Element)
    → WalkFinds classes wm (before ++ One c ∷ after) ps → Contains (walk wm before ps) p → Contains wm e → condition_finds classes c p.bindings e ≡ true
condition_seen classes wm before after c ps p e each k m = part_seen classes wm before after (One c) ps p each k e m

led_to : (classes : List Class) (wm : List Element) (first rest : List Condition) (c : Condition) (from to : List Binding) (e : Element)
    → MembersFind classes wm (first ++ c ∷ rest) from → LeadTo wm first from to → Contains wm e → condition_finds classes c to e ≡ true
led_to classes wm [] rest c from to e each same m =
    let P : List Binding → Type 0 = λ b. condition_finds classes c b e ≡ true in subst P same (each e m).0
led_to classes wm (b ∷ first) rest c from to e each led m =
    led_to classes wm first rest c led.1 to e ((each led.0 led.2).1 led.1 led.3) led.4 m

pub member_seen : (classes : List Class) (wm : List Element) (before after : List Part) (first rest : List Condition) (c : Condition) (ps : List Partial) (p : Partial) (next : List Binding) (e : Element)
    → WalkFinds classes wm (before ++ Group (first ++ c ∷ rest) ∷ after) ps → Contains (walk wm before ps) p → LeadTo wm first p.bindings next → Contains wm e
    → condition_finds classes c next e ≡ true
member_seen classes wm before after first rest c ps p next e each k led m =
    led_to classes wm first rest c p.bindings next e (part_seen classes wm before after (Group (first ++ c ∷ rest)) ps p each k) led m

-- ---- actions

pub action_seen : (P : Action → ActState → Type 0) (s : Setting) (column n : ℕ) (before after : List Action) (a : Action) (d e : ActState)
    → EachAction P s column (before ++ a ∷ after) d → (actions_done s column n before d).outcome ≡ Ok e → P a e
action_seen P s column n [] after a d e each is =
    let same : d ≡ e = cc in
    let Q : ActState → Type 0 = P a in
    subst Q same each.0
action_seen P s column n (b ∷ before) after a d e each is =
    let f = action_done s column b d in
    by f.bytes f.outcome (λ next h k. action_seen P s (column_after column f.bytes) (suc n) before after a next e h k) each.1 is
  where
    by : (bytes : List ℕ) (o : Result ActState ActionError)
        → ((next : ActState) → EachAction P s (column_after column bytes) (before ++ a ∷ after) next → (actions_done s (column_after column bytes) (suc n) before next).outcome ≡ Ok e → P a e)
        → IfOk o (λ next. EachAction P s (column_after column bytes) (before ++ a ∷ after) next)
        → (going_on bytes (outcome_as (λ d. d) (in_action n) o) (λ next. actions_done s (column_after column bytes) (suc n) before next)).outcome ≡ Ok e → P a e
    by bytes (Ok next) rest each is = rest next each is
    by bytes (Err x) rest each is = absurd (cc)

-- ---- a run

-- A run pauses because of its last firing, whatever its number of firings is, or only because of that number.
pauses : (names : Spellings) (rules : List Rule) (breaks : List Bool) (last : Option LastFiring)
    → ((line : List ℕ) × ((count : Option ℕ) → line_of_pause names rules breaks last count ≡ Some line)) ⊎ ((count : Option ℕ) → line_of_pause names rules breaks last count ≡ line_of_count count)
pauses names rules breaks None = inr (λ count. refl)
pauses names rules breaks (Some last) = by last.halted (line_of_break names rules breaks last.rule) _
  where
    by : (h : Bool) (b : Option (List ℕ)) (one : List ℕ)
        → ((line : List ℕ) × ((count : Option ℕ) → cond h (Some one) (option_or b (line_of_count count)) ≡ Some line)) ⊎ ((count : Option ℕ) → cond h (Some one) (option_or b (line_of_count count)) ≡ line_of_count count)
    by true b one = inl (one, λ count. refl)
    by false (Some two) one = inl (two, λ count. refl)
    by false None one = inr (λ count. refl)

ok_same : {o : Result Session Ending} {done : Session} (k : Session) → o ≡ Ok k → o ≡ Ok done → k ≡ done
ok_same k one two = cc

stops_or_leaves : {o : Result Session Ending} {done : Session} (e : Ending) → o ≡ Err e → o ≡ Ok done → ⊥
stops_or_leaves {o} {done} e one two = let both : Err e ≡ Ok done = sym one ∙ two in absurd (cc)

turn_paused : (column : ℕ) (o : Option (List ℕ)) (line : List ℕ) (k : Session) (next : Option Inst) (go_on : Inst → Effect Ending Session) → o ≡ Some line → (turn column o k next go_on).outcome ≡ Ok k
turn_paused column (Some l) line k next go_on is = refl
turn_paused column None line k next go_on is = absurd (cc)

turn_ended : (column : ℕ) (o : Option (List ℕ)) (k : Session) (next : Option Inst) (go_on : Inst → Effect Ending Session) → next ≡ None → (turn column o k next go_on).outcome ≡ Ok k
turn_ended column (Some l) k next go_on is = refl
turn_ended column None k None go_on is = refl
turn_ended column None k (Some i) go_on is = absurd (cc)

turn_goes : (column : ℕ) (o : Option (List ℕ)) (k : Session) (next : Option Inst) (i : Inst) (go_on : Inst → Effect Ending Session) → o ≡ None → next ≡ Some i → (turn column o k next go_on).outcome ≡ (go_on i).outcome
turn_goes column (Some l) k next i go_on is on = absurd (cc)
turn_goes column None k None i go_on is on = absurd (cc)
turn_goes column None k (Some j) i go_on is on = let same : j ≡ i = cc in ap (λ l. (go_on l).outcome) same

next_seen : (o : Option (List ℕ)) (next : Option Inst) (i : Inst) (Q : Inst → Type 0) → o ≡ None → next ≡ Some i → IfGoesOn o next Q → Q i
next_seen (Some l) next i Q is on each = absurd (cc)
next_seen None None i Q is on each = absurd (cc)
next_seen None (Some j) i Q is on each = let same : j ≡ i = cc in subst Q same each

-- a run that has more firings left does not pause because of their number
unpaused : (count : Option ℕ) (n : ℕ) → HasMore count n → line_of_count count ≡ None
unpaused None n h = refl
unpaused (Some zero) n h = absurd (omega arith)
unpaused (Some (suc c)) n h = refl

one_off : (n : ℕ) → suc n - 1 ≡ n
one_off n = omega arith

more_left : (count : Option ℕ) (n : ℕ) → HasMore count (suc n) → HasMore (one_less count) n
more_left None n h = tt
more_left (Some c) n h = omega arith

firing_counted : (s : Setting) (column : ℕ) (i : Inst) (m : Course) → IfOk (firing s column i m).outcome (λ t. t.course.firings ≡ m.firings + 1)
firing_counted s column i m =
    by (acted s (column_after column (firing_bytes s.watch column m.names s.rules (m.firings + 1) i)) i (given_by m)).outcome
  where
    by : (o : Result Acted Misdeed) → IfOk (outcome_as (turned_of s.rules i m) (ended_in (m.firings + 1) i.rule (rule_name s.rules i.rule)) o) (λ t. t.course.firings ≡ m.firings + 1)
    by (Ok a) = refl
    by (Err e) = tt

-- this trace level
abbrev Stays : ℕ → Session → Type 0
Stays watch k = k.watch ≡ watch

turn_keeps : (Q : Session → Type 0) (column : ℕ) (line : Option (List ℕ)) (k : Session) (next : Option Inst) (go_on : Inst → Effect Ending Session) → Q k
    → ((i : Inst) → IfOk (go_on i).outcome Q) → IfOk (turn column line k next go_on).outcome Q
turn_keeps Q column (Some line) k next go_on p q = p
turn_keeps Q column None k None go_on p q = p
turn_keeps Q column None k (Some i) go_on p q = q i

run_keeps : (watch left : ℕ) (s : Setting) (column : ℕ) (last : Option LastFiring) (count : Option ℕ) (k : Session) → k.watch ≡ watch
    → IfOk (run_on left s column last count k).outcome (Stays watch)
run_keeps watch zero s column last count k f =
    turn_keeps (Stays watch) column (line_of_pause k.course.names k.rules k.breaks last count) k (next_to_fire k.rules k.course) _ f (λ i. tt)
run_keeps watch (suc left) s column last count k f =
    turn_keeps (Stays watch) column (line_of_pause k.course.names k.rules k.breaks last count) k (next_to_fire k.rules k.course) _ f
    (λ i. let fire = firing (in_force s k) column i k.course in
    ok_on (λ (t : Turned). t.course.firings ≡ k.course.firings + 1) (Stays watch) fire.bytes fire.outcome (λ t. run_on left s (column_after column fire.bytes) (last_of k.rules i t) (one_less count) (turned_on t k)) (firing_counted (in_force s k) column i k.course)
    (λ t q. run_keeps watch left s (column_after column fire.bytes) (last_of k.rules i t) (one_less count) (turned_on t k) (all_watch t.built (fired_on t.course k) ∙ f)))

module _ (P : Setting → ℕ → Inst → Course → Type 0) (s : Setting) (limit : ℕ) (i : Inst) (done : Session) (room : done.course.firings < limit) (is_next : next_to_fire done.rules done.course ≡ Some i) where
  -- P holds of the firing with which a run continues
  abbrev Seen : Type 0
  Seen = (at : ℕ) × P (in_force s done) at i done.course

  pub run_seen : (left n column : ℕ) (last : Option LastFiring) (count : Option ℕ) (k : Session) → left ≡ limit - k.course.firings → HasMore count n
      → EachOfRun P left s column last count k
      → (run_on left s column last (Some n) k).outcome ≡ Ok done → (run_on left s column last (Some (suc n)) k).outcome ≢ Ok done → Seen
  run_seen zero n column last count k counts has each is more = absurd (none n is more (pauses k.course.names k.rules k.breaks last))
    where
      none : (n : ℕ) → (run_on zero s column last (Some n) k).outcome ≡ Ok done → (run_on zero s column last (Some (suc n)) k).outcome ≢ Ok done
          → ((line : List ℕ) × ((count : Option ℕ) → line_of_pause k.course.names k.rules k.breaks last count ≡ Some line)) ⊎ ((count : Option ℕ) → line_of_pause k.course.names k.rules k.breaks last count ≡ line_of_count count) → ⊥
      none n is more (inl p) = more (turn_paused column _ p.0 k _ _ (p.1 (Some (suc n))) ∙ sym (turn_paused column _ p.0 k _ _ (p.1 (Some n))) ∙ is)
      none zero is more (inr f) =
          let same : k ≡ done = ok_same k (turn_paused column _ _ k _ _ (f (Some zero))) is in
          let firings : k.course.firings ≡ done.course.firings = ap (λ (k : Session). k.course.firings) same in
          omega (arith, counts, firings, room)
      none (suc n) is more (inr f) = by (next_to_fire k.rules k.course) refl
        where
          by : (o : Option Inst) → next_to_fire k.rules k.course ≡ o → ⊥
          by None ended = more (turn_ended column _ k _ _ ended ∙ sym (turn_ended column _ k _ _ ended) ∙ is)
          by (Some j) on = stops_or_leaves (ending.Limit k.course.firings) (turn_goes column _ k _ j _ (f (Some (suc n))) on) is
  run_seen (suc left) n column last count k counts has each is more =
      by n has is more (pauses k.course.names k.rules k.breaks last)
      (λ n column j t counts has each is more. run_seen left n column (last_of k.rules j t) (one_less count) (turned_on t k) counts has each is more)
    where
      by : (n : ℕ) → HasMore count n
          → (run_on (suc left) s column last (Some n) k).outcome ≡ Ok done → (run_on (suc left) s column last (Some (suc n)) k).outcome ≢ Ok done
          → ((line : List ℕ) × ((count : Option ℕ) → line_of_pause k.course.names k.rules k.breaks last count ≡ Some line)) ⊎ ((count : Option ℕ) → line_of_pause k.course.names k.rules k.breaks last count ≡ line_of_count count)
          → ((n column : ℕ) (j : Inst) (t : Turned) → left ≡ limit - (turned_on t k).course.firings → HasMore (one_less count) n
          → EachOfRun P left s column (last_of k.rules j t) (one_less count) (turned_on t k)
          → (run_on left s column (last_of k.rules j t) (Some n) (turned_on t k)).outcome ≡ Ok done
          → (run_on left s column (last_of k.rules j t) (Some (suc n)) (turned_on t k)).outcome ≢ Ok done → Seen)
          → Seen
      by n has is more (inl p) rest =
          absurd (more (turn_paused column _ p.0 k _ _ (p.1 (Some (suc n))) ∙ sym (turn_paused column _ p.0 k _ _ (p.1 (Some n))) ∙ is))
      by zero has is more (inr f) rest =
          let same : k ≡ done = ok_same k (turn_paused column _ _ k _ _ (f (Some zero))) is in
          let here : next_to_fire k.rules k.course ≡ Some i = ap (λ (k : Session). next_to_fire k.rules k.course) same ∙ is_next in
          let seen = next_seen _ _ i _ (f count ∙ unpaused count zero has) here each in
          let Q : Session → Type 0 = λ k. P (in_force s k) column i k.course in
          (column, subst Q same seen.0)
      by (suc n) has is more (inr f) rest = at_next (next_to_fire k.rules k.course) refl
        where
          at_next : (o : Option Inst) → next_to_fire k.rules k.course ≡ o → Seen
          at_next None ended = absurd (more (turn_ended column _ k _ _ ended ∙ sym (turn_ended column _ k _ _ ended) ∙ is))
          at_next (Some j) on =
              let goes = turn_goes column _ k _ j _ (f (Some (suc n))) on in
              let goes_more = turn_goes column _ k _ j _ (f (Some (suc (suc n)))) on in
              let seen = next_seen _ _ j _ (f count ∙ unpaused count (suc n) has) on each in
              let e = firing (in_force s k) column j k.course in
              let Left : ℕ → Type 0 = λ n. (going_on e.bytes e.outcome (λ t. run_on left s (column_after column e.bytes) (last_of k.rules j t) (Some n) (turned_on t k))).outcome ≡ Ok done in
              fired e.bytes e.outcome (firing_counted (in_force s k) column j k.course) seen.1
              (subst Left (one_off n) (sym goes ∙ is)) (λ l. more (goes_more ∙ subst Left (sym (one_off (suc n))) l))
            where
              fired : (bytes : List ℕ) (o : Result Turned Ending) → IfOk o (λ t. t.course.firings ≡ k.course.firings + 1)
                  → IfOk o (λ t. EachOfRun P left s (column_after column bytes) (last_of k.rules j t) (one_less count) (turned_on t k))
                  → (going_on bytes o (λ t. run_on left s (column_after column bytes) (last_of k.rules j t) (Some n) (turned_on t k))).outcome ≡ Ok done
                  → (going_on bytes o (λ t. run_on left s (column_after column bytes) (last_of k.rules j t) (Some (suc n)) (turned_on t k))).outcome ≢ Ok done → Seen
              fired bytes (Ok t) counted each is more =
                  rest n (column_after column bytes) j t (let same = all_count t.built (fired_on t.course k) in omega (arith, counts, counted, same)) (more_left count n has) each is more
              fired bytes (Err x) counted each is more = absurd (cc)

-- A run keeps the trace level.
run_stays : (left : ℕ) (s : Setting) (column : ℕ) (last : Option LastFiring) (count : Option ℕ) (k done : Session) → (run_on left s column last count k).outcome ≡ Ok done → done.watch ≡ k.watch
run_stays left s column last count k done is =
    let R : Result Session Ending → Type 0 = λ o. IfOk o (Stays k.watch) in subst R is (run_keeps k.watch left s column last count k refl)

-- ---- a session

module _ (P : Setting → ℕ → Inst → Course → Type 0) (s : Setting) (limit : ℕ) (i : Inst) (done : Session) (room : done.course.firings < limit) (is_next : next_to_fire done.rules done.course ≡ Some i) where
  -- what a run leaves if it is the last command
  last_left : (bytes : List ℕ) (o : Result Session Ending) → (going_on bytes o (λ k. writes [] k)).outcome ≡ Ok done → o ≡ Ok done
  last_left bytes (Ok k) is = is
  last_left bytes (Err e) is = absurd (cc)

  left_last : (bytes : List ℕ) (o : Result Session Ending) → o ≡ Ok done → (going_on bytes o (λ k. writes [] k)).outcome ≡ Ok done
  left_last bytes (Ok k) is = is
  left_last bytes (Err e) is = absurd (cc)

  commands_seen : (n column : ℕ) (before after : List Command) (count : Option ℕ) (k : Session) → HasMore count n
      → EachOfCommands P s limit column (before ++ command.Run count ∷ after) k
      → (commands_done s limit column (cut_after before n) k).outcome ≡ Ok done → (commands_done s limit column (cut_after before (suc n)) k).outcome ≢ Ok done
      → (at : ℕ) × P (record (in_force s done) { watch = done.watch }) at i done.course
  commands_seen n column [] after count k has each is more =
      let at_level : Setting = record (in_force s k) { watch = k.watch } in
      let once = run_on (limit - k.course.firings) at_level column None (Some n) k in
      let once_more = run_on (limit - k.course.firings) at_level column None (Some (suc n)) k in
      let r : once.outcome ≡ Ok done = last_left once.bytes once.outcome is in
      let stay = run_stays (limit - k.course.firings) at_level column None (Some n) k done r in
      let seen = run_seen P at_level limit i done room is_next (limit - k.course.firings) n column None count k refl has each.0 r
      (λ same. more (left_last once_more.bytes once_more.outcome same)) in
      let Q : ℕ → Type 0 = λ watch. P (record s { rules = done.rules; watch = watch }) seen.0 i done.course in
      (seen.0, subst Q (sym stay) seen.1)
  commands_seen n column (c ∷ before) after count k has each is more =
      let e = command_done (in_force s k) limit column c k in
      by (is_exit c) e.bytes e.outcome (λ next each is more. commands_seen n (column_after column e.bytes) before after count next has each is more) each is more
    where
      by : (b : Bool) (bytes : List ℕ) (o : Result Session Ending)
          → ((next : Session) → EachOfCommands P s limit (column_after column bytes) (before ++ command.Run count ∷ after) next
          → (commands_done s limit (column_after column bytes) (cut_after before n) next).outcome ≡ Ok done
          → (commands_done s limit (column_after column bytes) (cut_after before (suc n)) next).outcome ≢ Ok done
          → (at : ℕ) × P (record (in_force s done) { watch = done.watch }) at i done.course)
          → MatchBool b (Unit {0}) (EachOfCommand P (in_force s k) limit column c k × IfOk o (λ next. EachOfCommands P s limit (column_after column bytes) (before ++ command.Run count ∷ after) next))
          → (cond b (writes [] k) (going_on bytes o (λ k. commands_done s limit (column_after column bytes) (cut_after before n) k))).outcome ≡ Ok done
          → (cond b (writes [] k) (going_on bytes o (λ k. commands_done s limit (column_after column bytes) (cut_after before (suc n)) k))).outcome ≢ Ok done
          → (at : ℕ) × P (record (in_force s done) { watch = done.watch }) at i done.course
      by true bytes o rest each is more = absurd (more is)
      by false bytes (Ok next) rest each is more = rest next each.1 is more
      by false bytes (Err x) rest each is more = absurd (cc)

-- P holds of each firing with which a run continues. If there is no `back` among the commands that are cut, the session
-- that is cut has no trail, and is otherwise like the whole one.
pub firing_seen : (P : Setting → ℕ → Inst → Course → Type 0) (s : Setting) (limit n : ℕ) (before after : List Command) (count : Option ℕ) (names : Spellings) (coming : Coming) (k : Session) (i : Inst)
    → EachFiring P s limit (before ++ command.Run count ∷ after) names coming → GoesOnWith s limit before count n names coming k i
    → (column : ℕ) × P (record (in_force s k) { watch = k.watch }) column i k.course
firing_seen P s limit n before after count names coming k i each g =
    by (list_any is_back before) refl
  where
    whole : List Command
    whole = before ++ command.Run count ∷ after

    start : Bool → Session
    start keeps = record (begun [] s.rules names coming) { trail = trail_begun keeps }

    cut_as : (m : ℕ) → list_any is_back (cut_after before m) ≡ list_any is_back before
    cut_as m = any_append before (command.Run (Some m) ∷ []) ∙ or_false (list_any is_back before)

    none_cut : (m : ℕ) → list_any is_back before ≡ false → list_any is_back (cut_after before m) ≡ false
    none_cut m e = cut_as m ∙ e

    at_start : (b : Bool) (m : ℕ) → list_any is_back before ≡ b → session_of s limit (cut_after before m) names coming ≡ commands_done s limit 0 (cut_after before m) (start b)
    at_start b m e = ap (λ c. commands_done s limit 0 (cut_after before m) (start c)) (cut_as m ∙ e)

    each_at : (b : Bool) → list_any is_back whole ≡ b → EachOfCommands P s limit 0 whole (start b)
    each_at b e = let Q : Bool → Type 0 = λ c. EachOfCommands P s limit 0 whole (start c) in subst Q e each

    by : (b : Bool) → list_any is_back before ≡ b → (column : ℕ) × P (record (in_force s k) { watch = k.watch }) column i k.course
    by true e =
        let has : list_any is_back whole ≡ true = any_append before (command.Run count ∷ after) ∙ ap (λ b. b || list_any is_back after) e in
        commands_seen P s limit i k g.session g.next n 0 before after count (start true) g.run (each_at true has)
        (sym (ap (λ (f : Effect Ending Session). f.outcome) (at_start true n e)) ∙ g.reached)
        (λ same. g.more (ap (λ (f : Effect Ending Session). f.outcome) (at_start true (suc n) e) ∙ same))
    by false e = with_trail (list_any is_back whole) refl
      where
        with_trail : (b : Bool) → list_any is_back whole ≡ b → (column : ℕ) × P (record (in_force s k) { watch = k.watch }) column i k.course
        with_trail b is =
            let same : (m : ℕ) → (session_of s limit (cut_after before m) names coming).outcome ≡ outcome_as untrailed (λ f. f) (commands_done s limit 0 (cut_after before m) (start b)).outcome
            = λ m. ap (λ (f : Effect Ending Session). f.outcome) (at_start false m e ∙ sym (commands_untrailed s limit 0 (cut_after before m) (start b) (none_cut m e))) in
            let r = untrailed_left (commands_done s limit 0 (cut_after before n) (start b)).outcome k (sym (same n) ∙ g.reached) in
            let course : r.0.course ≡ k.course = ap (λ (k : Session). k.course) r.2 in
            let room : r.0.course.firings < limit = subst (λ (m : Course). m.firings < limit) (sym course) g.session in
            let is_next : next_to_fire r.0.rules r.0.course ≡ Some i = subst (λ (k : Session). next_to_fire k.rules k.course ≡ Some i) (sym r.2) g.next in
            let seen = commands_seen P s limit i r.0 room is_next n 0 before after count (start b) g.run (each_at b is) r.1
            (λ stays. g.more (same (suc n) ∙ ap (outcome_as untrailed (λ f. f)) stays ∙ ap Ok r.2)) in
            let Q : Session → Type 0 = λ k. P (record (in_force s k) { watch = k.watch }) seen.0 i k.course in
            (seen.0, subst Q r.2 seen.1)
