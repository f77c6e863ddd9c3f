-- A right side acts lawfully, and working memory holds its elements in the order of their tags through a whole session: so each
-- conflict set that the session looks at is the set of all instantiations. And what else a session keeps, and the ends
-- that it comes to.
use Rattle.std.proofs.Common.{◌≡◌, ℕ, zero, suc, ◌+◌, ◌-◌, ◌≤◌, List, [], ◌∷◌, map, length, Bool, true, cond, Option, Some, None, Result, Ok, Err, IfOk, MatchResult, refl, ap, sym, ◌∙◌, arith}
use Rattle.std.specs.Prelude.{option_map, unwrap_or, fold, slice_get}
use Rattle.std.specs.List.{list_any}
use Rattle.std.proofs.lemmas.Bool.{cond_both}
use Rattle.std.proofs.lemmas.List.Elements.{All-nil}
use Rattle.ops_base.specs.declared.commands.Command.{Command}
use Rattle.ops_base.specs.declared.commands.Command.TheVariants as command
use Rattle.ops_base.specs.declared.elements.Change.{Change}
use Rattle.ops_base.specs.declared.elements.Change.TheVariants as change
use Rattle.ops_base.specs.declared.elements.Element.{Element}
use Rattle.ops_base.specs.declared.endings.Ending.{Ending}
use Rattle.ops_base.specs.declared.endings.Ending.TheVariants as ending
use Rattle.ops_base.specs.declared.rules.Inst.{Inst}
use Rattle.ops_base.specs.declared.rules.Rule.{Rule}
use Rattle.ops_base.specs.declared.values.Sym.{Sym}
use Rattle.ops_base.specs.WorkingMemory.{HasRisingTags, tags_of, done}
use Rattle.ops_base.specs.declared.commands.Strategy.{Strategy}
use Rattle.ops_base.specs.ConflictSet.{conflict_set}
use Rattle.ops_base.specs.Names.{Spellings}
use Rattle.ops_base.specs.Refraction.{unfired, still_fired, dominant}
use Rattle.ops_base.proofs.ConflictSetLaws.{conflict_set-is, conflict_set_only}
use Rattle.ops_io.specs.Coming.{Coming}
use Rattle.ops_io.specs.Output.{column_after}
use Rattle.ops_meaning.specs.Acting.{Setting, Misdeed, Bad, NoInput, Given, Acted, acted, change_lines}
use Rattle.ops_meaning.specs.Effects.{Effect, writes, led_by, going_on, and_then, outcome_as}
use Rattle.ops_meaning.specs.Kept.{WellKept, KeepsNames, IsLawfulOver, ActsLawfully, FindsConflictSets, GoesByConflictSets}
use Rattle.ops_meaning.specs.Layout.{firing_bytes, inst_text, rule_name, traced}
use Rattle.ops_meaning.specs.Running.{Finder, Find, in_force, rule_named, taken_out, taken_out_named, added, all_added, turned_on, Course, Turned, Session, LastFiring, nothing_yet, begun, turn, line_of_pause, last_of, one_less, next_by, phase_by, marked, turned_by, given_by, ended_in, firing_by, run_by, with_course, lists, element_made, removals, ranked, standing_by, strategy_given, level_given, breaks_given, is_exit, phase_told, command_by, commands_by, turned_of, firing, run_on, next_to_fire, phase_done, command_done, commands_done, session_of, Earlier, earlier, gone_back, fired_on, trail_emptied, states_kept, restored, is_back}
use Rattle.ops_meaning.proofs.Lawful.{added_kept, kept_after, removals_lawful, removals_last, clearing_lawful, clearing_last}
use Rattle.ops_meaning.proofs.NamesKept.{names_stay, names_then}
use Rattle.ops_meaning.proofs.Trails.{AreKept, back_leaves, none_kept, firing_kept_too, those_before, is_kept, none_yet}
use Rattle.ops_meaning.proofs.Doings.{goes_on, goes_as, ok_goes, EndsActions, KeptActed, acted_kept}

-- a right side acts lawfully
pub acts_lawfully : (s : Setting) (column : ℕ) (i : Inst) (g : Given) → ActsLawfully s column i g
acts_lawfully s column i g well =
    ok_goes (KeptActed s.templates g.wm g.last g.names g.coming.fails) (IsLawfulOver g.wm g.last) (EndsActions g.coming.fails) (acted s column i g).outcome (acted_kept s column i g) (λ a p. p.lawful well)

-- ---- what the parts of a session leave

-- Working memory is well kept, the symbols keep their spellings, and the input fails as it did.
pub record KeptCourse (names : Spellings) (fails : Bool) (m : Course) : Type 0 where
  pub memory : WellKept m.wm m.last
  pub keeps : KeepsNames names m.names
  pub coming : m.coming.fails ≡ fails

-- the same of what was before a firing
pub record KeptEarlier (names : Spellings) (e : Earlier) : Type 0 where
  pub memory : WellKept e.wm e.last
  pub keeps : KeepsNames names e.names

-- of a session, and of each state on its trail
abbrev pub KeptSession : Spellings → Bool → Session → Type 0
KeptSession names fails k = KeptCourse names fails k.course × AreKept (KeptEarlier names) k

-- A session comes to an end of its own, and to one for want of input only where the input fails.
abbrev pub EndsSession : Bool → Ending → Type 0
EndsSession fails (ending.Done f n t) = Unit {0}
EndsSession fails (ending.Act f r name n k) = Unit {0}
EndsSession fails (ending.Limit f) = Unit {0}
EndsSession fails ending.ReadFault = fails ≡ true
EndsSession fails ending.WriteFault = ⊥
EndsSession fails ending.OutOfMemory = ⊥

module _ (names : Spellings) (fails : Bool) where
  abbrev Kept : Course → Type 0
  Kept m = KeptCourse names fails m

  abbrev KeptTurned : Turned → Type 0
  KeptTurned t = Kept t.course

  abbrev Good : Session → Type 0
  Good k = KeptSession names fails k

  -- the trail stays, and so does what the course keeps
  same_kept : (m : Course) (k : Session) → Good k → KeptCourse names fails m → Good (with_course k m)
  same_kept m k p q = (q, p.1)

  emptied_kept : (k : Session) → Good k → Good (trail_emptied k)
  emptied_kept k p = (p.0, none_kept (KeptEarlier names) k)

  -- what was before a firing is kept with what it leaves
  fired_kept : (m : Course) (k : Session) → Good k → Kept m → Good (fired_on m k)
  fired_kept m k p q =
      let was : KeptEarlier names (earlier k.course) = record { memory = p.0.memory; keeps = p.0.keeps } in
      (q, firing_kept_too (KeptEarlier names) m k was p.1)

  back_kept : (n : ℕ) (e : Earlier) (k : Session) → Good k → slice_get (states_kept k) n ≡ Some e → Good (restored n k e)
  back_kept n e k p is =
      let was : KeptEarlier names e = is_kept (KeptEarlier names) k n e p.1 is in
      let now : Kept (gone_back e k.course) = record { memory = was.memory; keeps = was.keeps; coming = p.0.coming } in
      (now, those_before (KeptEarlier names) n k e p.1)

  abbrev Ends : Ending → Type 0
  Ends e = EndsSession fails e

  ended_kept : (m : Course) (firing rule : ℕ) (name : Sym) (e : Misdeed) → Kept m → EndsActions m.coming.fails e → Ends (ended_in firing rule name e)
  ended_kept m firing rule name (Bad n k) p q = tt
  ended_kept m firing rule name NoInput p q = sym p.coming ∙ q

  turned_kept : (s : Setting) (i : Inst) (m : Course) (a : Acted) → Kept m → KeptActed s.templates m.wm m.last m.names m.coming.fails a → KeptTurned (turned_of s.rules i m a)
  turned_kept s i m a p q = record {
    memory = let lawful = q.lawful p.memory in lawful.kept;
    keeps = names_then names m.names a.names p.keeps q.keeps;
    coming = q.coming ∙ p.coming;
  }

  firing_kept : (s : Setting) (column : ℕ) (i : Inst) (m : Course) → Kept m → MatchResult (firing s column i m).outcome KeptTurned Ends
  firing_kept s column i m p =
      let behind = column_after column (firing_bytes s.watch column m.names s.rules (m.firings + 1) i) in
      goes_as (KeptActed s.templates m.wm m.last m.names m.coming.fails) KeptTurned (EndsActions m.coming.fails) Ends (turned_of s.rules i m) (ended_in (m.firings + 1) i.rule (rule_name s.rules i.rule)) (acted s behind i (given_by m)).outcome
      (acted_kept s behind i (given_by m)) (λ a q. turned_kept s i m a p q) (λ e q. ended_kept m (m.firings + 1) i.rule (rule_name s.rules i.rule) e p q)

  -- a production that comes or goes changes no memory, no name and no input
  taken_kept : (n : ℕ) (k : Session) → Good k → Good (taken_out n k)
  taken_kept n k p = (record { memory = p.0.memory; keeps = p.0.keeps; coming = p.0.coming }, (emptied_kept k p).1)

  named_kept : (name : Sym) (k : Session) → Good k → Good (taken_out_named name k)
  named_kept name k p = by (rule_named k.rules name)
    where
      by : (at : Option ℕ) → Good (unwrap_or (option_map (λ n. taken_out n k) at) k)
      by None = p
      by (Some n) = taken_kept n k p

  added_kept_well : (r : Rule) (k : Session) → Good k → Good (added r k)
  added_kept_well r k p = emptied_kept (taken_out_named r.name k) (named_kept r.name k p)

  all_added_kept : (built : List Rule) (k : Session) → Good k → Good (all_added built k)
  all_added_kept [] k p = p
  all_added_kept (r ∷ built) k p = all_added_kept built (added r k) (added_kept_well r k p)

  -- what a firing leaves, and then the productions that it built
  turned_kept_on : (t : Turned) (k : Session) → Good k → Kept t.course → Good (turned_on t k)
  turned_kept_on t k p q = all_added_kept t.built (fired_on t.course k) (fired_kept t.course k p q)

  turn_kept : (column : ℕ) (line : Option (List ℕ)) (k : Session) (next : Option Inst) (go_on : Inst → Effect Ending Session) → Good k
      → ((i : Inst) → MatchResult (go_on i).outcome Good Ends) → MatchResult (turn column line k next go_on).outcome Good Ends
  turn_kept column (Some line) k next go_on p q = p
  turn_kept column None k None go_on p q = p
  turn_kept column None k (Some i) go_on p q = q i

  run_kept : (left : ℕ) (s : Setting) (column : ℕ) (last : Option LastFiring) (count : Option ℕ) (k : Session) → Good k
      → MatchResult (run_on left s column last count k).outcome Good Ends
  run_kept zero s column last count k p =
      turn_kept column (line_of_pause k.course.names k.rules k.breaks last count) k (next_to_fire k.rules k.course) _ p (λ i. tt)
  run_kept (suc left) s column last count k p =
      turn_kept column (line_of_pause k.course.names k.rules k.breaks last count) k (next_to_fire k.rules k.course) _ p
      (λ i. let e = firing (in_force s k) column i k.course in
      goes_on KeptTurned Good Ends e.bytes e.outcome (λ t. run_on left s (column_after column e.bytes) (last_of k.rules i t) (one_less count) (turned_on t k)) (firing_kept (in_force s k) column i k.course p.0)
      (λ t q. run_kept left s (column_after column e.bytes) (last_of k.rules i t) (one_less count) (turned_on t k) (turned_kept_on t k p q)))

  -- a phase that leaves working memory well kept
  phase_kept : (s : Setting) (column : ℕ) (changes : List Change) (last : ℕ) (k : Session) → Good k → WellKept (done k.course.wm changes) last
      → MatchResult (phase_done s column changes last k).outcome Good Ends
  phase_kept s column changes last k p well = same_kept _ k p (record { memory = well; keeps = p.0.keeps; coming = p.0.coming })

  -- a strategy changes itself alone
  strategy_kept : (column : ℕ) (set : Option Strategy) (k : Session) → Good k → MatchResult (strategy_given column set k).outcome Good Ends
  strategy_kept column None k p = p
  strategy_kept column (Some g) k p = same_kept _ k p (record { memory = p.0.memory; keeps = p.0.keeps; coming = p.0.coming })

  level_kept : (column : ℕ) (set : Option ℕ) (k : Session) → Good k → MatchResult (level_given column set k).outcome Good Ends
  level_kept column None k p = p
  level_kept column (Some n) k p = p

  breaks_kept : (s : Setting) (column : ℕ) (names : List Sym) (k : Session) → Good k → MatchResult (breaks_given s column names k).outcome Good Ends
  breaks_kept s column [] k p = p
  breaks_kept s column (n ∷ ns) k p = p

  excised_kept : (given : List Sym) (k : Session) → Good k → Good (fold (λ k name. taken_out_named name k) k given)
  excised_kept [] k p = p
  excised_kept (name ∷ given) k p = excised_kept given (taken_out_named name k) (named_kept name k p)

  command_kept : (s : Setting) (limit column : ℕ) (c : Command) (k : Session) → Good k → MatchResult (command_done s limit column c k).outcome Good Ends
  command_kept s limit column (command.Make class puts) k p =
      phase_kept s column (change.Add (element_made s.classes class puts k.course) ∷ []) (k.course.last + 1) (trail_emptied k) (emptied_kept k p) (added_kept k.course.wm k.course.last _ (omega arith) p.0.memory)
  command_kept s limit column (command.Remove tags) k p =
      phase_kept s column (removals k.course.wm tags) k.course.last (trail_emptied k) (emptied_kept k p)
      (kept_after k.course.wm k.course.last (removals k.course.wm tags) p.0.memory (removals_lawful k.course.wm k.course.last tags) (removals_last k.course.wm k.course.last tags))
  command_kept s limit column command.RemoveAll k p =
      phase_kept s column (map change.Remove (tags_of k.course.wm)) k.course.last (trail_emptied k) (emptied_kept k p)
      (kept_after k.course.wm k.course.last (map change.Remove (tags_of k.course.wm)) p.0.memory (clearing_lawful k.course.wm k.course.last p.0.memory.0) (clearing_last k.course.last (tags_of k.course.wm)))
  command_kept s limit column (command.Run count) k p =
      run_kept (limit - k.course.firings) (record s { watch = k.watch }) column None count k p
  command_kept s limit column (command.Wm tags) k p = p
  command_kept s limit column (command.Ppwm pattern) k p = p
  command_kept s limit column command.Cs k p = p
  command_kept s limit column (command.Pm names) k p = p
  command_kept s limit column (command.Strategy set) k p = strategy_kept column set k p
  command_kept s limit column (command.Watch set) k p = level_kept column set k p
  command_kept s limit column (command.Pbreak names) k p = breaks_kept s column names k p
  command_kept s limit column (command.Add r) k p = added_kept_well r k p
  command_kept s limit column (command.Excise given) k p = excised_kept given k p
  command_kept s limit column (command.Back count) k p = back_leaves Good Ends column count k p (λ n e is. back_kept n e k p is)
  command_kept s limit column (command.Matches given) k p = p
  command_kept s limit column command.Exit k p = p

  commands_kept : (s : Setting) (limit column : ℕ) (commands : List Command) (k : Session) → Good k → MatchResult (commands_done s limit column commands k).outcome Good Ends
  commands_kept s limit column [] k p = p
  commands_kept s limit column (c ∷ rest) k p =
      let e = command_done (in_force s k) limit column c k in
      let go_on : ℕ → Session → Effect Ending Session = λ next k. commands_done s limit next rest k in
      cond_both (is_exit c) (writes [] k) (and_then column e go_on) (λ f. MatchResult f.outcome Good Ends) (λ _. p)
      (λ _. goes_on Good Good Ends e.bytes e.outcome (go_on (column_after column e.bytes)) (command_kept (in_force s k) limit column c k p)
      (λ k q. commands_kept s limit (column_after column e.bytes) rest k q))

nothing_kept : (names : Spellings) (coming : Coming) → KeptCourse names coming.fails (nothing_yet names coming)
nothing_kept names coming =
    record { memory = (λ k within. absurd (omega arith), All-nil (λ t. t ≤ 0)); keeps = names_stay names; coming = refl }

begun_kept : (commands : List Command) (rules : List Rule) (names : Spellings) (coming : Coming) → KeptSession names coming.fails (begun commands rules names coming)
begun_kept commands rules names coming = (nothing_kept names coming, none_yet (KeptEarlier names) (list_any is_back commands))

-- what a session leaves, and the ends that it comes to
pub session_goes_on : (s : Setting) (limit : ℕ) (commands : List Command) (names : Spellings) (coming : Coming) → MatchResult (session_of s limit commands names coming).outcome (KeptSession names coming.fails) (EndsSession coming.fails)
session_goes_on s limit commands names coming =
    commands_kept names coming.fails s limit 0 commands (begun commands s.rules names coming) (begun_kept commands s.rules names coming)

-- what a session leaves is well kept
pub session_kept : (s : Setting) (limit : ℕ) (commands : List Command) (names : Spellings) (coming : Coming) → IfOk (session_of s limit commands names coming).outcome (λ k. WellKept k.course.wm k.course.last)
session_kept s limit commands names coming =
    ok_goes (KeptSession names coming.fails) (λ k. WellKept k.course.wm k.course.last) (EndsSession coming.fails) (session_of s limit commands names coming).outcome (session_goes_on s limit commands names coming) (λ k p. p.0.memory)

-- and the symbols keep their spellings
pub session_keeps_names : (s : Setting) (limit : ℕ) (commands : List Command) (names : Spellings) (coming : Coming) → IfOk (session_of s limit commands names coming).outcome (λ k. KeepsNames names k.course.names)
session_keeps_names s limit commands names coming =
    ok_goes (KeptSession names coming.fails) (λ k. KeepsNames names k.course.names) (EndsSession coming.fails) (session_of s limit commands names coming).outcome (session_goes_on s limit commands names coming) (λ k p. p.0.keeps)

-- ---- the session by any finder of conflict sets

same_then : {E S T : Type 0} (P : S → Type 0) (R : E → Type 0) (bytes : List ℕ) (o : Result S E) (f g : S → Effect E T) → MatchResult o P R → ((s : S) → P s → f s ≡ g s) → going_on bytes o f ≡ going_on bytes o g
same_then P R bytes (Ok s) f g p h = ap (led_by bytes) (h s p)
same_then P R bytes (Err e) f g p h = refl

same_as : {E F S T : Type 0} (P : S → Type 0) (R : E → Type 0) (f g : S → T) (end : E → F) (o : Result S E) → MatchResult o P R → ((s : S) → P s → f s ≡ g s) → outcome_as f end o ≡ outcome_as g end o
same_as P R f g end (Ok s) p h = ap Ok (h s p)
same_as P R f g end (Err e) p h = refl

same_turn : (column : ℕ) (line : Option (List ℕ)) (k : Session) (next other : Option Inst) (f g : Inst → Effect Ending Session) → next ≡ other → ((i : Inst) → f i ≡ g i)
    → turn column line k next f ≡ turn column line k other g
same_turn column line k next other f g e h = λ j. turn column line k (e j) (λ i. h i j)

module _ (s : Setting) (found : Finder) (finds : FindsConflictSets s.rules found) (names : Spellings) (fails : Bool) where
  abbrev Well : Course → Type 0
  Well m = KeptCourse names fails m

  abbrev WellTurned : Turned → Type 0
  WellTurned t = Well t.course

  abbrev Ended : Ending → Type 0
  Ended e = EndsSession fails e

  found_is : (wm : List Element) → HasRisingTags wm → conflict_set s.rules wm ≡ found wm
  found_is wm rising =
      sym (conflict_set_only s.rules wm (conflict_set s.rules wm) (found wm) (conflict_set-is s.rules wm rising) (finds wm rising))

  next_is : (m : Course) → Well m → next_to_fire s.rules m ≡ next_by found s.rules m
  next_is m p = ap (λ set. dominant m.strategy s.rules (unfired set m.fired)) (found_is m.wm p.memory.0)

  phase_is : (changes : List Change) (firings last : ℕ) (m : Course) → HasRisingTags (done m.wm changes) → phase_by (conflict_set s.rules) changes firings last m ≡ phase_by found changes firings last m
  phase_is changes firings last m rising =
      ap (λ set. let k : Course = record m { wm = done m.wm changes; fired = still_fired set m.fired; firings = firings; last = last } in k)
      (found_is (done m.wm changes) rising)

  turned_is : (i : Inst) (m : Course) (a : Acted) → IsLawfulOver m.wm m.last a → turned_of s.rules i m a ≡ turned_by found i m a
  turned_is i m a p =
      ap (λ k. let c : Course = record k { names = a.names; coming = a.coming } in let t : Turned = record { course = c; halted = a.halted; built = a.built } in t)
      (phase_is a.changes (m.firings + 1) a.last (marked i m) p.kept.0)

  firing_is : (column : ℕ) (i : Inst) (m : Course) → Well m → firing s column i m ≡ firing_by found s column i m
  firing_is column i m p =
      let line = firing_bytes s.watch column m.names s.rules (m.firings + 1) i in
      let behind = column_after column line in
      let e = acted s behind i (given_by m) in
      ap (λ o. let f : Effect Ending Turned = record { bytes = e.bytes; outcome = o } in led_by line f)
      (same_as (KeptActed s.templates m.wm m.last m.names m.coming.fails) (EndsActions m.coming.fails) (turned_of s.rules i m) (turned_by found i m) (ended_in (m.firings + 1) i.rule (rule_name s.rules i.rule)) e.outcome
      (acted_kept s behind i (given_by m)) (λ a q. turned_is i m a (q.lawful p.memory)))

module _ (find : Find) (finds : (rules : List Rule) → FindsConflictSets rules (find rules)) (names : Spellings) (fails : Bool) where
  run_is : (left : ℕ) (s : Setting) (column : ℕ) (last : Option LastFiring) (count : Option ℕ) (k : Session) → KeptSession names fails k
      → run_on left s column last count k ≡ run_by find left s column last count k
  run_is zero s column last count k p =
      same_turn column (line_of_pause k.course.names k.rules k.breaks last count) k _ _ _ _ (next_is (in_force s k) (find k.rules) (finds k.rules) names fails k.course p.0) (λ i. refl)
  run_is (suc left) s column last count k p =
      same_turn column (line_of_pause k.course.names k.rules k.breaks last count) k _ _ _ _ (next_is (in_force s k) (find k.rules) (finds k.rules) names fails k.course p.0)
      (λ i. let e = firing (in_force s k) column i k.course in
      same_then (λ (t : Turned). KeptCourse names fails t.course) (EndsSession fails) e.bytes e.outcome
      (λ t. run_on left s (column_after column e.bytes) (last_of k.rules i t) (one_less count) (turned_on t k))
      (λ t. run_by find left s (column_after column e.bytes) (last_of k.rules i t) (one_less count) (turned_on t k))
      (firing_kept names fails (in_force s k) column i k.course p.0)
      (λ t q. run_is left s (column_after column e.bytes) (last_of k.rules i t) (one_less count) (turned_on t k) (turned_kept_on names fails t k p q))
      ∙ ap (λ e. and_then column e (λ next t. run_by find left s next (last_of k.rules i t) (one_less count) (turned_on t k)))
      (firing_is (in_force s k) (find k.rules) (finds k.rules) names fails column i k.course p.0))

module _ (s : Setting) (find : Find) (finds : (rules : List Rule) → FindsConflictSets rules (find rules)) (names : Spellings) (fails : Bool) where
  abbrev WellSession : Session → Type 0
  WellSession k = KeptSession names fails k

  phase_told_is : (column : ℕ) (changes : List Change) (last : ℕ) (k : Session) → HasRisingTags (done k.course.wm changes)
      → phase_done s column changes last k ≡ phase_told (find s.rules) s column changes last k
  phase_told_is column changes last k rising =
      ap (λ m. writes (traced k.watch column (change_lines k.course.names s.classes k.course.wm changes)) (with_course k m))
      (phase_is s (find s.rules) (finds s.rules) names fails changes k.course.firings last k.course rising)

  standing_is : (k : Session) → WellSession k → standing_by (conflict_set s.rules) s.rules k.course ≡ standing_by (find s.rules) s.rules k.course
  standing_is k p =
      ap (λ set. let insts = unfired set k.course.fired in ranked (length insts) k.course.strategy s.rules insts)
      (found_is s (find s.rules) (finds s.rules) names fails k.course.wm p.0.memory.0)

  command_is : (limit column : ℕ) (c : Command) (k : Session) → WellSession k → command_done s limit column c k ≡ command_by find s limit column c k
  command_is limit column (command.Make class puts) k p =
      let well = added_kept k.course.wm k.course.last (element_made s.classes class puts k.course) (omega arith) p.0.memory in
      phase_told_is column (change.Add (element_made s.classes class puts k.course) ∷ []) (k.course.last + 1) (trail_emptied k) well.0
  command_is limit column (command.Remove tags) k p =
      let well = kept_after k.course.wm k.course.last (removals k.course.wm tags) p.0.memory (removals_lawful k.course.wm k.course.last tags) (removals_last k.course.wm k.course.last tags) in
      phase_told_is column (removals k.course.wm tags) k.course.last (trail_emptied k) well.0
  command_is limit column command.RemoveAll k p =
      let well = kept_after k.course.wm k.course.last (map change.Remove (tags_of k.course.wm)) p.0.memory (clearing_lawful k.course.wm k.course.last p.0.memory.0) (clearing_last k.course.last (tags_of k.course.wm)) in
      phase_told_is column (map change.Remove (tags_of k.course.wm)) k.course.last (trail_emptied k) well.0
  command_is limit column (command.Run count) k p =
      run_is find finds names fails (limit - k.course.firings) (record s { watch = k.watch }) column None count k p
  command_is limit column (command.Wm tags) k p = refl
  command_is limit column (command.Ppwm pattern) k p = refl
  command_is limit column command.Cs k p =
      ap (λ insts. lists column (map (inst_text k.course.names s.rules) insts) k) (standing_is k p)
  command_is limit column (command.Pm names) k p = refl
  command_is limit column (command.Strategy set) k p = refl
  command_is limit column (command.Watch set) k p = refl
  command_is limit column (command.Pbreak names) k p = refl
  command_is limit column (command.Add r) k p = refl
  command_is limit column (command.Excise given) k p = refl
  command_is limit column (command.Back count) k p = refl
  command_is limit column (command.Matches given) k p = refl
  command_is limit column command.Exit k p = refl

module _ (s : Setting) (find : Find) (finds : (rules : List Rule) → FindsConflictSets rules (find rules)) (names : Spellings) (fails : Bool) where
  commands_are : (limit column : ℕ) (commands : List Command) (k : Session) → KeptSession names fails k → commands_done s limit column commands k ≡ commands_by find s limit column commands k
  commands_are limit column [] k p = refl
  commands_are limit column (c ∷ rest) k p =
      let e = command_done (in_force s k) limit column c k in
      ap (λ f. cond (is_exit c) (writes [] k) f)
      (same_then (KeptSession names fails) (EndsSession fails) e.bytes e.outcome
      (λ k. commands_done s limit (column_after column e.bytes) rest k)
      (λ k. commands_by find s limit (column_after column e.bytes) rest k)
      (command_kept names fails (in_force s k) limit column c k p)
      (λ k q. commands_are limit (column_after column e.bytes) rest k q)
      ∙ ap (λ e. and_then column e (λ next k. commands_by find s limit next rest k))
      (command_is (in_force s k) find finds names fails limit column c k p))

-- a session goes by the conflict sets of the productions in force, however they are found
pub session_goes : (s : Setting) (limit : ℕ) (commands : List Command) (names : Spellings) → GoesByConflictSets s limit commands names
session_goes s limit commands names find finds coming =
    commands_are s find finds names coming.fails limit 0 commands (begun commands s.rules names coming) (begun_kept commands s.rules names coming)
