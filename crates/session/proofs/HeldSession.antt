-- What a session makes is held by its names, as what its right sides make is.
use Rattle.std.proofs.Common.{◌≡◌, ℕ, zero, suc, ◌+◌, ◌-◌, ◌<◌, ◌≤◌, List, [], ◌∷◌, ◌++◌, length, map, fold, true, ◌&&◌, Option, Some, None, MatchResult, refl, ap, ◌∙◌, arith}
use Rattle.std.specs.Prelude.{slice_get, slice_set, option_map, unwrap_or, Result, Ok, Err, IfOk}
use Rattle.std.specs.List.{list_all, list_any}
use Rattle.std.proofs.lemmas.Bool.{and_parts, and_from, cond_both}
use Rattle.ops_base.specs.declared.commands.Command.{Command}
use Rattle.ops_base.specs.declared.commands.Command.TheVariants as command
use Rattle.ops_base.specs.declared.commands.Fixed.{Fixed}
use Rattle.ops_base.specs.declared.commands.Strategy.{Strategy}
use Rattle.ops_base.specs.declared.elements.Change.TheVariants as change
use Rattle.ops_base.specs.declared.elements.Class.{Class}
use Rattle.ops_base.specs.declared.elements.Element.{Element}
use Rattle.ops_base.specs.declared.endings.Ending.{Ending}
use Rattle.ops_base.specs.declared.endings.Ending.TheVariants as ending
use Rattle.ops_base.specs.declared.programs.Program.{Program}
use Rattle.ops_base.specs.declared.rules.Inst.{Inst}
use Rattle.ops_base.specs.declared.rules.Rule.{Rule}
use Rattle.ops_base.specs.declared.values.Sym.{Sym}
use Rattle.ops_base.specs.declared.values.Value.{Value}
use Rattle.ops_base.specs.Live.{without}
use Rattle.ops_base.specs.Names.{Spellings}
use Rattle.ops_base.specs.Symbols.{value_held, class_held, rule_held, fixed_held, command_held}
use Rattle.ops_base.specs.Valid.{class_of, is_vector}
use Rattle.ops_base.specs.WorkingMemory.{no_fields, tags_of, without_tag}
use Rattle.ops_io.specs.Output.{column_after}
use Rattle.ops_meaning.specs.Acting.{Setting, acted, emptied, first_of, has_tag}
use Rattle.ops_meaning.specs.Effects.{Effect, writes, and_then}
use Rattle.ops_meaning.specs.Layout.{firing_bytes, rule_name}
use Rattle.ops_meaning.specs.Running.{Course, Turned, Session, LastFiring, begun, turn, line_of_pause, last_of, one_less, given_by, ended_in, with_values, fixed_fields, element_made, removals, turned_of, firing, run_on, next_to_fire, command_done, commands_done, in_force, rule_named, taken_out, taken_out_named, added, all_added, turned_on, is_exit, strategy_given, level_given, breaks_given, session_of, Earlier, fired_on, is_back, restored, states_kept}
use Rattle.ops_meaning.proofs.Trails.{AreKept, back_leaves, firing_kept_too, is_kept, none_kept, none_yet, those_before}
use Rattle.ops_meaning.proofs.Doings.{goes_on, goes_as, ok_goes}
use Rattle.act_phase.specs.Held.{element_held, change_held, HoldsProgram, HoldsElements}
use Rattle.act_phase.specs.Outcomes.{setting_of}
use Rattle.act_phase.proofs.Held.{all_set, all_both, all_push, elements_more, command_more, rules_more, program_more, rules_of_program, templates_of_program, done_held}
use Rattle.act_phase.proofs.HeldDoings.{Any, HeldActed, acted_held, first_held, emptied_held, no_fields_held}
use Rattle.ops_meaning.proofs.NamesKept.{IsToldBy}
use Rattle.ops_meaning.proofs.EndingNames.{session_told}
use Rattle.live_rules.proofs.Valid.{all_without}
use Rattle.session.specs.Holding.{EndsHeld, NamesHeld}

-- ---- what commands make and remove

module _ (n : ℕ) (some : 0 < n) where
  values_held : (c : Class) (fields : List Value) (f : ℕ) (vs : List Value) → list_all (value_held n) fields ≡ true → list_all (value_held n) vs ≡ true → list_all (value_held n) (with_values c fields f vs) ≡ true
  values_held c fields f vs h e =
      cond_both (is_vector c f) (emptied c f fields ++ vs) (slice_set fields f (first_of vs)) (λ fs. list_all (value_held n) fs ≡ true)
      (λ _. all_both (value_held n) (emptied c f fields) vs (emptied_held n some c f fields h) e)
      (λ _. all_set (value_held n) fields f (first_of vs) h (first_held n some vs e))

  each_fixed : (c : Class) (puts : List Fixed) (fields : List Value) → list_all (fixed_held n) puts ≡ true → list_all (value_held n) fields ≡ true
      → list_all (value_held n) (fold (λ fields (p : Fixed). with_values c fields p.field p.values) fields puts) ≡ true
  each_fixed c [] fields e h = h
  each_fixed c (p ∷ puts) fields e h =
      let parts = and_parts (fixed_held n p) (list_all (fixed_held n) puts) e in
      each_fixed c puts (with_values c fields p.field p.values) parts.1 (values_held c fields p.field p.values h parts.0)

  fixed_fields_held : (c : Class) (puts : List Fixed) → list_all (fixed_held n) puts ≡ true → list_all (value_held n) (fixed_fields c puts) ≡ true
  fixed_fields_held c puts e = each_fixed c puts (no_fields c) e (no_fields_held n some c)

removals_held : (n : ℕ) (wm : List Element) (tags : List ℕ) → list_all (change_held n) (removals wm tags) ≡ true
removals_held n wm [] = refl
removals_held n wm (t ∷ ts) =
    cond_both (has_tag wm t) (change.Remove t ∷ removals (without_tag t wm) ts) (removals wm ts) (λ cs. list_all (change_held n) cs ≡ true)
    (λ _. removals_held n (without_tag t wm) ts) (λ _. removals_held n wm ts)

clearing_held : (n : ℕ) (tags : List ℕ) → list_all (change_held n) (map change.Remove tags) ≡ true
clearing_held n [] = refl
clearing_held n (t ∷ ts) = clearing_held n ts

-- ---- a session

-- At least this many symbols are held, and each of working memory.
pub record HeldCourse (n : ℕ) (m : Course) : Type 0 where
  pub more : n ≤ length m.names.held
  pub memory : list_all (element_held (length m.names.held)) m.wm ≡ true

module _ (n : ℕ) (some : 0 < n) where
  abbrev Held : Course → Type 0
  Held m = HeldCourse n m

  abbrev HeldRules : ℕ → List Rule → Type 0
  HeldRules m rules = list_all (rule_held m) rules ≡ true

  -- what a firing leaves that began with this many names, and the productions that it built
  abbrev HeldTurned : ℕ → Turned → Type 0
  HeldTurned before t = Held t.course × HeldRules (length t.course.names.held) t.built × (before ≤ length t.course.names.held)

  -- the same of what was before a firing, with the productions that were in force then
  abbrev HeldEarlier : List Rule → Earlier → Type 0
  HeldEarlier rules e = (n ≤ length e.names.held) × (list_all (element_held (length e.names.held)) e.wm ≡ true) × HeldRules (length e.names.held) rules

  abbrev count_of : Session → ℕ
  count_of k = length k.course.names.held

  -- each of the productions in force, and each state on the trail, since which none has come or gone
  abbrev HeldSession : Session → Type 0
  HeldSession k = Held k.course × HeldRules (count_of k) k.rules × AreKept (HeldEarlier k.rules) k

  firing_held : (s : Setting) (column : ℕ) (i : Inst) (m : Course) → HeldRules n s.templates → HeldRules (length m.names.held) s.rules → Held m → MatchResult (firing s column i m).outcome (HeldTurned (length m.names.held)) Any
  firing_held s column i m t h p =
      let behind = column_after column (firing_bytes s.watch column m.names s.rules (m.firings + 1) i) in
      let now = length m.names.held in
      goes_as (HeldActed now) (HeldTurned now) Any Any (turned_of s.rules i m) (ended_in (m.firings + 1) i.rule (rule_name s.rules i.rule)) (acted s behind i (given_by m)).outcome
      (acted_held s behind i (given_by m) (omega (arith, some, p.more)) h (rules_more n now p.more s.templates t) p.memory)
      (λ a q. (
        record {
          more = omega (arith, p.more, q.more);
          memory = done_held (length a.names.held) m.wm a.changes (elements_more now (length a.names.held) q.more m.wm p.memory) q.changes;
        },
        q.built,
        q.more,
      ))
      (λ e q. tt)

  -- what every turn leaves of a run whose end it does not come to
  turn_leaves : (column : ℕ) (line : Option (List ℕ)) (k : Session) (next : Option Inst) (go_on : Inst → Effect Ending Session) → HeldSession k
      → ((i : Inst) → MatchResult (go_on i).outcome HeldSession Any) → MatchResult (turn column line k next go_on).outcome HeldSession Any
  turn_leaves column (Some line) k next go_on p q = p
  turn_leaves column None k None go_on p q = p
  turn_leaves column None k (Some i) go_on p q = q i

  fired_held : (m : Course) (k : Session) → HeldSession k → Held m → count_of k ≤ length m.names.held → HeldSession (fired_on m k)
  fired_held m k p q le =
      (q, rules_more (count_of k) (length m.names.held) le k.rules p.1, firing_kept_too (HeldEarlier k.rules) m k (p.0.more, p.0.memory, p.1) p.2)

  -- ---- productions that come and go

  taken_held : (at : ℕ) (k : Session) → HeldSession k → HeldSession (taken_out at k)
  taken_held at k p = (record { more = p.0.more; memory = p.0.memory }, all_without (rule_held (count_of k)) at k.rules p.1, none_kept (HeldEarlier (without at k.rules)) k)

  named_held : (name : Sym) (k : Session) → HeldSession k → HeldSession (taken_out_named name k)
  named_held name k p = by (rule_named k.rules name)
    where
      by : (at : Option ℕ) → HeldSession (unwrap_or (option_map (λ at. taken_out at k) at) k)
      by None = p
      by (Some at) = taken_held at k p

  named_count : (name : Sym) (k : Session) → count_of (taken_out_named name k) ≡ count_of k
  named_count name k = by (rule_named k.rules name)
    where
      by : (at : Option ℕ) → count_of (unwrap_or (option_map (λ at. taken_out at k) at) k) ≡ count_of k
      by None = refl
      by (Some at) = refl

  added_held : (r : Rule) (k : Session) → rule_held (count_of k) r ≡ true → HeldSession k → HeldSession (added r k)
  added_held r k h p =
      let taken = taken_out_named r.name k in
      let left = named_held r.name k p in
      let rules = all_push (rule_held (count_of taken)) taken.rules r left.1 (ap (λ m. rule_held m r) (named_count r.name k) ∙ h) in
      (left.0, rules, none_kept (HeldEarlier (taken.rules ++ r ∷ [])) taken)

  all_added_held : (built : List Rule) (k : Session) → HeldRules (count_of k) built → HeldSession k → HeldSession (all_added built k)
  all_added_held [] k h p = p
  all_added_held (r ∷ built) k h p =
      let parts = and_parts (rule_held (count_of k) r) (list_all (rule_held (count_of k)) built) h in
      all_added_held built (added r k) (ap (λ m. list_all (rule_held m) built) (named_count r.name k) ∙ parts.1) (added_held r k parts.0 p)

  excised_held : (given : List Sym) (k : Session) → HeldSession k → HeldSession (fold (λ k name. taken_out_named name k) k given)
  excised_held [] k p = p
  excised_held (name ∷ given) k p = excised_held given (taken_out_named name k) (named_held name k p)

  -- ---- a run

  run_held : (left : ℕ) (s : Setting) (column : ℕ) (last : Option LastFiring) (count : Option ℕ) (k : Session) → HeldRules n s.templates → HeldSession k
      → MatchResult (run_on left s column last count k).outcome HeldSession Any
  run_held zero s column last count k t p =
      turn_leaves column (line_of_pause k.course.names k.rules k.breaks last count) k (next_to_fire k.rules k.course) _ p (λ i. tt)
  run_held (suc left) s column last count k t p =
      turn_leaves column (line_of_pause k.course.names k.rules k.breaks last count) k (next_to_fire k.rules k.course) _ p
      (λ i. let e = firing (in_force s k) column i k.course in
      goes_on (HeldTurned (count_of k)) HeldSession Any e.bytes e.outcome (λ t. run_on left s (column_after column e.bytes) (last_of k.rules i t) (one_less count) (turned_on t k)) (firing_held (in_force s k) column i k.course t p.1 p.0)
      (λ u q. run_held left s (column_after column e.bytes) (last_of k.rules i u) (one_less count) (turned_on u k) t (all_added_held u.built (fired_on u.course k) q.1 (fired_held u.course k p q.0 q.2))))

  back_held : (at : ℕ) (e : Earlier) (k : Session) → HeldSession k → slice_get (states_kept k) at ≡ Some e → HeldSession (restored at k e)
  back_held at e k p is =
      let was : HeldEarlier k.rules e = is_kept (HeldEarlier k.rules) k at e p.2 is in
      (record { more = was.0; memory = was.1 }, was.2, those_before (HeldEarlier k.rules) at k e p.2)

  strategy_held : (column : ℕ) (set : Option Strategy) (k : Session) → HeldSession k → MatchResult (strategy_given column set k).outcome HeldSession Any
  strategy_held column None k p = p
  strategy_held column (Some g) k p = (record { more = p.0.more; memory = p.0.memory }, p.1, p.2)

  level_held : (column : ℕ) (set : Option ℕ) (k : Session) → HeldSession k → MatchResult (level_given column set k).outcome HeldSession Any
  level_held column None k p = p
  level_held column (Some l) k p = p

  breaks_held : (s : Setting) (column : ℕ) (names : List Sym) (k : Session) → HeldSession k → MatchResult (breaks_given s column names k).outcome HeldSession Any
  breaks_held s column [] k p = p
  breaks_held s column (x ∷ xs) k p = p

  command_kept : (s : Setting) (limit column : ℕ) (c : Command) (k : Session) → HeldRules n s.templates → command_held n c ≡ true → HeldSession k → MatchResult (command_done (in_force s k) limit column c k).outcome HeldSession Any
  command_kept s limit column (command.Make class puts) k t e p =
      let now = length k.course.names.held in
      let made = element_made s.classes class puts k.course in (
        record {
          more = p.0.more;
          memory = done_held now k.course.wm (change.Add made ∷ []) p.0.memory (and_from _ _ (fixed_fields_held now (omega (arith, some, p.0.more)) (class_of s.classes class) puts (command_more n now p.0.more (command.Make class puts) e)) refl);
        },
        p.1,
        none_kept (HeldEarlier k.rules) k,
      )
  command_kept s limit column (command.Remove tags) k t e p =
      let now = length k.course.names.held in
      (record { more = p.0.more; memory = done_held now k.course.wm (removals k.course.wm tags) p.0.memory (removals_held now k.course.wm tags) }, p.1, none_kept (HeldEarlier k.rules) k)
  command_kept s limit column command.RemoveAll k t e p =
      let now = length k.course.names.held in
      (record { more = p.0.more; memory = done_held now k.course.wm (map change.Remove (tags_of k.course.wm)) p.0.memory (clearing_held now (tags_of k.course.wm)) }, p.1, none_kept (HeldEarlier k.rules) k)
  command_kept s limit column (command.Run count) k t e p =
      run_held (limit - k.course.firings) (record (in_force s k) { watch = k.watch }) column None count k t p
  command_kept s limit column (command.Wm tags) k t e p = p
  command_kept s limit column (command.Ppwm pattern) k t e p = p
  command_kept s limit column command.Cs k t e p = p
  command_kept s limit column (command.Pm names) k t e p = p
  command_kept s limit column (command.Strategy set) k t e p = strategy_held column set k p
  command_kept s limit column (command.Watch set) k t e p = level_held column set k p
  command_kept s limit column (command.Pbreak names) k t e p = breaks_held (in_force s k) column names k p
  command_kept s limit column (command.Add r) k t e p = added_held r k (command_more n (count_of k) p.0.more (command.Add r) e) p
  command_kept s limit column (command.Excise given) k t e p = excised_held given k p
  command_kept s limit column (command.Back count) k t e p = back_leaves HeldSession Any column count k p (λ at state is. back_held at state k p is)
  command_kept s limit column (command.Matches names) k t e p = p
  command_kept s limit column command.Exit k t e p = p

  commands_kept : (s : Setting) (limit column : ℕ) (commands : List Command) (k : Session) → HeldRules n s.templates → list_all (command_held n) commands ≡ true → HeldSession k
      → MatchResult (commands_done s limit column commands k).outcome HeldSession Any
  commands_kept s limit column [] k t e p = p
  commands_kept s limit column (c ∷ rest) k t e p =
      let parts = and_parts (command_held n c) (list_all (command_held n) rest) e in
      let f = command_done (in_force s k) limit column c k in
      let go_on : ℕ → Session → Effect Ending Session = λ next k. commands_done s limit next rest k in
      cond_both (is_exit c) (writes [] k) (and_then column f go_on) (λ f. MatchResult f.outcome HeldSession Any) (λ _. p)
      (λ _. goes_on HeldSession HeldSession Any f.bytes f.outcome (go_on (column_after column f.bytes)) (command_kept s limit column c k t parts.0 p)
      (λ k q. commands_kept s limit (column_after column f.bytes) rest k t parts.1 q))

abbrev Anything : Session → Type 0
Anything k = Unit {0}

any_goes : (P : Session → Type 0) (R : Ending → Type 0) (o : Result Session Ending) → MatchResult o P R → MatchResult o Anything R
any_goes P R (Ok k) p = tt
any_goes P R (Err e) p = p

-- the name of the production that an ending tells
told_held : (names : Spellings) (e : Ending) → IsToldBy (length names.held) e → NamesHeld names e
told_held names (ending.Act firing rule name action kind) p = p
told_held names (ending.Done firings elements last) p = tt
told_held names (ending.Limit firings) p = tt
told_held names ending.ReadFault p = tt
told_held names ending.WriteFault p = tt
told_held names ending.OutOfMemory p = tt

both_ends : {S E : Type 0} (P Q : S → Type 0) (R U : E → Type 0) (o : Result S E) → IfOk o P → MatchResult o Q R → ((s : S) → P s → P s) → ((e : E) → R e → U e) → MatchResult o P U
both_ends P Q R U (Ok s) p q f g = p
both_ends P Q R U (Err e) p q f g = g e q

-- a session ends with names that hold what it has come to
pub session_held : (p : Program) (limit : ℕ) (names : Spellings) → HoldsProgram names p → EndsHeld p limit names
session_held p limit names h coming =
    let n = length names.held in
    let whole = and_parts (list_all (class_held n) p.classes && list_all (rule_held n) p.rules && list_all (rule_held n) p.templates) (list_all (command_held n) p.commands) h.symbols in
    let o = (session_of (setting_of p 0) limit p.commands names coming).outcome in
    both_ends (λ k. HoldsProgram k.course.names p × HoldsElements k.course.names k.course.wm) Anything (IsToldBy n) (NamesHeld names) o
    (ok_goes (HeldSession n h.nil) (λ k. HoldsProgram k.course.names p × HoldsElements k.course.names k.course.wm) Any o
    (commands_kept n h.nil (setting_of p 0) limit 0 p.commands (begun p.commands p.rules names coming) (templates_of_program n p h.symbols) whole.1 (record { more = omega arith; memory = refl }, rules_of_program n p h.symbols, none_yet (HeldEarlier n h.nil p.rules) (list_any is_back p.commands)))
    (λ k q. let now = length k.course.names.held in
    (record { nil = omega (arith, h.nil, q.0.more); symbols = program_more n now q.0.more p.classes p.rules p.templates p.commands h.symbols }, q.0.memory)))
    (any_goes _ _ o (session_told n h.nil (setting_of p 0) limit p.commands names coming (rules_of_program n p h.symbols) (templates_of_program n p h.symbols) whole.1)) (λ k q. q) (told_held names)
