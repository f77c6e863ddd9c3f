-- The production that a session names at its end has a spelling, where each symbol of its productions has one, also of those
-- that come, and of those that are built.
use Rattle.std.proofs.Common.{◌≡◌, ℕ, zero, suc, ◌+◌, ◌-◌, ◌<◌, List, [], ◌∷◌, ◌++◌, Bool, true, false, ◌&&◌, Option, Some, None, MatchResult, refl, ap, sym, ◌∙◌, slice_get}
use Rattle.std.specs.Prelude.{option_map, unwrap_or, fold}
use Rattle.std.specs.List.{list_all}
use Rattle.std.proofs.lemmas.Bool.{cond_both, ltb-true}
use Rattle.ops_base.specs.declared.commands.Command.{Command}
use Rattle.ops_base.specs.declared.commands.Command.TheVariants as command
use Rattle.ops_base.specs.declared.commands.Strategy.{Strategy}
use Rattle.ops_base.specs.declared.endings.Ending.{Ending}
use Rattle.ops_base.specs.declared.rules.Inst.{Inst}
use Rattle.ops_base.specs.declared.rules.Rule.{Rule}
use Rattle.ops_base.specs.declared.values.Sym.{Sym}
use Rattle.ops_base.specs.Live.{without}
use Rattle.ops_base.specs.Names.{Spellings}
use Rattle.ops_base.specs.Symbols.{symbol_held, part_held, action_held, rule_held, command_held}
use Rattle.ops_io.specs.Coming.{Coming}
use Rattle.ops_io.specs.Output.{column_after}
use Rattle.ops_meaning.specs.Acting.{Setting, Misdeed, Bad, NoInput, acted}
use Rattle.ops_meaning.specs.Effects.{Effect, writes, and_then}
use Rattle.ops_meaning.specs.Kept.{IsFilledFrom, AreFilledFrom}
use Rattle.ops_meaning.specs.Layout.{firing_bytes, rule_name}
use Rattle.ops_meaning.specs.Running.{Course, Turned, Session, LastFiring, begun, in_force, turn, line_of_pause, last_of, one_less, given_by, ended_in, turned_of, firing, run_on, next_to_fire, command_done, commands_done, session_of, is_exit, strategy_given, level_given, breaks_given, rule_named, taken_out, taken_out_named, added, all_added, turned_on, fired_on}
use Rattle.ops_meaning.proofs.Doings.{goes_on, goes_as, EndsActions, KeptActed, acted_kept}
use Rattle.ops_meaning.proofs.NamesKept.{IsToldBy}
use Rattle.ops_meaning.proofs.Trails.{back_leaves}

both : (a b : Bool) → (a && b) ≡ true → (a ≡ true) × (b ≡ true)
both true b h = (refl, h)
both false b h = absurd (cc)

together : (a b : Bool) → a ≡ true → b ≡ true → (a && b) ≡ true
together true b h k = k
together false b h k = absurd (cc)

-- what holds of each item holds of that at a place
all_at : {X : Type 0} (p : X → Bool) (xs : List X) (at : ℕ) (x : X) → list_all p xs ≡ true → slice_get xs at ≡ Some x → p x ≡ true
all_at p [] at x h is = absurd (cc)
all_at p (y ∷ xs) zero x h is = let same : y ≡ x = cc in ap p (sym same) ∙ (both (p y) (list_all p xs) h).0
all_at p (y ∷ xs) (suc at) x h is = all_at p xs at x (both (p y) (list_all p xs) h).1 is

module _ (n : ℕ) (some : 0 < n) where
  -- the name of the production is held
  abbrev is_named : Rule → Bool
  is_named r = symbol_held n r.name

  abbrev AreNamed : List Rule → Type 0
  AreNamed rules = list_all is_named rules ≡ true

  abbrev Held : Session → Type 0
  Held k = AreNamed k.rules

  abbrev Told : Ending → Type 0
  Told e = IsToldBy n e

  named_of : (r : Rule) → rule_held n r ≡ true → is_named r ≡ true
  named_of r h =
      let front = both (symbol_held n r.name && list_all (part_held n) r.conditions) (list_all (action_held n) r.actions) h in
      (both (symbol_held n r.name) (list_all (part_held n) r.conditions) front.0).0

  all_named : (rules : List Rule) → list_all (rule_held n) rules ≡ true → AreNamed rules
  all_named [] h = refl
  all_named (r ∷ rules) h =
      let parts = both (rule_held n r) (list_all (rule_held n) rules) h in
      together (is_named r) (list_all is_named rules) (named_of r parts.0) (all_named rules parts.1)

  -- a production is named as the template is that gives it
  filled_named : (templates : List Rule) (r : Rule) → AreNamed templates → IsFilledFrom templates r → is_named r ≡ true
  filled_named templates r h p =
      let name : r.name ≡ p.template.name = ap (λ (q : Rule). q.name) p.filled in
      ap (symbol_held n) name ∙ all_at is_named templates p.number p.template h p.there

  held_without : (at : ℕ) (rules : List Rule) → AreNamed rules → AreNamed (without at rules)
  held_without at [] h = refl
  held_without zero (r ∷ rules) h = (both (is_named r) (list_all is_named rules) h).1
  held_without (suc at) (r ∷ rules) h =
      let parts = both (is_named r) (list_all is_named rules) h in
      together (is_named r) (list_all is_named (without at rules)) parts.0 (held_without at rules parts.1)

  held_with : (rules : List Rule) (r : Rule) → AreNamed rules → is_named r ≡ true → AreNamed (rules ++ r ∷ [])
  held_with [] r h k = together (is_named r) true k refl
  held_with (q ∷ rules) r h k =
      let parts = both (is_named q) (list_all is_named rules) h in
      together (is_named q) (list_all is_named (rules ++ r ∷ [])) parts.0 (held_with rules r parts.1 k)

  named_held : (name : Sym) (k : Session) → Held k → Held (taken_out_named name k)
  named_held name k p = by (rule_named k.rules name)
    where
      by : (at : Option ℕ) → Held (unwrap_or (option_map (λ at. taken_out at k) at) k)
      by None = p
      by (Some at) = held_without at k.rules p

  added_held : (r : Rule) (k : Session) → Held k → is_named r ≡ true → Held (added r k)
  added_held r k p h = let left = taken_out_named r.name k in held_with left.rules r (named_held r.name k p) h

  all_added_held : (templates built : List Rule) (k : Session) → AreNamed templates → AreFilledFrom templates built → Held k → Held (all_added built k)
  all_added_held templates [] k h q p = p
  all_added_held templates (r ∷ built) k h q p = all_added_held templates built (added r k) h q.1 (added_held r k p (filled_named templates r h q.0))

  excised_held : (given : List Sym) (k : Session) → Held k → Held (fold (λ k name. taken_out_named name k) k given)
  excised_held [] k p = p
  excised_held (name ∷ given) k p = excised_held given (taken_out_named name k) (named_held name k p)

  -- the name of a production is held, and so is that of none, which is nil
  named_below : (rules : List Rule) (at : ℕ) → AreNamed rules → (rule_name rules at).0 < n
  named_below [] at h = some
  named_below (r ∷ rules) zero h = ltb-true r.name.0 n (both (is_named r) (list_all is_named rules) h).0
  named_below (r ∷ rules) (suc at) h = named_below rules at (both (is_named r) (list_all is_named rules) h).1

  -- a firing that fails names its own production
  ended_told : (firing rule : ℕ) (name : Sym) (e : Misdeed) → name.0 < n → Told (ended_in firing rule name e)
  ended_told firing rule name (Bad a k) p = p
  ended_told firing rule name NoInput p = tt

  firing_told : (s : Setting) (column : ℕ) (i : Inst) (m : Course) → AreNamed s.rules → MatchResult (firing s column i m).outcome (λ (t : Turned). AreFilledFrom s.templates t.built) Told
  firing_told s column i m p =
      let behind = column_after column (firing_bytes s.watch column m.names s.rules (m.firings + 1) i) in
      goes_as (KeptActed s.templates m.wm m.last m.names m.coming.fails) (λ (t : Turned). AreFilledFrom s.templates t.built) (EndsActions m.coming.fails) Told (turned_of s.rules i m) (ended_in (m.firings + 1) i.rule (rule_name s.rules i.rule)) (acted s behind i (given_by m)).outcome
      (acted_kept s behind i (given_by m)) (λ a q. q.built) (λ e q. ended_told (m.firings + 1) i.rule (rule_name s.rules i.rule) e (named_below s.rules i.rule p))

  turn_told : (column : ℕ) (line : Option (List ℕ)) (k : Session) (next : Option Inst) (go_on : Inst → Effect Ending Session) → Held k
      → ((i : Inst) → MatchResult (go_on i).outcome Held Told) → MatchResult (turn column line k next go_on).outcome Held Told
  turn_told column (Some line) k next go_on p q = p
  turn_told column None k None go_on p q = p
  turn_told column None k (Some i) go_on p q = q i

  run_told : (left : ℕ) (s : Setting) (column : ℕ) (last : Option LastFiring) (count : Option ℕ) (k : Session) → AreNamed s.templates → Held k
      → MatchResult (run_on left s column last count k).outcome Held Told
  run_told zero s column last count k p h =
      turn_told column (line_of_pause k.course.names k.rules k.breaks last count) k (next_to_fire k.rules k.course) _ h (λ i. tt)
  run_told (suc left) s column last count k p h =
      turn_told column (line_of_pause k.course.names k.rules k.breaks last count) k (next_to_fire k.rules k.course) _ h
      (λ i. let e = firing (in_force s k) column i k.course in
      goes_on (λ (t : Turned). AreFilledFrom s.templates t.built) Held Told e.bytes e.outcome (λ (t : Turned). run_on left s (column_after column e.bytes) (last_of k.rules i t) (one_less count) (turned_on t k)) (firing_told (in_force s k) column i k.course h)
      (λ t q. run_told left s (column_after column e.bytes) (last_of k.rules i t) (one_less count) (turned_on t k) p (all_added_held s.templates t.built (fired_on t.course k) p q h)))

  strategy_told : (column : ℕ) (set : Option Strategy) (k : Session) → Held k → MatchResult (strategy_given column set k).outcome Held Told
  strategy_told column None k p = p
  strategy_told column (Some g) k p = p

  level_told : (column : ℕ) (set : Option ℕ) (k : Session) → Held k → MatchResult (level_given column set k).outcome Held Told
  level_told column None k p = p
  level_told column (Some l) k p = p

  breaks_told : (s : Setting) (column : ℕ) (names : List Sym) (k : Session) → Held k → MatchResult (breaks_given s column names k).outcome Held Told
  breaks_told s column [] k p = p
  breaks_told s column (x ∷ xs) k p = p

  command_told : (s : Setting) (limit column : ℕ) (c : Command) (k : Session) → AreNamed s.templates → Held k → command_held n c ≡ true → MatchResult (command_done (in_force s k) limit column c k).outcome Held Told
  command_told s limit column (command.Make class puts) k t p h = p
  command_told s limit column (command.Remove tags) k t p h = p
  command_told s limit column command.RemoveAll k t p h = p
  command_told s limit column (command.Run count) k t p h =
      run_told (limit - k.course.firings) (record s { rules = k.rules; watch = k.watch }) column None count k t p
  command_told s limit column (command.Wm tags) k t p h = p
  command_told s limit column (command.Ppwm pattern) k t p h = p
  command_told s limit column command.Cs k t p h = p
  command_told s limit column (command.Pm names) k t p h = p
  command_told s limit column (command.Strategy set) k t p h = strategy_told column set k p
  command_told s limit column (command.Watch set) k t p h = level_told column set k p
  command_told s limit column (command.Pbreak names) k t p h = breaks_told (in_force s k) column names k p
  command_told s limit column (command.Add r) k t p h = added_held r k p (named_of r h)
  command_told s limit column (command.Excise given) k t p h = excised_held given k p
  command_told s limit column (command.Back count) k t p h = back_leaves Held Told column count k p (λ n e is. p)
  command_told s limit column (command.Matches given) k t p h = p
  command_told s limit column command.Exit k t p h = p

  commands_told : (s : Setting) (limit column : ℕ) (commands : List Command) (k : Session) → AreNamed s.templates → Held k → list_all (command_held n) commands ≡ true
      → MatchResult (commands_done s limit column commands k).outcome Held Told
  commands_told s limit column [] k t p h = p
  commands_told s limit column (c ∷ rest) k t p h =
      let parts = both (command_held n c) (list_all (command_held n) rest) h in
      let e = command_done (in_force s k) limit column c k in
      let go_on : ℕ → Session → Effect Ending Session = λ next k. commands_done s limit next rest k in
      cond_both (is_exit c) (writes [] k) (and_then column e go_on) (λ f. MatchResult f.outcome Held Told) (λ _. p)
      (λ _. goes_on Held Held Told e.bytes e.outcome (go_on (column_after column e.bytes)) (command_told s limit column c k t p parts.0)
      (λ k q. commands_told s limit (column_after column e.bytes) rest k t q parts.1))

  pub session_told : (s : Setting) (limit : ℕ) (commands : List Command) (names : Spellings) (coming : Coming) → list_all (rule_held n) s.rules ≡ true → list_all (rule_held n) s.templates ≡ true → list_all (command_held n) commands ≡ true
      → MatchResult (session_of s limit commands names coming).outcome Held Told
  session_told s limit commands names coming rules templates h =
      commands_told s limit 0 commands (begun commands s.rules names coming) (all_named s.templates templates) (all_named s.rules rules) h
