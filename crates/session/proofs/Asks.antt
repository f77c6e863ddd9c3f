-- Where no `accept` stands in the productions in force, none comes by one that has none, or by one that goes.
use Rattle.std.proofs.Common.{◌≡◌, ◌∙◌, ap, sym, refl, ℕ, zero, suc, List, [], ◌∷◌, ◌++◌, length, fold, Bool, true, false, ◌||◌, Option, Some, None, Result, Ok, Err, IsTrue}
use Rattle.std.specs.Prelude.{OnOk, option_map, unwrap_or}
use Rattle.std.specs.List.{list_all, list_any}
use Rattle.std.proofs.lemmas.Bool.{and_parts}
use Rattle.ops_base.specs.declared.commands.Command.{Command}
use Rattle.ops_base.specs.declared.elements.Class.{Class}
use Rattle.ops_base.specs.declared.endings.Ending.{Ending}
use Rattle.ops_base.specs.declared.programs.Program.{Program}
use Rattle.ops_base.specs.declared.rules.Inst.{Inst}
use Rattle.ops_base.specs.declared.rules.Rule.{Rule}
use Rattle.ops_base.specs.declared.values.Sym.{Sym}
use Rattle.ops_base.specs.Live.{without}
use Rattle.ops_base.specs.Names.{Spellings}
use Rattle.ops_base.specs.Valid.{command_builds_from, command_is_valid}
use Rattle.ops_io.specs.Coming.{Coming}
use Rattle.ops_io.specs.Ports.{Port}
use Rattle.ops_meaning.specs.Acting.{Setting}
use Rattle.ops_meaning.specs.Running.{Session as Meant, added, excised, in_force, rule_named, taken_out_named, without_named}
use Rattle.act_phase.specs.Asking.{command_asks, program_asks, rule_asks, session_asks}
use Rattle.act_phase.specs.Outcomes.{setting_of}
use Rattle.cycle.specs.States.{no_input}
use Rattle.live_rules.specs.Moves.{IsWith}
use Rattle.work_store.specs.Stored.{Stored}
use Rattle.session.specs.Trailing.{DoesWith, meant_with}
use Rattle.session.specs.Turning.{turn_fired}
use Rattle.session.specs.declared.undoable.Undoable.{Undoable}
use Rattle.session.proofs.Changing.{taken_rules}

neither : (a b : Bool) → (a || b) ≡ false → (a ≡ false) × (b ≡ false)
neither false b h = (refl, h)
neither true b h = absurd (cc)

nor : (a b : Bool) → a ≡ false → b ≡ false → (a || b) ≡ false
nor false b h k = k
nor true b h k = h

-- ---- lists

none_without : {X : Type 0} (p : X → Bool) (k : ℕ) (xs : List X) → list_any p xs ≡ false → list_any p (without k xs) ≡ false
none_without p k [] h = h
none_without p zero (x ∷ xs) h = (neither (p x) (list_any p xs) h).1
none_without p (suc k) (x ∷ xs) h = let parts = neither (p x) (list_any p xs) h in nor (p x) (list_any p (without k xs)) parts.0 (none_without p k xs parts.1)

none_with : {X : Type 0} (p : X → Bool) (xs : List X) (x : X) → list_any p xs ≡ false → p x ≡ false → list_any p (xs ++ x ∷ []) ≡ false
none_with p [] x h k = nor (p x) false k refl
none_with p (y ∷ xs) x h k = let parts = neither (p y) (list_any p xs) h in nor (p y) (list_any p (xs ++ x ∷ [])) parts.0 (none_with p xs x parts.1 k)

-- ---- productions

asks_named : (rules : List Rule) (name : Sym) → program_asks rules ≡ false → program_asks (without_named rules name) ≡ false
asks_named rules name h = by (rule_named rules name)
  where
    by : (o : Option ℕ) → program_asks (unwrap_or (option_map (λ n. without n rules) o) rules) ≡ false
    by None = h
    by (Some n) = none_without rule_asks n rules h

asks_taken : (name : Sym) (k : Meant) → program_asks k.rules ≡ false → program_asks (taken_out_named name k).rules ≡ false
asks_taken name k h = ap program_asks (taken_rules name k) ∙ asks_named k.rules name h

asks_all : (names : List Sym) (k : Meant) → program_asks k.rules ≡ false → program_asks (fold (λ k name. taken_out_named name k) k names).rules ≡ false
asks_all [] k h = h
asks_all (x ∷ names) k h = asks_all names (taken_out_named x k) (asks_taken x k h)

-- ---- commands

module _ {M H : Type 0} (stored : M → Stored) (stands_for : M → List Rule → Type 0) (old new : Program) (s : Undoable M H) where
  -- another one stands last
  pub added_quiet : (r : Rule) (t : Undoable M H) → ((n : Spellings) (z : Coming) → meant_with stored new.rules t n z ≡ added r (meant_with stored old.rules s n z)) → (n : Spellings)
      → program_asks old.rules ≡ false → rule_asks r ≡ false → program_asks new.rules ≡ false
  added_quiet r t is n h quiet =
      let k = meant_with stored old.rules s n no_input in
      ap (λ (m : Meant). program_asks m.rules) (is n no_input) ∙ none_with rule_asks (taken_out_named r.name k).rules r (asks_taken r.name k h) quiet

  -- some are taken out
  pub excised_quiet : (X Y : Type 0) (names : Spellings) (given : List Sym) (r : Result (Undoable M H) Ending) (a b : Port) → DoesWith stored stands_for old.rules new.rules names s r a b (excised a.out.column given) → OnOk r (program_asks old.rules ≡ false → X → Y → program_asks new.rules ≡ false)
  excised_quiet X Y names given (Ok t) a b p = λ h x y.
      let k = meant_with stored old.rules s names no_input in
      ap program_asks (sym (ap rules_of (p.performs no_input).0)) ∙ asks_all given k h
    where
      rules_of : Result Meant Ending → List Rule
      rules_of (Ok m) = m.rules
      rules_of (Err e) = []
  excised_quiet X Y names given (Err f) a b p = tt

-- ---- a session

-- the first command, and those after it
pub quiet_on : (rules templates : List Rule) (x : Command) (rest : List Command) → session_asks rules templates (x ∷ rest) ≡ false
    → (program_asks rules ≡ false) × (program_asks templates ≡ false) × (command_asks x ≡ false) × (list_any command_asks rest ≡ false)
quiet_on rules templates x rest h =
    let parts = neither (program_asks rules || program_asks templates) (list_any command_asks (x ∷ rest)) h in
    let two = neither (program_asks rules) (program_asks templates) parts.0 in
    let more = neither (command_asks x) (list_any command_asks rest) parts.1 in
    (two.0, two.1, more.0, more.1)

pub quiet_with : (rules templates : List Rule) (rest : List Command) → program_asks rules ≡ false → program_asks templates ≡ false → list_any command_asks rest ≡ false → session_asks rules templates rest ≡ false
quiet_with rules templates rest h t k = nor (program_asks rules || program_asks templates) (list_any command_asks rest) (nor (program_asks rules) (program_asks templates) h t) k

-- ---- the program in force

module _ (first now : Program) (commands : List Command) (w : IsWith now.rules commands first now) where
  -- what a right side sees of it
  pub setting_at : (watch : ℕ) (k : Meant) → k.rules ≡ now.rules → setting_of now watch ≡ in_force (setting_of first watch) k
  setting_at watch k is =
      let by : List Class → List Rule → List ℕ → List Rule → Setting = λ cs ts t rs. record { classes = cs; rules = rs; templates = ts; text = t; watch = watch } in
      ap (λ cs. by cs now.templates now.text now.rules) w.classes ∙ ap (λ ts. by first.classes ts now.text now.rules) w.templates
      ∙ ap (λ t. by first.classes first.templates t now.rules) w.text ∙ ap (by first.classes first.templates first.text) (sym is)

  pub setting_is : (k : Meant) → k.rules ≡ now.rules → setting_of now 0 ≡ in_force (setting_of first 0) k
  setting_is k is = setting_at 0 k is

  -- so a turn is the same by both
  pub turn_here : (watch at : ℕ) → at ≡ watch → (column : ℕ) (i : Inst) (k : Coming → Meant) → ((z : Coming) → (k z).rules ≡ now.rules) → (z : Coming) → turn_fired (setting_of now at) column i (k z) ≡ turn_fired (setting_of first watch) column i (k z)
  turn_here watch at same column i k are z =
      ap (λ n. turn_fired (setting_of now n) column i (k z)) same
      ∙ ap (λ t. turn_fired t column i (k z)) (setting_at watch (k z) (are z))

  -- the commands after the first one stay valid
  pub rest_valid : (x : Command) (rest : List Command) → IsTrue (list_all (command_is_valid first.classes (length first.text)) (x ∷ rest)) → IsTrue (list_all (command_is_valid now.classes (length now.text)) rest)
  rest_valid x rest h =
      ap (λ cs. list_all (command_is_valid cs (length now.text)) rest) w.classes
      ∙ ap (λ (t : List ℕ). list_all (command_is_valid first.classes (length t)) rest) w.text
      ∙ (and_parts (command_is_valid first.classes (length first.text) x) (list_all (command_is_valid first.classes (length first.text)) rest) h).1

  pub rest_builds : (x : Command) (rest : List Command) → IsTrue (list_all (command_builds_from (length first.templates)) (x ∷ rest)) → IsTrue (list_all (command_builds_from (length now.templates)) rest)
  rest_builds x rest h =
      ap (λ (ts : List Rule). list_all (command_builds_from (length ts)) rest) w.templates
      ∙ (and_parts (command_builds_from (length first.templates) x) (list_all (command_builds_from (length first.templates)) rest) h).1

  -- one program after another
  pub with_then : (next : Program) → IsWith next.rules now.commands now next → IsWith next.rules commands first next
  with_then next v = record {
    rules_are = refl;
    commands_are = v.commands_are ∙ w.commands_are;
    classes = v.classes ∙ w.classes;
    templates = v.templates ∙ w.templates;
    text = v.text ∙ w.text;
  }
