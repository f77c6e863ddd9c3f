-- One command after another, and what the last one leaves.
use Rattle.std.proofs.Common.{◌≡◌, ◌∙◌, ap, sym, subst, [], ◌∷◌, ℕ, List, true, false, cond, Result, Ok, Err, IsTrue}
use Rattle.ops_base.specs.Names.{Spellings}
use Rattle.ops_base.specs.declared.commands.Command.{Command}
use Rattle.ops_base.specs.declared.elements.Class.{Class}
use Rattle.ops_base.specs.declared.programs.Program.{Program}
use Rattle.ops_base.specs.declared.rules.Rule.{Rule}
use Rattle.ops_base.specs.declared.endings.Ending.{Ending}
use Rattle.ops_base.specs.declared.endings.Ending.TheVariants as ending
use Rattle.ops_io.specs.Coming.{Coming, Inlet}
use Rattle.ops_io.specs.Ports.{Port}
use Rattle.ops_meaning.specs.Acting.{Setting}
use Rattle.ops_meaning.specs.Effects.{Effect, Failure, writes, and_then, PendingOn, PerformsOn, of_ending}
use Rattle.ops_meaning.specs.Running.{Session as Meant, begun, in_force, is_exit, command_done, commands_done, session_of}
use Rattle.ops_meaning.proofs.InletLemmas.{FailsOn, leaves_on, fails_on, on_err, short_behind, pending_on_start, pending_on_last, pending_on_step, pending_on_stop}
use Rattle.act_phase.specs.Outcomes.{setting_of}
use Rattle.live_rules.specs.Moves.{IsWith}
use Rattle.session.proofs.Seen.{does_silently}

-- the commands that are left begin with this one
module _ (s : Setting) (limit column : ℕ) (rest after : List Command) (x : Command) (k : Meant) (is : rest ≡ x ∷ after) where
  abbrev goes_on : Effect Ending Meant
  goes_on = and_then column (command_done (in_force s k) limit column x k) (λ next k. commands_done s limit next after k)

  first : commands_done s limit column rest k ≡ cond (is_exit x) (writes [] k) goes_on
  first = ap (λ cs. commands_done s limit column cs k) is

  -- it is done first
  here : is_exit x ≡ false → commands_done s limit column rest k ≡ goes_on
  here goes = first ∙ ap (λ b. cond b (writes [] k) goes_on) goes

  -- where that is `exit`, no more is done
  pub exits : is_exit x ≡ true → commands_done s limit column rest k ≡ writes [] k
  exits ends = first ∙ ap (λ b. cond b (writes [] k) goes_on) ends

-- where no command is left, no more is done
pub none_left : (s : Setting) (limit column : ℕ) (rest : List Command) (k : Meant) → rest ≡ [] → commands_done s limit column rest k ≡ writes [] k
none_left s limit column rest k none = ap (λ cs. commands_done s limit column cs k) none

-- all commands are still to be done
pub commands_begin : (s : Setting) (limit : ℕ) (commands items : List Command) (k : Coming → Meant) (i : Inlet) (a : Port) → IsTrue a.out.whole → items ≡ commands
    → PendingOn i i a a (λ z. commands_done s limit a.out.column commands (k z)) (λ z. commands_done s limit a.out.column items (k z))
commands_begin s limit commands items k i a w all =
    let whole : Coming → Effect Ending Meant = λ z. commands_done s limit a.out.column commands (k z) in
    let P : List Command → Type 0 = λ cs. PendingOn i i a a whole (λ z. commands_done s limit a.out.column cs (k z)) in
    subst P (sym all) (pending_on_start i a whole w)

module _ {i j : Inlet} {a b : Port} {whole : Coming → Effect Ending Meant} (s : Setting) (limit : ℕ) (left after : List Command) (m : Coming → Meant)
    (p : PendingOn i j a b whole (λ z. commands_done s limit b.out.column left (m z))) where
  abbrev rest : Coming → Effect Ending Meant
  rest z = commands_done s limit b.out.column left (m z)

  -- no more is done
  pub commands_end : {X : Type 0} {view : X → Coming → Meant} (x : X) → ((z : Coming) → rest z ≡ writes [] (view x z)) → IsTrue b.out.whole → (let r : Result X Ending = Ok x in PerformsOn view of_ending r i j a b whole)
  commands_end {view = view} x is w =
      pending_on_last i j j a b b whole rest p view of_ending (Ok x) (does_silently view of_ending x j b rest w is)

  module _ (x : Command) (is : left ≡ x ∷ after) (goes : is_exit x ≡ false) (at : Setting) (in_it : (z : Coming) → at ≡ in_force s (m z)) where
    abbrev done : Coming → Effect Ending Meant
    done z = command_done at limit b.out.column x (m z)

    here_is : (z : Coming) → rest z ≡ and_then b.out.column (done z) (λ next k. commands_done s limit next after k)
    here_is z =
        here s limit b.out.column left after x (m z) is goes
        ∙ ap (λ t. and_then b.out.column (command_done t limit b.out.column x (m z)) (λ next k. commands_done s limit next after k)) (sym (in_it z))

    -- one command more
    pub one_command : {k : Inlet} {c : Port} {Y : Type 0} {view : Y → Coming → Meant} (y : Y) → k.faults ≡ j.faults → (let r : Result Y Ending = Ok y in PerformsOn view of_ending r j k b c done)
        → PendingOn i k a c whole (λ z. commands_done s limit c.out.column after (view y z))
    one_command {k} {c} {view = view} y steady q =
        pending_on_step i j k a b c whole rest p (view y) done (λ next k. commands_done s limit next after k) here_is (leaves_on view of_ending y j k b c done steady q)

    -- a command that fails ends the session
    pub last_command : {k : Inlet} {c : Port} {X Y : Type 0} {view : Y → Coming → Meant} {seen : X → Coming → Meant} (f : Ending) → (let r : Result Y Ending = Err f in PerformsOn view of_ending r j k b c done)
        → (let r : Result X Ending = Err f in PerformsOn seen of_ending r i k a c whole)
    last_command {k} {c} {view = view} {seen = seen} f q =
        on_err seen of_ending f i k a c whole
        (pending_on_stop i j k a b c whole rest p (of_ending f) done (λ next k. commands_done s limit next after k) here_is (fails_on view of_ending f j k b c done q))

-- ---- a whole session

-- it does all commands from nothing
pub session_is : (s : Setting) (limit column : ℕ) (commands : List Command) (names : Spellings) (k : Coming → Meant) → column ≡ 0 → ((z : Coming) → k z ≡ begun commands s.rules names z)
    → (z : Coming) → commands_done s limit column commands (k z) ≡ session_of s limit commands names z
session_is s limit column commands names k zero is z =
    ap (λ n. commands_done s limit n commands (k z)) zero ∙ ap (commands_done s limit 0 commands) (is z)

-- so it does once its commands are taken from its program
pub session_taken : (old now : Program) (limit column : ℕ) (commands : List Command) (names : Spellings) (k : Coming → Meant) → IsWith old.rules [] old now → commands ≡ old.commands → column ≡ 0 → ((z : Coming) → k z ≡ begun commands now.rules names z)
    → (z : Coming) → commands_done (setting_of now 0) limit column commands (k z) ≡ session_of (setting_of old 0) limit old.commands names z
session_taken old now limit column commands names k w all zero is z =
    let by : List Class → List Rule → List ℕ → List Rule → Setting = λ cs ts t rs. record { classes = cs; rules = rs; templates = ts; text = t; watch = 0 } in
    ap (λ s. commands_done s limit column commands (k z))
    (ap (λ cs. by cs now.templates now.text now.rules) w.classes ∙ ap (λ ts. by old.classes ts now.text now.rules) w.templates ∙ ap (λ t. by old.classes old.templates t now.rules) w.text
    ∙ ap (by old.classes old.templates old.text) w.rules_are)
    ∙ ap (λ cs. commands_done (setting_of old 0) limit column cs (k z)) all
    ∙ session_is (setting_of old 0) limit column old.commands names k zero (λ z. is z ∙ ap (λ rs. begun commands rs names z) w.rules_are ∙ ap (λ cs. begun cs old.rules names z) all) z

-- Memory ran out after all its commands.
pub short_at_end : {X Y : Type 0} (view : X → Coming → Meant) (seen : Y → Coming → Meant) (f : Ending) → f ≡ ending.OutOfMemory → (x : X) (i j : Inlet) (a b : Port) (e whole : Coming → Effect Ending Meant) → ((z : Coming) → e z ≡ whole z) → j.faults ≡ i.faults
    → (let r : Result X Ending = Ok x in PerformsOn view of_ending r i j a b e) → (let r : Result Y Ending = Err f in PerformsOn seen of_ending r i j a b whole)
short_at_end view seen f is x i j a b e whole same steady p =
    let P : Failure Ending → Type 0 = λ g. FailsOn g i j a b whole in
    on_err seen of_ending f i j a b whole
    (subst P (sym (ap of_ending is)) (short_behind (view x) i j a b e whole (λ z. ap (λ (w : Effect Ending Meant). w.bytes) (same z)) (leaves_on view of_ending x i j a b e steady p)))
