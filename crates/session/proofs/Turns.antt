-- One turn of a run.
use Rattle.std.proofs.Common.{◌≡◌, ◌∙◌, ap, sym, ◌-◌, ◌<◌, ℕ, zero, suc, List, Option, Some, None, Result, Ok, Err, refl, subst, arith}
use Rattle.ops_base.specs.declared.rules.Inst.{Inst}
use Rattle.ops_base.specs.declared.endings.Ending.{Ending}
use Rattle.ops_base.specs.declared.endings.Ending.TheVariants as ending
use Rattle.ops_io.specs.Coming.{Coming, Inlet, preceded_by}
use Rattle.ops_io.specs.Output.{column_after}
use Rattle.ops_io.specs.Ports.{Port}
use Rattle.ops_meaning.specs.Acting.{Setting}
use Rattle.ops_meaning.specs.Effects.{Effect, writes, ends_with, and_then, going_on, told_as, outcome_as, Failure, OfPort, OfEffect, Fails, failure_as, PendingOn, Performs, PerformsOn, of_ending}
use Rattle.ops_meaning.specs.Layout.{line_at, no_more_line}
use Rattle.ops_meaning.specs.Running.{Session, Turned, LastFiring, firing, in_force, next_to_fire, line_of_pause, one_less, last_of, turned_on, run_on}
use Rattle.ops_meaning.proofs.EffectLemmas.{Leaves, told_leaves, told_fails}
use Rattle.ops_meaning.proofs.InletLemmas.{performs_apart, leaves_on, fails_on, on_ok, on_err, pending_on_step, pending_on_stop, pending_on_last}
use Rattle.session.specs.Turning.{TurnLeft, turn_left, turn_fired}

-- what is left is put another way, and then the next follows
told_then : {E S T U : Type 0} (column : ℕ) (left : S → T) (e : Effect E S) (next : ℕ → T → Effect E U) → and_then column e (λ n s. next n (left s)) ≡ and_then column (told_as left (λ f. f) e) next
told_then {E} {S} {T} {U} column left e next = by e.bytes e.outcome
  where
    by : (bytes : List ℕ) (o : Result S E) → going_on bytes o (λ s. next (column_after column bytes) (left s)) ≡ going_on bytes (outcome_as left (λ f. f) o) (next (column_after column bytes))
    by bytes (Ok s) = refl
    by bytes (Err f) = refl

module _ (s : Setting) (column : ℕ) (last : Option LastFiring) (count : Option ℕ) (k : Session) where
  abbrev pauses_with : Option (List ℕ) → Type 0
  pauses_with line = line_of_pause k.course.names k.rules k.breaks last count ≡ line

  run_paused : (left : ℕ) (text : List ℕ) → pauses_with (Some text) → run_on left s column last count k ≡ writes (line_at column text) k
  run_paused zero text h = rw h refl
  run_paused (suc left) text h = rw h refl

  module _ (next : Option Inst) (goes : pauses_with None) (is : next ≡ next_to_fire k.rules k.course) where
    run_over : (left : ℕ) → next ≡ None → run_on left s column last count k ≡ writes (line_at column no_more_line) k
    run_over zero o = let e = sym is ∙ o in rw (goes, e) refl
    run_over (suc left) o = let e = sym is ∙ o in rw (goes, e) refl

    run_limited : (left : ℕ) (i : Inst) → left ≡ 0 → next ≡ Some i → run_on left s column last count k ≡ ends_with (ending.Limit k.course.firings)
    run_limited left i none o =
        let e = sym is ∙ o in ap (λ l. run_on l s column last count k) none ∙ rw (goes, e) refl

    run_fires : (left : ℕ) (i : Inst) → 0 < left → next ≡ Some i
        → run_on left s column last count k ≡ and_then column (turn_fired s column i k) (λ after (t : TurnLeft). run_on (left - 1) s after t.last (one_less count) t.session)
    run_fires left i some o =
        let e = sym is ∙ o in
        let l : left ≡ suc (left - 1) = omega arith in
        let once = told_then column (turn_left i k) (firing (in_force s k) column i k.course) (λ after (t : TurnLeft). run_on (left - 1) s after t.last (one_less count) t.session) in
        ap (λ n. run_on n s column last count k) l ∙ rw (goes, e) once

module _ {i j : Inlet} {a b : Port} {whole : Coming → Effect Ending Session} (left : ℕ) (s : Setting) (last : Option LastFiring) (count : Option ℕ) (k : Coming → Session)
    (p : PendingOn i j a b whole (λ z. run_on left s b.out.column last count (k z))) where
  -- what is left of the run performs the whole
  ends : {X : Type 0} (view : X → Coming → Session) (r : Result X Ending) (c : Port) (e : Coming → Effect Ending Session) → ((z : Coming) → run_on left s b.out.column last count (k z) ≡ e z) → ((z : Coming) → Performs (λ x. view x z) of_ending r b c (e z)) → PerformsOn view of_ending r i j a c whole
  ends view r c e is q =
      pending_on_last i j j a b c whole (λ z. run_on left s b.out.column last count (k z)) p view of_ending r
      (performs_apart view of_ending r j b c _ (λ z. let P : Effect Ending Session → Type 0 = Performs (λ x. view x z) of_ending r b c in subst P (sym (is z)) (q z)))

  abbrev PausesWith : Option (List ℕ) → Type 0
  PausesWith line = (z : Coming) → line_of_pause (k z).course.names (k z).rules (k z).breaks last count ≡ line

  -- the run ends whatever is next
  pub ends_paused : {X : Type 0} {view : X → Coming → Session} {r : Result X Ending} {c : Port} (text : List ℕ) → PausesWith (Some text)
      → ((z : Coming) → Performs (λ x. view x z) of_ending r b c (writes (line_at b.out.column text) (k z))) → PerformsOn view of_ending r i j a c whole
  ends_paused {view = view} {r = r} {c = c} text h q = ends view r c _ (λ z. run_paused s b.out.column last count (k z) left text (h z)) q

  module _ (next : Option Inst) (goes : PausesWith None) (is : (z : Coming) → next ≡ next_to_fire (k z).rules (k z).course) where
    -- the run ends where nothing is left to fire
    pub ends_over : {X : Type 0} {view : X → Coming → Session} {r : Result X Ending} {c : Port} → next ≡ None
        → ((z : Coming) → Performs (λ x. view x z) of_ending r b c (writes (line_at b.out.column no_more_line) (k z))) → PerformsOn view of_ending r i j a c whole
    ends_over {view = view} {r = r} {c = c} o q = ends view r c _ (λ z. run_over s b.out.column last count (k z) next (goes z) (is z) left o) q

    -- the session ends where it has made its last firing
    pub ends_limited : {X : Type 0} {view : X → Coming → Session} {r : Result X Ending} {c : Port} (x : Inst) → next ≡ Some x → left ≡ 0
        → ((z : Coming) → Performs (λ x. view x z) of_ending r b c (ends_with (ending.Limit (k z).course.firings))) → PerformsOn view of_ending r i j a c whole
    ends_limited {view = view} {r = r} {c = c} x o none q =
        ends view r c _ (λ z. run_limited s b.out.column last count (k z) next (goes z) (is z) left x none o) q

    module _ (x : Inst) (some : 0 < left) (o : next ≡ Some x) where
      abbrev goes_on : ℕ → TurnLeft → Effect Ending Session
      goes_on after t = run_on (left - 1) s after t.last (one_less count) t.session

      fires_so : (z : Coming) → run_on left s b.out.column last count (k z) ≡ and_then b.out.column (turn_fired s b.out.column x (k z)) goes_on
      fires_so z = run_fires s b.out.column last count (k z) next (goes z) (is z) left x some o

      module _ {Y : Type 0} {turned : Y → Coming → TurnLeft} {l : Inlet} {c : Port} where
        -- a firing that fails ends the run
        pub ends_firing : {X : Type 0} {view : X → Coming → Session} (f : Ending) → (let r : Result Y Ending = Err f in PerformsOn turned of_ending r j l b c (λ z. turn_fired s b.out.column x (k z))) → (let r : Result X Ending = Err f in PerformsOn view of_ending r i l a c whole)
        ends_firing {view = view} f q =
            on_err view of_ending f i l a c whole
            (pending_on_stop i j l a b c whole (λ z. run_on left s b.out.column last count (k z)) p (of_ending f) (λ z. turn_fired s b.out.column x (k z)) goes_on fires_so
            (fails_on turned of_ending f j l b c (λ z. turn_fired s b.out.column x (k z)) q))

        -- one firing more
        pub one_firing : (t : Y) (fewer : Option ℕ) → fewer ≡ one_less count → l.faults ≡ j.faults → (let r : Result Y Ending = Ok t in PerformsOn turned of_ending r j l b c (λ z. turn_fired s b.out.column x (k z))) → PendingOn i l a c whole (λ z. run_on (left - 1) s c.out.column (turned t z).last fewer (turned t z).session)
        one_firing t fewer less steady q =
            let P : Option ℕ → Type 0 = λ n. PendingOn i l a c whole (λ z. run_on (left - 1) s c.out.column (turned t z).last n (turned t z).session) in
            subst P (sym less)
            (pending_on_step i j l a b c whole (λ z. run_on left s b.out.column last count (k z)) p (turned t) (λ z. turn_fired s b.out.column x (k z)) goes_on fires_so
            (leaves_on turned of_ending t j l b c (λ z. turn_fired s b.out.column x (k z)) steady q))

-- ---- a turn, by its firing

failure_same : {E : Type 0} (f : Failure E) → failure_as (λ e. e) f ≡ f
failure_same (OfPort why) = refl
failure_same (OfEffect e) = refl

-- its firing, by what is still to come
abbrev firing_after : Setting → ℕ → Inst → (Coming → Session) → Coming → Effect Ending Turned
firing_after s column x k z = firing (in_force s (k z)) column x (k z).course

module _ {X : Type 0} {i j : Inlet} {a b : Port} (s : Setting) (column : ℕ) (x : Inst) (k : Coming → Session) (turned : X → Coming → Turned) where
  -- what a firing leaves is what the turn leaves
  pub turn_ok : {Y : Type 0} (view : Y → Coming → TurnLeft) (r : X) (y : Y) → j.faults ≡ i.faults → ((z w : Coming) → turn_left x (k w) (turned r z) ≡ view y z)
      → (let o : Result X Ending = Ok r in PerformsOn turned of_ending o i j a b (firing_after s column x k)) → (let o : Result Y Ending = Ok y in PerformsOn view of_ending o i j a b (λ z. turn_fired s column x (k z)))
  turn_ok view r y steady same p =
      let left = leaves_on turned of_ending r i j a b (firing_after s column x k) steady p in
      on_ok view of_ending y i j a b (λ z. turn_fired s column x (k z)) (record {
        taken = left.taken;
        took = left.took;
        steady = left.steady;
        leaves = λ z may.
            let w = preceded_by left.taken z in
            let P : TurnLeft → Type 0 = λ t. Leaves t a b (turn_fired s column x (k w)) in
            subst P (same z w) (told_leaves (turn_left x (k w)) (λ f. f) (turned r z) a b ((firing_after s column x k) w) (left.leaves z may));
      })

  -- a firing that fails is a turn that fails
  pub turn_err : {Y : Type 0} (view : Y → Coming → TurnLeft) (f : Ending) → (let o : Result X Ending = Err f in PerformsOn turned of_ending o i j a b (firing_after s column x k)) → (let o : Result Y Ending = Err f in PerformsOn view of_ending o i j a b (λ z. turn_fired s column x (k z)))
  turn_err view f p =
      let left = fails_on turned of_ending f i j a b (firing_after s column x k) p in
      on_err view of_ending f i j a b (λ z. turn_fired s column x (k z)) (record {
        taken = left.taken;
        took = left.took;
        fails = λ z after.
            let w = preceded_by left.taken z in
            let P : Failure Ending → Type 0 = λ g. Fails g a b (turn_fired s column x (k w)) in
            subst P (failure_same (of_ending f)) (told_fails (turn_left x (k w)) (λ f. f) (of_ending f) a b ((firing_after s column x k) w) (left.fails z after));
      })
