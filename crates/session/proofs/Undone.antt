-- What `back` performs.
use Rattle.std.proofs.Common.{◌≡◌, ◌∙◌, ap, sym, subst, refl, ℕ, ◌<◌, List, [], length, Option, Ok, IsTrue}
use Rattle.ops_base.specs.declared.endings.Ending.{Ending}
use Rattle.ops_base.specs.declared.endings.Ending.TheVariants as ending
use Rattle.ops_base.specs.declared.rules.Rule.{Rule}
use Rattle.ops_base.specs.Names.{Spellings}
use Rattle.ops_io.specs.Coming.{Coming}
use Rattle.ops_io.specs.Ports.{Port, Put, Stopped}
use Rattle.ops_io.specs.declared.stop.Stop.TheVariants as stop
use Rattle.ops_meaning.specs.Effects.{Effect, Fails, of_ending, writes}
use Rattle.ops_meaning.specs.Layout.{kept_line, line_at}
use Rattle.ops_meaning.specs.Running.{Session as Meant, back_given}
use Rattle.ops_meaning.proofs.EffectLemmas.{fails_short}
use Rattle.cycle.specs.States.{no_names, no_input}
use Rattle.work_store.specs.Stored.{Stored}
use Rattle.back_trail.specs.Trails.{Trailed}
use Rattle.session.specs.Courses.{IsUnderWay, course_of, meant_by}
use Rattle.session.specs.Trailing.{IsTrailOf, IsUndoable, meant_with, standing_of, states_of, trail_by}
use Rattle.session.specs.declared.session.Session.{Session}
use Rattle.session.specs.declared.undoable.Undoable.{Undoable}
use Rattle.session.proofs.Backs.{few_given, kept_long, none_given}
use Rattle.session.proofs.Lines.{one_line}
use Rattle.session.proofs.Trailed.{trail_moved, trailed}

-- ---- a call by itself

-- memory runs out before anything is put
pub back_short : {S : Type 0} (f : Ending) (a : Port) (e : Effect Ending S) → f ≡ ending.OutOfMemory → IsTrue a.out.whole → Fails (of_ending f) a a e
back_short f a e is w = subst (λ f. Fails (of_ending f) a a e) (sym is) (fails_short a e w)

-- the sink refuses
pub back_refused : {S : Type 0} (f : Ending) (a b : Port) (e : Effect Ending S) (bytes : List ℕ) (s : S) → f ≡ ending.WriteFault → e ≡ writes bytes s → Stopped stop.Write a b bytes → Fails (of_ending f) a b e
back_refused {S = S} f a b e bytes s is all stopped =
    let P : Effect Ending S → Type 0 = λ e. Stopped stop.Write a b e.bytes in
    subst (λ f. Fails (of_ending f) a b e) (sym is) (subst P (sym all) stopped)

-- all is put
pub back_puts : {S : Type 0} (k : S) (a b : Port) (e : Effect Ending S) (bytes : List ℕ) → e ≡ writes bytes k → Put a b bytes → (e.outcome ≡ Ok k) × Put a b e.bytes
back_puts {S = S} k a b e bytes is put =
    let P : Effect Ending S → Type 0 = λ e. (e.outcome ≡ Ok k) × Put a b e.bytes in subst P (sym is) (refl, put)

-- ---- where nothing is undone

module _ {M H : Type 0} (stored : M → Stored) (rules : List Rule) (before now : Session M H) (trail : Option Trailed) (names : Spellings) (column count : ℕ) (same : (z : Coming) → meant_by stored rules now names z ≡ meant_by stored rules before names z) where
  abbrev come : Coming → Meant
  come z = meant_with stored rules (record { session = before; trail = trail }) names z

  abbrev come_now : Coming → Meant
  come_now z = meant_with stored rules (record { session = now; trail = trail }) names z

  now_same : (z : Coming) → come_now z ≡ come z
  now_same z = ap (trailed (trail_by names trail)) (same z)

  -- fewer are kept
  pub few_effect : (kept : ℕ) → kept ≡ length (states_of trail) → kept < count → (z : Coming) → back_given column count (come z) ≡ writes (line_at column (kept_line kept)) (come_now z)
  few_effect kept is few z =
      few_given column count (come z) kept (kept_long names trail ∙ sym is) few
      ∙ ap (λ bytes. let e : Effect Ending Meant = writes bytes (come z) in e) (one_line column (kept_line kept))
      ∙ ap (λ k. let e : Effect Ending Meant = writes (line_at column (kept_line kept)) k in e) (sym (now_same z))

  -- none is to be undone
  pub none_effect : (left : Option Trailed) → trail ≡ left → count ≡ 0 → (z : Coming) → back_given column count (come z) ≡ writes [] (meant_with stored rules (record { session = now; trail = left }) names z)
  none_effect left is none z =
      ap (λ n. back_given column n (come z)) none ∙ none_given column (come z)
      ∙ ap (λ k. let e : Effect Ending Meant = writes [] k in e) (sym (now_same z) ∙ ap (λ (t : Option Trailed). meant_with stored rules (record { session = now; trail = t }) names z) is)

-- a session with a trail is made ready
pub now_undoable : {M H : Type 0} (stored : M → Stored) (stands_for : M → List Rule → Type 0) (rules : List Rule) (before : Undoable M H) (now : Session M H) (left : Option Trailed) → before.trail ≡ left → IsUndoable stored stands_for rules before → IsUnderWay stored stands_for rules now
    → meant_by stored rules now no_names no_input ≡ meant_by stored rules before.session no_names no_input → IsUndoable stored stands_for rules (record { session = now; trail = left })
now_undoable stored stands_for rules before now left is u p same = record {
  under_way = p;
  trail = subst (IsTrailOf rules (course_of stored now no_names no_input)) is
      (trail_moved rules (course_of stored before.session no_names no_input) (course_of stored now no_names no_input) before.trail (ap (λ (k : Meant). standing_of k.course) same) u.trail);
}
