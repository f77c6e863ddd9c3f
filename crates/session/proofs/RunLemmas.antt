-- A run as a command: what it leaves beside its state and its trail stays as it was.
use Rattle.std.proofs.Common.{◌≡◌, ◌∙◌, ap, sym, subst, true, ℕ, [], List, Option, None}
use Rattle.ops_base.specs.ConflictSet.{conflict_set}
use Rattle.ops_base.specs.Names.{Spellings}
use Rattle.ops_base.specs.WorkingMemory.{Lawful, last_after}
use Rattle.ops_base.specs.declared.elements.Change.{Change}
use Rattle.ops_base.specs.declared.rules.Rule.{Rule}
use Rattle.ops_io.specs.Coming.{Coming}
use Rattle.ops_meaning.specs.Acting.{Setting}
use Rattle.ops_meaning.specs.Running.{Session as Meant, run_given}
use Rattle.cycle.specs.States.{alone, no_names, no_input, state_course}
use Rattle.live_rules.specs.Moves.{Places}
use Rattle.back_trail.specs.Trails.{Trailed}
use Rattle.work_store.specs.Stored.{Stored}
use Rattle.session.specs.Courses.{IsFollowed, IsOf, course_of}
use Rattle.session.specs.Trailing.{IsTrailOf, IsTrailed, IsUndoable, meant_with, ready_with, standing_of, trail_by}
use Rattle.session.specs.declared.session.Session.{Session}
use Rattle.session.specs.declared.undoable.Undoable.{Undoable}
use Rattle.session.proofs.Trailed.{trail_moved}
use Rattle.session.proofs.UnderWay.{nothing_waits}

pub same_watch : {M H : Type 0} (now after : Session M H) → after ≡ record now { state = after.state } → after.watch ≡ now.watch
same_watch {M} {H} now after e = ap (λ (u : Session M H). u.watch) e

module _ {M H : Type 0} (stored : M → Stored) (rules : List Rule) where
  -- where nothing waits and no number has changed, a session has come to this
  pub ready_is : (u : Undoable M H) (n : Spellings) (z : Coming) → u.session.pending ≡ [] → u.session.moved ≡ None → ready_with stored rules u n z ≡ meant_with stored rules u n z
  ready_is u n z none current =
      ap (λ m. let k : Meant = record { course = m; rules = rules; watch = u.session.watch; breaks = u.session.breaks; trail = trail_by n u.trail } in k) (nothing_waits stored u.session n z none current)

  -- The run is that of the command.
  module _ (at : Setting) (limit column : ℕ) (count : Option ℕ) (before now : Undoable M H) (names : Spellings) (none : now.session.pending ≡ []) (current : now.session.moved ≡ None)
      (same : (z : Coming) → meant_with stored rules now names z ≡ meant_with stored rules before names z) where
    pub given_is : (z : Coming) → run_given conflict_set at limit column count (ready_with stored rules now names z) ≡ run_given conflict_set at limit column count (meant_with stored rules before names z)
    given_is z = ap (run_given conflict_set at limit column count) (ready_is now names z none current ∙ same z)

  -- a run was begun, and this is the last tag
  module _ (u : Undoable M H) (none : u.session.pending ≡ []) (current : u.session.moved ≡ None) (tag : ℕ) where
    abbrev pub ran : Undoable M H
    ran = record u { session = record u.session { last_tag = tag; ran = true } }

    pub ran_is : (n : Spellings) (z : Coming) → ready_with stored rules u n z ≡ meant_with stored rules ran n z
    ran_is n z = ready_is u n z none current

    pub ran_undoable : (stands_for : M → List Rule → Type 0) → IsOf stands_for rules u.session.state → IsTrailed stored rules u → tag ≡ (stored u.session.state.matcher).last → IsUndoable stored stands_for rules ran
    ran_undoable stands_for of trail last = record {
      under_way = record {
        state = let P : Option Places → Type 0 = λ o. IsFollowed stands_for rules o u.session.state in subst P (sym current) of;
        unmarked = λ no. absurd (cc);
        none_waits = λ _. none;
        lawful = let P : List Change → Type 0 = Lawful (alone stored u.session.state).wm (alone stored u.session.state).last in subst P (sym none) tt;
        last = last ∙ ap (last_after (alone stored u.session.state).last) (sym none);
      };
      trail = trail_moved rules (state_course stored u.session.state no_names no_input) (course_of stored u.session no_names no_input) u.trail
          (ap standing_of (sym (nothing_waits stored u.session no_names no_input none current))) trail;
    }

  -- where the session is between two commands, its trail is that of its state
  pub trail_ready : (stands_for : M → List Rule → Type 0) (u now : Undoable M H) → IsUndoable stored stands_for rules u → now.trail ≡ u.trail → now.session.pending ≡ [] → now.session.moved ≡ None
      → ((n : Spellings) (z : Coming) → meant_with stored rules now n z ≡ meant_with stored rules u n z) → IsTrailed stored rules now
  trail_ready stands_for u now kept trail none current same =
      let course = ap (λ (k : Meant). standing_of k.course) (same no_names no_input) in
      let ready = ap standing_of (nothing_waits stored now.session no_names no_input none current) in
      let P : Option Trailed → Type 0 = λ t. IsTrailOf rules (state_course stored now.session.state no_names no_input) t in
      subst P (sym trail) (trail_moved rules (course_of stored u.session no_names no_input) (state_course stored now.session.state no_names no_input) u.trail (ready ∙ course) kept.trail)
