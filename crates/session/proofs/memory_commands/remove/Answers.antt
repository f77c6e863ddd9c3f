use Rattle.std.proofs.Common.{refl, ◌∙◌, ap, sym, subst, List}
use Rattle.std.proofs.lemmas.Result.{err_from_is_err_and}
use Rattle.ops_base.specs.declared.elements.Change.{Change}
use Rattle.ops_base.specs.WorkingMemory.{Lawful}
use Rattle.ops_meaning.specs.Running.{removals}
use Rattle.ops_meaning.proofs.Lawful.{removals_lawful, removals_last}
use Rattle.act_phase.specs.Outcomes.{setting_of}
use Rattle.work_store.specs.Stored.{Stored}
use Rattle.session.specs.Courses.{meant_by}
use Rattle.session.specs.Traces.{AreToldBy}
use Rattle.session.proofs.Deeds.{does_short, does_as}
use Rattle.session.proofs.Phases.{phase_as}
use Rattle.session.proofs.Told.{removed_told, removals_remove}
use Rattle.session.proofs.UnderWay.{all_stored}
use Rattle.session.proofs.memory_commands.remove.Goals as goal

pub returns-in_err-changes : goal.returns-in_err-changes
returns-in_err-changes g c =
    let p = err_from_is_err_and c.from_residual.result c.from_residual.ensures.1 in
    rw p.1 (does_short g.M.Matcher.stored g.M.Matcher.stands_for c.args.context.now.program.now.rules c.args.names.now c.args.session _ p.0 _ p.2 c.requires.whole)

pub phase-requires-clause-lawful : goal.phase-requires-clause-lawful
phase-requires-clause-lawful g c =
    let is = c.as_slice-2.ensures ∙ c.in_ok-changes.ensures ∙ ap (λ (x : Stored). removals x.elements c.as_slice.result.now) c.store.ensures ∙ ap (removals (g.M.Matcher.stored c.args.session.state.matcher).elements) c.as_slice.ensures in
    let P : List Change → Type 0 = Lawful (g.M.Matcher.stored c.args.session.state.matcher).elements (g.M.Matcher.stored c.args.session.state.matcher).last in
    subst P (sym is) (removals_lawful (g.M.Matcher.stored c.args.session.state.matcher).elements (g.M.Matcher.stored c.args.session.state.matcher).last c.args.tags.now)

pub phase-requires-clause-told : goal.phase-requires-clause-told
phase-requires-clause-told g c =
    let is = c.as_slice-2.ensures ∙ c.in_ok-changes.ensures ∙ ap (λ (x : Stored). removals x.elements c.as_slice.result.now) c.store.ensures ∙ ap (removals (g.M.Matcher.stored c.args.session.state.matcher).elements) c.as_slice.ensures in
    let P : List Change → Type 0 = AreToldBy (g.M.Matcher.stored c.args.session.state.matcher).elements in
    subst P (sym is) (removed_told (g.M.Matcher.stored c.args.session.state.matcher).elements (g.M.Matcher.stored c.args.session.state.matcher).last (removals (g.M.Matcher.stored c.args.session.state.matcher).elements c.args.tags.now) (removals_remove (g.M.Matcher.stored c.args.session.state.matcher).elements c.args.tags.now) (removals_lawful (g.M.Matcher.stored c.args.session.state.matcher).elements (g.M.Matcher.stored c.args.session.state.matcher).last c.args.tags.now))

pub returns : goal.returns
returns g c =
    let is = c.as_slice-2.ensures ∙ c.in_ok-changes.ensures ∙ ap (λ (x : Stored). removals x.elements c.as_slice.result.now) c.store.ensures ∙ ap (removals (g.M.Matcher.stored c.args.session.state.matcher).elements) c.as_slice.ensures in
    does_as g.M.Matcher.stored g.M.Matcher.stands_for c.args.context.now.program.now.rules c.args.names.now c.args.session c.args.session _ _ _ _ _ (λ z. refl)
    (λ z. phase_as g.M.Matcher.stored (setting_of c.args.context.now.program.now 0) c.args.out.now.column c.args.names.now c.args.session c.requires.settled _ (λ k. removals k.course.wm c.args.tags.now) z
    (is ∙ ap (λ wm. removals wm c.args.tags.now) (all_stored g.M.Matcher.stored c.args.session c.args.names.now z c.requires.settled))
    (removals_last (meant_by g.M.Matcher.stored c.args.context.now.program.now.rules c.args.session c.args.names.now z).course.wm (meant_by g.M.Matcher.stored c.args.context.now.program.now.rules c.args.session c.args.names.now z).course.last c.args.tags.now))
    c.phase.ensures
