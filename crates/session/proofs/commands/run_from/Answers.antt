use Rattle.std.proofs.Common.{ap, refl, subst, sym}
use Rattle.std.proofs.lemmas.Result.{err_from_is_err_and}
use Rattle.ops_meaning.specs.Effects.{of_ending}
use Rattle.ops_meaning.proofs.NamesKept.{names_then}
use Rattle.act_phase.specs.Outcomes.{setting_of}
use Rattle.session.specs.Trailing.{IsNamedFrom, ready_with, trail_by}
use Rattle.session.proofs.RunLemmas.{given_is, trail_ready}
use Rattle.session.proofs.Seen.{runs_short, seen_err, seen_ok}
use Rattle.session.proofs.Trailed.{trailed}
use Rattle.session.proofs.UnderWay.{state_is}
use Rattle.session.proofs.commands.run_from.Goals as goal

pub returns-in_err-session-clause-performs : goal.returns-in_err-session-clause-performs
returns-in_err-session-clause-performs g c =
    let p = err_from_is_err_and c.from_residual.result c.from_residual.ensures.1 in
    rw p.1 (runs_short _ of_ending p.0 _ _ _ (ap of_ending p.2) c.requires.whole)

pub run-requires-clause-of : goal.run-requires-clause-of
run-requires-clause-of g c =
    state_is g.B.M.Matcher.stored g.B.M.Matcher.stands_for c.args.live.now.program.rules c.in_ok-session.session c.in_ok-session.ensures.under_way c.in_ok-session.ensures.current

pub run-requires-clause-trail : goal.run-requires-clause-trail
run-requires-clause-trail g c =
    let now = record c.args.undoable { session = c.in_ok-session.session } in
    trail_ready g.B.M.Matcher.stored c.args.live.now.program.rules g.B.M.Matcher.stands_for c.args.undoable now c.requires.undoable refl c.in_ok-session.ensures.none_waits c.in_ok-session.ensures.current
    (λ n z. ap (trailed (trail_by n c.args.undoable.trail)) (c.in_ok-session.ensures.meant n z))

pub returns-in_err-undoable-clause-performs : goal.returns-in_err-undoable-clause-performs
returns-in_err-undoable-clause-performs g c =
    let p = err_from_is_err_and c.from_residual-in_err-undoable.result c.from_residual-in_err-undoable.ensures.1 in
    rw (p.1, p.2)
    (seen_err (λ u z. ready_with g.B.M.Matcher.stored c.run.new.live.program.rules u c.run.new.names z) _ of_ending _ _ _ _ _ _
    (given_is g.B.M.Matcher.stored c.args.live.now.program.rules (setting_of c.args.live.now.program 0) c.args.context.now.limit c.args.out.now.column c.args.count c.args.undoable (record { session = c.in_ok-session.session; trail = c.args.undoable.trail }) c.args.names.now c.in_ok-session.ensures.none_waits c.in_ok-session.ensures.current
    (λ z. ap (trailed (trail_by c.args.names.now c.args.undoable.trail)) (c.in_ok-session.ensures.meant c.args.names.now z)))
    c.in_err-undoable.field-0.0 c.in_err-undoable.ensures.performs)

pub returns-clause-performs : goal.returns-clause-performs
returns-clause-performs g c =
    seen_ok (λ u z. ready_with g.B.M.Matcher.stored c.run.new.live.program.rules u c.run.new.names z) _ of_ending _ _ _ _ _ _
    (given_is g.B.M.Matcher.stored c.args.live.now.program.rules (setting_of c.args.live.now.program 0) c.args.context.now.limit c.args.out.now.column c.args.count c.args.undoable (record { session = c.in_ok-session.session; trail = c.args.undoable.trail }) c.args.names.now c.in_ok-session.ensures.none_waits c.in_ok-session.ensures.current
    (λ z. ap (trailed (trail_by c.args.names.now c.args.undoable.trail)) (c.in_ok-session.ensures.meant c.args.names.now z)))
    c.in_ok-undoable.undoable _ (λ z. c.after_run.ensures.meant c.run.new.live.program.rules c.run.new.names z)
    c.in_ok-undoable.ensures.reads c.in_ok-undoable.ensures.performs

pub returns-clause-undoable : goal.returns-clause-undoable
returns-clause-undoable g c = c.after_run.ensures.undoable c.run.new.live.program.rules c.in_ok-undoable.ensures.of c.in_ok-undoable.ensures.trail

pub returns-in_err-undoable-clause-names : goal.returns-in_err-undoable-clause-names
returns-in_err-undoable-clause-names g c = λ first keeps h.
    names_then first c.args.names.now c.run.new.names keeps c.in_err-undoable.ensures.names

pub returns-clause-named : goal.returns-clause-named
returns-clause-named g c = λ least some h. subst (IsNamedFrom least c.run.new.names) (sym c.after_run.ensures.trail) (c.in_ok-undoable.ensures.named least h)

pub returns-clause-names : goal.returns-clause-names
returns-clause-names g c = λ first keeps h. names_then first c.args.names.now c.run.new.names keeps c.in_ok-undoable.ensures.names
