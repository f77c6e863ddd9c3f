use Rattle.std.proofs.lemmas.Result.{err_from_is_err_and}
use Rattle.act_phase.specs.Outcomes.{setting_of}
use Rattle.session.proofs.Deeds.{does_behind, does_refused, does_all}
use Rattle.session.proofs.Phases.{phase_bytes, phase_is}
use Rattle.session.proofs.memory_commands.phase.Goals as goal

pub returns-in_err-tell : goal.returns-in_err-tell
returns-in_err-tell g c =
    let p = err_from_is_err_and c.from_residual.result c.from_residual.ensures.1 in
    rw p.1
    (does_refused g.M.Matcher.stored g.M.Matcher.stands_for c.args.context.now.program.now.rules c.args.names.now c.args.session _ p.0 _ _ _ p.2
    (phase_bytes g.M.Matcher.stored (setting_of c.args.context.now.program.now 0) c.args.out.now.column c.args.names.now c.args.session c.requires.settled c.args.changes.now) (rw c.store.ensures at c.in_err-tell.ensures))

pub returns-in_err-change : goal.returns-in_err-change
returns-in_err-change g c =
    let p = err_from_is_err_and c.from_residual-in_err-change.result c.from_residual-in_err-change.ensures.1 in
    rw p.1
    (does_behind g.M.Matcher.stored g.M.Matcher.stands_for c.args.context.now.program.now.rules c.args.names.now c.args.session _ p.0 _ _ _ p.2
    (phase_bytes g.M.Matcher.stored (setting_of c.args.context.now.program.now 0) c.args.out.now.column c.args.names.now c.args.session c.requires.settled c.args.changes.now) (rw c.store.ensures at c.in_ok-tell.ensures))

pub returns : goal.returns
returns g c =
    does_all g.M.Matcher.stored g.M.Matcher.stands_for c.args.context.now.program.now.rules c.args.names.now c.args.session _ c.in_ok-change.field-0 _ _ _
    (phase_is g.M.Matcher.stored (setting_of c.args.context.now.program.now 0) c.args.out.now.column c.args.names.now c.args.session c.requires.settled c.args.changes.now c.in_ok-change.field-0 c.in_ok-change.ensures.meant)
    (rw c.store.ensures at c.in_ok-tell.ensures) c.in_ok-change.ensures.under_way
