use Rattle.std.proofs.Common.{◌∙◌, ap, cond}
use Rattle.std.proofs.lemmas.Result.{err_from_is_err_and}
use Rattle.act_phase.specs.Outcomes.{setting_of}
use Rattle.session.proofs.Trailed.{emptied_by, plain_err, plain_ok}
use Rattle.session.proofs.plain_commands.do_plain.Goals as goal

pub returns-in_err-session : goal.returns-in_err-session
returns-in_err-session g c =
    let p = err_from_is_err_and c.from_residual.result c.from_residual.ensures.1 in
    rw (p.1, p.2)
    (plain_err g.B.M.Matcher.stored g.B.M.Matcher.stands_for c.args.context.now.program.now.rules c.args.names.now (setting_of c.args.context.now.program.now 0) c.args.context.now.limit c.args.command.now c.requires.plain c.args.undoable c.requires.undoable _ _
    c.in_err-session.field-0.0 c.in_err-session.ensures)

pub returns : goal.returns
returns g c =
    plain_ok g.B.M.Matcher.stored g.B.M.Matcher.stands_for c.args.context.now.program.now.rules c.args.names.now (setting_of c.args.context.now.program.now 0) c.args.context.now.limit c.args.command.now c.requires.plain c.args.undoable c.requires.undoable _ _
    c.in_ok-session.session c.emptied_if-trail.result (c.emptied_if-trail.ensures ∙ ap (λ b. cond b (emptied_by c.args.undoable.trail) c.args.undoable.trail) c.empties.ensures) c.in_ok-session.ensures
