use Rattle.std.proofs.Common.{◌∙◌, ap, cond, length, nat_lt}
use Rattle.std.proofs.lemmas.Result.{err_from_is_err_and}
use Rattle.session.proofs.Excised.{excised_err, excised_ok}
use Rattle.session.proofs.Trailed.{emptied_by}
use Rattle.session.proofs.undoable.excise_late.Goals as goal

pub returns-in_err-session-clause-does : goal.returns-in_err-session-clause-does
returns-in_err-session-clause-does g c =
    let p = err_from_is_err_and c.from_residual.result c.from_residual.ensures.1 in
    rw (p.1, p.2)
    (excised_err g.M.Matcher.stored g.M.Matcher.stands_for c.args.live.now.program c.excise.new.live.program c.args.names.now c.args.given.now c.args.undoable _ _ c.in_err-session.field-0.0 c.in_err-session.ensures)

pub returns-clause-does : goal.returns-clause-does
returns-clause-does g c =
    excised_ok g.M.Matcher.stored g.M.Matcher.stands_for c.args.live.now.program c.excise.new.live.program c.args.names.now c.args.given.now c.args.undoable c.requires.undoable _ _ c.in_ok-session.session c.emptied_if-trail.result
    (c.emptied_if-trail.ensures
    ∙ ap (λ b. cond b (emptied_by c.args.undoable.trail) c.args.undoable.trail)
    (ap (λ n. nat_lt n c.len-before.result) c.len.ensures ∙ ap (nat_lt (length c.excise.new.live.program.rules)) c.len-before.ensures))
    c.in_ok-session.ensures
