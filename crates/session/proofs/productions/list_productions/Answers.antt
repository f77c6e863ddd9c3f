use Rattle.std.proofs.Common.{ap, map, refl}
use Rattle.std.proofs.lemmas.Result.{err_from_is_err_and}
use Rattle.ops_meaning.specs.Running.{production_line}
use Rattle.act_phase.specs.Outcomes.{setting_of}
use Rattle.session.proofs.Deeds.{listed, unlisted}
use Rattle.session.proofs.productions.list_productions.Goals as goal

pub returns-in_err-put_productions : goal.returns-in_err-put_productions
returns-in_err-put_productions g c =
    let p = err_from_is_err_and c.from_residual.result c.from_residual.ensures.1 in
    rw p.1
    (unlisted g.M.Matcher.stored g.M.Matcher.stands_for c.args.program.now.rules c.args.names.now c.args.session c.args.session (λ z. refl) _ _
    (λ k. map (production_line (setting_of c.args.program.now 0) k.course.names) c.args.given.now)
    (map (production_line (setting_of c.args.program.now 0) c.args.names.now) c.as_slice.result.now)
    (λ z. ap (map (production_line (setting_of c.args.program.now 0) c.args.names.now)) c.as_slice.ensures)
    p.0 p.2 c.in_err-put_productions.ensures)

pub returns : goal.returns
returns g c =
    listed g.M.Matcher.stored g.M.Matcher.stands_for c.args.program.now.rules c.args.names.now c.args.session c.args.session (λ z. refl) _ _
    (λ k. map (production_line (setting_of c.args.program.now 0) k.course.names) c.args.given.now)
    (map (production_line (setting_of c.args.program.now 0) c.args.names.now) c.as_slice.result.now)
    (λ z. ap (map (production_line (setting_of c.args.program.now 0) c.args.names.now)) c.as_slice.ensures)
    c.in_ok-put_productions.ensures c.requires.under_way
