use Rattle.std.proofs.Common.{refl}
use Rattle.std.proofs.lemmas.List.{drop_all}
use Rattle.std.proofs.lemmas.Result.{err_from_is_err_and}
use Rattle.session.proofs.Changing.{excising_start, excising_done, excising_step, excising_stop}
use Rattle.session.proofs.changes.excise.Goals as goal

pub returns-in_err-session : goal.returns-in_err-session
returns-in_err-session g c =
    let p = err_from_is_err_and c.from_residual.result c.from_residual.ensures.1 in
    rw (p.1, p.2)
    (excising_stop g.M.Matcher.stored g.M.Matcher.stands_for c.args.live.now.program c.loop-name.live.program c.args.names.now c.args.given.now c.loop-name.name-index c.args.session c.loop-name.session _ _ _ _ c.loop-name-test.true refl c.loop-name.invariant
    c.excise_one.new.live.program _ c.in_err-session.field-0.0 c.in_err-session.ensures)

pub loop-name-init : goal.loop-name-init
loop-name-init g c =
    excising_start g.M.Matcher.stored g.M.Matcher.stands_for c.args.live.now.program c.args.names.now c.args.given.now c.args.session _ c.requires.under_way c.requires.whole

pub loop-name-preserved : goal.loop-name-preserved
loop-name-preserved g c =
    excising_step g.M.Matcher.stored g.M.Matcher.stands_for c.args.live.now.program c.loop-name.live.program c.args.names.now c.args.given.now c.loop-name.name-index c.args.session c.loop-name.session _ _ _ _ c.loop-name-test.true refl c.loop-name.invariant
    c.excise_one.new.live.program _ c.in_ok-session.session c.in_ok-session.ensures

pub returns : goal.returns
returns g c =
    excising_done g.M.Matcher.stored g.M.Matcher.stands_for c.args.live.now.program c.loop-name.live.program c.args.names.now c.args.given.now c.loop-name.name-index c.args.session c.loop-name.session _ _ c.loop-name.invariant
    (drop_all c.loop-name.name-index c.args.given.now c.loop-name-test.false)
