use Rattle.session.proofs.UnderWay.{started_is}
use Rattle.session.proofs.session.start.Goals as goal

pub returns-clause-begun : goal.returns-clause-begun
returns-clause-begun g c = λ n z.
    started_is g.row.M-Hand.Denot g.M.Matcher.stored c.in_ok-state.state c.new.result c.in_ok-breaks.breaks c.args.program.now.rules n z c.new.ensures (c.in_ok-state.ensures.course n z) c.in_ok-breaks.ensures
