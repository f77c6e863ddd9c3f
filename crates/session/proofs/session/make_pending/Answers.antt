use Rattle.session.proofs.UnderWay.{settled_meant, settled_under_way}
use Rattle.session.proofs.session.make_pending.Goals as goal

pub returns-clause-meant : goal.returns-clause-meant
returns-clause-meant g c =
    settled_meant g.M.Matcher.stored g.M.Matcher.stands_for c.args.context.now.program.now.rules c.args.session c.requires.under_way c.in_ok-state.state c.requires.current c.new.result c.new.ensures
    c.is_empty.result c.is_empty.ensures c.if-is_empty.false c.as_slice.result.now c.as_slice.ensures c.in_ok-state.ensures.course

pub returns-clause-under_way : goal.returns-clause-under_way
returns-clause-under_way g c =
    settled_under_way g.M.Matcher.stored g.M.Matcher.stands_for c.args.context.now.program.now.rules c.args.session c.requires.under_way c.in_ok-state.state c.requires.current c.new.result c.new.ensures
    c.is_empty.result c.is_empty.ensures c.if-is_empty.false c.as_slice.result.now c.as_slice.ensures c.in_ok-state.ensures.course
    (record { stands = c.in_ok-state.ensures.stands; specificities = c.in_ok-state.ensures.specificities })
