use Rattle.session.proofs.Following.{is_from, followed_meant, followed_under_way}
use Rattle.session.proofs.ready.follow.Goals as goal

pub renew-requires-clause-from : goal.renew-requires-clause-from
renew-requires-clause-from g c =
    is_from g.B.M.Matcher.stored g.B.M.Matcher.stands_for c.args.context.now.program.now.rules c.args.session c.requires.under_way c.in-Some.moved c.in-Some.is

pub returns-clause-meant : goal.returns-clause-meant
returns-clause-meant g c =
    followed_meant g.B.M.Matcher.stored g.B.M.Matcher.stands_for c.args.context.now.program.now.rules c.args.session c.requires.under_way c.in-Some.moved c.in-Some.is c.in_ok-state.state c.in_ok-state.ensures.course

pub returns-clause-under_way : goal.returns-clause-under_way
returns-clause-under_way g c =
    followed_under_way g.B.M.Matcher.stored g.B.M.Matcher.stands_for c.args.context.now.program.now.rules c.args.session c.requires.under_way c.in-Some.moved c.in-Some.is c.in_ok-state.state c.in_ok-state.ensures.course
    (record { stands = c.in_ok-state.ensures.stands; specificities = c.in_ok-state.ensures.specificities })
