use Rattle.session.proofs.Following.{numbered_meant, numbered_under_way}
use Rattle.session.proofs.changes.numbers_apart.Goals as goal

pub returns-clause-meant : goal.returns-clause-meant
returns-clause-meant g c =
    numbered_meant g.M.Matcher.stored g.M.Matcher.stands_for c.args.live.now.program.rules c.args.session c.requires.under_way c.last_tag-last.ensures.kept.0 (c.index-index.ensures.set c.args.live.now.program.rules)
    c.in_ok-moved.moved c.in_ok-moved.ensures

pub returns-clause-under_way : goal.returns-clause-under_way
returns-clause-under_way g c =
    numbered_under_way g.M.Matcher.stored g.M.Matcher.stands_for c.args.live.now.program.rules c.args.session c.requires.under_way c.last_tag-last.ensures.kept.0 (c.index-index.ensures.set c.args.live.now.program.rules)
    c.in_ok-moved.moved c.in_ok-moved.ensures
