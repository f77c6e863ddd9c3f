use Rattle.session.proofs.UnderWay.{changed_meant, changed_under_way}
use Rattle.session.proofs.memory_commands.change.Goals as goal

pub returns-clause-meant : goal.returns-clause-meant
returns-clause-meant g c =
    changed_meant g.M.Matcher.stored g.M.Matcher.stands_for c.args.context.now.program.now.rules c.args.session c.requires.under_way c.in_ok-state.state c.requires.current c.requires.settled c.args.changes.now
    c.in_ok-state.ensures.course c.last_tag-last_tag.result

pub returns-clause-under_way : goal.returns-clause-under_way
returns-clause-under_way g c =
    changed_under_way g.M.Matcher.stored g.M.Matcher.stands_for c.args.context.now.program.now.rules c.args.session c.requires.under_way c.in_ok-state.state c.requires.current c.requires.settled c.args.changes.now
    c.in_ok-state.ensures.course c.last_tag-last_tag.result
    (record { stands = c.in_ok-state.ensures.stands; specificities = c.in_ok-state.ensures.specificities }) c.last_tag-last_tag.ensures.last
