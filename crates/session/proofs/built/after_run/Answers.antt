use Rattle.session.proofs.RunLemmas.{ran_is, ran_undoable}
use Rattle.session.proofs.built.after_run.Goals as goal

pub returns-clause-meant : goal.returns-clause-meant
returns-clause-meant g c = λ rules n z. ran_is g.M.Matcher.stored rules c.args.undoable c.requires.none c.requires.current c.last_tag-last_tag.result n z

pub returns-clause-undoable : goal.returns-clause-undoable
returns-clause-undoable g c = λ rules of trail.
    ran_undoable g.M.Matcher.stored rules c.args.undoable c.requires.none c.requires.current c.last_tag-last_tag.result g.M.Matcher.stands_for of trail c.last_tag-last_tag.ensures.last
