use Rattle.cycle.proofs.Phases.{next_is}
use Rattle.cycle.proofs.state.State.next.Goals as goal

pub returns-clause-dominant : goal.returns-clause-dominant
returns-clause-dominant g c = λ rules names coming.
    next_is g.M.Matcher.stored g.M.Matcher.found g.M.Matcher.stands_for c.self.inside.matcher c.self.inside.index.value c.self.inside.firings c.self.invariant c.args.self.now c.self.view_is rules
    _ (rw c.as_ref.ensures at c.select.ensures.dominant) names coming
