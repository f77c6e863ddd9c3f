use Rattle.cycle.proofs.Phases.{set_is}
use Rattle.cycle.proofs.state.State.index.Goals as goal

pub returns-clause-set : goal.returns-clause-set
returns-clause-set g c = λ rules.
    set_is g.M.Matcher.stored g.M.Matcher.found g.M.Matcher.stands_for c.self.inside.matcher c.self.inside.index.value c.self.inside.firings c.self.invariant c.args.self.now c.self.view_is rules
