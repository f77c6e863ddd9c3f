use Rattle.cycle.specs.Standing.{standing}
use Rattle.back_trail.proofs.Going.{known}
use Rattle.back_trail.proofs.trail.Trail.begin.Goals as goal

pub returns-else-is_none-clause-ok : goal.returns-else-is_none-clause-ok
returns-else-is_none-clause-ok g c = known (λ b. b.value) c.self.inside.kept c.args.self.now c.self.view_is c.if-is_none.ensures (standing g.M.Matcher.stored c.args.state.now) c.requires
