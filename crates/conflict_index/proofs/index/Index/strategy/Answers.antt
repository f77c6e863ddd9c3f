use Rattle.conflict_index.proofs.Kept.{viewed_in_order}
use Rattle.conflict_index.proofs.index.Index.strategy.Goals as goal

pub returns-clause-in_order : goal.returns-clause-in_order
returns-clause-in_order c =
    viewed_in_order c.self.inside.strategy c.self.inside.waiting.entries c.self.inside.fired.entries c.args.self.now c.self.view_is
