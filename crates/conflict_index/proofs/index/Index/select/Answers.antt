use Rattle.conflict_index.proofs.Members.{members_in_order}
use Rattle.conflict_index.proofs.Selected.{selected, selects_first, selects_dominant}
use Rattle.conflict_index.proofs.index.Index.select.Goals as goal

pub returns-clause-first : goal.returns-clause-first
returns-clause-first c =
    selects_first c.args.self.now.strategy c.args.self.now.members c.next.result (members_in_order c.args.self.now.members c.by_dominance.ensures.in_order)
    (selected c.args.self.now.strategy c.args.self.now.members c.by_dominance.result c.next.new.self c.next.result c.next.ensures.steps (c.by_dominance.ensures.places 0))

pub returns-clause-dominant : goal.returns-clause-dominant
returns-clause-dominant c = λ rules kept.
    selects_dominant c.args.self.now.strategy rules c.args.self.now.members c.next.result kept
    (selected c.args.self.now.strategy c.args.self.now.members c.by_dominance.result c.next.new.self c.next.result c.next.ensures.steps (c.by_dominance.ensures.places 0))
