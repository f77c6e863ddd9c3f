use Rattle.std.proofs.Common.{drop}
use Rattle.std.specs.BTreeSet.{contains}
use Rattle.std.specs.Ordering.{nat_cmp}
use Rattle.session.proofs.Removals.{AreFound}
use Rattle.session.proofs.memory_commands.removals.Given as goal

abbrev pub invariant-loop-tag : goal.invariant-loop-tag
invariant-loop-tag l = AreFound l.store.elements (contains nat_cmp l.named) l.tags (drop l.tag-index l.tags) l.changes
