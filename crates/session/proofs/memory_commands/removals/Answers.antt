use Rattle.std.specs.BTreeSet.{contains}
use Rattle.std.specs.Ordering.{nat_cmp}
use Rattle.session.proofs.Removals.{found_one}
use Rattle.session.proofs.memory_commands.removals.Goals as goal

pub loop-tag-preserved : goal.loop-tag-preserved
loop-tag-preserved c =
    found_one c.args.store.now.elements (contains nat_cmp c.loop-tag.named) c.args.tags.now c.args.tags.now c.loop-tag.tag-index 0 c.loop-tag-test.true c.loop-tag.changes c.loop-tag.invariant c.is_left.result c.is_left.ensures
    (contains nat_cmp c.insert.new.self) c.push.new.self c.if-not-is_left.false c.in_ok-push.ensures.ok c.in_ok-insert.ensures.updates.0
