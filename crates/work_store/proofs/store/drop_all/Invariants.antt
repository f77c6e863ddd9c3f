use Rattle.std.proofs.Common.{◌≡◌, drop}
use Rattle.work_store.specs.Slots.{without_all}
use Rattle.work_store.proofs.store.drop_all.Given as goal

abbrev pub invariant-loop-tag : goal.invariant-loop-tag
invariant-loop-tag l = without_all (drop l.tag-index l.tags) l.slots ≡ without_all l.tags l.fn.slots
