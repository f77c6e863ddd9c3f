-- Some of the tasks that it tells of are looked at.
use Rattle.std.proofs.Common.{◌≡◌, ◌++◌, take}
use Rattle.std.specs.Prelude.{flat_map}
use Rattle.step_core.specs.Worlds.{seen}
use Rattle.step_core.specs.inner.Gathering.{moved_by}
use Rattle.step_core.proofs.gathering.look_over.Given as goal

abbrev pub invariant-loop-task : goal.invariant-loop-task
invariant-loop-task l = l.moved.items ≡ l.fn.moved.items ++ flat_map (moved_by l.net.nodes (seen l.line)) (take l.task-index l.line.told.items)
