-- Some of the lines are looked over.
use Rattle.std.proofs.Common.{◌≡◌, map, take}
use Rattle.step_core.specs.Worlds.{seen}
use Rattle.step_core.specs.inner.Gathering.{moved_over}
use Rattle.step_core.proofs.gathering.look_over_all.Given as goal

abbrev pub invariant-loop-line : goal.invariant-loop-line
invariant-loop-line l = l.moved.items ≡ moved_over l.net.nodes (map seen (take l.line-index l.lines))
