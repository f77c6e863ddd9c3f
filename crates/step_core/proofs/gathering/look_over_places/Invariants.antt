-- Some of the lines are looked over.
use Rattle.std.proofs.Common.{◌≡◌, map, take}
use Rattle.step_core.specs.Worlds.{seen}
use Rattle.step_core.specs.inner.Gathering.{moved_at}
use Rattle.step_core.proofs.gathering.look_over_places.Given as goal

abbrev pub invariant-loop-place : goal.invariant-loop-place
invariant-loop-place l = l.moved.items ≡ moved_at l.net.nodes (map seen l.lines) (take l.place-index l.places)
