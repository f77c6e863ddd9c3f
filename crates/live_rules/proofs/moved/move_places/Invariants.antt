use Rattle.std.proofs.Common.{◌≡◌, ◌++◌, take, drop}
use Rattle.live_rules.specs.Moves.{places_moved}
use Rattle.live_rules.proofs.moved.move_places.Given as goal

abbrev pub invariant-loop-place : goal.invariant-loop-place
invariant-loop-place l = l.places ≡ places_moved l.gone (take l.place-index l.fn.places) ++ drop l.place-index l.fn.places
