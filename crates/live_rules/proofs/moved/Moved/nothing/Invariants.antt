use Rattle.std.proofs.Common.{◌≡◌}
use Rattle.live_rules.specs.Moves.{unmoved}
use Rattle.live_rules.proofs.moved.Moved.nothing.Given as goal

abbrev pub invariant-loop-number : goal.invariant-loop-number
invariant-loop-number l = l.places.items ≡ unmoved l.number
