use Rattle.std.proofs.Common.{◌≡◌, ◌++◌, drop}
use Rattle.program_slips.specs.Asked.{asks_of_parts}
use Rattle.program_slips.proofs.asked.add_parts.Given as goal

abbrev pub invariant-loop-before : goal.invariant-loop-before
invariant-loop-before l =
    l.initial.asks.items ++ asks_of_parts l.classes l.at 0 l.parts
    ≡ l.asks.items ++ asks_of_parts l.classes l.at l.before (drop l.before l.parts)
