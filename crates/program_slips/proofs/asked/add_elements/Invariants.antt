use Rattle.std.proofs.Common.{◌≡◌, ◌++◌, drop}
use Rattle.std.specs.Prelude.{map}
use Rattle.program_slips.specs.Asked.{asks_of_class}
use Rattle.program_slips.proofs.asked.add_elements.Given as goal

abbrev pub invariant-loop-condition : goal.invariant-loop-condition
invariant-loop-condition l =
    l.initial.asks.items ++ map (asks_of_class l.at l.number) l.members
    ≡ l.asks.items ++ map (asks_of_class l.at l.number) (drop l.condition-index l.members)
