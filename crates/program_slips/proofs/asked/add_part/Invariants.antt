use Rattle.std.proofs.Common.{◌≡◌, ◌++◌, drop}
use Rattle.std.specs.Prelude.{flat_map}
use Rattle.program_slips.specs.Asked.{asks_of_condition}
use Rattle.program_slips.proofs.asked.add_part.Given as goal

abbrev pub invariant-loop-condition : goal.invariant-loop-condition
invariant-loop-condition l =
    l.initial.asks.items ++ flat_map (asks_of_condition l.classes l.at l.number) l.members
    ≡ l.asks.items ++ flat_map (asks_of_condition l.classes l.at l.number) (drop l.condition-index l.members)
