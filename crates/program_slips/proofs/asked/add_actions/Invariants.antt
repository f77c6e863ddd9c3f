use Rattle.std.proofs.Common.{◌≡◌, ◌++◌, drop}
use Rattle.std.specs.Prelude.{flat_map}
use Rattle.program_slips.specs.Asked.{asks_of_action}
use Rattle.program_slips.proofs.asked.add_actions.Given as goal

abbrev pub invariant-loop-action : goal.invariant-loop-action
invariant-loop-action l =
    l.initial.asks.items ++ flat_map (asks_of_action l.templates) l.actions
    ≡ l.asks.items ++ flat_map (asks_of_action l.templates) (drop l.action-index l.actions)
