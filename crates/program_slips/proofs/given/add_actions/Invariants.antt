use Rattle.std.proofs.Common.{◌≡◌, ◌++◌, drop}
use Rattle.program_slips.specs.Given.{given_by_actions}
use Rattle.program_slips.proofs.given.add_actions.Given as goal

abbrev pub invariant-loop-action : goal.invariant-loop-action
invariant-loop-action l =
    l.initial.given.items ++ given_by_actions l.initial.cells.items 0 l.actions
    ≡ l.given.items ++ given_by_actions l.cells.items l.made (drop l.action-index l.actions)
