use Rattle.std.proofs.Common.{◌≡◌, drop, false}
use Rattle.act_phase.specs.Asking.{asks_after}
use Rattle.act_phase.proofs.waiting.asks_after_change.Given as goal

abbrev pub invariant-loop-action : goal.invariant-loop-action
invariant-loop-action l = asks_after l.changed (drop l.action-index l.action-items) ≡ asks_after false l.action-items
