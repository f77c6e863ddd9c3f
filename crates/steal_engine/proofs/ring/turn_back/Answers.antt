use Rattle.std.proofs.Common.{rules, ap, sym, ◌∙◌}
use Rattle.steal_engine.specs.Ring.{turned}
use Rattle.steal_engine.proofs.Turning.{none_turned}
use Rattle.steal_engine.proofs.ring.turn_back.Goals as goal

pub returns-in_default : goal.returns-in_default
returns-in_default g c = sym (none_turned _ _ (search rules) (search rules))

pub returns : goal.returns
returns g c = ap turned c.in_ok-push_front.ensures.items ∙ sym c.in-Some.ensures.items
