use Rattle.std.proofs.Common.{◌≡◌, take}
use Rattle.back_trail.specs.Kept.{after_steps}
use Rattle.back_trail.proofs.kept.after_first.Given as goal

abbrev pub invariant-loop-i : goal.invariant-loop-i
invariant-loop-i l = l.remade ≡ after_steps l.fn.first (take l.i l.steps.items)
