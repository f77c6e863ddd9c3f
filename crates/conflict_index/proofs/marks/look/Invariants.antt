use Rattle.std.proofs.Common.{◌≡◌, ◌-◌, drop, length}
use Rattle.ops_base.specs.declared.rules.Inst.{Inst}
use Rattle.ops_base.specs.Instances.{Before}
use Rattle.ops_base.specs.Refraction.{is_among}
use Rattle.conflict_index.proofs.marks.look.Given as goal

abbrev pub invariant-loop-at : goal.invariant-loop-at
invariant-loop-at l = (i : Inst) → ¬ Before i l.inst → is_among (drop l.at l.marks) i ≡ is_among (drop l.from l.marks) i

abbrev pub decreases-loop-at : goal.decreases-loop-at
decreases-loop-at l = length l.marks - l.at
