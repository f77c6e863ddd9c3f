use Rattle.std.proofs.Common.{◌≡◌, drop}
use Rattle.ops_base.specs.WorkingMemory.{shown}
use Rattle.ops_base.specs.ConflictSet.{walk, matches_of}
use Rattle.ops_base.proofs.direct.matches_of.Given as goal

abbrev pub invariant-loop-part : goal.invariant-loop-part
invariant-loop-part l =
    walk (shown l.wm) (drop l.part-index l.parts) l.found.items ≡ matches_of (shown l.wm) l.parts
