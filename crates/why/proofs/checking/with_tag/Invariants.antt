use Rattle.std.proofs.Common.{◌≡◌, drop}
use Rattle.ops_base.specs.WorkingMemory.{shown}
use Rattle.why.specs.Checking.{with_tag}
use Rattle.why.proofs.checking.with_tag.Given as goal

abbrev pub invariant-loop-e : goal.invariant-loop-e
invariant-loop-e l = with_tag (shown (drop l.e-index l.wm)) l.tag ≡ with_tag (shown l.wm) l.tag
