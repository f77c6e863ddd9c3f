use Rattle.std.proofs.Common.{◌≡◌, ◌++◌}
use Rattle.std.specs.Map.{values_of}
use Rattle.conflict_index.specs.Keeping.{all_members}
use Rattle.conflict_index.specs.Indexed.{fired_of}
use Rattle.conflict_index.proofs.Copying.{marked_insts}
use Rattle.conflict_index.proofs.marks.marked.Given as goal

abbrev pub invariant-loop-held : goal.invariant-loop-held
invariant-loop-held l = l.marks.items ++ marked_insts l.held-iterator ≡ marked_insts (values_of l.waiting.entries)

abbrev pub invariant-loop-inst : goal.invariant-loop-inst
invariant-loop-inst l = l.marks.items ++ l.inst-iterator ≡ fired_of (all_members l.waiting.entries l.fired.entries)
