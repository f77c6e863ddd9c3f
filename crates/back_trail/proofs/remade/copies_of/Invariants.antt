use Rattle.std.proofs.Common.{◌≡◌, ◌++◌, drop}
use Rattle.back_trail.proofs.remade.copies_of.Given as goal

abbrev pub invariant-loop-inst : goal.invariant-loop-inst
invariant-loop-inst l = l.copies.items ++ drop l.inst-index l.insts ≡ l.insts
