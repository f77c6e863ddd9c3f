use Rattle.std.proofs.Common.{◌≡◌, ◌++◌, length}
use Rattle.std.specs.Vec.Iter.{into_iter_items, into_iter_len}
use Rattle.back_trail.proofs.marks.marks_of.Given as goal

abbrev pub invariant-loop-inst : goal.invariant-loop-inst
invariant-loop-inst l = record {
  left : l.marks.keys ≡ l.yielded;
  all : l.yielded ++ into_iter_items l.inst-iterator ≡ l.fn.insts.items;
  number : into_iter_len l.inst-iterator ≡ length (into_iter_items l.inst-iterator);
}
