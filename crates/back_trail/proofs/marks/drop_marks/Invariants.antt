use Rattle.std.proofs.Common.{◌≡◌, length}
use Rattle.std.specs.List.Sorted.{IsStrictlySortedBy}
use Rattle.std.specs.Vec.Iter.{into_iter_items, into_iter_len}
use Rattle.ops_base.specs.Instances.{by_rule_and_tags}
use Rattle.cycle.specs.Standing.{without_gone}
use Rattle.back_trail.proofs.marks.drop_marks.Given as goal

abbrev pub invariant-loop-inst : goal.invariant-loop-inst
invariant-loop-inst l = record {
  left : without_gone (into_iter_items l.inst-iterator) l.marks.keys ≡ without_gone l.fn.gone.items l.fn.marks.keys;
  ordered : IsStrictlySortedBy by_rule_and_tags l.marks.keys;
  number : into_iter_len l.inst-iterator ≡ length (into_iter_items l.inst-iterator);
}
