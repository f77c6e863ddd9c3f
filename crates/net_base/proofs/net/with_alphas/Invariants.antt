use Rattle.std.proofs.Common.{◌≡◌, ◌++◌, length}
use Rattle.std.specs.Vec.Iter.{into_iter_items, into_iter_len}
use Rattle.net_base.specs.Feeds.{IsIndex}
use Rattle.net_base.proofs.net.with_alphas.Given as goal

abbrev pub invariant-loop-alpha : goal.invariant-loop-alpha
invariant-loop-alpha l = record {
  made : l.all.items ≡ l.fn.own ++ l.yielded;
  index : IsIndex l.all.items l.index;
  left : l.yielded ++ into_iter_items l.alpha-iterator ≡ l.fn.added.items;
  number : into_iter_len l.alpha-iterator ≡ length (into_iter_items l.alpha-iterator);
}
