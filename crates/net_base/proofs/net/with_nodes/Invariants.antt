use Rattle.std.proofs.Common.{◌≡◌, ◌++◌, ℕ, length}
use Rattle.std.specs.Vec.Iter.{into_iter_items, into_iter_len}
use Rattle.net_base.specs.Rows.{row_at}
use Rattle.net_base.specs.Feeds.{takers_of}
use Rattle.net_base.proofs.net.with_nodes.Given as goal

abbrev pub invariant-loop-node : goal.invariant-loop-node
invariant-loop-node l = record {
  made : l.all.items ≡ l.fn.own ++ l.yielded;
  takers : (alpha : ℕ) → row_at l.takers alpha ≡ takers_of l.all.items alpha;
  left : l.yielded ++ into_iter_items l.node-iterator ≡ l.fn.added.items;
  number : into_iter_len l.node-iterator ≡ length (into_iter_items l.node-iterator);
}
