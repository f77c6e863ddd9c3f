-- The tasks for the nodes before the index are there, and those that were there before.
use Rattle.std.proofs.Common.{◌≡◌, ◌++◌, drop, map, ◌≤◌}
use Rattle.std.specs.Prelude.{vec_capacity}
use Rattle.activation.specs.inner.Children.{Grows, to_each}
use Rattle.activation.specs.inner.Putting.{tagged}
use Rattle.activation.proofs.children.push_to_all.Given as goal

abbrev pub invariant-loop-node : goal.invariant-loop-node
invariant-loop-node l = record {
  made : l.out.items ++ to_each (map (λ n. (l.side, n)) (drop l.node-index l.nodes)) l.plus (record { token = tagged l.output.token.now l.output.tag; times = l.output.times })
      ≡ l.initial.out.items ++ to_each (map (λ n. (l.side, n)) l.nodes) l.plus (record { token = tagged l.output.token.now l.output.tag; times = l.output.times });
  grown : Grows l.initial.out.items l.out.items;
  capacity : vec_capacity l.initial.out ≤ vec_capacity l.out;
}
