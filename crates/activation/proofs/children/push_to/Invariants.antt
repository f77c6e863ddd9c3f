-- This many tasks are there.
use Rattle.std.proofs.Common.{◌≡◌, ◌++◌, replicate, ◌≤◌}
use Rattle.std.specs.Prelude.{vec_capacity}
use Rattle.activation.specs.inner.Children.{child}
use Rattle.activation.specs.inner.Putting.{tagged}
use Rattle.activation.proofs.children.push_to.Given as goal

abbrev pub invariant-loop-time : goal.invariant-loop-time
invariant-loop-time l = record {
  made : l.out.items ≡ l.initial.out.items ++ replicate l._time (child l.plus (tagged l.output.token.now l.output.tag) (l.side, l.node));
  capacity : vec_capacity l.initial.out ≤ vec_capacity l.out;
}
