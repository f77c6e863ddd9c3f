-- What the tokens before the place give is there, and the tasks that were there before.
use Rattle.std.proofs.Common.{◌≡◌, ◌++◌, drop, ◌≤◌}
use Rattle.std.specs.Prelude.{vec_capacity}
use Rattle.work_store.specs.Stored.{held_of}
use Rattle.activation.specs.inner.Children.{Grows, children_of, targets_of}
use Rattle.activation.specs.inner.Putting.{put_for_right}
use Rattle.activation.proofs.putting.give_for_right.Given as goal

abbrev pub invariant-loop-place : goal.invariant-loop-place
invariant-loop-place l = record {
  made : l.out.items ++ children_of (targets_of l.below.children.now l.below.rights.now) l.below.plus (put_for_right l.tests (held_of l.store) l.tag (drop l.place l.left))
      ≡ l.initial.out.items ++ children_of (targets_of l.below.children.now l.below.rights.now) l.below.plus (put_for_right l.tests (held_of l.store) l.tag l.left);
  grown : Grows l.initial.out.items l.out.items;
  capacity : vec_capacity l.initial.out ≤ vec_capacity l.out;
}
