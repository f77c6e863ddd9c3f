-- What the left tokens before the place give is there, and the tasks that were there before; those tokens have room.
use Rattle.std.proofs.Common.{◌≡◌, ◌++◌, drop, ◌≤◌}
use Rattle.std.specs.Prelude.{vec_capacity}
use Rattle.work_store.specs.Stored.{held_of}
use Rattle.activation.specs.inner.Children.{Grows, children_of, targets_of}
use Rattle.activation.specs.inner.Negating.{all_have_room, put_flipped}
use Rattle.activation.proofs.negating.give_flipped.Given as goal

abbrev pub invariant-loop-place : goal.invariant-loop-place
invariant-loop-place l = record {
  made : l.out.items ++ children_of (targets_of l.below.children.now l.below.rights.now) l.below.plus (put_flipped l.node (held_of l.store) l.task.token l.plus (drop l.place l.left))
      ≡ l.initial.out.items ++ children_of (targets_of l.below.children.now l.below.rights.now) l.below.plus (put_flipped l.node (held_of l.store) l.task.token l.plus l.left);
  room : all_have_room l.plus (drop l.place l.left) ≡ all_have_room l.plus l.left;
  grown : Grows l.initial.out.items l.out.items;
  capacity : vec_capacity l.initial.out ≤ vec_capacity l.out;
}
