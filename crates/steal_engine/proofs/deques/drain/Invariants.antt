use Rattle.std.proofs.Common.{◌≡◌, ℕ, ◌+◌, All, sum_by}
use Rattle.net_base.specs.declared.tasks.Task.{Task}
use Rattle.task_deque.specs.Ends.{IsWhole, pushed, popped, stolen}
use Rattle.steal_engine.proofs.deques.drain.Given as goal

abbrev pub invariant-loop : goal.invariant-loop
invariant-loop g l = record {
  can_next : (goal.iterator-loop g).can_next l.iterator';
  finite : (goal.iterator-loop g).is_finite l.iterator';
  whole : IsWhole l.own;
  fit : All g.J.Fitting.fits l.left.items;
  pushed_same : pushed l.own ≡ pushed l.fn.own;
  stolen_same : stolen l.own ≡ stolen l.fn.own;
  popped_more : (h : Task → ℕ) → sum_by h (popped l.own) + sum_by h l.fn.left.items ≡ sum_by h (popped l.fn.own) + sum_by h l.left.items;
}
