use Rattle.std.proofs.Common.{◌≡◌, ℕ, ◌+◌, All, sum_by}
use Rattle.net_base.specs.declared.tasks.Task.{Task}
use Rattle.task_deque.specs.Ends.{own_of, pushed, popped}
use Rattle.steal_engine.proofs.working.push_some.Given as goal

abbrev pub invariant-loop : goal.invariant-loop
invariant-loop g l = record {
  fit : All g.J.Fitting.fits l.list.items;
  moved : (h : Task → ℕ) → sum_by h (pushed l.own) + sum_by h l.list.items ≡ sum_by h (pushed l.fn.own) + sum_by h l.fn.list.items;
  popped : popped l.own ≡ popped l.fn.own;
  own : own_of l.own ≡ own_of l.fn.own;
}
