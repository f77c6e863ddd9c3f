use Rattle.std.proofs.Common.{◌≡◌, ℕ, ◌+◌, All, length, sum_by}
use Rattle.net_base.specs.declared.tasks.Task.{Task}
use Rattle.steal_engine.specs.Team.{IsFresh, weigh_pushed}
use Rattle.steal_engine.proofs.deques.deal.Given as goal

abbrev pub invariant-loop-task : goal.invariant-loop-task
invariant-loop-task g l = record {
  fresh : All IsFresh l.owns.items;
  dealt : (h : Task → ℕ) → weigh_pushed h l.owns.items ≡ weigh_pushed h l.fn.owns.items + sum_by h l.yielded;
  count : length l.owns.items ≡ length l.fn.owns.items;
}
