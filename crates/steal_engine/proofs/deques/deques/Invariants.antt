use Rattle.std.proofs.Common.{◌≡◌, ℕ, All, length}
use Rattle.net_base.specs.declared.tasks.Task.{Task}
use Rattle.steal_engine.specs.Team.{IsFresh, weigh_pushed}
use Rattle.steal_engine.proofs.deques.deques.Given as goal

abbrev pub invariant-loop : goal.invariant-loop
invariant-loop g l = record {
  fresh : All IsFresh l.owns.items;
  none : (h : Task → ℕ) → weigh_pushed h l.owns.items ≡ 0;
  count : length l.owns.items ≡ l.counter;
}
