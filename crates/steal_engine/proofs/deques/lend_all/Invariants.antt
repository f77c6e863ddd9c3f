use Rattle.std.proofs.Common.{◌≡◌, ℕ, ◌+◌, All, length}
use Rattle.net_base.specs.declared.tasks.Task.{Task}
use Rattle.steal_engine.specs.Team.{AreOf, HasPoppedNone, HasStolenNone, IsFresh, weigh_pushed}
use Rattle.steal_engine.proofs.deques.lend_all.Given as goal

abbrev pub invariant-loop-first : goal.invariant-loop-first
invariant-loop-first g l = record {
  count : length l.lent.items + length l.left.items ≡ length l.fn.owns.items;
  fresh : All IsFresh l.left.items;
  of : AreOf l.lent.items l.thieves.items;
  popped : All HasPoppedNone l.lent.items;
  stolen : All HasStolenNone l.thieves.items;
  pushed : (h : Task → ℕ) → weigh_pushed h l.lent.items + weigh_pushed h l.left.items ≡ weigh_pushed h l.fn.owns.items;
}

abbrev pub decreases-loop-first : goal.decreases-loop-first
decreases-loop-first g l = length l.left.items
