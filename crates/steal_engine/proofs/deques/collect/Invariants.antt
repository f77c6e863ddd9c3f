use Rattle.std.proofs.Common.{◌≡◌, ℕ, ◌+◌, All, sum_by, length}
use Rattle.net_base.specs.declared.tasks.Task.{Task}
use Rattle.steal_engine.specs.Team.{AreOf, weigh_popped, weigh_pushed, weigh_stolen}
use Rattle.steal_engine.proofs.deques.collect.Given as goal

abbrev pub invariant-loop-own : goal.invariant-loop-own
invariant-loop-own g l = record {
  of : AreOf l.owns.items l.thieves.items;
  fit : All g.J.Fitting.fits l.left.items;
  all : (h : Task → ℕ) → weigh_pushed h l.fn.owns.items + (weigh_popped h l.owns.items + weigh_stolen h l.thieves.items)
      ≡ ((weigh_popped h l.fn.owns.items + weigh_stolen h l.fn.thieves.items) + sum_by h l.left.items) + weigh_pushed h l.owns.items;
}

abbrev pub decreases-loop-own : goal.decreases-loop-own
decreases-loop-own g l = length l.owns.items
