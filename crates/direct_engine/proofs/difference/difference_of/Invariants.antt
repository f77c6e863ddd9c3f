use Rattle.std.proofs.Common.{◌≡◌, ◌+◌, ◌-◌, ◌≤◌, ◌++◌, length, drop}
use Rattle.direct_engine.proofs.Differing.{without}
use Rattle.direct_engine.proofs.difference.difference_of.Given as goal

abbrev pub invariant-both : goal.invariant-both
invariant-both l = record {
  before_within : l.before_at ≤ length l.before;
  now_within : l.now_at ≤ length l.now;
  gone : l.gone.items ++ without (drop l.before_at l.before) (drop l.now_at l.now) ≡ without l.before l.now;
  come : l.come.items ++ without (drop l.now_at l.now) (drop l.before_at l.before) ≡ without l.now l.before;
}

abbrev pub decreases-both : goal.decreases-both
decreases-both l = (length l.before - l.before_at) + (length l.now - l.now_at)
