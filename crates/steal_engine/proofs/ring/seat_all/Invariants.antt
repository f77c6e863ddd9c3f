use Rattle.std.proofs.Common.{◌≡◌, ◌++◌, length, map}
use Rattle.steal_engine.proofs.ring.seat_all.Given as goal

abbrev pub invariant-loop-pass : goal.invariant-loop-pass
invariant-loop-pass g l = record {
  owns_left : length l.owns.items ≡ length l.passes.items;
  thieves_left : length l.thieves.items ≡ length l.passes.items;
  passes_are : map (λ s. s.pass) l.seats.items ++ l.passes.items ≡ l.fn.passes.items;
  owns_are : map (λ s. s.own) l.seats.items ++ l.owns.items ≡ l.fn.owns.items;
  thieves_are : map (λ s. s.thief) l.seats.items ++ l.thieves.items ≡ l.fn.thieves.items;
}

abbrev pub decreases-loop-pass : goal.decreases-loop-pass
decreases-loop-pass g l = length l.passes.items
