use Rattle.std.proofs.Common.{◌≡◌, ◌++◌, length, map, All, IsTrue}
use Rattle.steal_engine.proofs.ring.part_all.Given as goal

abbrev pub invariant-loop-worked : goal.invariant-loop-worked
invariant-loop-worked g l = record {
  passes_are : map (λ e. e.pass) l.left.items ++ l.passes.items ≡ map (λ e. e.pass) l.fn.ended.items;
  owns_are : map (λ e. e.own) l.left.items ++ l.owns.items ≡ map (λ e. e.own) l.fn.ended.items;
  thieves_are : map (λ e. e.thief) l.left.items ++ l.thieves.items ≡ map (λ e. e.thief) l.fn.ended.items;
  all_whole : IsTrue l.whole → All (λ e. IsTrue e.whole) l.left.items → All (λ e. IsTrue e.whole) l.fn.ended.items;
}

abbrev pub decreases-loop-worked : goal.decreases-loop-worked
decreases-loop-worked g l = length l.left.items
