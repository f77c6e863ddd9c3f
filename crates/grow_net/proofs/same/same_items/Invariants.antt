use Rattle.std.proofs.Common.{◌≡◌, length}
use Rattle.grow_net.proofs.same.same_items.Given as goal

abbrev pub invariant-loop-x : goal.invariant-loop-x
invariant-loop-x g l = record { to : l.a ≡ l.b → l.left ≡ l.right; from : l.left ≡ l.right → l.a ≡ l.b }

abbrev pub decreases-loop-x : goal.decreases-loop-x
decreases-loop-x g l = length l.left
