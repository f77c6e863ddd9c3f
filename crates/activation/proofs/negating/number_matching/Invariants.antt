-- The right tokens before the place are counted.
use Rattle.std.proofs.Common.{◌≡◌, ◌+◌, drop}
use Rattle.work_store.specs.Stored.{held_of}
use Rattle.activation.specs.inner.Negating.{number_matching}
use Rattle.activation.proofs.negating.number_matching.Given as goal

abbrev pub invariant-loop-place : goal.invariant-loop-place
invariant-loop-place l =
    l.count + number_matching l.node (held_of l.store) l.token (drop l.place l.right) ≡ number_matching l.node (held_of l.store) l.token l.right
