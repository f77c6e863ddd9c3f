-- The left tokens before the place are done.
use Rattle.std.proofs.Common.{◌≡◌}
use Rattle.net_base.specs.Tokens.{goes_with}
use Rattle.work_store.specs.Stored.{held_of}
use Rattle.token_line.proofs.Blocked.{first_blocked}
use Rattle.token_line.proofs.tokens.Tokens.block.Given as goal

abbrev pub invariant-loop-place : goal.invariant-loop-place
invariant-loop-place l =
    l.self ≡ first_blocked (λ t. goes_with l.of.kind l.of.joins (held_of l.store) t l.right) l.plus l.place l.initial.self
