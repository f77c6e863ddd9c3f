-- What is kept of the token is what is kept under the codes that are left.
use Rattle.std.proofs.Common.{◌≡◌, drop}
use Rattle.std.specs.Map.{keys_of}
use Rattle.token_line.specs.inner.Codes.{cell_under, first_some}
use Rattle.token_line.proofs.memories.NodeMemory.cell_of_others.Given as goal

abbrev pub invariant-loop-place : goal.invariant-loop-place
invariant-loop-place l =
    first_some (λ c. cell_under l.self c l.side l.token) (keys_of l.self.others) ≡ first_some (λ c. cell_under l.self c l.side l.token) (drop l.place (keys_of l.self.others))
