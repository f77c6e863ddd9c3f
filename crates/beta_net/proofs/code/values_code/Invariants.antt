use Rattle.std.proofs.Common.{◌≡◌, drop}
use Rattle.beta_net.specs.Codes.{values_code}
use Rattle.beta_net.proofs.code.values_code.Given as goal

abbrev pub invariant-loop-value : goal.invariant-loop-value
invariant-loop-value l = values_code l.all (drop l.value-index l.values) ≡ values_code l.code l.values
