use Rattle.std.proofs.Common.{◌≡◌, ◌++◌, drop}
use Rattle.why.specs.Bindings.{values_in}
use Rattle.why.proofs.explaining.values_of.Given as goal

abbrev pub invariant-loop-binding : goal.invariant-loop-binding
invariant-loop-binding l = l.values.items ++ values_in (drop l.binding-index l.bindings) ≡ values_in l.bindings
