use Rattle.std.proofs.Common.{drop}
use Rattle.std.specs.Prelude.{unwrap_or}
use Rattle.ops_base.specs.Matching.{value_of}
use Rattle.ops_base.specs.Values.{nil}
use Rattle.act_phase.proofs.Computed.{ComesTo}
use Rattle.act_phase.proofs.expressions.compute.Given as goal

abbrev pub invariant-loop-each : goal.invariant-loop-each
invariant-loop-each l = ComesTo (λ v. unwrap_or (value_of l.bindings v) nil) l.expr (drop l.each-index l.each-items) l.stack.items
