use Rattle.std.proofs.Common.{◌≡◌, drop}
use Rattle.ops_base.specs.Matching.{after_tests}
use Rattle.ops_base.proofs.matching.matched.Given as goal

abbrev pub invariant-loop-test : goal.invariant-loop-test
invariant-loop-test l = after_tests (drop l.test-index l.condition.tests) l.e l.found.items ≡ after_tests l.condition.tests l.e l.bindings
