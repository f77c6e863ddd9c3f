use Rattle.std.proofs.Common.{◌≡◌, List, ◌++◌, drop}
use Rattle.ops_base.specs.declared.matching.Binding.{Binding}
use Rattle.ops_base.specs.Matching.{after_tests}
use Rattle.act_phase.proofs.bindings.bind_tests.Given as goal

abbrev pub invariant-loop-test : goal.invariant-loop-test
invariant-loop-test l = record {
  rest : after_tests (drop l.test-index l.tests) l.e l.bindings.items ≡ after_tests l.tests l.e l.fn.bindings.items;
  more : List Binding;
  grown : l.bindings.items ≡ l.fn.bindings.items ++ more;
}
