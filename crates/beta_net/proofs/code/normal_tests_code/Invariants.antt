use Rattle.std.proofs.Common.{◌≡◌, drop}
use Rattle.beta_net.specs.Codes.{normal_tests_code}
use Rattle.beta_net.proofs.code.normal_tests_code.Given as goal

abbrev pub invariant-loop-test : goal.invariant-loop-test
invariant-loop-test l = normal_tests_code l.all (drop l.test-index l.tests) ≡ normal_tests_code l.code l.tests
