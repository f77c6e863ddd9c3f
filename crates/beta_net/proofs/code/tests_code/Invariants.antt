use Rattle.std.proofs.Common.{◌≡◌, drop}
use Rattle.beta_net.specs.Codes.{tests_code}
use Rattle.beta_net.proofs.code.tests_code.Given as goal

abbrev pub invariant-loop-test : goal.invariant-loop-test
invariant-loop-test l = tests_code l.all (drop l.test-index l.tests) ≡ tests_code l.code l.tests
