use Rattle.std.proofs.Common.{◌≡◌, ◌++◌, drop}
use Rattle.net_base.specs.Normal.{alpha_tests}
use Rattle.alpha_net.proofs.parts.alpha_tests.Given as goal

abbrev pub invariant-loop-test : goal.invariant-loop-test
invariant-loop-test l = l.found.items ++ alpha_tests l.place (drop l.test-index l.tests) ≡ alpha_tests l.place l.tests
