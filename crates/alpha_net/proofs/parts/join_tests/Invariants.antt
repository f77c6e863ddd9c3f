use Rattle.std.proofs.Common.{◌≡◌, ◌++◌, drop}
use Rattle.net_base.specs.Normal.{join_tests}
use Rattle.alpha_net.proofs.parts.join_tests.Given as goal

abbrev pub invariant-loop-test : goal.invariant-loop-test
invariant-loop-test l = l.found.items ++ join_tests l.place (drop l.test-index l.tests) ≡ join_tests l.place l.tests
