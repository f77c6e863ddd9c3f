use Rattle.std.proofs.Common.{◌≡◌, drop}
use Rattle.net_base.specs.Feeds.{first_constant}
use Rattle.net_base.proofs.alpha_index.first_constant.Given as goal

abbrev pub invariant-loop-test : goal.invariant-loop-test
invariant-loop-test l = first_constant (drop l.test-index l.tests) ≡ first_constant l.tests
