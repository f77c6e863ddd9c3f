use Rattle.std.proofs.Common.{◌≡◌, take}
use Rattle.grow_net.proofs.copies.copies_of_tests.Given as goal

abbrev pub invariant-loop-test : goal.invariant-loop-test
invariant-loop-test l = l.copies.items ≡ take l.test-index l.tests
