use Rattle.std.proofs.Common.{◌≡◌, ◌++◌, drop}
use Rattle.std.specs.Prelude.{flat_map}
use Rattle.program_slips.specs.Alike.{test_text}
use Rattle.program_slips.proofs.lefts.add_tests.Given as goal

abbrev pub invariant-loop-test : goal.invariant-loop-test
invariant-loop-test l = l.initial.text.items ++ flat_map test_text l.tests ≡ l.text.items ++ flat_map test_text (drop l.test-index l.tests)
