use Rattle.std.proofs.Common.{◌≡◌, ◌++◌, drop}
use Rattle.std.specs.Prelude.{flat_map}
use Rattle.program_slips.specs.Asked.{asks_of_test}
use Rattle.program_slips.proofs.asked.add_tests.Given as goal

abbrev pub invariant-loop-test : goal.invariant-loop-test
invariant-loop-test l =
    l.initial.asks.items ++ flat_map (asks_of_test l.place.at l.place.number l.place.class l.scalars) l.tests
    ≡ l.asks.items ++ flat_map (asks_of_test l.place.at l.place.number l.place.class l.scalars) (drop l.test-index l.tests)
