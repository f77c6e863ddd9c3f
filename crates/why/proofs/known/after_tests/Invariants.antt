use Rattle.std.proofs.Common.{◌≡◌, drop}
use Rattle.why.specs.Bindings.{values_in}
use Rattle.why.specs.Checking.{put_at, rest_after}
use Rattle.why.proofs.known.after_tests.Given as goal

abbrev pub invariant-loop-test : goal.invariant-loop-test
invariant-loop-test l =
    rest_after (values_in (put_at (drop l.test-index l.tests) l.e)) l.left ≡ rest_after (values_in (put_at l.tests l.e)) l.bound
