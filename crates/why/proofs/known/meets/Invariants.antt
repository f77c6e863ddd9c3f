use Rattle.std.proofs.Common.{◌≡◌, ◌++◌, take, drop}
use Rattle.ops_base.specs.Matching.{after_tests}
use Rattle.why.specs.Checking.{bindings_in, put_at}
use Rattle.why.proofs.known.meets.Given as goal

abbrev pub invariant-loop-done : goal.invariant-loop-done
invariant-loop-done l =
    after_tests (drop l.done l.tests) l.e (bindings_in l.known ++ put_at (take l.done l.tests) l.e)
    ≡ after_tests l.tests l.e (bindings_in l.known)
