use Rattle.std.proofs.Common.{◌≡◌, fold, cond, ◌==◌, Some, drop}
use Rattle.why.specs.Checking.{put_at}
use Rattle.why.proofs.known.latest.Given as goal

abbrev pub invariant-loop-test : goal.invariant-loop-test
invariant-loop-test l =
    fold (λ found b. cond (b.variable == l.variable) (Some b.value) found) l.found (put_at (drop l.test-index l.tests) l.e)
    ≡ fold (λ found b. cond (b.variable == l.variable) (Some b.value) found) l.fn.before (put_at l.tests l.e)
