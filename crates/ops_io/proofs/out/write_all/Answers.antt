use Rattle.std.proofs.Common.{◌∙◌, ℕ, ap, sym, arith, length, take, drop, length-take, length-drop}
use Rattle.std.proofs.lemmas.List.{take-append-drop}
use Rattle.ops_io.proofs.Known.{write_step}
use Rattle.ops_io.proofs.out.write_all.Goals as goal

pub loop-at-preserved : goal.loop-at-preserved
loop-at-preserved g c = record {
  within = omega (arith, c.in-Ok.ensures.bound.1, length-take {A = ℕ}, length-drop {A = ℕ});
  taken = write_step _ _ _ c.args.bytes.now c.loop-at.at c.in-Ok.count c.loop-at.invariant.taken c.in-Ok.ensures.bytes;
  faults = c.in-Ok.ensures.cause ∙ c.loop-at.invariant.faults;
  unwritten = λ none. absurd (omega (arith, ap length none, c.loop-at-test.true));
}

pub returns-in-Err-clause-err : goal.returns-in-Err-clause-err
returns-in-Err-clause-err g c =
    (take c.loop-at.at c.args.bytes.now, drop c.loop-at.at c.args.bytes.now, sym (take-append-drop c.loop-at.at c.args.bytes.now), c.in-Err.ensures.bytes ∙ c.loop-at.invariant.taken)
