-- The worker's number is one below that of its pass.
use Rattle.std.proofs.Common.{◌≡◌, ◌-◌, subst, arith}
use Rattle.turn_table.specs.Turns.{knows}
use Rattle.free_engine.specs.Counts.{HasWorked}
use Rattle.free_engine.proofs.team.work_with.Goals as goal

pub returns : goal.returns
returns g c = let r = c.work-pass.result in
    let of = c.number-worker.ensures in
    let some = c.requires.some in
    let is_number = c.work-pass.ensures.number in record {
      pass = c.work-pass.ensures.pass;
      number_is = omega (arith, of, some, is_number);
      whole = λ w is all. (
        subst (λ k. HasWorked c.args.phase.now.lines k (knows r.pass).own) (let e : c.number-worker.result - 1 ≡ w = omega (arith, of, is) in e) (c.work-pass.ensures.worked all),
        c.work-pass.ensures.saw all,
      );
    }
