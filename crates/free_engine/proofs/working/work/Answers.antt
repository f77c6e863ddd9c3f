use Rattle.std.proofs.Common.{ℕ, subst}
use Rattle.turn_table.specs.Turns.{knows}
use Rattle.free_engine.specs.Ends.{RoundDone}
use Rattle.free_engine.proofs.WorkerRounds.{one_more, round_free}
use Rattle.free_engine.proofs.working.work.Goals as goal

pub loop-preserved-in-Done : goal.loop-preserved-in-Done
loop-preserved-in-Done g c =
    let w : ℕ = c.args.worker in
    let lines : ℕ = c.args.phase.now.lines in
    let p = knows c.loop.pass in
    let q = knows c.do_round-next.result.0 in
    let did = subst (RoundDone lines w c.args.phase.now.first.now.value.items p q) c.in-Done.is c.do_round-next.ensures.own in record {
      can_next = tt;
      finite = tt;
      pass = c.do_round-next.ensures.pass;
      number = c.do_round-next.ensures.number;
      worked = one_more lines w did.0 p.own q.own did.1 did.2 c.loop.invariant.worked;
      free = round_free w did.0 p.own q.own did.2;
    }
