use Rattle.std.proofs.Common.{arith}
use Rattle.std.proofs.lemmas.Result.{err_from_is_err_and}
use Rattle.ops_io.specs.declared.stop.Stop.TheVariants as stop
use Rattle.ops_io.proofs.PortLemmas.{underway_step, underway_stop}
use Rattle.ops_print.proofs.Split.{spaces_split}
use Rattle.ops_print.proofs.pieces.put_spaces.Goals as goal

pub returns-in_err-put-clause-puts : goal.returns-in_err-put-clause-puts
returns-in_err-put-clause-puts g c =
    let p = err_from_is_err_and c.from_residual.result c.from_residual.ensures.1 in
    rw p.1 (underway_stop stop.Write _ _ _ _ _ _ _ c.loop-left.invariant (spaces_split _ _ _ c.some_spaces.ensures (omega arith)) c.in_err-put.ensures.puts)

pub loop-left-preserved : goal.loop-left-preserved
loop-left-preserved g c = underway_step _ _ _ _ _ _ _ c.loop-left.invariant (spaces_split _ _ _ c.some_spaces.ensures (omega arith)) c.in_ok-put.ensures.puts
