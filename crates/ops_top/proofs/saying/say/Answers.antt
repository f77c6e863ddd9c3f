use Rattle.std.proofs.Common.{ap}
use Rattle.std.proofs.lemmas.Result.{err_from_is_err_and}
use Rattle.ops_io.specs.Output.{OutState}
use Rattle.ops_io.specs.declared.stop.Stop.TheVariants as stop
use Rattle.ops_top.specs.Whole.{Reply}
use Rattle.ops_top.proofs.Deliveries.{unput, unflushed}
use Rattle.ops_top.proofs.saying.say.Goals as goal

pub returns-in_err-put-clause-delivers : goal.returns-in_err-put-clause-delivers
returns-in_err-put-clause-delivers g c =
    let p = err_from_is_err_and c.from_residual-in_err-put.result c.from_residual-in_err-put.ensures.1 in
    let o : Reply = record { bytes = c.args.bytes.now; status = c.args.status } in
    rw (p.1, p.2) (unput stop.Write o _ _ (ap (λ (o : OutState). o.held) c.in_ok-out.ensures) c.in_err-put.ensures.puts)

pub returns-in_err-flush-clause-delivers : goal.returns-in_err-flush-clause-delivers
returns-in_err-flush-clause-delivers g c =
    let p = err_from_is_err_and c.from_residual-in_err-flush.result c.from_residual-in_err-flush.ensures.1 in
    let o : Reply = record { bytes = c.args.bytes.now; status = c.args.status } in
    rw (p.1, p.2) (unflushed stop.Write o _ _ _ (ap (λ (o : OutState). o.held) c.in_ok-out.ensures) c.in_ok-put.ensures.puts c.in_err-flush.ensures.flushes)
