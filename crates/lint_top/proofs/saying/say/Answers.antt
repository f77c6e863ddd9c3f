use Rattle.std.proofs.Common.{ap}
use Rattle.std.proofs.lemmas.Result.{err_from_is_err_and}
use Rattle.ops_io.specs.Output.{OutState}
use Rattle.ops_io.specs.declared.stop.Stop.TheVariants as stop
use Rattle.lint_top.specs.Report.{Reply}
use Rattle.lint_top.proofs.Deliveries.{unput, unflushed}
use Rattle.lint_top.proofs.saying.say.Goals as goal

pub returns-in_err-put : goal.returns-in_err-put
returns-in_err-put g c =
    let p = err_from_is_err_and c.from_residual-in_err-put.result c.from_residual-in_err-put.ensures.1 in
    let o : Reply = record { bytes = c.args.bytes.now; status = c.args.status } in
    rw (p.1, p.2) (record { delivers = unput stop.Write o _ _ (ap (λ (o : OutState). o.held) c.in_ok-out.ensures) c.in_err-put.ensures.puts })

pub returns-in_err-flush : goal.returns-in_err-flush
returns-in_err-flush g c =
    let p = err_from_is_err_and c.from_residual-in_err-flush.result c.from_residual-in_err-flush.ensures.1 in
    let o : Reply = record { bytes = c.args.bytes.now; status = c.args.status } in
    rw (p.1, p.2) (record { delivers = unflushed stop.Write o _ _ _ (ap (λ (o : OutState). o.held) c.in_ok-out.ensures) c.in_ok-put.ensures.puts c.in_err-flush.ensures.flushes })
