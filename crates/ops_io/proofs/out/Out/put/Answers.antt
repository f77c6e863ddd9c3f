use Rattle.std.proofs.Common.{[], ap, sym, arith, length}
use Rattle.std.proofs.lemmas.List.{append-nil}
use Rattle.std.proofs.lemmas.Result.{err_from_is_err_and}
use Rattle.ops_io.specs.Output.{OutState}
use Rattle.ops_io.specs.Ports.{port}
use Rattle.ops_io.specs.declared.stop.Stop.TheVariants as stop
use Rattle.ops_io.proofs.PortLemmas.{put_held, put_then_flushed, put_then_stopped, underway_step, underway_stop, underway_done}
use Rattle.ops_io.proofs.out.Out.put.Goals as goal

pub returns-in_err-flush-clause-puts : goal.returns-in_err-flush-clause-puts
returns-in_err-flush-clause-puts g c =
    let p = err_from_is_err_and c.from_residual.result c.from_residual.ensures.1 in
    rw p.1 (underway_stop stop.Write _ _ (port (g.K.Sink.taken c.flush.new.sink) (g.K.Sink.faults c.flush.new.sink) c.flush.new.self) _ _ _ _ c.loop-rest.invariant.underway c.split_at.ensures.by_index.0 (put_then_stopped _ _ _ _ _ (put_held _ _ _ c.loop-rest.invariant.underway.put.whole c.hold.ensures) c.in_err-flush.ensures.flushes))

pub loop-rest-preserved : goal.loop-rest-preserved
loop-rest-preserved g c = record {
  underway =
      underway_step _ _ _ _ _ _ _ c.loop-rest.invariant.underway c.split_at.ensures.by_index.0
      (put_then_flushed _ _ _ _ (put_held _ _ _ c.loop-rest.invariant.underway.put.whole c.hold.ensures) c.in_ok-flush.ensures.flushes);
  unwritten = λ fits.
      let same = c.loop-rest.invariant.unwritten fits in
      let held = ap (λ (o : OutState). length o.held) same.1 in
      absurd (omega (arith, fits, ap length same.0, held, c.loop-rest-test.true, c.room.ensures.room));
}

pub returns-clause-puts : goal.returns-clause-puts
returns-clause-puts g c =
    underway_done _ _ _ (underway_step _ _ _ _ _ _ [] c.loop-rest.invariant.underway (sym (append-nil c.loop-rest.rest.now)) (put_held _ _ _ c.loop-rest.invariant.underway.put.whole c.hold-2.ensures))
