use Rattle.std.proofs.Common.{List, ℕ, sym, subst}
use Rattle.std.proofs.lemmas.Result.{err_from_is_err_and}
use Rattle.ops_io.specs.Ports.{port, Stopped}
use Rattle.ops_io.specs.declared.stop.Stop.TheVariants as stop
use Rattle.ops_meaning.specs.Acting.{change_text}
use Rattle.ops_meaning.specs.Layout.{lines_at}
use Rattle.session.proofs.Lines.{item_step, item_stop}
use Rattle.session.proofs.traces.put_changes.Goals as goal

pub returns-in_err-put_change : goal.returns-in_err-put_change
returns-in_err-put_change g c =
    let p = err_from_is_err_and c.from_residual.result c.from_residual.ensures.1 in
    let P : List (List ℕ) → Type 0 = λ ls. Stopped stop.Write (port (g.K.Sink.taken c.args.sink.now) (g.K.Sink.faults c.args.sink.now) c.args.out.now) (port (g.K.Sink.taken c.put_change.new.sink) (g.K.Sink.faults c.put_change.new.sink) c.put_change.new.out) (lines_at c.args.out.now.column ls) in
    rw p.1
    (subst P (sym (c.requires.told.lines c.args.names.now c.args.program.now.classes))
    (item_stop (change_text c.args.names.now c.args.program.now.classes c.args.store.now.elements) c.args.changes.now c.loop-change.change-index c.change-item.result c.change-item.result c.loop-change-test.true c.change-item.is
    _ _ _ c.loop-change.invariant c.in_err-put_change.ensures))

pub loop-change-preserved : goal.loop-change-preserved
loop-change-preserved g c =
    item_step (change_text c.args.names.now c.args.program.now.classes c.args.store.now.elements) c.args.changes.now c.loop-change.change-index c.change-item.result c.change-item.result c.loop-change-test.true c.change-item.is
    _ _ _ c.loop-change.invariant c.in_ok-put_change.ensures
