use Rattle.std.proofs.Common.{subst, ℕ, List}
use Rattle.std.proofs.lemmas.Result.{err_from_is_err_and}
use Rattle.ops_io.specs.Ports.{port, Put, Stopped}
use Rattle.ops_io.specs.declared.stop.Stop.TheVariants as stop
use Rattle.ops_meaning.specs.Layout.{line_at, partial_text}
use Rattle.session.proofs.Lines.{item_step, item_stop}
use Rattle.session.proofs.partials.put_found.Goals as goal

pub returns-in_err-put_partial_line : goal.returns-in_err-put_partial_line
returns-in_err-put_partial_line g c =
    let p = err_from_is_err_and c.from_residual.result c.from_residual.ensures.1 in
    let P : List ℕ → Type 0 = λ ts. Stopped stop.Write (port (g.K.Sink.taken c.loop-tags.sink) (g.K.Sink.faults c.loop-tags.sink) c.loop-tags.out) (port (g.K.Sink.taken c.put_partial_line.new.sink) (g.K.Sink.faults c.put_partial_line.new.sink) c.put_partial_line.new.out) (line_at c.loop-tags.out.column (partial_text c.args.names.now c.args.name.now c.args.parts ts)) in
    rw p.1
    (item_stop (partial_text c.args.names.now c.args.name.now c.args.parts) c.args.found.now c.loop-tags.tags-index _ _ c.loop-tags-test.true c.tags-item.is _ _ _ c.loop-tags.invariant (subst P c.as_slice.ensures c.in_err-put_partial_line.ensures.puts))

pub loop-tags-preserved : goal.loop-tags-preserved
loop-tags-preserved g c =
    let P : List ℕ → Type 0 = λ ts. Put (port (g.K.Sink.taken c.loop-tags.sink) (g.K.Sink.faults c.loop-tags.sink) c.loop-tags.out) (port (g.K.Sink.taken c.put_partial_line.new.sink) (g.K.Sink.faults c.put_partial_line.new.sink) c.put_partial_line.new.out) (line_at c.loop-tags.out.column (partial_text c.args.names.now c.args.name.now c.args.parts ts)) in
    item_step (partial_text c.args.names.now c.args.name.now c.args.parts) c.args.found.now c.loop-tags.tags-index _ _ c.loop-tags-test.true c.tags-item.is _ _ _ c.loop-tags.invariant (subst P c.as_slice.ensures c.in_ok-put_partial_line.ensures.puts)
