use Rattle.std.proofs.Common.{◌∙◌, ◌+◌, map, subst, ℕ, List}
use Rattle.std.proofs.lemmas.Result.{err_from_is_err_and}
use Rattle.ops_base.specs.WorkingMemory.{shown}
use Rattle.ops_io.specs.Ports.{port, Put, Stopped}
use Rattle.ops_io.specs.declared.stop.Stop.TheVariants as stop
use Rattle.ops_meaning.specs.Layout.{lines_at, partial_text}
use Rattle.ops_meaning.specs.Partials.{left_side, partial_lines}
use Rattle.session.proofs.Lines.{lines_short, lines_step, lines_stop}
use Rattle.session.proofs.PartialLines.{numbers_here}
use Rattle.session.proofs.partials.put_all.Goals as goal

pub returns-in_err-found : goal.returns-in_err-found
returns-in_err-found g c =
    let p = err_from_is_err_and c.from_residual.result c.from_residual.ensures.1 in
    rw (p.1, p.2) (lines_short _ _ _ _ c.loop-met.invariant)

pub returns-in_err-put_found : goal.returns-in_err-put_found
returns-in_err-put_found g c =
    let p = err_from_is_err_and c.from_residual-in_err-put_found.result c.from_residual-in_err-put_found.ensures.1 in
    let parts = left_side c.args.program.now.rules c.args.rule in
    let P : List (List ℕ) → Type 0 = λ ts. Stopped stop.Write (port (g.K.Sink.taken c.loop-met.sink) (g.K.Sink.faults c.loop-met.sink) c.loop-met.out) (port (g.K.Sink.taken c.put_found.new.sink) (g.K.Sink.faults c.put_found.new.sink) c.put_found.new.out) (lines_at c.loop-met.out.column (map (partial_text c.args.names.now c.args.name.now (c.loop-met.met + 1)) ts)) in
    rw (p.1, p.2)
    (lines_stop _ _ _ _ _ (partial_lines c.args.names.now c.args.name.now (shown c.args.wm.now) parts (c.loop-met.met + 1)) _ c.loop-met.invariant
    (numbers_here c.args.names.now c.args.name.now (shown c.args.wm.now) parts c.count_of_parts-count.result c.loop-met.met c.loop-met-test.true) (subst P (c.as_slice.ensures ∙ c.in_ok-found.ensures.computed) c.in_err-put_found.ensures))

pub loop-met-preserved : goal.loop-met-preserved
loop-met-preserved g c =
    let parts = left_side c.args.program.now.rules c.args.rule in
    let P : List (List ℕ) → Type 0 = λ ts. Put (port (g.K.Sink.taken c.loop-met.sink) (g.K.Sink.faults c.loop-met.sink) c.loop-met.out) (port (g.K.Sink.taken c.put_found.new.sink) (g.K.Sink.faults c.put_found.new.sink) c.put_found.new.out) (lines_at c.loop-met.out.column (map (partial_text c.args.names.now c.args.name.now (c.loop-met.met + 1)) ts)) in
    lines_step _ _ _ _ _ (partial_lines c.args.names.now c.args.name.now (shown c.args.wm.now) parts (c.loop-met.met + 1)) _ c.loop-met.invariant
    (numbers_here c.args.names.now c.args.name.now (shown c.args.wm.now) parts c.count_of_parts-count.result c.loop-met.met c.loop-met-test.true) (subst P (c.as_slice.ensures ∙ c.in_ok-found.ensures.computed) c.in_ok-put_found.ensures)
