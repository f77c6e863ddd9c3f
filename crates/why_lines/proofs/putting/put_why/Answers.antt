use Rattle.std.proofs.Common.{◌≡◌, ◌∙◌, refl, sym, subst, List, ℕ}
use Rattle.std.proofs.lemmas.Result.{err_from_is_err_and}
use Rattle.ops_base.specs.WorkingMemory.{shown}
use Rattle.ops_io.specs.Ports.{port, Put, Stopped}
use Rattle.ops_io.specs.declared.stop.Stop.TheVariants as stop
use Rattle.ops_meaning.specs.Running.{lists}
use Rattle.ops_meaning.proofs.EffectLemmas.{fails_short}
use Rattle.why_lines.specs.WhyLines.{why_lines}
use Rattle.why_lines.proofs.OneText.{none_put, some_put, text_refused, fresh_refused}
use Rattle.why_lines.proofs.putting.put_why.Goals as goal

pub returns-in_err-text : goal.returns-in_err-text
returns-in_err-text g c = λ k.
    let p = err_from_is_err_and c.from_residual.result c.from_residual.ensures.1 in
    let lines = why_lines c.args.names.now c.args.program.now.classes c.args.program.now.rules (shown c.args.wm.now) in
    rw (p.1, p.2) (fails_short (port (g.K.Sink.taken c.args.sink.now) (g.K.Sink.faults c.args.sink.now) c.args.out.now) (lists c.args.out.now.column lines k) c.requires.whole)

pub returns-then-is_empty : goal.returns-then-is_empty
returns-then-is_empty g c = λ k.
    (refl, none_put (port (g.K.Sink.taken c.args.sink.now) (g.K.Sink.faults c.args.sink.now) c.args.out.now) _ c.as_slice.result.now (c.as_slice.ensures.value ∙ c.in_ok-text.ensures) c.requires.whole (sym c.is_empty.ensures ∙ c.if-is_empty.true))

pub returns-in_err-fresh_line : goal.returns-in_err-fresh_line
returns-in_err-fresh_line g c = λ k.
    let p = err_from_is_err_and c.from_residual-in_err-fresh_line.result c.from_residual-in_err-fresh_line.ensures.1 in
    rw (p.1, p.2)
    (fresh_refused (port (g.K.Sink.taken c.args.sink.now) (g.K.Sink.faults c.args.sink.now) c.args.out.now) _ c.as_slice.result.now (c.as_slice.ensures.value ∙ c.in_ok-text.ensures) (sym c.is_empty.ensures ∙ c.if-is_empty.false)
    stop.Write _ c.in_err-fresh_line.ensures.puts)

pub returns-in_err-put : goal.returns-in_err-put
returns-in_err-put g c = λ k.
    let p = err_from_is_err_and c.from_residual-in_err-put.result c.from_residual-in_err-put.ensures.1 in
    let S : List ℕ → Type 0 = λ xs. Stopped stop.Write (port (g.K.Sink.taken c.fresh_line.new.sink) (g.K.Sink.faults c.fresh_line.new.sink) c.fresh_line.new.out) (port (g.K.Sink.taken c.put.new.sink) (g.K.Sink.faults c.put.new.sink) c.put.new.self) xs in
    rw (p.1, p.2)
    (text_refused (port (g.K.Sink.taken c.args.sink.now) (g.K.Sink.faults c.args.sink.now) c.args.out.now) _ c.as_slice.result.now (c.as_slice.ensures.value ∙ c.in_ok-text.ensures) (sym c.is_empty.ensures ∙ c.if-is_empty.false)
    stop.Write _ _ c.in_ok-fresh_line.ensures.puts (subst S (c.deref.ensures.value ∙ sym c.as_slice.ensures.value) c.in_err-put.ensures.puts))

pub returns : goal.returns
returns g c = λ k.
    let S : List ℕ → Type 0 = λ xs. Put (port (g.K.Sink.taken c.fresh_line.new.sink) (g.K.Sink.faults c.fresh_line.new.sink) c.fresh_line.new.out) (port (g.K.Sink.taken c.put.new.sink) (g.K.Sink.faults c.put.new.sink) c.put.new.self) xs in (
      refl,
      some_put (port (g.K.Sink.taken c.args.sink.now) (g.K.Sink.faults c.args.sink.now) c.args.out.now) _ c.as_slice.result.now (c.as_slice.ensures.value ∙ c.in_ok-text.ensures) (sym c.is_empty.ensures ∙ c.if-is_empty.false)
          _ _ c.in_ok-fresh_line.ensures.puts (subst S (c.deref.ensures.value ∙ sym c.as_slice.ensures.value) c.in_ok-put.ensures.puts),
    )
