use Rattle.std.proofs.Common.{◌≡◌, ◌∙◌, ap, sym, subst, refl, false, [], List, Err}
use Rattle.std.proofs.lemmas.Result.{err_from_is_err_and}
use Rattle.ops_base.specs.declared.elements.Element.{Element}
use Rattle.ops_base.specs.WorkingMemory.{HasRisingTags, shown}
use Rattle.ops_io.specs.Coming.{Coming}
use Rattle.ops_io.specs.Ports.{port}
use Rattle.ops_io.specs.declared.stop.Stop.TheVariants as stop
use Rattle.ops_io.proofs.PortLemmas.{put_then_stopped, put_then_flushed}
use Rattle.ops_meaning.specs.Effects.{Fails, of_ending}
use Rattle.ops_meaning.specs.Layout.{lines_at}
use Rattle.ops_meaning.specs.Running.{lists}
use Rattle.ops_meaning.proofs.EffectLemmas.{fails_short}
use Rattle.work_store.specs.Stored.{Stored}
use Rattle.session.specs.Trailing.{meant_with}
use Rattle.session.proofs.Explained.{written_read}
use Rattle.session.proofs.UnderWay.{all_stored}
use Rattle.why_lines.specs.Explained.{explains}
use Rattle.why_lines.specs.WhyLines.{why_lines}
use Rattle.session.proofs.whole.put_explanations.Goals as goal

-- some input
abbrev some : Coming
some = record { bytes = []; fails = false }

pub put_why-requires-clause-rising : goal.put_why-requires-clause-rising
put_why-requires-clause-rising g c =
    subst HasRisingTags (sym (ap shown c.deref.ensures.value ∙ c.in_ok-wm.ensures.elements)) c.in_ok-wm.ensures.rising

pub returns-in_err-wm-clause-performs : goal.returns-in_err-wm-clause-performs
returns-in_err-wm-clause-performs g c = λ z.
    let p = err_from_is_err_and c.from_residual.result c.from_residual.ensures.1 in
    let k = meant_with g.M.Matcher.stored c.args.program.now.rules c.args.undoable c.args.names.now z in
    rw (p.1, p.2) (fails_short (port (g.K.Sink.taken c.args.sink.now) (g.K.Sink.faults c.args.sink.now) c.args.out.now) (explains c.args.program.now.classes c.args.out.now.column k) c.requires.whole)

pub returns-in_err-wm-clause-reads : goal.returns-in_err-wm-clause-reads
returns-in_err-wm-clause-reads g c =
    let p = err_from_is_err_and c.from_residual.result c.from_residual.ensures.1 in rw (p.1, p.2) refl

pub returns-in_err-put_why-clause-performs : goal.returns-in_err-put_why-clause-performs
returns-in_err-put_why-clause-performs g c = λ z.
    let p = err_from_is_err_and c.from_residual-in_err-put_why.result c.from_residual-in_err-put_why.ensures.1 in
    let k = meant_with g.M.Matcher.stored c.args.program.now.rules c.args.undoable c.args.names.now z in
    let is : shown c.deref.result.now ≡ k.course.wm =
    ap shown c.deref.ensures.value ∙ c.in_ok-wm.ensures.elements ∙ ap (λ (x : Stored). x.elements) c.store.ensures ∙ all_stored g.M.Matcher.stored c.args.undoable.session c.args.names.now z c.requires.none_waits in
    let P : List Element → Type 0 = λ wm. Fails (of_ending c.in_err-put_why.field-0.0) (port (g.K.Sink.taken c.args.sink.now) (g.K.Sink.faults c.args.sink.now) c.args.out.now)
    (port (g.K.Sink.taken c.put_why.new.sink) (g.K.Sink.faults c.put_why.new.sink) c.put_why.new.out) (lists c.args.out.now.column (why_lines c.args.names.now c.args.program.now.classes c.args.program.now.rules wm) k) in
    rw (p.1, p.2) (subst P is (c.in_err-put_why.ensures k))

pub returns-in_err-put_why-clause-reads : goal.returns-in_err-put_why-clause-reads
returns-in_err-put_why-clause-reads g c =
    let p = err_from_is_err_and c.from_residual-in_err-put_why.result c.from_residual-in_err-put_why.ensures.1 in
    let k = meant_with g.M.Matcher.stored c.args.program.now.rules c.args.undoable c.args.names.now some in
    let is : c.from_residual-in_err-put_why.result ≡ Err c.in_err-put_why.field-0.0 = rw (p.1, p.2) refl in
    written_read c.from_residual-in_err-put_why.result c.in_err-put_why.field-0.0
    (port (g.K.Sink.taken c.args.sink.now) (g.K.Sink.faults c.args.sink.now) c.args.out.now)
    (port (g.K.Sink.taken c.put_why.new.sink) (g.K.Sink.faults c.put_why.new.sink) c.put_why.new.out)
    (lines_at c.args.out.now.column (why_lines c.args.names.now c.args.program.now.classes c.args.program.now.rules (shown c.deref.result.now))) k is (c.in_err-put_why.ensures k)

pub flush-requires-clause-whole : goal.flush-requires-clause-whole
flush-requires-clause-whole g c =
    let k = meant_with g.M.Matcher.stored c.args.program.now.rules c.args.undoable c.args.names.now some in
    (c.in_ok-put_why.ensures k).1.whole

pub flush-requires-clause-faults : goal.flush-requires-clause-faults
flush-requires-clause-faults g c =
    let k = meant_with g.M.Matcher.stored c.args.program.now.rules c.args.undoable c.args.names.now some in
    rw (c.in_ok-put_why.ensures k).1.faults c.requires.faults

pub returns-in_err-flush-clause-performs : goal.returns-in_err-flush-clause-performs
returns-in_err-flush-clause-performs g c = λ z.
    let p = err_from_is_err_and c.from_residual-in_err-flush.result c.from_residual-in_err-flush.ensures.1 in
    let k = meant_with g.M.Matcher.stored c.args.program.now.rules c.args.undoable c.args.names.now z in
    let is : shown c.deref.result.now ≡ k.course.wm =
    ap shown c.deref.ensures.value ∙ c.in_ok-wm.ensures.elements ∙ ap (λ (x : Stored). x.elements) c.store.ensures ∙ all_stored g.M.Matcher.stored c.args.undoable.session c.args.names.now z c.requires.none_waits in
    let lines : List Element → _ = λ wm. why_lines c.args.names.now c.args.program.now.classes c.args.program.now.rules wm in
    rw (p.1, p.2) (rw (sym is) (put_then_stopped stop.Write _ _ _ _ (c.in_ok-put_why.ensures k).1 c.in_err-flush.ensures.flushes))

pub returns-in_err-flush-clause-reads : goal.returns-in_err-flush-clause-reads
returns-in_err-flush-clause-reads g c =
    let p = err_from_is_err_and c.from_residual-in_err-flush.result c.from_residual-in_err-flush.ensures.1 in rw (p.1, p.2) refl

pub returns-clause-performs : goal.returns-clause-performs
returns-clause-performs g c = λ z.
    let k = meant_with g.M.Matcher.stored c.args.program.now.rules c.args.undoable c.args.names.now z in
    let is : shown c.deref.result.now ≡ k.course.wm =
    ap shown c.deref.ensures.value ∙ c.in_ok-wm.ensures.elements ∙ ap (λ (x : Stored). x.elements) c.store.ensures ∙ all_stored g.M.Matcher.stored c.args.undoable.session c.args.names.now z c.requires.none_waits in
    (refl, rw (sym is) (put_then_flushed _ _ _ _ (c.in_ok-put_why.ensures k).1 c.in_ok-flush.ensures.flushes))
