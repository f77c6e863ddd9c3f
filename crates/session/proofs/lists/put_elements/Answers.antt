use Rattle.std.proofs.Common.{◌∙◌, sym, subst, List}
use Rattle.std.proofs.lemmas.Result.{err_from_is_err_and}
use Rattle.ops_base.specs.declared.elements.Element.{Element}
use Rattle.ops_io.specs.Ports.{port, Stopped}
use Rattle.ops_io.specs.declared.stop.Stop.TheVariants as stop
use Rattle.ops_meaning.specs.Acting.{element_of}
use Rattle.ops_meaning.specs.Layout.{lines_at, tagged_text}
use Rattle.ops_meaning.specs.Running.{element_lines}
use Rattle.session.proofs.Lines.{found_step, found_stop}
use Rattle.session.proofs.Listed.{listed_some}
use Rattle.session.proofs.lists.put_elements.Goals as goal

pub returns-in_err-put_tagged : goal.returns-in_err-put_tagged
returns-in_err-put_tagged g c =
    let p = err_from_is_err_and c.from_residual.result c.from_residual.ensures.1 in
    let P : List Element → Type 0 = λ es. Stopped stop.Write (port (g.K.Sink.taken c.args.sink.now) (g.K.Sink.faults c.args.sink.now) c.args.out.now) (port (g.K.Sink.taken c.put_tagged.new.sink) (g.K.Sink.faults c.put_tagged.new.sink) c.put_tagged.new.out) (lines_at c.args.out.now.column (element_lines c.args.names.now c.args.program.now.classes es)) in
    rw p.1
    (subst P (sym (listed_some c.args.store.now.elements c.args.tags.now (sym c.is_empty.ensures ∙ c.if-is_empty.false)))
    (found_stop (tagged_text c.args.names.now c.args.program.now.classes) (element_of c.args.store.now.elements) c.args.tags.now c.loop-tag.tag-index 0 c.loop-tag-test.true
    _ _ _ c.loop-tag.invariant c.in_err-put_tagged.ensures))

pub loop-tag-preserved : goal.loop-tag-preserved
loop-tag-preserved g c =
    found_step (tagged_text c.args.names.now c.args.program.now.classes) (element_of c.args.store.now.elements) c.args.tags.now c.loop-tag.tag-index 0 c.loop-tag-test.true
    _ _ _ c.loop-tag.invariant c.in_ok-put_tagged.ensures
