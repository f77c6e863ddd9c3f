use Rattle.std.proofs.Common.{◌∙◌, ap, sym}
use Rattle.std.proofs.lemmas.Result.{err_from_is_err_and}
use Rattle.ops_io.specs.Ports.{port}
use Rattle.ops_meaning.specs.Layout.{tagged_text}
use Rattle.ops_meaning.specs.Running.{element_lines}
use Rattle.session.proofs.Lines.{line_step, line_stop, lines_begin}
use Rattle.session.proofs.lists.put_all.Goals as goal

pub loop-element-preserved : goal.loop-element-preserved
loop-element-preserved g c =
    let lines = element_lines c.args.names.now c.args.program.now.classes in
    line_step _ _ _ (lines c.args.store.now.elements) (lines c.loop-element.element-iterator) (lines c.next.new.self) (tagged_text c.args.names.now c.args.program.now.classes c.in-Some.element.now)
    c.loop-element.invariant (ap lines c.in-Some.ensures.steps) c.in_ok-put_element_line.ensures.puts

pub returns-in_err-put_element_line : goal.returns-in_err-put_element_line
returns-in_err-put_element_line g c =
    let p = err_from_is_err_and c.from_residual.result c.from_residual.ensures.1 in
    let lines = element_lines c.args.names.now c.args.program.now.classes in
    rw p.1
    (line_stop _ _ _ (lines c.args.store.now.elements) (lines c.loop-element.element-iterator) (lines c.next.new.self) (tagged_text c.args.names.now c.args.program.now.classes c.in-Some.element.now)
    c.loop-element.invariant (ap lines c.in-Some.ensures.steps) c.in_err-put_element_line.ensures.puts)

-- at the beginning all of them are still to come
pub loop-element-init : goal.loop-element-init
loop-element-init g c =
    let lines = element_lines c.args.names.now c.args.program.now.classes in
    lines_begin (port (g.K.Sink.taken c.args.sink.now) (g.K.Sink.faults c.args.sink.now) c.args.out.now) (lines c.args.store.now.elements) (lines c.into_iter-element-iterator.result) c.requires.whole
    (ap lines (sym (c.into_iter-element-iterator.ensures.into_iter_gives ∙ c.iter-element-items.ensures)))
