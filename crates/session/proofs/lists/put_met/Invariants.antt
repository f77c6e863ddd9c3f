use Rattle.std.proofs.Common.{filter}
use Rattle.ops_io.specs.Ports.{port}
use Rattle.ops_meaning.specs.Running.{element_lines, meets}
use Rattle.session.proofs.Lines.{LinesLeft}
use Rattle.session.proofs.lists.put_met.Given as goal

abbrev pub invariant-loop-element : goal.invariant-loop-element
invariant-loop-element g l =
    LinesLeft (port (g.K.Sink.taken l.fn.sink) (g.K.Sink.faults l.fn.sink) l.fn.out) (port (g.K.Sink.taken l.sink) (g.K.Sink.faults l.sink) l.out)
    (element_lines l.names l.program.classes (filter (meets l.pattern) l.store.elements)) (element_lines l.names l.program.classes (filter (meets l.pattern) l.element-iterator))
