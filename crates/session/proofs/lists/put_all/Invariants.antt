use Rattle.ops_io.specs.Ports.{port}
use Rattle.ops_meaning.specs.Running.{element_lines}
use Rattle.session.proofs.Lines.{LinesLeft}
use Rattle.session.proofs.lists.put_all.Given as goal

abbrev pub invariant-loop-element : goal.invariant-loop-element
invariant-loop-element g l =
    LinesLeft (port (g.K.Sink.taken l.fn.sink) (g.K.Sink.faults l.fn.sink) l.fn.out) (port (g.K.Sink.taken l.sink) (g.K.Sink.faults l.sink) l.out)
    (element_lines l.names l.program.classes l.store.elements) (element_lines l.names l.program.classes l.element-iterator)
