use Rattle.std.proofs.Common.{drop}
use Rattle.std.specs.List.{filter_map}
use Rattle.ops_io.specs.Ports.{port}
use Rattle.ops_meaning.specs.Acting.{element_of}
use Rattle.ops_meaning.specs.Running.{element_lines}
use Rattle.session.proofs.Lines.{LinesLeft}
use Rattle.session.proofs.lists.put_elements.Given as goal

abbrev pub invariant-loop-tag : goal.invariant-loop-tag
invariant-loop-tag g l =
    LinesLeft (port (g.K.Sink.taken l.fn.sink) (g.K.Sink.faults l.fn.sink) l.fn.out) (port (g.K.Sink.taken l.sink) (g.K.Sink.faults l.sink) l.out)
    (element_lines l.names l.program.classes (filter_map (element_of l.store.elements) l.tags)) (element_lines l.names l.program.classes (filter_map (element_of l.store.elements) (drop l.tag-index l.tags)))
