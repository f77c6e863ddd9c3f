use Rattle.std.proofs.Common.{drop, map}
use Rattle.ops_io.specs.Ports.{port}
use Rattle.ops_meaning.specs.Acting.{change_text}
use Rattle.session.proofs.Lines.{LinesLeft}
use Rattle.session.proofs.traces.put_changes.Given as goal

abbrev pub invariant-loop-change : goal.invariant-loop-change
invariant-loop-change g l =
    LinesLeft (port (g.K.Sink.taken l.fn.sink) (g.K.Sink.faults l.fn.sink) l.fn.out) (port (g.K.Sink.taken l.sink) (g.K.Sink.faults l.sink) l.out)
    (map (change_text l.names l.program.classes l.store.elements) l.changes) (map (change_text l.names l.program.classes l.store.elements) (drop l.change-index l.changes))
