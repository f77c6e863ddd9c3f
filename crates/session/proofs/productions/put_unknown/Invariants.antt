use Rattle.std.proofs.Common.{drop, map}
use Rattle.ops_io.specs.Ports.{port}
use Rattle.ops_meaning.specs.Layout.{unknown_line}
use Rattle.ops_meaning.specs.Running.{unknown_of}
use Rattle.session.proofs.Lines.{LinesLeft}
use Rattle.session.proofs.productions.put_unknown.Given as goal

abbrev pub invariant-loop-name : goal.invariant-loop-name
invariant-loop-name g l =
    LinesLeft (port (g.K.Sink.taken l.fn.sink) (g.K.Sink.faults l.fn.sink) l.fn.out) (port (g.K.Sink.taken l.sink) (g.K.Sink.faults l.sink) l.out)
    (map (unknown_line l.names) (unknown_of l.program.rules l.given)) (map (unknown_line l.names) (unknown_of l.program.rules (drop l.name-index l.given)))
