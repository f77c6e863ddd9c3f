use Rattle.std.proofs.Common.{drop}
use Rattle.ops_io.specs.Ports.{port}
use Rattle.ops_meaning.specs.Running.{break_lines}
use Rattle.session.proofs.Lines.{LinesLeft}
use Rattle.session.proofs.productions.put_breaks.Given as goal

abbrev pub invariant-loop-number : goal.invariant-loop-number
invariant-loop-number g l =
    LinesLeft (port (g.K.Sink.taken l.fn.sink) (g.K.Sink.faults l.fn.sink) l.fn.out) (port (g.K.Sink.taken l.sink) (g.K.Sink.faults l.sink) l.out)
    (break_lines l.names l.breaks 0 l.program.rules) (break_lines l.names l.breaks l.number (drop l.number l.rules))
