use Rattle.std.proofs.Common.{drop, map}
use Rattle.ops_io.specs.Ports.{port}
use Rattle.ops_meaning.specs.Running.{production_line}
use Rattle.act_phase.specs.Outcomes.{setting_of}
use Rattle.session.proofs.Lines.{LinesLeft}
use Rattle.session.proofs.productions.put_productions.Given as goal

abbrev pub invariant-loop-name : goal.invariant-loop-name
invariant-loop-name g l =
    LinesLeft (port (g.K.Sink.taken l.fn.sink) (g.K.Sink.faults l.fn.sink) l.fn.out) (port (g.K.Sink.taken l.sink) (g.K.Sink.faults l.sink) l.out)
    (map (production_line (setting_of l.program 0) l.names) l.given) (map (production_line (setting_of l.program 0) l.names) (drop l.name-index l.given))
