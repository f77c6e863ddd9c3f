use Rattle.std.proofs.Common.{map}
use Rattle.ops_io.specs.Ports.{port}
use Rattle.ops_meaning.specs.Layout.{inst_text}
use Rattle.session.specs.Courses.{standing_in}
use Rattle.session.proofs.Lines.{LinesLeft}
use Rattle.session.proofs.lists.put_standing.Given as goal

abbrev pub invariant-loop-inst : goal.invariant-loop-inst
invariant-loop-inst g l =
    LinesLeft (port (g.K.Sink.taken l.fn.sink) (g.K.Sink.faults l.fn.sink) l.fn.out) (port (g.K.Sink.taken l.sink) (g.K.Sink.faults l.sink) l.out)
    (map (inst_text l.names l.program.rules) (standing_in l.program.rules l.index)) (map (inst_text l.names l.program.rules) l.inst-iterator)
