use Rattle.std.proofs.Common.{◌+◌, ◌-◌}
use Rattle.ops_base.specs.WorkingMemory.{shown}
use Rattle.ops_io.specs.Ports.{port}
use Rattle.ops_meaning.specs.Partials.{all_partial_lines, left_side, partial_lines_from}
use Rattle.session.proofs.Lines.{LinesLeft}
use Rattle.session.proofs.partials.put_all.Given as goal

abbrev pub invariant-loop-met : goal.invariant-loop-met
invariant-loop-met g l =
    LinesLeft (port (g.K.Sink.taken l.fn.sink) (g.K.Sink.faults l.fn.sink) l.fn.out) (port (g.K.Sink.taken l.sink) (g.K.Sink.faults l.sink) l.out)
    (all_partial_lines l.names l.name (shown l.wm) (left_side l.program.rules l.rule)) (partial_lines_from l.names l.name (shown l.wm) (left_side l.program.rules l.rule) (l.met + 1) (l.count - l.met))
