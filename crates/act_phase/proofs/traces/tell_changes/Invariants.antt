use Rattle.std.proofs.Common.{take, drop}
use Rattle.ops_base.specs.WorkingMemory.{done}
use Rattle.ops_io.specs.Ports.{port, Underway}
use Rattle.ops_meaning.specs.Acting.{change_lines}
use Rattle.ops_meaning.specs.Layout.{lines_at}
use Rattle.act_phase.proofs.traces.tell_changes.Given as goal

abbrev pub invariant-loop-place : goal.invariant-loop-place
invariant-loop-place g l =
    Underway (port (g.K.Sink.taken l.fn.sink) (g.K.Sink.faults l.fn.sink) l.fn.out) (port (g.K.Sink.taken l.sink) (g.K.Sink.faults l.sink) l.out)
    (lines_at l.fn.out.column (change_lines l.names l.doing.setting.classes (done l.doing.working.start (take l.since l.doing.working.changes)) (drop l.since l.doing.working.changes)))
    (lines_at l.out.column (change_lines l.names l.doing.setting.classes (done l.doing.working.start (take l.place l.doing.working.changes)) (drop l.place l.doing.working.changes)))
