use Rattle.ops_io.specs.Ports.{port, Underway}
use Rattle.ops_meaning.specs.Layout.{spaces}
use Rattle.ops_print.proofs.pieces.put_spaces.Given as goal

abbrev pub invariant-loop-left : goal.invariant-loop-left
invariant-loop-left g l =
    Underway (port (g.K.Sink.taken l.fn.sink) (g.K.Sink.faults l.fn.sink) l.fn.out) (port (g.K.Sink.taken l.sink) (g.K.Sink.faults l.sink) l.out) (spaces l.count) (spaces l.left)

abbrev pub decreases-loop-left : goal.decreases-loop-left
decreases-loop-left g l = l.left
