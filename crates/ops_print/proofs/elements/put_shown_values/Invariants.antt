use Rattle.std.proofs.Common.{drop}
use Rattle.ops_io.specs.Ports.{port, Underway}
use Rattle.ops_meaning.specs.Layout.{shown_values}
use Rattle.ops_print.proofs.elements.put_shown_values.Given as goal

abbrev pub invariant-loop-value : goal.invariant-loop-value
invariant-loop-value g l =
    Underway (port (g.K.Sink.taken l.fn.sink) (g.K.Sink.faults l.fn.sink) l.fn.out) (port (g.K.Sink.taken l.sink) (g.K.Sink.faults l.sink) l.out)
    (shown_values l.names l.values) (shown_values l.names (drop l.value-index l.values))
