use Rattle.std.proofs.Common.{drop}
use Rattle.ops_io.specs.Ports.{port, Underway}
use Rattle.ops_meaning.specs.Layout.{attributes_text}
use Rattle.ops_print.proofs.elements.put_attributes.Given as goal

abbrev pub invariant-loop-field : goal.invariant-loop-field
invariant-loop-field g l =
    Underway (port (g.K.Sink.taken l.fn.sink) (g.K.Sink.faults l.fn.sink) l.fn.out) (port (g.K.Sink.taken l.sink) (g.K.Sink.faults l.sink) l.out)
    (attributes_text l.names l.class l.item 0 l.class.attrs) (attributes_text l.names l.class l.item l.field (drop l.field l.attrs))
