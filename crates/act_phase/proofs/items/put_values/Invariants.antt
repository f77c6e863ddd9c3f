use Rattle.std.proofs.Common.{drop}
use Rattle.ops_io.specs.Ports.{port, Underway}
use Rattle.ops_meaning.specs.Layout.{values_bytes}
use Rattle.ops_print.specs.Leads.{lead_of}
use Rattle.act_phase.proofs.items.put_values.Given as goal

abbrev pub invariant-loop-value : goal.invariant-loop-value
invariant-loop-value g l =
    Underway (port (g.K.Sink.taken l.fn.sink) (g.K.Sink.faults l.fn.sink) l.fn.out)
    (port (g.K.Sink.taken l.sink) (g.K.Sink.faults l.sink) l.out)
    (values_bytes l.names (lead_of l.fn.lead) l.fn.out.column l.values) (values_bytes l.names (lead_of l.lead) l.out.column (drop l.value-index l.values))
