use Rattle.std.proofs.Common.{drop, map}
use Rattle.ops_io.specs.Ports.{port}
use Rattle.ops_meaning.specs.Layout.{partial_text}
use Rattle.session.proofs.Lines.{LinesLeft}
use Rattle.session.proofs.partials.put_found.Given as goal

abbrev pub invariant-loop-tags : goal.invariant-loop-tags
invariant-loop-tags g l =
    LinesLeft (port (g.K.Sink.taken l.fn.sink) (g.K.Sink.faults l.fn.sink) l.fn.out) (port (g.K.Sink.taken l.sink) (g.K.Sink.faults l.sink) l.out)
    (map (partial_text l.names l.name l.parts) l.found) (map (partial_text l.names l.name l.parts) (drop l.tags-index l.found))
