use Rattle.std.proofs.Common.{drop}
use Rattle.std.specs.List.{flat_map}
use Rattle.ops_base.specs.WorkingMemory.{shown}
use Rattle.ops_io.specs.Ports.{port}
use Rattle.ops_meaning.specs.Running.{matches_told}
use Rattle.session.proofs.Lines.{LinesLeft}
use Rattle.session.proofs.partials.put_of_names.Given as goal

abbrev pub invariant-loop-name : goal.invariant-loop-name
invariant-loop-name g l =
    LinesLeft (port (g.K.Sink.taken l.fn.sink) (g.K.Sink.faults l.fn.sink) l.fn.out) (port (g.K.Sink.taken l.sink) (g.K.Sink.faults l.sink) l.out)
    (flat_map (matches_told l.names l.program.rules (shown l.wm)) l.given) (flat_map (matches_told l.names l.program.rules (shown l.wm)) (drop l.name-index l.given))
