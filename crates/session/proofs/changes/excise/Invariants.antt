use Rattle.ops_io.specs.Ports.{port}
use Rattle.session.proofs.Changing.{Excising}
use Rattle.session.proofs.changes.excise.Given as goal

abbrev pub invariant-loop-name : goal.invariant-loop-name
invariant-loop-name g l =
    Excising g.M.Matcher.stored g.M.Matcher.stands_for l.fn.live.program l.live.program l.names l.given l.name-index l.fn.session l.session
    (port (g.K.Sink.taken l.fn.sink) (g.K.Sink.faults l.fn.sink) l.fn.out) (port (g.K.Sink.taken l.sink) (g.K.Sink.faults l.sink) l.out)
