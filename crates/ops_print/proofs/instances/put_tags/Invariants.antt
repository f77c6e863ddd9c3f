use Rattle.std.proofs.Common.{drop}
use Rattle.ops_io.specs.Ports.{port, Underway}
use Rattle.ops_meaning.specs.Layout.{tags_text}
use Rattle.ops_print.proofs.instances.put_tags.Given as goal

abbrev pub invariant-loop-tag : goal.invariant-loop-tag
invariant-loop-tag g l =
    Underway (port (g.K.Sink.taken l.fn.sink) (g.K.Sink.faults l.fn.sink) l.fn.out) (port (g.K.Sink.taken l.sink) (g.K.Sink.faults l.sink) l.out)
    (tags_text l.tags) (tags_text (drop l.tag-index l.tags))
