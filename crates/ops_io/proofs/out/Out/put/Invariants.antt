use Rattle.std.proofs.Common.{◌≡◌, ◌+◌, ◌≤◌, length}
use Rattle.ops_io.specs.Ports.{port, Underway}
use Rattle.ops_io.specs.declared.out.TheConstants.{BUFFER_SIZE}
use Rattle.ops_io.proofs.out.Out.put.Given as goal

abbrev pub invariant-loop-rest : goal.invariant-loop-rest
invariant-loop-rest g l = record {
  underway : Underway (port (g.K.Sink.taken l.fn.sink) (g.K.Sink.faults l.fn.sink) l.fn.self) (port (g.K.Sink.taken l.sink) (g.K.Sink.faults l.sink) l.self) l.bytes l.rest;
  unwritten : length l.fn.self.held + length l.bytes ≤ BUFFER_SIZE → (l.rest ≡ l.bytes) × (l.self ≡ l.fn.self) × (l.sink ≡ l.fn.sink);
}

abbrev pub decreases-loop-rest : goal.decreases-loop-rest
decreases-loop-rest g l = length l.rest + length l.self.held
