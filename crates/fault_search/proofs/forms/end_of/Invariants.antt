use Rattle.std.proofs.Common.{◌≡◌, ◌+◌, ◌≤◌, drop}
use Rattle.fault_search.specs.Forms.{end_of}
use Rattle.fault_search.proofs.forms.end_of.Given as goal

abbrev pub invariant-loop-byte : goal.invariant-loop-byte
invariant-loop-byte l = record {
  goes : end_of l.initial.state l.rest ≡ end_of l.state (drop l.byte-index l.rest);
  place : l.state.at ≡ l.initial.state.at + l.byte-index;
  depth : l.state.depth ≤ l.state.at;
}
