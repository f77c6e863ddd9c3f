use Rattle.std.proofs.Common.{◌≡◌, ◌<◌, ◌≤◌, take}
use Rattle.fault_search.specs.Forms.{after_bytes, at_start}
use Rattle.fault_search.proofs.forms.state_at.Given as goal

abbrev pub invariant-loop-byte : goal.invariant-loop-byte
invariant-loop-byte l = record {
  state : l.state ≡ after_bytes at_start (take l.byte-index l.byte-items);
  place : l.state.at ≡ l.byte-index;
  depth : l.state.depth ≤ l.byte-index;
  first : 0 < l.state.depth → l.state.first < l.state.at;
}
