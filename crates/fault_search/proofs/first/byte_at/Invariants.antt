use Rattle.std.proofs.Common.{◌≡◌, ℕ, ◌+◌, ◌<◌, ◌≤◌}
use Rattle.ops_grammar.specs.Places.{line_of, column_of}
use Rattle.fault_search.proofs.first.byte_at.Given as goal

abbrev pub invariant-loop-i : goal.invariant-loop-i
invariant-loop-i l = record {
  line : l.here.line ≡ line_of l.text l.i;
  column : l.here.column ≡ column_of l.text l.i;
  low_line : l.here.line ≤ 1 + l.i;
  low_column : l.here.column ≤ 1 + l.i;
  none : (k : ℕ) → k < l.i → l.place.line ≡ line_of l.text k → l.place.column ≡ column_of l.text k → ⊥;
}
