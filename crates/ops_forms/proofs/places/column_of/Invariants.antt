use Rattle.std.proofs.Common.{◌≡◌, ◌≤◌, ◌+◌, ◌==◌, not, length, take, take_while, reverse}
use Rattle.ops_forms.proofs.places.column_of.Given as goal

abbrev pub invariant-loop-byte : goal.invariant-loop-byte
invariant-loop-byte l = record {
  column : l.column ≡ 1 + length (take_while (λ b. not (b == 10)) (reverse (take l.byte-index l.before)));
  fits : l.column ≤ 1 + l.byte-index;
}
