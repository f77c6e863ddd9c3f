use Rattle.std.proofs.Common.{◌≡◌, ◌≤◌, not, length, take, take_while, reverse}
use Rattle.ops_tokens.specs.Bytes.{is_white}
use Rattle.ops_forms.proofs.words.behind_white.Given as goal

abbrev pub invariant-loop-byte : goal.invariant-loop-byte
invariant-loop-byte l = record {
  count : l.count ≡ length (take_while (λ b. not (is_white b)) (reverse (take l.byte-index l.bytes)));
  fits : l.count ≤ l.byte-index;
}
