use Rattle.std.proofs.Common.{◌≡◌, ◌+◌, drop, false}
use Rattle.ops_tokens.specs.Tokens.{gap}
use Rattle.ops_tokens.proofs.bytes.gap_end.Given as goal

abbrev pub invariant-loop-at : goal.invariant-loop-at
invariant-loop-at l = l.at + gap l.inside (drop l.at l.text) ≡ l.from + gap false (drop l.from l.text)
