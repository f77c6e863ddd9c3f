use Rattle.std.proofs.Common.{◌≡◌, ◌++◌, map, take, drop}
use Rattle.ops_tokens.specs.Accepting.{shown}
use Rattle.ops_tokens.proofs.accept.show.Given as goal

abbrev pub invariant-loop-byte : goal.invariant-loop-byte
invariant-loop-byte l = l.bytes ≡ map shown (take l.byte-index l.fn.bytes) ++ drop l.byte-index l.fn.bytes
