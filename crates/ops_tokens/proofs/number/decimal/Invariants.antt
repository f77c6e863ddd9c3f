use Rattle.std.proofs.Common.{◌≡◌, ◌^◌, ◌<◌, take}
use Rattle.ops_tokens.specs.Numbers.{decimal}
use Rattle.ops_tokens.proofs.Decimals.{AreDigits}
use Rattle.ops_tokens.proofs.number.decimal.Given as goal

abbrev pub invariant-loop-byte : goal.invariant-loop-byte
invariant-loop-byte l = record { value : l.value ≡ decimal (take l.byte-index l.bytes); fits : l.value < 2 ^ 128; digits : AreDigits l.bytes l.byte-index }
