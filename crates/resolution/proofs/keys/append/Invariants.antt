use Rattle.std.proofs.Common.{◌≡◌, ◌+◌, ◌++◌, take}
use Rattle.std.specs.Prelude.{vec_len, vec_capacity}
use Rattle.resolution.proofs.keys.append.Given as goal

abbrev pub invariant-loop-tag : goal.invariant-loop-tag
invariant-loop-tag l = record {
  items : l.numbers.items ≡ l.fn.numbers.items ++ take l.tag-index l.tags;
  len : vec_len l.numbers ≡ vec_len l.fn.numbers + l.tag-index;
  capacity : vec_capacity l.numbers ≡ vec_capacity l.fn.numbers;
}
