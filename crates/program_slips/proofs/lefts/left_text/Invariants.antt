use Rattle.std.proofs.Common.{◌≡◌, ◌++◌, drop}
use Rattle.std.specs.Prelude.{flat_map}
use Rattle.program_slips.specs.Alike.{part_text}
use Rattle.program_slips.proofs.lefts.left_text.Given as goal

abbrev pub invariant-loop-part : goal.invariant-loop-part
invariant-loop-part l = flat_map part_text l.parts ≡ l.text.items ++ flat_map part_text (drop l.part-index l.parts)
