use Rattle.std.proofs.Common.{◌≡◌, ◌++◌, drop}
use Rattle.std.specs.Prelude.{flat_map}
use Rattle.program_slips.specs.Alike.{value_text}
use Rattle.program_slips.proofs.lefts.add_values.Given as goal

abbrev pub invariant-loop-value : goal.invariant-loop-value
invariant-loop-value l = l.initial.text.items ++ flat_map value_text l.values ≡ l.text.items ++ flat_map value_text (drop l.value-index l.values)
