use Rattle.std.proofs.Common.{◌≡◌, ◌++◌, drop}
use Rattle.std.specs.Prelude.{flat_map}
use Rattle.program_slips.specs.Alike.{condition_text}
use Rattle.program_slips.proofs.lefts.add_members.Given as goal

abbrev pub invariant-loop-member : goal.invariant-loop-member
invariant-loop-member l = l.initial.text.items ++ flat_map condition_text l.members ≡ l.text.items ++ flat_map condition_text (drop l.member-index l.members)
