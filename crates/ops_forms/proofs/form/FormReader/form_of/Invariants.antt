use Rattle.std.proofs.Common.{◌-◌, length}
use Rattle.ops_forms.proofs.Reading.{IsOpen}
use Rattle.ops_forms.proofs.form.FormReader.form_of.Given as goal

abbrev pub invariant-loop-token : goal.invariant-loop-token
invariant-loop-token l = IsOpen l.text l.fn.left l.tokens.items l.past l.depth

abbrev pub decreases-loop-token : goal.decreases-loop-token
decreases-loop-token l = length l.text - l.past
