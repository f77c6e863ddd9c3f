use Rattle.std.proofs.Common.{◌≡◌, ◌≤◌, ◌-◌, length}
use Rattle.ops_check.specs.Walks.{view}
use Rattle.ops_check.specs.Answered.{rest_of}
use Rattle.ops_check.proofs.program.read_forms.Given as goal

abbrev pub invariant-forms : goal.invariant-forms
invariant-forms l = record {
  so_far : rest_of l.text l.fn.names 0 (view l.fn.draft) ≡ rest_of l.text l.names l.from (view l.draft);
  within : l.from ≤ length l.text;
}

abbrev pub decreases-forms : goal.decreases-forms
decreases-forms l = length l.text - l.from
