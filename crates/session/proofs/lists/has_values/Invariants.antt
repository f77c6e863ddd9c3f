use Rattle.std.proofs.Common.{◌≡◌, ◌+◌, drop}
use Rattle.ops_meaning.specs.Running.{has_values}
use Rattle.session.proofs.lists.has_values.Given as goal

abbrev pub invariant-loop-place : goal.invariant-loop-place
invariant-loop-place l = has_values l.element (l.field + l.place) (drop l.place l.values) ≡ has_values l.element l.field l.values
