use Rattle.std.proofs.Common.{◌≡◌, ◌+◌, ◌++◌, drop}
use Rattle.why_lines.specs.WhyLines.{spots_from}
use Rattle.why_lines.proofs.spots.spots_of.Given as goal

abbrev pub invariant-loop-before : goal.invariant-loop-before
invariant-loop-before l = l.spots.items ++ spots_from (l.before + 1) (drop l.before l.parts) ≡ spots_from 1 l.parts
