use Rattle.std.proofs.Common.{◌≡◌, drop}
use Rattle.std.specs.Prelude.{◌||◌}
use Rattle.std.specs.HashSet.{contains}
use Rattle.program_slips.specs.declared.given.Given.{Given as Fact}
use Rattle.program_slips.specs.Given.{same_given, is_given}
use Rattle.program_slips.proofs.findings.known_of.Given as goal

abbrev pub invariant-loop-fact : goal.invariant-loop-fact
invariant-loop-fact l =
    (g : Fact) → is_given l.facts g ≡ (contains same_given l.known g || is_given (drop l.fact-index l.facts) g)
