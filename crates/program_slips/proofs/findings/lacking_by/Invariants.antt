use Rattle.std.proofs.Common.{◌≡◌, ◌++◌, drop}
use Rattle.std.specs.HashSet.{contains}
use Rattle.program_slips.specs.Given.{same_given}
use Rattle.program_slips.specs.Lacking.{lacking_by}
use Rattle.program_slips.proofs.findings.lacking_by.Given as goal

abbrev pub invariant-loop-ask : goal.invariant-loop-ask
invariant-loop-ask l =
    lacking_by (contains same_given l.initial.known) l.asks ≡ l.found.items ++ lacking_by (contains same_given l.known) (drop l.ask-index l.asks)
