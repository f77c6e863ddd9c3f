use Rattle.std.proofs.Common.{◌≡◌, ◌++◌, drop}
use Rattle.std.specs.Prelude.{map}
use Rattle.program_slips.specs.Given.{loosened}
use Rattle.program_slips.proofs.given.add_loosened.Given as goal

abbrev pub invariant-loop-fact : goal.invariant-loop-fact
invariant-loop-fact l = l.initial.given.items ++ map loosened l.facts ≡ l.given.items ++ map loosened (drop l.fact-index l.facts)
