use Rattle.std.proofs.Common.{◌≡◌, ◌++◌, drop}
use Rattle.std.specs.Prelude.{map}
use Rattle.program_slips.specs.Given.{given_by_fixed}
use Rattle.program_slips.proofs.given.add_fixed.Given as goal

abbrev pub invariant-loop-put : goal.invariant-loop-put
invariant-loop-put l =
    l.initial.given.items ++ map (given_by_fixed l.class) l.puts ≡ l.given.items ++ map (given_by_fixed l.class) (drop l.put-index l.puts)
