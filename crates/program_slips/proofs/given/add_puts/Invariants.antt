use Rattle.std.proofs.Common.{◌≡◌, ◌++◌, drop}
use Rattle.std.specs.Prelude.{map}
use Rattle.program_slips.specs.Given.{given_by_put}
use Rattle.program_slips.proofs.given.add_puts.Given as goal

abbrev pub invariant-loop-put : goal.invariant-loop-put
invariant-loop-put l =
    l.initial.given.items ++ map (given_by_put l.class) l.puts ≡ l.given.items ++ map (given_by_put l.class) (drop l.put-index l.puts)
