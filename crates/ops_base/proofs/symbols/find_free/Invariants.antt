use Rattle.std.proofs.Common.{◌≡◌, ◌-◌, ◌^◌, suc}
use Rattle.ops_base.specs.Names.{first_free, spellings}
use Rattle.ops_base.proofs.symbols.find_free.Given as goal

-- The search from here on finds what the search from the start finds.
abbrev pub invariant-loop-number : goal.invariant-loop-number
invariant-loop-number l =
    first_free (2 ^ 64 - 1 - l.number) (spellings l.held.keys) (suc l.number) ≡ first_free (2 ^ 64 - 1 - l.made) (spellings l.held.keys) (suc l.made)

abbrev pub decreases-loop-number : goal.decreases-loop-number
decreases-loop-number l = 2 ^ 64 - 1 - l.number
