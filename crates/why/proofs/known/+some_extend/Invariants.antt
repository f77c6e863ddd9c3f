use Rattle.std.proofs.Common.{◌≡◌, drop, length, false}
use Rattle.std.specs.List.{list_any}
use Rattle.std.specs.Option.{option_map_or}
use Rattle.ops_base.specs.WorkingMemory.{shown}
use Rattle.ops_base.specs.Matching.{match_of}
use Rattle.ops_base.specs.ConflictSet.{some_extend}
use Rattle.why.specs.Checking.{bindings_in}
use Rattle.why.proofs.known.+some_extend.Given as goal

abbrev pub decreases-some_extend : goal.decreases-some_extend
decreases-some_extend l = length l.conditions.now

abbrev pub invariant-loop-e : goal.invariant-loop-e
invariant-loop-e l =
    list_any (λ e. option_map_or (λ b. some_extend (shown l.wm) l.rest b) (match_of l.first e (bindings_in l.known)) false) (shown (drop l.e-index l.wm))
    ≡ some_extend (shown l.wm) l.conditions (bindings_in l.known)
