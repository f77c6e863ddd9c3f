use Rattle.std.proofs.Common.{◌≡◌, ℕ, ◌-◌, ◌<◌, ◌≤◌, [], take, length}
use Rattle.ops_base.specs.WorkingMemory.{shown}
use Rattle.ops_base.specs.ConflictSet.{matches_of}
use Rattle.why.specs.Explaining.{missing_place, place_from}
use Rattle.why.proofs.explaining.missing_place.Given as goal

abbrev pub invariant-loop-place : goal.invariant-loop-place
invariant-loop-place l = record {
  before : (k : ℕ) → k < l.place → matches_of (shown l.wm) (take k l.parts) ≡ [] → ⊥;
  computed : place_from (shown l.wm) l.parts l.place (length l.parts - l.place) ≡ missing_place (shown l.wm) l.parts;
}
