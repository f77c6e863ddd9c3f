-- What `cs` lists, and what dominance examines.
use Rattle.std.specs.Prelude.{◌≡◌, ◌↔◌, List, AllPairs, Contains, IsTrue, Some, is_some, slice_get}
use Rattle.ops_base.specs.declared.rules.Inst.{Inst}
use Rattle.ops_base.specs.declared.rules.Rule.{Rule}
use Rattle.ops_base.specs.ConflictSet.{conflict_set}
use Rattle.ops_base.specs.Dominance.{dominates}
use Rattle.ops_base.specs.Valid.{specificity}
use Rattle.ops_meaning.specs.Running.{Course, next_to_fire}

-- Dominance finds what it examines: the rule exists, with the specificity of its conditions, and there is a first tag.
pub record HasRank (rules : List Rule) (i : Inst) : Type 0 where
  pub rule : Rule
  pub there : slice_get rules i.rule ≡ Some rule
  pub specific : rule.specificity ≡ specificity rule.conditions
  pub first : IsTrue (is_some (slice_get i.tags 0))

-- The list has exactly the members of the conflict set that have not fired. Each is dominated by all before it, so that
-- none occurs twice. The first is the next to fire.
pub record IsRanking (rules : List Rule) (m : Course) (list : List Inst) : Type 0 where
  pub members : (i : Inst) → Contains list i ↔ (Contains (conflict_set rules m.wm) i × ¬ Contains m.fired i)
  pub order : AllPairs (λ i j. IsTrue (dominates m.strategy rules i j)) list
  pub first : slice_get list 0 ≡ next_to_fire rules m
