-- How a conflict set changes when working memory does.
use Rattle.std.specs.Prelude.{List, ◌↔◌, Contains}
use Rattle.ops_base.specs.declared.rules.Inst.{Inst}
use Rattle.ops_base.specs.Instances.{IsInOrder}

-- What is gone was in the set and no longer is, and what has come is in it and was not: what left and came back is in
-- neither. Both stand in the order of rule and tags.
pub record IsSettled (before now gone come : List Inst) : Type 0 where
  pub gone_is : (i : Inst) → Contains gone i ↔ (Contains before i × ¬ Contains now i)
  pub come_is : (i : Inst) → Contains come i ↔ (Contains now i × ¬ Contains before i)
  pub gone_in_order : IsInOrder gone
  pub come_in_order : IsInOrder come
