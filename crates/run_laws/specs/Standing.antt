-- The instantiations that stand in a session: the members of the conflict set that have not fired.
use Rattle.std.specs.Prelude.{List}
use Rattle.ops_base.specs.declared.rules.Inst.{Inst}
use Rattle.ops_base.specs.ConflictSet.{conflict_set}
use Rattle.ops_base.specs.Refraction.{unfired}
use Rattle.ops_meaning.specs.Running.{Session, standing_by}

-- those of the productions in force, in the order of the conflict set
abbrev pub stands_in : Session → List Inst
stands_in k = unfired (conflict_set k.rules k.course.wm) k.course.fired

-- the same in the order of dominance, as `cs` lists it
abbrev pub ranking_in : Session → List Inst
ranking_in k = standing_by (conflict_set k.rules) k.rules k.course
