-- How the members change when instantiations go and come, and when one fires.
use Rattle.std.specs.Prelude.{◌≡◌, List, map, false, true, ◌⊎◌, ◌↔◌, All, Contains, if◌then◌else◌}
use Rattle.ops_base.specs.declared.rules.Inst.{Inst}
use Rattle.ops_base.specs.declared.rules.Rule.{Rule}
use Rattle.ops_base.specs.Dominance.{specificity_of}
use Rattle.ops_base.specs.Instances.{IsInOrder}
use Rattle.ops_base.specs.Refraction.{is_same_inst}
use Rattle.conflict_index.specs.Indexed.{Member, Indexed, insts_of}

-- an instantiation that comes: it has the specificity of its production, and has not fired
abbrev pub newcomer : List Rule → Inst → Member
newcomer rules i = record { inst = i; specificity = specificity_of rules i.rule; fired = false }

-- it was a member, and does not go
abbrev pub Stays : List Inst → List Member → Member → Type 0
Stays gone members m = Contains members m × ¬ Contains gone m.inst

-- it is one of those that come
abbrev pub Comes : List Rule → List Inst → Member → Type 0
Comes rules come m = (i : Inst) × Contains come i × (m ≡ newcomer rules i)

-- The members that do not go stay as they are. Those that come are new and have not fired. All are in the order of rule
-- and tags, each once.
pub record IsApplied (rules : List Rule) (gone come : List Inst) (old new : Indexed) : Type 0 where
  pub strategy : new.strategy ≡ old.strategy
  pub in_order : IsInOrder (insts_of new.members)
  pub members : (m : Member) → Contains new.members m ↔ (Stays gone old.members m ⊎ Comes rules come m)

-- all of the first are among the second
abbrev pub IsPart : List Inst → List Inst → Type 0
IsPart part whole = All (Contains whole) part

-- none of the first is among the second
abbrev pub IsApart : List Inst → List Inst → Type 0
IsApart insts others = All (λ i. ¬ Contains others i) insts

-- the members, with this instantiation marked as fired
abbrev pub marked : Inst → List Member → List Member
marked i members = map (λ (m : Member). if is_same_inst m.inst i then record m { fired = true } else m) members
