-- The marked ones of the two maps.
use Rattle.std.proofs.Common.{◌≡◌, List, [], ◌∷◌, ◌++◌, map, Bool, true, false, cond, refl, ap}
use Rattle.std.specs.Prelude.{filter}
use Rattle.std.specs.Map.{values_of}
use Rattle.ops_base.specs.declared.rules.Inst.{Inst}
use Rattle.conflict_index.specs.Indexed.{Member, insts_of, fired_of}
use Rattle.conflict_index.specs.Keeping.{held_member, fired_member, all_members}
use Rattle.conflict_index.specs.declared.rank.Held.{Held}
use Rattle.conflict_index.proofs.Kept.{Entry, Mark}

-- those of these that are marked
abbrev pub marked_insts : List Held → List Inst
marked_insts held = map (λ (h : Held). h.inst) (filter (λ h. h.fired) held)

abbrev is_marked : Member → Bool
is_marked m = m.fired

marks_all : (fired : List Mark) → insts_of (filter is_marked (map fired_member fired)) ≡ values_of fired
marks_all [] = refl
marks_all (d ∷ fired) = ap (λ is. d.1 ∷ is) (marks_all fired)

-- first the marked ones of those that wait, then those that fired
pub all_marked : (waiting : List Entry) (fired : List Mark) → fired_of (all_members waiting fired) ≡ marked_insts (values_of waiting) ++ values_of fired
all_marked [] fired = marks_all fired
all_marked (e ∷ waiting) fired = by_mark e.1.fired (all_marked waiting fired)
  where
    by_mark : (b : Bool) → fired_of (all_members waiting fired) ≡ marked_insts (values_of waiting) ++ values_of fired
        → insts_of (cond b (held_member e ∷ filter is_marked (all_members waiting fired)) (filter is_marked (all_members waiting fired)))
        ≡ map (λ (h : Held). h.inst) (cond b (e.1 ∷ filter (λ h. h.fired) (values_of waiting)) (filter (λ h. h.fired) (values_of waiting))) ++ values_of fired
    by_mark true later = ap (λ is. e.1.inst ∷ is) later
    by_mark false later = later
