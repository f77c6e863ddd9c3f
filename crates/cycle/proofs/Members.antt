-- The members of an index and their instantiations, which stand in order.
use Rattle.std.proofs.Common.{◌≡◌, List, [], ◌∷◌, filter, length, ◌<◌, Bool, ap, sym, ◌∙◌, inl, inr}
use Rattle.std.specs.Prelude.{Contains, ◌↔◌}
use Rattle.std.proofs.lemmas.List.Elements.{All-contains}
use Rattle.ops_base.specs.declared.elements.Element.{Element}
use Rattle.ops_base.specs.declared.rules.Inst.{Inst}
use Rattle.ops_base.specs.declared.rules.Rule.{Rule}
use Rattle.ops_base.specs.ConflictSet.{conflict_set}
use Rattle.ops_base.specs.Instances.{Before, IsInOrder, IsConflictSet, AreOf}
use Rattle.ops_base.specs.WorkingMemory.{HasRisingTags}
use Rattle.ops_base.proofs.Members.{IsMember, contains_from_member, all_from_members, member-map}
use Rattle.ops_base.proofs.InOrder.{AllBefore, all_before-map}
use Rattle.ops_base.proofs.InstOrder.{before_differs}
use Rattle.ops_base.proofs.ConflictSetLaws.{conflict_set-is, conflict_set_only, computed_of}
use Rattle.ops_base.proofs.Filtered.{all_before-filter}
use Rattle.conflict_index.specs.Indexed.{Member, insts_of}

-- ---- members in order

abbrev Below : Member → Member → Type 0
Below m n = Before m.inst n.inst

below_from : (ms : List Member) → AllBefore Before (insts_of ms) → AllBefore Below ms
below_from [] a = tt
below_from (m ∷ ms) a =
    (λ n p. a.0 n.inst (member-map (λ (k : Member). k.inst) n ms p), below_from ms a.1)

-- the members that pass a test have their instantiations in order
pub insts_before-filter : (p : Member → Bool) (ms : List Member) → AllBefore Before (insts_of ms) → AllBefore Before (insts_of (filter p ms))
insts_before-filter p ms a =
    all_before-map Below Before (λ (k : Member). k.inst) (filter p ms) (λ m n b. b) (all_before-filter Below p ms (below_from ms a))

-- one instantiation has one member
pub one_member : (ms : List Member) → AllBefore Before (insts_of ms) → (m n : Member) → IsMember m ms → IsMember n ms → m.inst ≡ n.inst → m ≡ n
one_member [] a m n p q e = absurd p
one_member (k ∷ ms) a m n (inl p) (inl q) e = p ∙ sym q
one_member (k ∷ ms) a m n (inl p) (inr q) e =
    absurd (before_differs k.inst n.inst (a.0 n.inst (member-map (λ (w : Member). w.inst) n ms q)) (ap (λ (w : Member). w.inst) (sym p) ∙ e))
one_member (k ∷ ms) a m n (inr p) (inl q) e =
    absurd (before_differs k.inst m.inst (a.0 m.inst (member-map (λ (w : Member). w.inst) m ms p)) (ap (λ (w : Member). w.inst) (sym q) ∙ sym e))
one_member (k ∷ ms) a m n (inr p) (inr q) e = one_member ms a.1 m n p q e

-- ---- the conflict set

-- members in order that are what was found are the conflict set
pub members_computed : (rules : List Rule) (wm : List Element) (found : List Inst) (ms : List Member) → HasRisingTags wm → IsConflictSet rules wm found → ((i : Inst) → Contains (insts_of ms) i ↔ Contains found i) → IsInOrder (insts_of ms)
    → insts_of ms ≡ conflict_set rules wm
members_computed rules wm found ms h set same order =
    conflict_set_only rules wm (conflict_set rules wm) (insts_of ms) (conflict_set-is rules wm h)
    (record { sound = λ i p. set.sound i ((same i).0 p); complete = λ i p. (same i).1 (set.complete i p); in_order = order })

-- each of a conflict set is of one of the rules
pub set_of : (rules : List Rule) (wm : List Element) (set : List Inst) → HasRisingTags wm → IsConflictSet rules wm set → AreOf rules set
set_of rules wm set h is =
    computed_of rules wm set (conflict_set_only rules wm (conflict_set rules wm) set (conflict_set-is rules wm h) is)

-- so is each of a part of them
pub part_of : (rules : List Rule) (part whole : List Inst) → AreOf rules whole → ((i : Inst) → Contains part i → Contains whole i) → AreOf rules part
part_of rules part whole are within =
    let P : Inst → Type 0 = λ i. i.rule < length rules in
    all_from_members P part (λ i m. All-contains P whole i are (within i (contains_from_member i part m)))
