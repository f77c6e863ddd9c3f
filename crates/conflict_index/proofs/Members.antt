-- Members in the order of rule and tags.
use Rattle.std.proofs.Common.{◌≡◌, List, [], ◌∷◌, ap, sym, ◌∙◌, inl, inr}
use Rattle.ops_base.specs.declared.rules.Inst.{Inst}
use Rattle.ops_base.specs.Instances.{Before, IsInOrder}
use Rattle.ops_base.proofs.Members.{IsMember, member-map}
use Rattle.ops_base.proofs.InOrder.{AllBefore, all_before-map, all_pairs_from_before, before_from_all_pairs}
use Rattle.ops_base.proofs.InstOrder.{before_differs}
use Rattle.conflict_index.specs.Indexed.{Member, insts_of}

abbrev pub MemberBefore : Member → Member → Type 0
MemberBefore m n = Before m.inst n.inst

-- each member stands before all that follow it
abbrev pub InOrder : List Member → Type 0
InOrder members = AllBefore MemberBefore members

abbrev inst_of : Member → Inst
inst_of m = m.inst

insts_before : (members : List Member) → InOrder members → AllBefore Before (insts_of members)
insts_before members a = all_before-map MemberBefore Before inst_of members (λ m n b. b) a

pub insts_in_order : (members : List Member) → InOrder members → IsInOrder (insts_of members)
insts_in_order members a = all_pairs_from_before Before (insts_of members) (insts_before members a)

members_before : (members : List Member) → AllBefore Before (insts_of members) → InOrder members
members_before [] a = tt
members_before (m ∷ members) a = (λ n h. a.0 n.inst (member-map inst_of n members h), members_before members a.1)

pub members_in_order : (members : List Member) → IsInOrder (insts_of members) → InOrder members
members_in_order members h = members_before members (before_from_all_pairs Before (insts_of members) h)

-- an instantiation is that of one member
pub one_member : (members : List Member) (m n : Member) → InOrder members → IsMember m members → IsMember n members → m.inst ≡ n.inst → m ≡ n
one_member [] m n a h k e = absurd h
one_member (x ∷ members) m n a (inl h) (inl k) e = h ∙ sym k
one_member (x ∷ members) m n a (inl h) (inr k) e =
    absurd (before_differs x.inst n.inst (a.0 n k) (ap inst_of (sym h) ∙ e))
one_member (x ∷ members) m n a (inr h) (inl k) e =
    absurd (before_differs x.inst m.inst (a.0 m h) (ap inst_of (sym k) ∙ sym e))
one_member (x ∷ members) m n a (inr h) (inr k) e = one_member members m n a.1 h k e
