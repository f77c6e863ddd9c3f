-- Putting members in the order of rule and tags.
use Rattle.std.proofs.Common.{◌≡◌, ◌≢◌, List, [], ◌∷◌, length, Bool, true, false, cond, refl, ap, sym, ◌∙◌, subst, inl, inr, ◌⊎◌, arith}
use Rattle.std.specs.Prelude.{filter}
use Rattle.std.specs.declared.cmp.Ordering.{Ordering}
use Rattle.std.specs.declared.cmp.Ordering.TheVariants.{Less, Equal, Greater}
use Rattle.std.specs.Ordering.{MatchOrdering, match_ordering}
use Rattle.ops_base.specs.declared.rules.Inst.{Inst}
use Rattle.ops_base.specs.Instances.{Before, by_rule_and_tags}
use Rattle.ops_base.proofs.Members.{IsMember}
use Rattle.ops_base.proofs.InOrder.{AllBefore}
use Rattle.ops_base.proofs.InstOrder.{standing, before_trans, not_both_before}
use Rattle.conflict_index.specs.Indexed.{Member}
use Rattle.conflict_index.specs.Keeping.{put_in, in_order}
use Rattle.conflict_index.proofs.Members.{MemberBefore, InOrder}
use Rattle.conflict_index.proofs.Sorted.{same_in_order}

-- an instantiation is that of one member
abbrev pub IsOne : List Member → Type 0
IsOne members = (m n : Member) → IsMember m members → IsMember n members → m.inst ≡ n.inst → m ≡ n

pub put_in_member : (k m : Member) (members : List Member) → IsMember k (put_in m members) → (k ≡ m) ⊎ IsMember k members
put_in_member k m [] h = h
put_in_member k m (n ∷ members) h = by_order (by_rule_and_tags m.inst n.inst) (λ g. put_in_member k m members g) h
  where
    by_order : (o : Ordering) → (IsMember k (put_in m members) → (k ≡ m) ⊎ IsMember k members)
        → IsMember k (match_ordering o (m ∷ n ∷ members) (m ∷ members) (n ∷ put_in m members)) → (k ≡ m) ⊎ IsMember k (n ∷ members)
    by_order Less later h = h
    by_order Equal later (inl e) = inl e
    by_order Equal later (inr g) = inr (inr g)
    by_order Greater later (inl e) = inr (inl e)
    by_order Greater later (inr g) = elim (later g) [ inl e ↦ inl e | inr r ↦ inr (inr r) ]

pub member_put_first : (m : Member) (members : List Member) → IsMember m (put_in m members)
member_put_first m [] = inl refl
member_put_first m (n ∷ members) = by_order (by_rule_and_tags m.inst n.inst) (member_put_first m members)
  where
    by_order : (o : Ordering) → IsMember m (put_in m members) → IsMember m (match_ordering o (m ∷ n ∷ members) (m ∷ members) (n ∷ put_in m members))
    by_order Less later = inl refl
    by_order Equal later = inl refl
    by_order Greater later = inr later

pub member_put_in : (k m : Member) (members : List Member) → (k.inst ≡ m.inst → k ≡ m) → IsMember k members → IsMember k (put_in m members)
member_put_in k m [] one h = absurd h
member_put_in k m (n ∷ members) one h =
    by_order (by_rule_and_tags m.inst n.inst) (standing m.inst n.inst (by_rule_and_tags m.inst n.inst) refl) h (λ g. member_put_in k m members one g)
  where
    by_order : (o : Ordering) → MatchOrdering o (Before m.inst n.inst) (m.inst ≡ n.inst) (Before n.inst m.inst) → IsMember k (n ∷ members) → (IsMember k members → IsMember k (put_in m members))
        → IsMember k (match_ordering o (m ∷ n ∷ members) (m ∷ members) (n ∷ put_in m members))
    by_order Less s h later = inr h
    by_order Equal s (inl e) later = inl (one (ap (λ (w : Member). w.inst) e ∙ sym s))
    by_order Equal s (inr g) later = inr g
    by_order Greater s (inl e) later = inl e
    by_order Greater s (inr g) later = inr (later g)

put_in_sorted : (m : Member) (members : List Member) → InOrder members → InOrder (put_in m members)
put_in_sorted m [] a = (λ k h. absurd h, tt)
put_in_sorted m (n ∷ members) a =
    by_order (by_rule_and_tags m.inst n.inst) (standing m.inst n.inst (by_rule_and_tags m.inst n.inst) refl) (put_in_sorted m members a.1)
  where
    by_order : (o : Ordering) → MatchOrdering o (Before m.inst n.inst) (m.inst ≡ n.inst) (Before n.inst m.inst) → InOrder (put_in m members)
        → InOrder (match_ordering o (m ∷ n ∷ members) (m ∷ members) (n ∷ put_in m members))
    by_order Less s later = (all, a)
      where
        all : (k : Member) → IsMember k (n ∷ members) → MemberBefore m k
        all k (inl e) = let P : Member → Type 0 = MemberBefore m in subst P (sym e) s
        all k (inr h) = before_trans m.inst n.inst k.inst s (a.0 k h)
    by_order Equal s later = (λ k h. let P : Inst → Type 0 = λ i. Before i k.inst in subst P (sym s) (a.0 k h), a.1)
    by_order Greater s later = (all, later)
      where
        all : (k : Member) → IsMember k (put_in m members) → MemberBefore n k
        all k h = elim (put_in_member k m members h) [
          | inl e ↦ (let P : Member → Type 0 = MemberBefore n in subst P (sym e) s)
          | inr g ↦ a.0 k g
        ]

pub sorted : (members : List Member) → InOrder (in_order members)
sorted [] = tt
sorted (m ∷ members) = put_in_sorted m (in_order members) (sorted members)

pub in_order_member : (k : Member) (members : List Member) → IsMember k (in_order members) → IsMember k members
in_order_member k [] h = h
in_order_member k (m ∷ members) h =
    elim (put_in_member k m (in_order members) h) [ inl e ↦ inl e | inr g ↦ inr (in_order_member k members g) ]

pub member_in_order : (k : Member) (members : List Member) → IsOne members → IsMember k members → IsMember k (in_order members)
member_in_order k [] one h = h
member_in_order k (m ∷ members) one (inl e) =
    let P : Member → Type 0 = λ w. IsMember w (put_in m (in_order members)) in subst P (sym e) (member_put_first m (in_order members))
member_in_order k (m ∷ members) one (inr h) =
    member_put_in k m (in_order members) (λ e. one k m (inr h) (inl refl) e)
    (member_in_order k members (λ x y g l e. one x y (inr g) (inr l) e) h)

pub members_apart : (m n : Member) → MemberBefore m n → MemberBefore n m → ⊥
members_apart m n a b = not_both_before m.inst n.inst a b

-- members in order with these members are these members in order
pub in_order_is : (members sorted_ones : List Member) → IsOne members → InOrder sorted_ones → ((m : Member) → IsMember m members → IsMember m sorted_ones) → ((m : Member) → IsMember m sorted_ones → IsMember m members)
    → in_order members ≡ sorted_ones
in_order_is members sorted_ones one a f g =
    same_in_order MemberBefore members_apart (in_order members) sorted_ones (sorted members) a
    (λ m h. f m (in_order_member m members h)) (λ m h. member_in_order m members one (g m h))

-- ---- how many of them pass a test

abbrev Differ : Member → Member → Type 0
Differ m n = m.inst ≢ n.inst

length-filter_put : (p : Member → Bool) (m : Member) (members : List Member) → ((n : Member) → IsMember n members → m.inst ≢ n.inst)
    → length (filter p (put_in m members)) ≡ length (filter p (m ∷ members))
length-filter_put p m [] apart = refl
length-filter_put p m (n ∷ members) apart =
    by_order (by_rule_and_tags m.inst n.inst) (standing m.inst n.inst (by_rule_and_tags m.inst n.inst) refl) (length-filter_put p m members (λ k h. apart k (inr h)))
  where
    by_tests : (a b : Bool) → length (filter p (put_in m members)) ≡ length (cond a (m ∷ filter p members) (filter p members))
        → length (cond b (n ∷ filter p (put_in m members)) (filter p (put_in m members)))
        ≡ length (cond a (m ∷ cond b (n ∷ filter p members) (filter p members)) (cond b (n ∷ filter p members) (filter p members)))
    by_tests true true e = omega (arith, e)
    by_tests true false e = e
    by_tests false true e = omega (arith, e)
    by_tests false false e = e

    by_order : (o : Ordering) → MatchOrdering o (Before m.inst n.inst) (m.inst ≡ n.inst) (Before n.inst m.inst) → length (filter p (put_in m members)) ≡ length (filter p (m ∷ members))
        → length (filter p (match_ordering o (m ∷ n ∷ members) (m ∷ members) (n ∷ put_in m members))) ≡ length (filter p (m ∷ n ∷ members))
    by_order Less s later = refl
    by_order Equal s later = absurd (apart n (inl refl) s)
    by_order Greater s later = by_tests (p m) (p n) later

-- putting members with different instantiations in order changes no count
pub length-filter_in_order : (p : Member → Bool) (members : List Member) → AllBefore Differ members → length (filter p (in_order members)) ≡ length (filter p members)
length-filter_in_order p [] a = refl
length-filter_in_order p (m ∷ members) a =
    length-filter_put p m (in_order members) (λ n h. a.0 n (in_order_member n members h)) ∙ by_test (p m) (length-filter_in_order p members a.1)
  where
    by_test : (b : Bool) → length (filter p (in_order members)) ≡ length (filter p members)
        → length (cond b (m ∷ filter p (in_order members)) (filter p (in_order members))) ≡ length (cond b (m ∷ filter p members) (filter p members))
    by_test true e = omega (arith, e)
    by_test false e = e
