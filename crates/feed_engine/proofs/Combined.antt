-- How two settles in a row combine.
use Rattle.std.proofs.Common.{◌≡◌, ◌≢◌, ◌+◌, List, [], ◌∷◌, ◌++◌, get_or, Bool, true, false, not, refl, ap, sym, ◌∙◌, subst, inl, inr, ◌⊎◌, arith}
use Rattle.std.specs.Prelude.{Contains, ◌↔◌, IsPermutation, IsSorted}
use Rattle.std.specs.declared.cmp.Ordering.{Ordering}
use Rattle.std.specs.declared.cmp.Ordering.TheVariants.{Less, Equal, Greater}
use Rattle.std.specs.List.{IsDistinct}
use Rattle.std.specs.List.Sorted.{IsStrictlySortedBy}
use Rattle.std.specs.Ordering.{is_lt, ordering_reverse}
use Rattle.std.proofs.lemmas.Bool.{false≢true}
use Rattle.std.proofs.lemmas.List.Elements.{recursion_from_All}
use Rattle.std.proofs.lemmas.List.Sorted.{Contains-permutation, IsPermutation-sym}
use Rattle.std.proofs.lemmas.Map.Keys.{IsDistinct-IsPermutation, apart_from_distinct, sorted_from_all_adjacent}
use Rattle.ops_base.specs.declared.rules.Inst.{Inst}
use Rattle.ops_base.specs.Instances.{Before, by_rule_and_tags, IsInOrder}
use Rattle.ops_base.specs.Refraction.{is_same_inst, is_among, unfired}
use Rattle.ops_base.proofs.Filtered.{all_before-filter}
use Rattle.ops_base.proofs.InOrder.{AllBefore, all_before-append, all_pairs_from_before, before_from_all_pairs}
use Rattle.ops_base.proofs.InstOrder.{compare_total, less_before, before_differs, standing}
use Rattle.ops_base.proofs.Members.{IsMember, all_from_members, members_from_each, member_from_contains, contains_from_member, member_left, member_right, member_cases}
use Rattle.ops_base.proofs.RefractionLaws.{is_same_inst-Decides, among_or_not, member-unfired}
use Rattle.work_store.specs.Settling.{IsSettled}

-- ---- sorted, each once

flips : (i j : Inst) → is_same_inst i j ≡ is_same_inst j i
flips i j = by_test (is_same_inst i j) (is_same_inst j i) refl refl
  where
    by_test : (a b : Bool) → is_same_inst i j ≡ a → is_same_inst j i ≡ b → a ≡ b
    by_test true true e f = refl
    by_test false false e f = refl
    by_test true false e f =
        absurd (false≢true (sym f ∙ (is_same_inst-Decides j i).1 (sym ((is_same_inst-Decides i j).0 e))))
    by_test false true e f =
        absurd (false≢true (sym e ∙ (is_same_inst-Decides i j).1 (sym ((is_same_inst-Decides j i).0 f))))

less_of : (i j : Inst) → is_lt (by_rule_and_tags j i) ≡ false → is_same_inst i j ≡ false → by_rule_and_tags i j ≡ Less
less_of i j up differ = by_order (by_rule_and_tags i j) refl
  where
    by_order : (o : Ordering) → by_rule_and_tags i j ≡ o → o ≡ Less
    by_order Less e = refl
    by_order Equal e =
        absurd (false≢true (sym differ ∙ (is_same_inst-Decides i j).1 (standing i j Equal (sym e))))
    by_order Greater e =
        absurd (false≢true (sym up ∙ ap is_lt (compare_total.antisymm j i ∙ ap ordering_reverse e)))

no_inst : Inst
no_inst = record { rule = 0; tags = [] }

before_each : (insts : List Inst) → IsStrictlySortedBy by_rule_and_tags insts → AllBefore Before insts
unfolding IsStrictlySortedBy
before_each [] h = tt
before_each (i ∷ insts) h = (
  λ j m. less_before i j (members_from_each (λ w. by_rule_and_tags i w ≡ Less) insts h.0 j m),
  before_each insts h.1,
)

in_order_from_sorted : (insts : List Inst) → IsSorted by_rule_and_tags insts → IsDistinct is_same_inst insts → AllBefore Before insts
in_order_from_sorted insts s u =
    before_each insts (sorted_from_all_adjacent compare_total insts no_inst (λ k h.
    less_of (get_or insts k no_inst) (get_or insts (k + 1) no_inst) (s k no_inst (omega arith) h) (apart_from_distinct is_same_inst insts k (k + 1) no_inst u (omega arith) h)))

differs : (i j : Inst) → i ≢ j → is_same_inst i j ≡ false
differs i j apart = by (is_same_inst i j) refl
  where
    by : (b : Bool) → is_same_inst i j ≡ b → is_same_inst i j ≡ false
    by false e = e
    by true e = absurd (apart ((is_same_inst-Decides i j).0 e))

abbrev Differ : Inst → Inst → Type 0
Differ i j = i ≢ j

distinct : (insts : List Inst) → AllBefore Differ insts → IsDistinct is_same_inst insts
unfolding IsDistinct
distinct [] a = tt
distinct (i ∷ insts) a = (
  recursion_from_All (λ j. is_same_inst i j ≡ false) insts (all_from_members (λ j. is_same_inst i j ≡ false) insts (λ j h. differs i j (a.0 j h))),
  distinct insts a.1,
)

apart_in_order : (insts : List Inst) → AllBefore Before insts → AllBefore Differ insts
apart_in_order [] a = tt
apart_in_order (i ∷ insts) a = (λ j m. before_differs i j (a.0 j m), apart_in_order insts a.1)

-- ---- two lists as one

-- if two lists are in order and have nothing in common, both sorted as one list are in order
pub merged_in_order : (xs ys all : List Inst) → IsInOrder xs → IsInOrder ys → ((i : Inst) → Contains xs i → Contains ys i → ⊥) → IsPermutation (xs ++ ys) all → IsSorted by_rule_and_tags all → IsInOrder all
merged_in_order xs ys all in_xs in_ys apart moved sorted =
    let each : AllBefore Differ (xs ++ ys) =
    all_before-append Differ xs ys (apart_in_order xs (before_from_all_pairs Before xs in_xs)) (apart_in_order ys (before_from_all_pairs Before ys in_ys))
    (λ i j m n same. let P : Inst → Type 0 = λ w. IsMember w ys in apart i (contains_from_member i xs m) (contains_from_member i ys (subst P (sym same) n))) in
    all_pairs_from_before Before all (in_order_from_sorted all sorted (IsDistinct-IsPermutation is_same_inst flips (xs ++ ys) all moved (distinct (xs ++ ys) each)))

-- it contains what either of them contains
pub merged_has : (xs ys all : List Inst) (i : Inst) → IsPermutation (xs ++ ys) all → Contains all i ↔ (Contains xs i ⊎ Contains ys i)
merged_has xs ys all i moved = (to, from)
  where
    to : Contains all i → Contains xs i ⊎ Contains ys i
    to h = elim (member_cases i xs ys (member_from_contains i (xs ++ ys) (Contains-permutation all (xs ++ ys) i (IsPermutation-sym (xs ++ ys) all moved) h))) [
      | inl m ↦ inl (contains_from_member i xs m)
      | inr m ↦ inr (contains_from_member i ys m)
    ]

    from : Contains xs i ⊎ Contains ys i → Contains all i
    from (inl h) = Contains-permutation (xs ++ ys) all i moved (contains_from_member i (xs ++ ys) (member_left i xs ys (member_from_contains i xs h)))
    from (inr h) = Contains-permutation (xs ++ ys) all i moved (contains_from_member i (xs ++ ys) (member_right i xs ys (member_from_contains i ys h)))

less_in_order : (xs ys : List Inst) → IsInOrder xs → IsInOrder (unfired xs ys)
less_in_order xs ys h =
    all_pairs_from_before Before (unfired xs ys) (all_before-filter Before (λ i. not (is_among ys i)) xs (before_from_all_pairs Before xs h))

-- ---- one half of a change: what is in one set and not in another, over a third

-- Of three sets, what is in the last and not in the first: this is in the second and not in the first, and did not go
-- again, or it is in the last and not in the second, and had not gone before.
module _ (first second third added lost adds loses all : List Inst)
    (is_added : (i : Inst) → Contains added i ↔ (Contains second i × ¬ Contains first i)) (is_lost : (i : Inst) → Contains lost i ↔ (Contains first i × ¬ Contains second i))
    (adds_is : (i : Inst) → Contains adds i ↔ (Contains third i × ¬ Contains second i)) (loses_is : (i : Inst) → Contains loses i ↔ (Contains second i × ¬ Contains third i))
    (moved : IsPermutation (unfired added loses ++ unfired adds lost) all) where
  pub all_is : (i : Inst) → Contains all i ↔ (Contains third i × ¬ Contains first i)
  all_is i = (to, from)
    where
      parts : Contains all i ↔ (Contains (unfired added loses) i ⊎ Contains (unfired adds lost) i)
      parts = merged_has (unfired added loses) (unfired adds lost) all i moved

      stays : Contains second i → ¬ Contains loses i → Contains third i ⊎ ¬ Contains third i → Contains third i
      stays s l (inl t) = t
      stays s l (inr t) = absurd (l ((loses_is i).1 (s, t)))

      by : Contains (unfired added loses) i ⊎ Contains (unfired adds lost) i → Contains third i × ¬ Contains first i
      by (inl h) =
          let k = (member-unfired added loses i).0 h in
          let a = (is_added i).0 k.0 in (stays a.0 k.1 (among_or_not third i), a.1)
      by (inr h) =
          let k = (member-unfired adds lost i).0 h in
          let a = (adds_is i).0 k.0 in (a.0, λ f. k.1 ((is_lost i).1 (f, a.1)))

      to : Contains all i → Contains third i × ¬ Contains first i
      to h = by (parts.0 h)

      halves : Contains third i → ¬ Contains first i → Contains second i ⊎ ¬ Contains second i → Contains (unfired added loses) i ⊎ Contains (unfired adds lost) i
      halves t f (inl s) = inl ((member-unfired added loses i).1 ((is_added i).1 (s, f), λ l. ((loses_is i).0 l).1 t))
      halves t f (inr s) = inr ((member-unfired adds lost i).1 ((adds_is i).1 (t, s), λ l. f ((is_lost i).0 l).0))

      from : Contains third i × ¬ Contains first i → Contains all i
      from p = parts.1 (halves p.0 p.1 (among_or_not second i))

  pub all_in_order : IsInOrder added → IsInOrder adds → IsSorted by_rule_and_tags all → IsInOrder all
  all_in_order one two sorted =
      merged_in_order (unfired added loses) (unfired adds lost) all (less_in_order added loses one) (less_in_order adds lost two)
      (λ i m n. ((adds_is i).0 ((member-unfired adds lost i).0 n).0).1 ((is_added i).0 ((member-unfired added loses i).0 m).0).0) moved sorted

-- two settles in a row
pub both_settled : (before now after gone come goes comes all_gone all_come : List Inst) → IsPermutation (unfired come goes ++ unfired comes gone) all_come → IsSorted by_rule_and_tags all_come
    → IsPermutation (unfired goes come ++ unfired gone comes) all_gone → IsSorted by_rule_and_tags all_gone → IsSettled before now gone come → IsSettled now after goes comes → IsSettled before after all_gone all_come
both_settled before now after gone come goes comes all_gone all_come come_moved come_sorted gone_moved gone_sorted p q = record {
  gone_is = all_is after now before goes comes gone come all_gone q.gone_is q.come_is p.gone_is p.come_is gone_moved;
  come_is = all_is before now after come gone comes goes all_come p.come_is p.gone_is q.come_is q.gone_is come_moved;
  gone_in_order = all_in_order after now before goes comes gone come all_gone q.gone_is q.come_is p.gone_is p.come_is gone_moved q.gone_in_order p.gone_in_order gone_sorted;
  come_in_order = all_in_order before now after come gone comes goes all_come p.come_is p.gone_is q.come_is q.gone_is come_moved p.come_in_order q.come_in_order come_sorted;
}
