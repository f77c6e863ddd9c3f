-- Dominance is a strict total order of instantiations, and the dominant one of a list is the one that dominates all others.
use Rattle.std.proofs.Common.{◌≡◌, ◌≢◌, List, [], ◌∷◌, Bool, true, false, cond, not, Option, Some, None, refl, ap, sym, ◌∙◌, subst, inl, inr, ◌⊎◌, fold}
use Rattle.std.specs.Prelude.{IsTrue}
use Rattle.std.specs.Option.{MatchOption}
use Rattle.std.specs.Cmp.{IsTotalOrder}
use Rattle.std.specs.Cmp.Lexicographic.{slice_cmp}
use Rattle.std.specs.declared.cmp.Ordering.{Ordering}
use Rattle.std.specs.declared.cmp.Ordering.TheVariants.{Less, Equal, Greater}
use Rattle.std.specs.Ordering.{nat_cmp, ordering_reverse, is_gt}
use Rattle.std.proofs.lemmas.Cmp.{nat_cmp_total, nat_list_cmp_total, on_total, then_total, back_total, tied_itself, upto}
use Rattle.std.proofs.lemmas.Map.Lookups.{exact_bytes}
use Rattle.std.proofs.lemmas.Bool.{false≢true}
use Rattle.std.specs.Bool.{Decides}
use Rattle.ops_base.specs.declared.rules.Rule.{Rule}
use Rattle.ops_base.specs.declared.rules.Inst.{Inst}
use Rattle.ops_base.specs.declared.commands.Strategy.{Strategy}
use Rattle.ops_base.specs.declared.commands.Strategy.TheVariants.{Lex, Mea}
use Rattle.ops_base.specs.Dominance.{downwards, specificity_of, first_tag, compare_lex, compare_insts, is_greater, dominates}
use Rattle.ops_base.specs.Refraction.{IsDominant, better, dominant, is_same_inst}
use Rattle.ops_base.proofs.Members.{IsMember, member_from_contains, contains_from_member}
use Rattle.ops_base.proofs.InstEquality.{same_fields}
use Rattle.ops_base.proofs.InstOrder.{both_equal, equal_numbers}
use Rattle.ops_base.proofs.RefractionLaws.{is_same_inst-Decides}

compare_lex_total : (rules : List Rule) → IsTotalOrder (compare_lex rules)
compare_lex_total rules =
    then_total (on_total (λ (i : Inst). downwards i.tags) nat_list_cmp_total)
    (then_total (on_total (λ (i : Inst). specificity_of rules i.rule) nat_cmp_total)
    (then_total (back_total (on_total (λ (i : Inst). i.rule) nat_cmp_total)) (on_total (λ (i : Inst). i.tags) nat_list_cmp_total)))

-- Either strategy compares instantiations by a total order.
pub compare_insts_total : (strategy : Strategy) (rules : List Rule) → IsTotalOrder (compare_insts strategy rules)
compare_insts_total Lex rules = compare_lex_total rules
compare_insts_total Mea rules =
    then_total (on_total first_tag nat_cmp_total) (compare_lex_total rules)

equal_by_lex : (rules : List Rule) (i j : Inst) → compare_lex rules i j ≡ Equal → i ≡ j
equal_by_lex rules i j e =
    let a = both_equal (slice_cmp nat_cmp (downwards i.tags) (downwards j.tags)) _ e in
    let b = both_equal (nat_cmp (specificity_of rules i.rule) (specificity_of rules j.rule)) _ a.1 in
    let c = both_equal (nat_cmp j.rule i.rule) (slice_cmp nat_cmp i.tags j.tags) b.1 in
    same_fields i j (sym (equal_numbers j.rule i.rule c.0)) (exact_bytes i.tags j.tags c.1)

-- Two instantiations that compare as equal are.
pub equal_insts : (strategy : Strategy) (rules : List Rule) (i j : Inst) → compare_insts strategy rules i j ≡ Equal → i ≡ j
equal_insts Lex rules i j e = equal_by_lex rules i j e
equal_insts Mea rules i j e = equal_by_lex rules i j (both_equal (nat_cmp (first_tag i) (first_tag j)) (compare_lex rules i j) e).1

-- An instantiation compares with itself as equal.
pub compare_insts_itself : (strategy : Strategy) (rules : List Rule) (i j : Inst) → i ≡ j → compare_insts strategy rules i j ≡ Equal
compare_insts_itself strategy rules i j e =
    let P : Inst → Type 0 = λ w. compare_insts strategy rules i w ≡ Equal in
    subst P e (tied_itself (compare_insts_total strategy rules) i)

other_way : (o p : Ordering) → o ≡ ordering_reverse p → o ≢ Equal → is_greater o ≡ not (is_greater p)
other_way o Less e n = ap is_greater e
other_way o Equal e n = absurd (n e)
other_way o Greater e n = ap is_greater e

-- Of two different instantiations exactly one dominates the other.
pub one_dominates : (strategy : Strategy) (rules : List Rule) (i j : Inst) → i ≢ j → dominates strategy rules i j ≡ not (dominates strategy rules j i)
one_dominates strategy rules i j differ =
    other_way (compare_insts strategy rules i j) (compare_insts strategy rules j i) ((compare_insts_total strategy rules).antisymm i j)
    (λ e. differ (equal_insts strategy rules i j e))

is_greater-is : (o : Ordering) → is_greater o ≡ true → o ≡ Greater
is_greater-is Less e = cc
is_greater-is Equal e = cc
is_greater-is Greater e = refl

-- What dominates another compares as greater, and the other as less.
pub dominates-less : (strategy : Strategy) (rules : List Rule) (i j : Inst) → IsTrue (dominates strategy rules i j) → compare_insts strategy rules j i ≡ Less
dominates-less strategy rules i j h =
    (compare_insts_total strategy rules).antisymm j i ∙ ap ordering_reverse (is_greater-is (compare_insts strategy rules i j) h)

-- What dominates one that dominates a third dominates the third.
pub dominates_trans : (strategy : Strategy) (rules : List Rule) (i j k : Inst) → IsTrue (dominates strategy rules i j) → IsTrue (dominates strategy rules j k) → IsTrue (dominates strategy rules i k)
dominates_trans strategy rules i j k a b =
    let o = compare_insts_total strategy rules in
    let less = o.trans k j i (dominates-less strategy rules j k b) (dominates-less strategy rules i j a) in
    ap is_greater (o.antisymm i k ∙ ap ordering_reverse less)

-- None dominates itself.
pub dominates_itself : (strategy : Strategy) (rules : List Rule) (i : Inst) → dominates strategy rules i i ≡ false
dominates_itself strategy rules i = ap is_greater (tied_itself (compare_insts_total strategy rules) i)

is_greater-is_gt : (o : Ordering) → is_gt o ≡ is_greater o
is_greater-is_gt Less = refl
is_greater-is_gt Equal = refl
is_greater-is_gt Greater = refl

-- what does not dominate one that does not dominate a third does not dominate the third
pub none_above : (strategy : Strategy) (rules : List Rule) (i j k : Inst) → dominates strategy rules i j ≡ false → dominates strategy rules j k ≡ false → dominates strategy rules i k ≡ false
none_above strategy rules i j k a b =
    let t = upto (compare_insts_total strategy rules) i j k
    (is_greater-is_gt (compare_insts strategy rules i j) ∙ a) (is_greater-is_gt (compare_insts strategy rules j k) ∙ b) in
    sym (is_greater-is_gt (compare_insts strategy rules i k)) ∙ t

-- i is one of them, and none of them dominates it
record IsUndominated (strategy : Strategy) (rules : List Rule) (insts : List Inst) (i : Inst) : Type 0 where
  member : IsMember i insts
  none : (j : Inst) → IsMember j insts → dominates strategy rules j i ≡ false

-- the better of two is one of them, and neither dominates it
record IsBetter (strategy : Strategy) (rules : List Rule) (i j k : Inst) : Type 0 where
  member : (k ≡ i) ⊎ (k ≡ j)
  first : dominates strategy rules i k ≡ false
  second : dominates strategy rules j k ≡ false

better_is : (strategy : Strategy) (rules : List Rule) (i j : Inst) → IsBetter strategy rules i j (better strategy rules (Some i) j)
better_is strategy rules i j = by_test (dominates strategy rules j i) refl
  where
    by_test : (b : Bool) → dominates strategy rules j i ≡ b → IsBetter strategy rules i j (cond b j i)
    by_test true e = record {
      member = inr refl;
      first = ap is_greater (dominates-less strategy rules j i e);
      second = dominates_itself strategy rules j;
    }
    by_test false e = record { member = inl refl; first = dominates_itself strategy rules i; second = e }

-- going through a list with the best so far ends with one that none dominates
undominated_found : (strategy : Strategy) (rules : List Rule) (best : Inst) (insts : List Inst)
    → (i : Inst) × (fold (λ best i. Some (better strategy rules best i)) (Some best) insts ≡ Some i) × IsUndominated strategy rules (best ∷ insts) i
undominated_found strategy rules best [] = (best, refl, record { member = inl refl; none = none })
  where
    none : (j : Inst) → IsMember j (best ∷ []) → dominates strategy rules j best ≡ false
    none j (inl e) =
        let P : Inst → Type 0 = λ w. dominates strategy rules w best ≡ false in
        subst P (sym e) (dominates_itself strategy rules best)
    none j (inr m) = absurd m
undominated_found strategy rules best (x ∷ insts) =
    let b = better_is strategy rules best x in
    let r = undominated_found strategy rules (better strategy rules (Some best) x) insts in
    (r.0, r.1, record { member = member b r.0 r.2.member; none = none b r.0 r.2.none })
  where
    member : IsBetter strategy rules best x (better strategy rules (Some best) x) → (i : Inst) → IsMember i (better strategy rules (Some best) x ∷ insts) → IsMember i (best ∷ x ∷ insts)
    member b i (inl e) = elim b.member [ inl f ↦ inl (e ∙ f) | inr f ↦ inr (inl (e ∙ f)) ]
    member b i (inr m) = inr (inr m)

    none : IsBetter strategy rules best x (better strategy rules (Some best) x) → (i : Inst)
        → ((j : Inst) → IsMember j (better strategy rules (Some best) x ∷ insts) → dominates strategy rules j i ≡ false)
        → (j : Inst) → IsMember j (best ∷ x ∷ insts) → dominates strategy rules j i ≡ false
    none b i h j (inl e) =
        let P : Inst → Type 0 = λ w. dominates strategy rules w i ≡ false in
        subst P (sym e) (none_above strategy rules best (better strategy rules (Some best) x) i b.first (h (better strategy rules (Some best) x) (inl refl)))
    none b i h j (inr (inl e)) =
        let P : Inst → Type 0 = λ w. dominates strategy rules w i ≡ false in
        subst P (sym e) (none_above strategy rules x (better strategy rules (Some best) x) i b.second (h (better strategy rules (Some best) x) (inl refl)))
    none b i h j (inr (inr m)) = h j (inr m)

-- one that none of them dominates dominates all others of them
undominated_is : (strategy : Strategy) (rules : List Rule) (insts : List Inst) (i : Inst) → IsUndominated strategy rules insts i → IsDominant strategy rules insts i
undominated_is strategy rules insts i u = record {
  member = contains_from_member i insts u.member;
  above = λ j m differ. one_dominates strategy rules i j (λ e. differ (sym e)) ∙ ap not (u.none j (member_from_contains j insts m));
}

-- The dominant one of a list is there exactly where the list is not empty, and dominates all others in it.
pub dominant_is : (strategy : Strategy) (rules : List Rule) (insts : List Inst) → MatchOption (dominant strategy rules insts) (insts ≡ []) (λ i. IsDominant strategy rules insts i)
dominant_is strategy rules [] = refl
dominant_is strategy rules (x ∷ insts) =
    let f = undominated_found strategy rules x insts in
    let P : Option Inst → Type 0 = λ o. MatchOption o (x ∷ insts ≡ []) (λ i. IsDominant strategy rules (x ∷ insts) i) in
    subst P (sym f.1) (undominated_is strategy rules (x ∷ insts) f.0 f.2)

-- Of two dominant ones, both are one.
pub one_dominant : (strategy : Strategy) (rules : List Rule) (insts : List Inst) (i j : Inst) → IsDominant strategy rules insts i → IsDominant strategy rules insts j → i ≡ j
one_dominant strategy rules insts i j a b = by_test (is_same_inst i j) (is_same_inst-Decides i j)
  where
    by_test : (s : Bool) → Decides s (i ≡ j) → i ≡ j
    by_test true d = d.0 refl
    by_test false d = absurd (both (λ e. false≢true (d.1 e)))
      where
        both : i ≢ j → ⊥
        both differ =
            let up = a.above j b.member (λ e. differ (sym e)) in
            let down = b.above i a.member differ in
            false≢true (sym (ap not down) ∙ sym (one_dominates strategy rules i j differ) ∙ up)

-- What dominates all others in a list is the dominant one of the list.
pub dominant_only : (strategy : Strategy) (rules : List Rule) (insts : List Inst) (i : Inst) → IsDominant strategy rules insts i → dominant strategy rules insts ≡ Some i
dominant_only strategy rules insts i a = by_found (dominant strategy rules insts) (dominant_is strategy rules insts)
  where
    by_found : (o : Option Inst) → MatchOption o (insts ≡ []) (λ j. IsDominant strategy rules insts j) → o ≡ Some i
    by_found None e = let P : List Inst → Type 0 = IsMember i in absurd (subst P e (member_from_contains i insts a.member))
    by_found (Some j) b = ap Some (one_dominant strategy rules insts j i b a)
