-- A binary search in a list in order finds exactly what is among it.
use Rattle.std.proofs.Common.{◌≡◌, ℕ, ◌≤◌, List, get_or, length, Bool, true, false, is_ok, Result, Ok, Err, refl, ap, sym, subst, inl, inr, arith}
use Rattle.std.specs.Prelude.{Contains}
use Rattle.std.specs.declared.cmp.Ordering.{Ordering}
use Rattle.std.specs.declared.cmp.Ordering.TheVariants.{Less, Equal, Greater}
use Rattle.std.specs.List.Sorted.{IsBinarySearchResult, IsNonDecreasingBy, IsSearchInRange}
use Rattle.std.specs.Ordering.{MatchOrdering, ordering_index}
use Rattle.std.proofs.lemmas.Bool.{cases_eq, cases_lt}
use Rattle.std.proofs.lemmas.List.Elements.{Contains-get_or}
use Rattle.ops_base.specs.declared.rules.Inst.{Inst}
use Rattle.ops_base.specs.Instances.{Before, by_rule_and_tags, IsInOrder}
use Rattle.ops_base.specs.Refraction.{is_among}
use Rattle.ops_base.proofs.InstOrder.{before_itself, before_trans, not_both_before, standing}
use Rattle.ops_base.proofs.RefractionLaws.{is_among-Decides}

-- the later of two stands no lower beside a third
index_rises : (x y inst : Inst) → Before x y → ordering_index (by_rule_and_tags x inst) ≤ ordering_index (by_rule_and_tags y inst)
index_rises x y inst b =
    by (by_rule_and_tags x inst) (by_rule_and_tags y inst) (standing x inst _ refl) (standing y inst _ refl)
  where
    by : (o p : Ordering) → MatchOrdering o (Before x inst) (x ≡ inst) (Before inst x) → MatchOrdering p (Before y inst) (y ≡ inst) (Before inst y) → ordering_index o ≤ ordering_index p
    by Less Less h k = omega arith
    by Less Equal h k = omega arith
    by Less Greater h k = omega arith
    by Equal Less h k = absurd (not_both_before x y b (subst (Before y) (sym h) k))
    by Equal Equal h k = omega arith
    by Equal Greater h k = omega arith
    by Greater Less h k = absurd (before_itself inst (before_trans inst x inst h (before_trans x y inst b k)))
    by Greater Equal h k = absurd (not_both_before inst x h (subst (Before x) k b))
    by Greater Greater h k = omega arith

rises : (insts : List Inst) (inst : Inst) → IsInOrder insts → IsNonDecreasingBy (λ o. ordering_index (by_rule_and_tags o inst)) insts
rises insts inst h i j d le lt =
    elim (cases_eq i j) [
      | inl e ↦ omega (arith, ap (λ k. ordering_index (by_rule_and_tags (get_or insts k d) inst)) e)
      | inr n ↦ index_rises (get_or insts i d) (get_or insts j d) inst (h i j d (omega (arith, n, le)) lt)
    ]

pub found_says : (insts : List Inst) (inst : Inst) (r : Result ℕ ℕ) → IsInOrder insts → IsSearchInRange r (length insts) → IsBinarySearchResult (λ o. by_rule_and_tags o inst) insts r → is_ok r ≡ is_among insts inst
found_says insts inst (Ok i) h range found =
    let same : get_or insts i inst ≡ inst = standing (get_or insts i inst) inst Equal (sym (found inst)) in
    sym ((is_among-Decides insts inst).1 (subst (Contains insts) same (Contains-get_or insts i inst range)))
found_says insts inst (Err i) h range found = by (is_among insts inst) refl
  where
    by : (b : Bool) → is_among insts inst ≡ b → false ≡ b
    by false e = refl
    by true e =
        let there = (is_among-Decides insts inst).0 e in
        let k = there.0 in
        let at = get_or insts k inst in
        let parts = found (rises insts inst h) in
        elim (cases_lt k i) [
          | inl lt ↦ absurd (before_itself inst (subst (λ w. Before w inst) there.2 (standing at inst Less (sym (parts.0 k inst (omega arith) lt)))))
          | inr ge ↦ absurd (before_itself inst (subst (Before inst) there.2 (standing at inst Greater (sym (parts.1 k inst (omega (arith, ge)) there.1)))))
        ]
