-- Keys compare as the instantiations that they are of, and by a total order.
use Rattle.std.proofs.Common.{◌≡◌, ℕ, List, ap, sym, ◌∙◌}
use Rattle.std.specs.Prelude.{IsTrue, ◌↔◌}
use Rattle.std.specs.Cmp.{IsTotalOrder}
use Rattle.std.specs.Cmp.Lexicographic.{slice_cmp}
use Rattle.std.specs.declared.cmp.Ordering.{Ordering}
use Rattle.std.specs.declared.cmp.Ordering.TheVariants.{Less, Equal, Greater}
use Rattle.std.specs.Ordering.{nat_cmp, ordering_then, ordering_reverse, MatchOrdering}
use Rattle.std.proofs.lemmas.Cmp.{nat_cmp_total, nat_list_cmp_total, on_total, then_total, back_total}
use Rattle.ops_base.specs.declared.rules.Rule.{Rule}
use Rattle.ops_base.specs.declared.rules.Inst.{Inst}
use Rattle.ops_base.specs.declared.commands.Strategy.{Strategy}
use Rattle.ops_base.specs.declared.commands.Strategy.TheVariants.{Lex, Mea}
use Rattle.ops_base.specs.Dominance.{compare_insts, is_greater, dominates}
use Rattle.ops_base.proofs.DominanceLaws.{compare_insts_total, compare_insts_itself, equal_insts}
use Rattle.resolution.specs.Keys.{Key, IsKey, compare_keys, compare_keys_lex}

compare_keys_lex_total : IsTotalOrder compare_keys_lex
compare_keys_lex_total =
    then_total (on_total (λ (k : Key). k.sorted) nat_list_cmp_total)
    (then_total (on_total (λ (k : Key). k.specificity) nat_cmp_total)
    (then_total (back_total (on_total (λ (k : Key). k.rule) nat_cmp_total)) (on_total (λ (k : Key). k.tags) nat_list_cmp_total)))

-- Either strategy compares keys by a total order, whatever they are keys of.
pub compare_keys_total : (strategy : Strategy) → IsTotalOrder (compare_keys strategy)
compare_keys_total Lex = compare_keys_lex_total
compare_keys_total Mea =
    then_total (on_total (λ (k : Key). k.first) nat_cmp_total) compare_keys_lex_total

-- Keys compare as the instantiations that they are of.
pub compare_keys-compare_insts : (strategy : Strategy) (rules : List Rule) (i j : Inst) (a b : Key) → IsKey rules i a → IsKey rules j b → compare_keys strategy a b ≡ compare_insts strategy rules i j
compare_keys-compare_insts strategy rules i j a b x y = by_strategy strategy
  where
    lists : (xs ys us vs : List ℕ) → xs ≡ us → ys ≡ vs → slice_cmp nat_cmp xs ys ≡ slice_cmp nat_cmp us vs
    lists xs ys us vs p q = λ k. slice_cmp nat_cmp (p k) (q k)

    numbers : (m n k l : ℕ) → m ≡ k → n ≡ l → nat_cmp m n ≡ nat_cmp k l
    numbers m n k l p q = λ i. nat_cmp (p i) (q i)

    by_strategy : (s : Strategy) → compare_keys s a b ≡ compare_insts s rules i j
    by_strategy Lex =
        λ k. ordering_then (lists a.sorted b.sorted _ _ x.sorted_is y.sorted_is k)
        (ordering_then (numbers a.specificity b.specificity _ _ x.specificity_is y.specificity_is k)
        (ordering_then (numbers b.rule a.rule _ _ y.rule_is x.rule_is k) (lists a.tags b.tags _ _ x.tags_is y.tags_is k)))
    by_strategy Mea =
        λ k. ordering_then (numbers a.first b.first _ _ x.first_is y.first_is k)
        (ordering_then (lists a.sorted b.sorted _ _ x.sorted_is y.sorted_is k)
        (ordering_then (numbers a.specificity b.specificity _ _ x.specificity_is y.specificity_is k)
        (ordering_then (numbers b.rule a.rule _ _ y.rule_is x.rule_is k) (lists a.tags b.tags _ _ x.tags_is y.tags_is k))))

-- a comparison of instantiations says which of the two dominates
pub compare_insts_says : (strategy : Strategy) (rules : List Rule) (i j : Inst) (o : Ordering) → o ≡ compare_insts strategy rules i j → MatchOrdering o (IsTrue (dominates strategy rules j i)) (i ≡ j) (IsTrue (dominates strategy rules i j))
compare_insts_says strategy rules i j Less e =
    ap is_greater ((compare_insts_total strategy rules).antisymm j i ∙ ap ordering_reverse (sym e))
compare_insts_says strategy rules i j Equal e = equal_insts strategy rules i j (sym e)
compare_insts_says strategy rules i j Greater e = ap is_greater (sym e)

-- a comparison of instantiations is equal exactly where they are
pub compare_insts_equal : (strategy : Strategy) (rules : List Rule) (i j : Inst) (o : Ordering) → o ≡ compare_insts strategy rules i j → (o ≡ Equal) ↔ (i ≡ j)
compare_insts_equal strategy rules i j o e = (
  λ f. equal_insts strategy rules i j (sym e ∙ f),
  λ same. e ∙ compare_insts_itself strategy rules i j same,
)
