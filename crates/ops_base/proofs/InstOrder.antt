-- The order of production and tags is a strict total order, and the comparison of instantiations tells it.
use Rattle.std.proofs.Common.{◌≡◌, ◌≢◌, ℕ, ◌<◌, List, [], ◌∷◌, refl, ap, sym, ◌∙◌, subst, inl, inr}
use Rattle.std.specs.Cmp.{IsTotalOrder, nat_cmp_is}
use Rattle.std.specs.Cmp.Lexicographic.{slice_cmp}
use Rattle.std.specs.declared.cmp.Ordering.{Ordering}
use Rattle.std.specs.declared.cmp.Ordering.TheVariants.{Less, Equal, Greater}
use Rattle.std.specs.Ordering.{nat_cmp, ordering_then, MatchOrdering}
use Rattle.std.proofs.lemmas.Cmp.{nat_cmp_total, nat_list_cmp_total, on_total, then_total, tied_itself, ranked}
use Rattle.ops_base.specs.declared.rules.Inst.{Inst}
use Rattle.ops_base.specs.Instances.{TagsBefore, Before, by_rule_and_tags}
use Rattle.ops_base.proofs.InstEquality.{same_fields}

-- how two lists of tags stand
tags_standing : (xs ys : List ℕ) → MatchOrdering (slice_cmp nat_cmp xs ys) (TagsBefore xs ys) (xs ≡ ys) (TagsBefore ys xs)
tags_standing [] [] = refl
tags_standing [] (y ∷ ys) = tt
tags_standing (x ∷ xs) [] = tt
tags_standing (x ∷ xs) (y ∷ ys) =
    by_first (nat_cmp x y) (slice_cmp nat_cmp xs ys) (ranked x y (nat_cmp x y) refl) (tags_standing xs ys)
  where
    by_first : (o p : Ordering) → MatchOrdering o (x < y) (x ≡ y) (y < x) → MatchOrdering p (TagsBefore xs ys) (xs ≡ ys) (TagsBefore ys xs)
        → MatchOrdering (ordering_then o p) (TagsBefore (x ∷ xs) (y ∷ ys)) (x ∷ xs ≡ y ∷ ys) (TagsBefore (y ∷ ys) (x ∷ xs))
    by_first Less p h k = inl h
    by_first Equal Less h k = inr (h, k)
    by_first Equal Equal h k = cc
    by_first Equal Greater h k = inr (sym h, k)
    by_first Greater p h k = inl h

-- what the comparison answers says how the two stand
pub standing : (i j : Inst) (o : Ordering) → o ≡ by_rule_and_tags i j → MatchOrdering o (Before i j) (i ≡ j) (Before j i)
standing i j o is =
    let P : Ordering → Type 0 = λ p. MatchOrdering p (Before i j) (i ≡ j) (Before j i) in
    subst P (sym is) (by_rule (nat_cmp i.rule j.rule) (slice_cmp nat_cmp i.tags j.tags) (ranked i.rule j.rule (nat_cmp i.rule j.rule) refl) (tags_standing i.tags j.tags))
  where
    by_rule : (o p : Ordering) → MatchOrdering o (i.rule < j.rule) (i.rule ≡ j.rule) (j.rule < i.rule) → MatchOrdering p (TagsBefore i.tags j.tags) (i.tags ≡ j.tags) (TagsBefore j.tags i.tags)
        → MatchOrdering (ordering_then o p) (Before i j) (i ≡ j) (Before j i)
    by_rule Less p h k = inl h
    by_rule Equal Less h k = inr (h, k)
    by_rule Equal Equal h k = same_fields i j h k
    by_rule Equal Greater h k = inr (sym h, k)
    by_rule Greater p h k = inl h

-- what compares as less stands before
pub less_before : (i j : Inst) → by_rule_and_tags i j ≡ Less → Before i j
less_before i j e = standing i j Less (sym e)

tags_less : (xs ys : List ℕ) → TagsBefore xs ys → slice_cmp nat_cmp xs ys ≡ Less
tags_less [] [] h = absurd h
tags_less [] (y ∷ ys) h = refl
tags_less (x ∷ xs) [] h = absurd h
tags_less (x ∷ xs) (y ∷ ys) (inl h) =
    ap (λ o. ordering_then o (slice_cmp nat_cmp xs ys)) (sym (nat_cmp_is x y Less h))
tags_less (x ∷ xs) (y ∷ ys) (inr h) =
    ap (λ o. ordering_then o (slice_cmp nat_cmp xs ys)) (sym (nat_cmp_is x y Equal h.0)) ∙ tags_less xs ys h.1

-- what stands before compares as less
pub before_less : (i j : Inst) → Before i j → by_rule_and_tags i j ≡ Less
before_less i j (inl h) =
    ap (λ o. ordering_then o (slice_cmp nat_cmp i.tags j.tags)) (sym (nat_cmp_is i.rule j.rule Less h))
before_less i j (inr h) =
    ap (λ o. ordering_then o (slice_cmp nat_cmp i.tags j.tags)) (sym (nat_cmp_is i.rule j.rule Equal h.0)) ∙ tags_less i.tags j.tags h.1

-- ---- a strict total order

pub compare_total : IsTotalOrder by_rule_and_tags
compare_total =
    then_total (on_total (λ (i : Inst). i.rule) nat_cmp_total) (on_total (λ (i : Inst). i.tags) nat_list_cmp_total)

pub before_trans : (i j k : Inst) → Before i j → Before j k → Before i k
before_trans i j k a b = less_before i k (compare_total.trans i j k (before_less i j a) (before_less j k b))

-- no instantiation stands before itself
pub before_itself : (i : Inst) → Before i i → ⊥
before_itself i h =
    let less : by_rule_and_tags i i ≡ Less = before_less i i h in
    let tied : by_rule_and_tags i i ≡ Equal = tied_itself compare_total i in
    cc

-- one that stands before another differs from it
pub before_differs : (i j : Inst) → Before i j → i ≢ j
before_differs i j h e = let P : Inst → Type 0 = Before i in before_itself i (subst P (sym e) h)

-- of two, not each stands before the other
pub not_both_before : (i j : Inst) → Before i j → Before j i → ⊥
not_both_before i j a b = before_itself i (before_trans i j i a b)

-- ---- comparisons that are equal

-- a first comparison and then a second are equal only where both are
pub both_equal : (o p : Ordering) → ordering_then o p ≡ Equal → (o ≡ Equal) × (p ≡ Equal)
both_equal Less p e = cc
both_equal Equal p e = (refl, e)
both_equal Greater p e = cc

-- two numbers that compare as equal are
pub equal_numbers : (x y : ℕ) → nat_cmp x y ≡ Equal → x ≡ y
equal_numbers x y e = ranked x y Equal (sym e)
