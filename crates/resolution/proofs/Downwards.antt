-- What a sort gives that puts the greater number first.
use Rattle.std.proofs.Common.{◌≡◌, ℕ, ◌≤◌, List, Bool, false, Bor, ap, sym, ◌∙◌, inl, inr, arith}
use Rattle.std.specs.Prelude.{IsPermutation, AllPairs}
use Rattle.std.specs.Cmp.{IsStrictWeakOrder, nat_cmp_is}
use Rattle.std.specs.Fn.{Called, ComparesAs}
use Rattle.std.specs.List.Sorted.{IsSortedBy}
use Rattle.std.specs.declared.cmp.Ordering.{Ordering}
use Rattle.std.specs.declared.cmp.Ordering.TheVariants.{Less}
use Rattle.std.specs.Ordering.{nat_cmp, is_lt}
use Rattle.std.proofs.lemmas.Bool.{false≢true, cases_order}
use Rattle.std.proofs.lemmas.Cmp.{nat_cmp_total, back_total}
use Rattle.std.proofs.lemmas.Fn.{always_returns_same}
use Rattle.std.proofs.lemmas.List.Sorted.{ranks_by, sorted_far}
use Rattle.ops_base.specs.Dominance.{downwards}
use Rattle.ops_base.proofs.DownwardsLaws.{AtLeast, downwards_only}
use denote.Param.Members.{Mut}

not_less : (x y : ℕ) → is_lt (nat_cmp x y) ≡ false → y ≤ x
not_less x y e = elim (cases_order x y) [
  | inl same ↦ omega (arith, same)
  | inr h ↦ elim h [
    | inl below ↦ absurd (false≢true (sym e ∙ ap is_lt (sym (nat_cmp_is x y Less below))))
    | inr above ↦ omega (arith, above)
  ]
]

-- what `sort_unstable_by` ensures, where each call compares the second of the two with the first
pub downwards_from_sort : {F : Type 0} {g : Mut F (Bor ℕ × (Bor ℕ × Unit {0})) Ordering} {f : F} (xs ys : List ℕ) → IsPermutation xs ys
    → ((lt : ℕ → ℕ → Bool) → IsStrictWeakOrder lt → ComparesAs g lt f → IsSortedBy lt ys)
    → ((a : Bor ℕ × (Bor ℕ × Unit {0})) (r : Ordering) (f' : F) → Called g f a r f' → (r ≡ nat_cmp a.1.0.now a.0.now) × (f' ≡ f))
    → ys ≡ downwards xs
downwards_from_sort {F} {g} {f} xs ys p up h = downwards_only xs ys p pairs
  where
    order : IsStrictWeakOrder (λ x y. is_lt (nat_cmp y x))
    order = ranks_by (back_total nat_cmp_total) (λ (x : ℕ). x)

    sorted : IsSortedBy (λ x y. is_lt (nat_cmp y x)) ys
    sorted =
        up (λ x y. is_lt (nat_cmp y x)) order
        (always_returns_same g (λ a r. is_lt r ≡ is_lt (nat_cmp a.1.0.now a.0.now)) f (λ a r f' k. (ap is_lt (h a r f' k).0, (h a r f' k).1)))

    pairs : AllPairs AtLeast ys
    pairs i j d below inside =
        not_less _ _ (sorted_far (λ x y. is_lt (nat_cmp y x)) order ys sorted i j d (omega arith) inside)
