-- Lists in order that have the same members are the same.
use Rattle.std.proofs.Common.{◌≡◌, List, [], ◌∷◌, sym, ◌∙◌, subst, inl, inr}
use Rattle.std.specs.declared.cmp.Ordering.{Ordering}
use Rattle.std.specs.declared.cmp.Ordering.TheVariants.{Less}
use Rattle.std.specs.List.Sorted.{IsStrictlySortedBy}
use Rattle.std.specs.Map.{keys_of}
use Rattle.ops_base.proofs.Members.{IsMember, member-map, members_from_each}
use Rattle.ops_base.proofs.InOrder.{AllBefore}

pub same_in_order : {X : Type 0} (R : X → X → Type 0) → ((x y : X) → R x y → R y x → ⊥) → (xs ys : List X) → AllBefore R xs → AllBefore R ys
    → ((x : X) → IsMember x xs → IsMember x ys) → ((x : X) → IsMember x ys → IsMember x xs) → xs ≡ ys
same_in_order R apart [] [] a b f g = λ k. []
same_in_order R apart [] (y ∷ ys) a b f g = absurd (g y (inl (λ k. y)))
same_in_order R apart (x ∷ xs) [] a b f g = absurd (f x (inl (λ k. x)))
same_in_order {X} R apart (x ∷ xs) (y ∷ ys) a b f g =
    let rest : xs ≡ ys = same_in_order R apart xs ys a.1 b.1 forward backward in
    λ k. first k ∷ rest k
  where
    first : x ≡ y
    first = elim (f x (inl (λ k. x))) [
      | inl e ↦ e
      | inr h ↦ elim (g y (inl (λ k. y))) [
        | inl e ↦ sym e
        | inr k ↦ absurd (apart x y (a.0 y k) (b.0 x h))
      ]
    ]

    itself : (z : X) → R z z → ⊥
    itself z r = apart z z r r

    forward : (z : X) → IsMember z xs → IsMember z ys
    forward z h = elim (f z (inr h)) [
      | inl e ↦ (let P : X → Type 0 = R x in absurd (itself x (subst P (e ∙ sym first) (a.0 z h))))
      | inr k ↦ k
    ]

    backward : (z : X) → IsMember z ys → IsMember z xs
    backward z h = elim (g z (inr h)) [
      | inl e ↦ (let P : X → Type 0 = R y in absurd (itself y (subst P (e ∙ first) (b.0 z h))))
      | inr k ↦ k
    ]

-- entries whose keys ascend
pub entries_before : {K X : Type 0} (R : K → K → Ordering) (es : List (K × X)) → IsStrictlySortedBy R (keys_of es) → AllBefore (λ (d e : K × X). R d.0 e.0 ≡ Less) es
unfolding IsStrictlySortedBy
entries_before R [] h = tt
entries_before {K} {X} R (e ∷ es) h = (
  λ d m. members_from_each (λ k. R e.0 k ≡ Less) (keys_of es) h.0 d.0 (member-map (λ (w : K × X). w.0) d es m),
  entries_before R es h.1,
)
