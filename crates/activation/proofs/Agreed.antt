-- Whether a left token and an element join goes by the elements that the store holds, where it holds all of these.
use Rattle.std.proofs.Common.{◌≡◌, ℕ, ◌<◌, ◌&&◌, List, [], ◌∷◌, length, refl, ap₂, slice_index, Option, Some, None, IsSome}
use Rattle.std.specs.List.{All, AllByRecursion}
use Rattle.std.proofs.lemmas.List.Elements.{All-get_or, recursion_from_All}
use Rattle.ops_base.specs.declared.elements.Element.{Element}
use Rattle.ops_base.specs.Values.{holds_of}
use Rattle.work_store.specs.Stored.{Stored, held_of}
use Rattle.net_base.specs.declared.nodes.JoinTest.{JoinTest}
use Rattle.net_base.specs.Tokens.{Elements, field_in, joins_hold}
use Rattle.token_line.specs.Held.{Agrees}

-- the store holds an element of that tag
abbrev pub IsHeld : Stored → ℕ → Type 0
IsHeld s tag = IsSome (held_of s tag)

module _ (s : Stored) (elements : Elements) (agrees : Agrees s elements) where
  same_element : (tag : ℕ) → IsHeld s tag → elements tag ≡ held_of s tag
  same_element tag is = by (held_of s tag) refl is
    where
      by : (o : Option Element) → held_of s tag ≡ o → IsSome o → elements tag ≡ o
      by None at some = absurd (cc)
      by (Some e) at some = agrees tag e at

  agree : (tests : List JoinTest) (t : List ℕ) (e : ℕ) → AllByRecursion (λ j. j.place < length t) tests → All (IsHeld s) t → IsHeld s e
      → joins_hold tests elements t e ≡ joins_hold tests (held_of s) t e
  agree [] t e low all here = refl
  agree (j ∷ js) t e low all here =
      ap₂ ◌&&◌
      (ap₂ (λ a b. holds_of j.pred (field_in a j.field) (field_in b j.other)) (same_element e here) (same_element (slice_index t j.place) (All-get_or (IsHeld s) t j.place 0 low.0 all)))
      (agree js t e low.1 all here)

  -- a left token all of whose tags are held, and an element that is held
  pub joins_agree : (tests : List JoinTest) (t : List ℕ) (e : ℕ) → All (λ j. j.place < length t) tests → All (IsHeld s) t → IsHeld s e
      → joins_hold tests elements t e ≡ joins_hold tests (held_of s) t e
  joins_agree tests t e low all here = agree tests t e (recursion_from_All (λ (j : JoinTest). j.place < length t) tests low) all here
