-- Changes that are done to a store: a lawful removal finds its element.
use Rattle.std.proofs.Common.{◌≡◌, ℕ, ◌==◌, List, [], ◌∷◌, Bool, true, false, cond, Some, IsSome, refl, subst, arith}
use Rattle.std.specs.Prelude.{Contains}
use Rattle.std.proofs.lemmas.Bool.Decides.{nat_tests}
use Rattle.std.proofs.lemmas.Map.Made.{Contains-tail}
use Rattle.ops_base.specs.declared.elements.Change.{Change}
use Rattle.ops_base.specs.declared.elements.Change.TheVariants.{Remove}
use Rattle.ops_base.specs.declared.elements.Element.{Element}
use Rattle.ops_base.specs.WorkingMemory.{tags_of, Lawful}
use Rattle.work_store.specs.Stored.{of_tag}

differs : (k t : ℕ) → (k == t) ≡ false → k ≡ t → ⊥
differs k t h = grind (arith, nat_tests)

-- the element of a tag that is there is found
there : (wm : List Element) (tag : ℕ) → Contains (tags_of wm) tag → IsSome (of_tag wm tag)
there [] tag p = let none = p.1 in absurd (omega arith)
there (e ∷ wm) tag p = by (e.tag == tag) (λ apart. there wm tag (Contains-tail e.tag (tags_of wm) tag (differs e.tag tag apart) p)) refl
  where
    by : (b : Bool) → ((e.tag == tag) ≡ false → IsSome (of_tag wm tag)) → (e.tag == tag) ≡ b → IsSome (cond b (Some e) (of_tag wm tag))
    by true behind is = refl
    by false behind is = behind is

-- the element that a lawful removal names is found
pub found_to_remove : (wm : List Element) (last tag : ℕ) (c : Change) → c ≡ Remove tag → Lawful wm last (c ∷ []) → IsSome (of_tag wm tag)
found_to_remove wm last tag c is p = let P : Change → Type 0 = λ x. Lawful wm last (x ∷ []) in there wm tag (subst P is p).0
