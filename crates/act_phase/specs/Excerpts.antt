-- A part of working memory that suffices for the right side of an instantiation.
use Rattle.std.specs.Prelude.{◌≡◌, ℕ, List, [], ◌∷◌, ◌++◌, nat_le, true, if◌then◌else◌, Option, Some, None}
use Rattle.std.specs.List.{All}
use Rattle.ops_base.specs.declared.elements.Element.{Element}
use Rattle.work_store.specs.Stored.{Stored, of_tag}
use Rattle.ops_meaning.specs.Acting.{has_tag, element_of}

-- For each of these tags, the part holds the same element as the whole, and it holds no tag that the whole does not
-- hold.
pub record IsExcerpt (whole part : List Element) (tags : List ℕ) : Type 0 where
  pub same : All (λ t. element_of part t ≡ element_of whole t) tags
  pub within : (t : ℕ) → has_tag part t ≡ true → has_tag whole t ≡ true

-- a store with one more element, if there is one
abbrev pub with_one : Stored → Option Element → Stored
with_one s None = s
with_one s (Some e) = record { elements = s.elements ++ e ∷ []; kept = s.kept; last = e.tag }

-- a store with the element of this tag added, if the tag is above all that the store was given
abbrev pub with_copy : List Element → ℕ → Stored → Stored
with_copy whole tag s = if nat_le tag s.last then s else with_one s (of_tag whole tag)
