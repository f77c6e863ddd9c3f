-- What a store of working memory holds.
use Rattle.std.specs.Prelude.{◌≡◌, ℕ, ◌≤◌, List, [], ◌∷◌, ◌++◌, find, ◌==◌, Option, Some, None}
use Rattle.std.specs.List.{All}
use Rattle.std.specs.Option.{option_or}
use Rattle.ops_base.specs.declared.elements.Element.{Element}
use Rattle.ops_base.specs.declared.elements.Change.{Change}
use Rattle.ops_base.specs.declared.elements.Change.TheVariants.{Add, Remove}
use Rattle.ops_base.specs.WorkingMemory.{tags_of, HasRisingTags, done, last_after}

-- the elements that are present, those that were removed and are kept, and the greatest tag that was ever added
pub record Stored : Type 0 where
  pub elements : List Element
  pub kept : List Element
  pub last : ℕ

abbrev pub nothing_stored : Stored
nothing_stored = record { elements = []; kept = []; last = 0 }

-- the element of a tag among these
abbrev pub of_tag : List Element → ℕ → Option Element
of_tag elements tag = find (λ e. e.tag == tag) elements

-- the element that is held under a tag, present or kept
abbrev pub held_of : Stored → ℕ → Option Element
held_of s tag = option_or (of_tag s.elements tag) (of_tag s.kept tag)

-- The present elements stand in the order of their tags, so do those that are kept, no tag is both present and kept,
-- and none is above the greatest that was added.
pub record IsStored (s : Stored) : Type 0 where
  pub rising : HasRisingTags s.elements
  pub kept_rising : HasRisingTags s.kept
  pub apart : (tag : ℕ) (e : Element) → of_tag s.elements tag ≡ Some e → of_tag s.kept tag ≡ None
  pub below : All (λ t. t ≤ s.last) (tags_of (s.elements ++ s.kept))

-- Under each tag is held what was held before, and where nothing was, the first of these that has it.
abbrev pub HoldsAlso : Stored → Stored → List Element → Type 0
HoldsAlso before now more = (tag : ℕ) → held_of now tag ≡ option_or (held_of before tag) (of_tag more tag)

-- the elements that changes add, in their order
abbrev pub added_by : List Change → List Element
added_by [] = []
added_by (Add e ∷ cs) = e ∷ added_by cs
added_by (Remove tag ∷ cs) = added_by cs

-- The changes were done in their order: the present elements and the last tag are those after them, and what was held
-- still is, beside what they add.
pub record AreDone (changes : List Change) (before now : Stored) : Type 0 where
  pub elements : now.elements ≡ done before.elements changes
  pub last : now.last ≡ last_after before.last changes
  pub kept : HoldsAlso before now (added_by changes)
