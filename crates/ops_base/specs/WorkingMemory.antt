-- Working memory: elements whose tags rise strictly, and what a phase does to it.
use Rattle.std.specs.Prelude.{ℕ, ◌<◌, ◌-◌, List, [], ◌∷◌, ◌++◌, length, map, filter, replicate, not, ◌==◌, if◌then◌else◌, unwrap_or, slice_get, Contains}
use Rattle.std.specs.Borrow.{Bor}
use Rattle.std.specs.List.Sorted.{IsStrictlyIncreasing}
use Rattle.ops_base.specs.declared.values.Value.{Value}
use Rattle.ops_base.specs.declared.elements.Class.{Class}
use Rattle.ops_base.specs.declared.elements.Element.{Element}
use Rattle.ops_base.specs.declared.elements.Change.{Change}
use Rattle.ops_base.specs.declared.elements.Change.TheVariants.{Add, Remove}
use Rattle.ops_base.specs.Values.{nil}

-- a field's value, nil past the end
abbrev pub field_of : Element → ℕ → Value
field_of e f = unwrap_or (slice_get e.fields f) nil

-- how many fields of an element of that class stand before those of its vector attribute
abbrev pub scalar_count : Class → ℕ
scalar_count c = if c.vector then length c.attrs - 1 else length c.attrs

-- the fields of an element for which no value was given
abbrev pub no_fields : Class → List Value
no_fields c = replicate (scalar_count c) nil

-- the elements that these references show
abbrev pub shown : List (Bor Element) → List Element
shown wm = map (λ e. e.now) wm

abbrev pub tags_of : List Element → List ℕ
tags_of wm = map (λ e. e.tag) wm

-- the tags rise strictly
abbrev pub HasRisingTags : List Element → Type 0
HasRisingTags wm = IsStrictlyIncreasing (tags_of wm)

-- working memory without the element of this tag
abbrev pub without_tag : ℕ → List Element → List Element
without_tag tag wm = filter (λ e. not (e.tag == tag)) wm

abbrev pub change_done : List Element → Change → List Element
change_done wm (Add e) = wm ++ e ∷ []
change_done wm (Remove tag) = without_tag tag wm

-- working memory after the changes, done in order
abbrev pub done : List Element → List Change → List Element
done wm [] = wm
done wm (c ∷ cs) = done (change_done wm c) cs

-- Each added tag is above `last` and above those added before it, and each removed tag is there at its place.
abbrev pub Lawful : List Element → ℕ → List Change → Type 0
Lawful wm last [] = Unit {0}
Lawful wm last (Add e ∷ cs) = (last < e.tag) × Lawful (wm ++ e ∷ []) e.tag cs
Lawful wm last (Remove tag ∷ cs) = Contains (tags_of wm) tag × Lawful (without_tag tag wm) last cs

-- the last tag that was given, after these changes
abbrev pub last_after : ℕ → List Change → ℕ
last_after last [] = last
last_after last (Add e ∷ cs) = last_after e.tag cs
last_after last (Remove tag ∷ cs) = last_after last cs
