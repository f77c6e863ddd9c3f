-- How slots stand in rows of rows, and which entries these come to: each slot beside its tag, by rising tag.
use Rattle.std.specs.Prelude.{◌≡◌, ◌+◌, ◌-◌, ◌<◌, ◌≤◌, ◌%◌, ◌^◌, ℕ, List, [], ◌∷◌, ◌++◌, length, replicate, Option, Some, None, false, if◌then◌else◌}
use Rattle.std.specs.BTreeMap.{is_at}
use Rattle.std.specs.Map.{lookup, set_value}
use Rattle.std.specs.Ordering.{nat_cmp}
use Rattle.ops_base.specs.declared.elements.Element.{Element}
use Rattle.work_store.specs.declared.row.Row.{Row}
use Rattle.work_store.specs.declared.slot.Slot.{Slot}

-- ---- the entries of a row

-- the entries of what stands at a place
abbrev pub at_place : {X : Type 0} → (ℕ → X → List (ℕ × Slot)) → ℕ → Option X → List (ℕ × Slot)
at_place inner base None = []
at_place inner base (Some x) = inner base x

-- the entries of all places, where each has a width of tags, and the first begins at base
abbrev pub spread : {X : Type 0} → (ℕ → X → List (ℕ × Slot)) → ℕ → ℕ → List (Option X) → List (ℕ × Slot)
spread inner width base [] = []
spread inner width base (o ∷ os) = at_place inner base o ++ spread inner width (base + width) os

abbrev pub slot_entries : ℕ → Slot → List (ℕ × Slot)
slot_entries tag s = (tag, s) ∷ []

abbrev pub page_entries : ℕ → Row Slot → List (ℕ × Slot)
page_entries base page = spread slot_entries 1 base page.places.items

abbrev pub chapter_entries : ℕ → Row (Row Slot) → List (ℕ × Slot)
chapter_entries base chapter = spread page_entries 64 base chapter.places.items

abbrev pub all_entries : Row (Row (Row Slot)) → List (ℕ × Slot)
all_entries chapters = spread chapter_entries 4096 0 chapters.places.items

-- the first tag of the row of that width in which this one lies
abbrev pub start_of : ℕ → ℕ → ℕ
start_of width tag = tag - tag % width

-- the entries of the page that has a tag's place, and of its chapter
abbrev pub entries_in_page : ℕ → Row Slot → List (ℕ × Slot)
entries_in_page tag page = page_entries (start_of 64 tag) page

abbrev pub entries_in_chapter : ℕ → Row (Row Slot) → List (ℕ × Slot)
entries_in_chapter tag chapter = chapter_entries (start_of 4096 tag) chapter

-- ---- what rows keep true

abbrev pub HoldsAt : {X : Type 0} → (ℕ → X → Type 0) → ℕ → Option X → Type 0
HoldsAt P base None = Unit {0}
HoldsAt P base (Some x) = P base x

abbrev pub HoldsAtEach : {X : Type 0} → (ℕ → X → Type 0) → ℕ → ℕ → List (Option X) → Type 0
HoldsAtEach P width base [] = Unit {0}
HoldsAtEach P width base (o ∷ os) = HoldsAt P base o × HoldsAtEach P width (base + width) os

-- A row counts the slots that are held under it, and each of its places keeps what it has to.
pub record IsRow {X : Type 0} (P : ℕ → X → Type 0) (inner : ℕ → X → List (ℕ × Slot)) (width base : ℕ) (row : Row X) : Type 0 where
  pub counted : row.held ≡ length (spread inner width base row.places.items)
  pub each : HoldsAtEach P width base row.places.items

pub record IsPage (base : ℕ) (page : Row Slot) : Type 0 where
  pub row : IsRow (λ _ _. Unit {0}) slot_entries 1 base page
  pub short : length page.places.items ≤ 64

pub record IsChapter (base : ℕ) (chapter : Row (Row Slot)) : Type 0 where
  pub row : IsRow IsPage page_entries 64 base chapter
  pub short : length chapter.places.items ≤ 64

pub record ArePages (chapters : Row (Row (Row Slot))) : Type 0 where
  pub row : IsRow IsChapter chapter_entries 4096 0 chapters
  pub small : chapters.held < 2 ^ 63

abbrev pub IsPageOf : ℕ → Row Slot → Type 0
IsPageOf tag page = IsPage (start_of 64 tag) page

abbrev pub IsChapterOf : ℕ → Row (Row Slot) → Type 0
IsChapterOf tag chapter = IsChapter (start_of 4096 tag) chapter

-- ---- the present elements

-- what stands at these places
abbrev pub standing : {X : Type 0} → List (Option X) → List X
standing [] = []
standing (None ∷ os) = standing os
standing (Some x ∷ os) = x ∷ standing os

abbrev pub elements_by : {X : Type 0} → (X → List Element) → List X → List Element
elements_by f [] = []
elements_by f (x ∷ xs) = f x ++ elements_by f xs

abbrev pub slot_elements : Slot → List Element
slot_elements s = if s.present then s.element ∷ [] else []

abbrev pub page_elements : Row Slot → List Element
page_elements page = elements_by slot_elements (standing page.places.items)

abbrev pub chapter_elements : Row (Row Slot) → List Element
chapter_elements chapter = elements_by page_elements (standing chapter.places.items)

-- the elements of the slots that are left of a page, and of the pages that are left of a chapter
abbrev pub elements_left : List (Option Slot) → List (Option (Row Slot)) → List Element
elements_left slots pages = elements_by slot_elements (standing slots) ++ elements_by page_elements (standing pages)

-- ---- changes

-- empty places came after the others
pub record IsGrown {X : Type 0} (before now : List (Option X)) : Type 0 where
  pub more : ℕ
  pub are : now ≡ before ++ replicate more None

-- the slot of a tag, if there is one, is marked as kept
abbrev pub IsMarked : ℕ → List (ℕ × Slot) → List (ℕ × Slot) → Type 0
IsMarked tag before now = (s : Slot) → lookup (is_at (nat_cmp tag)) before ≡ Some s → now ≡ set_value (is_at (nat_cmp tag)) before (record s { present = false })
