-- How a store keeps its elements: a slot for each tag, which says whether its element is present.
use Rattle.std.specs.Prelude.{◌≡◌, ◌==◌, ◌<◌, ◌≤◌, ◌+◌, ℕ, List, [], ◌∷◌, map, filter, not, length, Bool, Option, Some, None, if◌then◌else◌}
use Rattle.std.specs.BTreeMap.{is_at}
use Rattle.std.specs.List.{AllByRecursion, list_any}
use Rattle.std.specs.Map.{remove_entry}
use Rattle.std.specs.Ordering.{nat_cmp}
use Rattle.ops_base.specs.declared.elements.Element.{Element}
use Rattle.work_store.specs.declared.slot.Slot.{Slot}
use Rattle.work_store.specs.Stored.{Stored}

-- the slots that pass, each beside its tag
abbrev pub passing : (Slot → Bool) → List (ℕ × Slot) → List (ℕ × Slot)
passing test slots = filter (λ e. test e.1) slots

abbrev pub elements_of : List (ℕ × Slot) → List Element
elements_of slots = map (λ e. e.1.element) slots

-- the elements whose slots pass
abbrev pub those : (Slot → Bool) → List (ℕ × Slot) → List Element
those test slots = elements_of (passing test slots)

abbrev pub is_present : Slot → Bool
is_present s = s.present

abbrev pub is_kept : Slot → Bool
is_kept s = not s.present

-- what is stored in these slots
abbrev pub stored_in : List (ℕ × Slot) → ℕ → Stored
stored_in slots last = record { elements = those is_present slots; kept = those is_kept slots; last = last }

-- each slot stands at its element's tag, and the tags rise
abbrev pub ArePlaced : List (ℕ × Slot) → Type 0
ArePlaced [] = Unit {0}
ArePlaced (e ∷ slots) = (e.1.element.tag ≡ e.0) × AllByRecursion (λ f. e.0 < f.0) slots × ArePlaced slots

-- the tag of a slot is among these exactly where its element is kept
abbrev pub IsNoted : List ℕ → ℕ × Slot → Type 0
IsNoted gone e = list_any (λ t. t == e.0) gone ≡ is_kept e.1

-- What a store keeps true of its slots, of the tags that it noted as gone, of the space for these, and of the last tag.
pub record AreSlots (slots : List (ℕ × Slot)) (gone : List ℕ) (space last : ℕ) : Type 0 where
  pub placed : ArePlaced slots
  pub below : AllByRecursion (λ e. e.0 ≤ last) slots
  pub noted : AllByRecursion (IsNoted gone) slots
  pub gone_below : AllByRecursion (λ t. t ≤ last) gone
  pub number : length gone + length (those is_present slots) ≡ length slots
  pub room : length slots ≤ space

-- the slots without those of these tags
abbrev pub without_all : List ℕ → List (ℕ × Slot) → List (ℕ × Slot)
without_all [] slots = slots
without_all (tag ∷ tags) slots = without_all tags (remove_entry (is_at (nat_cmp tag)) slots)

-- what a test leaves of a slot that was looked for
abbrev pub passed : (Slot → Bool) → Option Slot → Option Element
passed test None = None
passed test (Some s) = if test s then Some s.element else None
