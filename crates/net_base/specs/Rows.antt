-- Rows of numbers by their indices.
use Rattle.std.specs.Prelude.{◌≡◌, ◌==◌, ℕ, List, [], ◌∷◌, ◌++◌, if◌then◌else◌, slice_get}
use Rattle.net_base.specs.declared.rows.Rows.{Rows}
use Rattle.net_base.specs.Lists.{items_of}

-- the row with this index, empty if there is none
abbrev pub row_at : Rows → ℕ → List ℕ
row_at r number = items_of (slice_get r.rows.items number)

-- the item is at the end of the row with this index, and everything else is as before
abbrev pub AddsTo : Rows → Rows → ℕ → ℕ → Type 0
AddsTo old new number item = (other : ℕ) → row_at new other ≡ row_at old other ++ (if number == other then item ∷ [] else [])
