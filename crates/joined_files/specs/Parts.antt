-- The file that a place of a joined text belongs to.
use Rattle.std.specs.Prelude.{ℕ, List, [], ◌∷◌, nat_le, if◌then◌else◌}
use Rattle.joined_files.specs.declared.parts.Part.{Part}

abbrev pub part_by : Part → List Part → ℕ → Part
part_by found [] at = found
part_by found (part ∷ parts) at = if nat_le part.first at then part_by part parts at else found

-- the part that a place belongs to: the last one that begins at or before it
abbrev pub part_at : List Part → ℕ → Part
part_at parts at = part_by (record { file = 0; first = 0 }) parts at
