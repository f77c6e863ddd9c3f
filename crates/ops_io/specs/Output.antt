-- The output buffer: what it holds, and the column.
use Rattle.std.specs.Prelude.{◌≡◌, ℕ, ◌+◌, ◌-◌, ◌^◌, min, List, [], ◌∷◌, ◌++◌, Bool, ◌==◌, if◌then◌else◌, Option}
use Rattle.ops_io.specs.Outside.{GrewBy}

-- the bytes that were put and are not yet written, the column, and whether no call was refused
pub record OutState : Type 0 where
  pub held : List ℕ
  pub column : ℕ
  pub whole : Bool

-- The column after one byte more: an LF begins a line, and the last number stands.
abbrev pub next_column : ℕ → ℕ → ℕ
next_column column byte = if byte == 10 then 0 else min (column + 1) (2 ^ 64 - 1)

-- The column after these bytes.
abbrev pub column_after : ℕ → List ℕ → ℕ
column_after column [] = column
column_after column (b ∷ bs) = column_after (next_column column b) bs

-- What was held and these bytes are, in order, what went out and what is held now.
abbrev pub PutsOut : Option (List ℕ) → Option (List ℕ) → List ℕ → List ℕ → List ℕ → Type 0
PutsOut old new held kept bytes = (gone : List ℕ) × (held ++ bytes ≡ gone ++ kept) × GrewBy old new gone
