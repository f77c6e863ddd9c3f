-- The cells of a phase as they are made, and the lines in cells.
use Rattle.std.specs.Prelude.{◌≡◌, ℕ, List, [], ◌∷◌}
use Rattle.work_store.specs.Stored.{Stored}
use Rattle.net_base.specs.declared.net.Net.{Net}
use Rattle.net_base.specs.declared.tasks.Task.{Task}
use Rattle.token_line.specs.declared.line.Line.{Line}
use Rattle.free_engine.specs.declared.cells.LineCell.{LineCell}
use Rattle.free_engine.specs.declared.slots.Slot.{Slot}
use Rattle.free_engine.specs.declared.slots.Slot.TheVariants.{Pool as InPool, Line as InLine}
use Rattle.free_engine.specs.Slots.{IsFresh}
use Rattle.free_engine.specs.Turns.{HasPool}

-- the cell contains this line, as one of this many, over this network and store, and did so when the cell was made
pub record IsOfLine (net : Net) (s : Stored) (lines : ℕ) (line : Line) (c : LineCell) : Type 0 where
  pub has_net : c.net.value ≡ net
  pub has_store : c.store.value ≡ s
  pub of_lines : c.lines ≡ lines
  pub is_line : c.line ≡ line
  pub was_line : c.first.value ≡ line

-- the same of a slot
abbrev pub IsRowOfLine : Net → Stored → ℕ → Line → Slot → Type 0
IsRowOfLine net s lines line (InPool q) = ⊥
IsRowOfLine net s lines line (InLine l) = IsOfLine net s lines line l.value

-- each of these lines is in its slot
abbrev pub AreRows : Net → Stored → ℕ → List Line → List Slot → Type 0
AreRows net s lines [] [] = Unit {0}
AreRows net s lines [] (x ∷ xs) = ⊥
AreRows net s lines (l ∷ ls) [] = ⊥
AreRows net s lines (l ∷ ls) (x ∷ xs) = IsRowOfLine net s lines l x × AreRows net s lines ls xs

-- a fresh pool of these tasks, followed by these lines, out of this many in total
pub record IsOpened (net : Net) (s : Stored) (workers : ℕ) (first : List Task) (count : ℕ) (lines : List Line) (values : List Slot) : Type 0 where
  pub pool : Slot
  pub rows : List Slot
  pub is : values ≡ pool ∷ rows
  pub has_pool : HasPool net s workers first pool
  pub fresh : IsFresh pool
  pub are : AreRows net s count lines rows

-- the lines in slots
abbrev pub rows_in : List Slot → List Line
rows_in [] = []
rows_in (InPool q ∷ xs) = rows_in xs
rows_in (InLine l ∷ xs) = l.value.line ∷ rows_in xs
