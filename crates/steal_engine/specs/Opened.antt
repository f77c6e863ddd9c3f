-- Lines as they are put into cells and taken out of them.
use Rattle.std.specs.Prelude.{◌≡◌, ℕ, List, [], ◌∷◌}
use Rattle.work_store.specs.Stored.{Stored}
use Rattle.net_base.specs.declared.net.Net.{Net}
use Rattle.token_line.specs.declared.line.Line.{Line}
use Rattle.steal_engine.specs.declared.rows.Row.{Row}

-- the line in a cell
abbrev pub line_in : Row → Line
line_in x = x.cell.value.line

-- the cell contains this line, as one of this many, over this network and store, and did so when the cell was made
pub record IsRowOfLine (net : Net) (s : Stored) (lines : ℕ) (line : Line) (x : Row) : Type 0 where
  pub has_net : x.cell.value.net.value ≡ net
  pub has_store : x.cell.value.store.value ≡ s
  pub of_lines : x.cell.value.lines ≡ lines
  pub is_line : x.cell.value.line ≡ line
  pub was_line : x.cell.value.first.value ≡ line

-- each of these lines is in its cell
abbrev pub AreRows : Net → Stored → ℕ → List Line → List Row → Type 0
AreRows net s lines [] [] = Unit {0}
AreRows net s lines [] (x ∷ xs) = ⊥
AreRows net s lines (l ∷ ls) [] = ⊥
AreRows net s lines (l ∷ ls) (x ∷ xs) = IsRowOfLine net s lines l x × AreRows net s lines ls xs
