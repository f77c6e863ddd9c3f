-- Lines in cells, and the entries that a worker gave to them.
use Rattle.std.specs.Prelude.{◌≡◌, ◌<◌, ℕ, List, Option, None, length, map}
use Rattle.work_store.specs.Stored.{Stored, held_of}
use Rattle.net_base.specs.declared.net.Net.{Net}
use Rattle.net_base.specs.declared.tasks.Task.{Task}
use Rattle.token_line.specs.Held.{TaskFits}
use Rattle.token_line.specs.Numbers.{line_number}
use Rattle.token_line.specs.declared.line.Entry.{Entry}
use Rattle.turn_table.specs.declared.cells.Cells.{Cells}
use Rattle.turn_table.specs.declared.passes.Pass.{Pass}
use Rattle.turn_table.specs.declared.views.Row.{Row as ARow}
use Rattle.turn_table.specs.Log.{IsAt}
use Rattle.turn_table.specs.Turns.{IsPassOf, first_values, knows}
use Rattle.steal_engine.specs.declared.rounds.Round.{Round}
use Rattle.steal_engine.specs.Sums.{round}
use Rattle.steal_engine.specs.declared.rows.Row.{Row}
use Rattle.steal_engine.specs.declared.rows.RowName.{RowName}

abbrev pub entries : Row → List Entry
entries x = x.cell.value.line.entries.items

-- what no turn changes
abbrev pub name : Row → RowName
name x = let c = x.cell.value in record { number = c.line.number; lines = c.lines; first = c.first; net = c.net; store = c.store }

abbrev pub signature : Entry → Option ℕ
signature e = None

-- this task belongs to the line, over this network and store
pub record IsLineFor (net : Net) (s : Stored) (x : Task) (r : Row) : Type 0 where
  pub has_net : r.cell.value.net.value ≡ net
  pub has_store : r.cell.value.store.value ≡ s
  pub here : line_number (held_of s) net.nodes r.cell.value.lines x.node x.side x.token ≡ r.cell.value.line.number

-- line i of this many, over this network and store
pub record IsRowFor (net : Net) (s : Stored) (lines i : ℕ) (r : Row) : Type 0 where
  pub has_net : r.cell.value.net.value ≡ net
  pub has_store : r.cell.value.store.value ≡ s
  pub of_lines : r.cell.value.lines ≡ lines
  pub is_number : r.cell.value.line.number ≡ i

-- line i in cell i
pub record IsSetUp (net : Net) (s : Stored) (lines : ℕ) (values : List Row) : Type 0 where
  pub rows : (i : ℕ) (x : Row) → IsAt values i x → IsRowFor net s lines i x
  pub count : length values ≡ lines
  pub some : 0 < lines

-- a worker may go on with this pass, and the tasks that fit are those of this network and store
pub record IsReady (fits : Task → Type 0) (cells : Cells Row Entry RowName) (net : Net) (s : Stored) (lines : ℕ) (p : Pass Row Entry RowName) : Type 0 where
  pub pass : IsPassOf cells p
  pub cells_are : IsSetUp net s lines (first_values cells)
  pub means : (x : Task) → fits x → TaskFits net.nodes s x
  pub meant : (x : Task) → TaskFits net.nodes s x → fits x

-- each row is a task that was performed, on its line
abbrev pub rounds_of : List (ARow Entry) → List Round
rounds_of rows = map (λ (r : ARow Entry). round r.entry.task r.entry.children) rows

abbrev pub rounds_in : Pass Row Entry RowName → List Round
rounds_in p = rounds_of (knows p).own
