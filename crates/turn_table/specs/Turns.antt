-- What clauses state about cells, passes and turns.
use Rattle.std.specs.Prelude.{◌≡◌, ℕ, ◌*◌, ◌<◌, ◌≤◌, List, [], ◌∷◌, true, false, Option, Some, None, length}
use Rattle.atomic_table.specs.Seated.{TableId}
use Rattle.atomic_table.specs.declared.shared.Seat.{Seat}
use Rattle.turn_table.specs.declared.cells.Cells.{Cells}
use Rattle.turn_table.specs.declared.closing.MadeLog.{MadeLog}
use Rattle.turn_table.specs.declared.passes.Counts.{Counts}
use Rattle.turn_table.specs.declared.passes.Pass.{Pass}
use Rattle.turn_table.specs.declared.turns.Turn.{Turn}
use Rattle.turn_table.specs.declared.views.Row.{Row}
use Rattle.turn_table.specs.declared.views.View.{View}

module _ {X E : Type 0} where
  -- a seat at this table, of a pass in use with these counts
  pub record Sits (table : TableId) (values : List X) (seat : Seat (Option X) (View X E)) (counts : Counts) : Type 0 where
    pub at_table : seat.table_id ≡ table
    pub in_use : seat.me.0.in_use ≡ true
    pub not_ended : seat.me.0.ended ≡ false
    pub same_values : seat.me.0.values ≡ values
    pub same_number : seat.me.0.number ≡ counts.number
    pub same_splits : seat.me.0.splits ≡ counts.splits
    pub same_apart : seat.me.0.apart ≡ counts.apart
    pub no_more_apart : counts.apart ≤ counts.splits

  module _ (entries : X → List E) (table : TableId) (values : List X) where
    -- a seat at this table, of a pass that holds the cell, in which it found this value and this word
    pub record SitsOut (seat : Seat (Option X) (View X E)) (counts : Counts) (cell word : ℕ) (was : X) : Type 0 where
      pub sits : Sits table values seat counts
      pub slot : seat.me.1 ≡ (cell, None) ∷ []
      pub held : seat.me.0.held ≡ Some record { cell = cell; value = was }
      pub inside : cell < length values
      pub word_counts : word ≡ 2 * length (entries was)

  -- the pass is in use and holds nothing
  pub record IsIdle (v : View X E) : Type 0 where
    pub in_use : v.in_use ≡ true
    pub not_ended : v.ended ≡ false
    pub holds_nothing : v.held ≡ None

module _ {X E N : Type 0} where
  -- the values that the cells began with
  abbrev pub first_values : Cells X E N → List X
  first_values cells = cells.table.shared.key.value.items

  -- what the pass knows
  abbrev pub knows : Pass X E N → View X E
  knows pass = pass.seat.me.0

  abbrev pub number : Pass X E N → ℕ
  number pass = pass.counts.number

  -- how many passes were split from it
  abbrev pub splits : Pass X E N → ℕ
  splits pass = pass.counts.splits

  -- how many of those have not been joined
  abbrev pub split_off : Pass X E N → ℕ
  split_off pass = pass.counts.apart

  -- the pass belongs to the cells
  abbrev pub IsPassOf : Cells X E N → Pass X E N → Type 0
  IsPassOf cells pass =
      Sits cells.table.shared.table_id (first_values cells) pass.seat pass.counts
      × (pass.seat.me.1 ≡ []) × ((knows pass).held ≡ None)

  -- it is their first pass
  abbrev pub IsFirstOf : Cells X E N → Pass X E N → Type 0
  IsFirstOf cells pass = IsPassOf cells pass × (number pass ≡ 0)

  -- what the pass of the turn knows
  abbrev pub turn_knows : Turn X E N → View X E
  turn_knows turn = turn.seat.me.0

  -- the number of the pass of the turn
  abbrev pub turn_number : Turn X E N → ℕ
  turn_number turn = turn.counts.number

  abbrev pub turn_cell : Turn X E N → ℕ
  turn_cell turn = turn.cell

  -- the value as the turn has it now
  abbrev pub value : Turn X E N → X
  value turn = turn.value

  -- the value at the claim
  abbrev pub claimed_value : Turn X E N → X
  claimed_value turn = turn.was.value

  -- the turn belongs to the cells
  abbrev pub IsTurnOf : (X → List E) → Cells X E N → Turn X E N → Type 0
  IsTurnOf entries cells turn =
      SitsOut entries cells.table.shared.table_id (first_values cells) turn.seat turn.counts turn.cell turn.word turn.was.value

  -- the turn with another value
  abbrev pub with_value : Turn X E N → X → Turn X E N
  with_value turn new = record turn { value = new }

  -- the rows of the log
  abbrev pub rows : MadeLog X E N → List (Row E)
  rows made = made.seat.value.me.0.log
