-- What each worker promises, and what all of them did together.
use Rattle.std.specs.Prelude.{◌≡◌, ◌<◌, ℕ, ◌+◌, List, [], ◌∷◌, ◌++◌, map, Some}
use Rattle.work_store.specs.Stored.{Stored, held_of}
use Rattle.net_base.specs.declared.nodes.Node.{Node}
use Rattle.net_base.specs.declared.tasks.Task.{Task}
use Rattle.token_line.specs.declared.line.Entry.{Entry}
use Rattle.step_core.specs.Worlds.{placed}
use Rattle.turn_table.specs.declared.views.Row.{Row}
use Rattle.turn_table.specs.declared.views.Sight.{Sight}
use Rattle.turn_table.specs.declared.views.Share.{Share}
use Rattle.turn_table.specs.declared.views.View.{View}
use Rattle.turn_table.specs.Log.{IsAt}
use Rattle.turn_table.specs.Ends.{Accounts}
use Rattle.task_pool.specs.declared.pool.PoolEntry.{PoolEntry}
use Rattle.task_pool.specs.declared.pool.PoolEntry.TheVariants.{Take, Finish}
use Rattle.task_pool.specs.Pools.{IsQuiet, first_stop}
use Rattle.free_engine.specs.declared.slots.Slot.{Slot}
use Rattle.free_engine.specs.declared.slots.SlotEntry.{SlotEntry}
use Rattle.free_engine.specs.declared.slots.SlotEntry.TheVariants.{OfPool, OfLine}
use Rattle.free_engine.specs.Slots.{IsFresh, entries, name, signature}
use Rattle.free_engine.specs.Tables.{IsTable, lines_in}
use Rattle.free_engine.specs.Drained.{AreDrained}

-- an entry, and the number of the line that got it
pub record Round : Type 0 where
  pub line : ℕ
  pub entry : Entry

-- the rows of a round: the worker took the task, the line got the entry, the worker finished it with the entry's
-- children
abbrev pub rows_of_round : ℕ → Round → List (Row SlotEntry)
rows_of_round worker x =
    record { pass = worker + 1; cell = 0; entry = OfPool (Take worker x.entry.task) }
    ∷ (record { pass = worker + 1; cell = x.line + 1; entry = OfLine x.entry }
    ∷ (record { pass = worker + 1; cell = 0; entry = OfPool (Finish worker x.entry.children) } ∷ []))

-- the rows of rounds, one after another
abbrev pub rows_of_rounds : ℕ → List Round → List (Row SlotEntry)
rows_of_rounds worker [] = []
rows_of_rounds worker (x ∷ xs) = rows_of_round worker x ++ rows_of_rounds worker xs

-- the line of each round is one of this many
abbrev pub AreInside : ℕ → List Round → Type 0
AreInside lines [] = Unit {0}
AreInside lines (x ∷ xs) = (x.line < lines) × AreInside lines xs

-- what the worker gave to cells forms whole rounds
pub record HasWorked (lines worker : ℕ) (own : List (Row SlotEntry)) : Type 0 where
  pub rounds : List Round
  pub inside : AreInside lines rounds
  pub own_is : own ≡ rows_of_rounds worker rounds

-- the first pass gave nothing itself, and was joined with the pass of each worker, which has worked
pub record HaveWorked (lines workers : ℕ) (v : View Slot SlotEntry) : Type 0 where
  pub own : v.own ≡ []
  pub splits : v.splits ≡ workers
  pub each : (w : ℕ) → w < workers → (place : ℕ) × (share : Share SlotEntry) × IsAt v.joined place share × (share.pass ≡ w + 1) × HasWorked lines w share.rows

-- some worker saw the pool quiet
pub record SawQuiet (first : List Task) (seen : List (Sight SlotEntry)) : Type 0 where
  pub place : ℕ
  pub sight : Sight SlotEntry
  pub at : IsAt seen place sight
  pub cell : sight.cell ≡ 0
  pub list : List PoolEntry
  pub list_is : sight.list ≡ map OfPool list
  pub quiet : IsQuiet first list

-- some worker saw that this worker had stopped
pub record SawStop (by : ℕ) (seen : List (Sight SlotEntry)) : Type 0 where
  pub place : ℕ
  pub sight : Sight SlotEntry
  pub at : IsAt seen place sight
  pub cell : sight.cell ≡ 0
  pub list : List PoolEntry
  pub list_is : sight.list ≡ map OfPool list
  pub stopped : first_stop list ≡ Some by

-- each slot is as it was when the cells were made
abbrev pub AreFresh : List Slot → Type 0
AreFresh values = (cell : ℕ) (x : Slot) → IsAt values cell x → IsFresh x

-- If each worker has worked and one saw the pool quiet, the lines at the end are drained of the tasks that the pool
-- began with.
abbrev pub ShareLaw : Type 0
ShareLaw =
    (nodes : List Node) (s : Stored) (lines workers : ℕ) (first : List Task) (v : View Slot SlotEntry) (lasts : List Slot) (log : List (Row SlotEntry))
    → IsTable nodes s lines first v.values → AreFresh v.values
    → Accounts entries name signature v lasts log → HaveWorked lines workers v → SawQuiet first v.seen
    → IsTable nodes s lines first lasts × AreDrained (held_of s) nodes (placed (held_of s) nodes lines) (lines_in v.values) (lines_in lasts) first
