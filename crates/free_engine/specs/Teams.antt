-- What is known of all workers of a shared phase.
use Rattle.std.specs.Prelude.{◌≡◌, ◌<◌, ◌≤◌, ℕ, ◌+◌, List, [], length, Bool, IsTrue, slice_index_or}
use Rattle.net_base.specs.declared.tasks.Task.{Task}
use Rattle.turn_table.specs.declared.cells.Cells.{Cells}
use Rattle.turn_table.specs.declared.passes.Pass.{Pass}
use Rattle.turn_table.specs.declared.views.Share.{Share}
use Rattle.turn_table.specs.Log.{IsAt}
use Rattle.turn_table.specs.Turns.{IsFirstOf, IsPassOf, knows, number, splits, split_off}
use Rattle.free_engine.specs.declared.slots.Slot.{Slot}
use Rattle.free_engine.specs.declared.slots.SlotEntry.{SlotEntry}
use Rattle.free_engine.specs.declared.slots.SlotName.{SlotName}
use Rattle.free_engine.specs.Counts.{HasWorked, SawQuiet}

-- the cells of slots, and their passes
abbrev pub SlotCells : Type 0
SlotCells = Cells Slot SlotEntry SlotName

abbrev pub SlotPass : Type 0
SlotPass = Pass Slot SlotEntry SlotName

-- it is the first pass, which gave nothing itself; this many passes were split from it, and this many of these are
-- not joined
pub record Leads (cells : SlotCells) (split apart : ℕ) (p : SlotPass) : Type 0 where
  pub first : IsFirstOf cells p
  pub own : (knows p).own ≡ []
  pub split_is : splits p ≡ split
  pub apart_is : split_off p ≡ apart

-- each pass is that of the next worker, which has given nothing
abbrev pub AreReady : SlotCells → List SlotPass → Type 0
AreReady cells passes = (i : ℕ) (d : SlotPass) → i < length passes → IsPassOf cells (slice_index_or passes i d) × (number (slice_index_or passes i d) ≡ i + 1) × ((knows (slice_index_or passes i d)).own ≡ [])

-- a worker may begin with this pass
pub record CanWork (workers : ℕ) (cells : SlotCells) (p : SlotPass) : Type 0 where
  pub pass : IsPassOf cells p
  pub some : 0 < number p
  pub few : number p ≤ workers
  pub fresh : (knows p).own ≡ []

-- The pass of the worker with this number is back. If the worker succeeded, it did whole rounds and saw the pool
-- quiet.
pub record HasEnded (lines : ℕ) (first : List Task) (cells : SlotCells) (of : ℕ) (e : SlotPass × Bool) : Type 0 where
  pub pass : IsPassOf cells e.0
  pub number_is : number e.0 ≡ of
  pub whole : (w : ℕ) → of ≡ w + 1 → IsTrue e.1 → HasWorked lines w (knows e.0).own × SawQuiet first (knows e.0).seen

-- the same of each worker
abbrev pub AllEnded : ℕ → List Task → SlotCells → List (SlotPass × Bool) → Type 0
AllEnded lines first cells all = (i : ℕ) (d : SlotPass × Bool) → i < length all → HasEnded lines first cells (i + 1) (slice_index_or all i d)

-- the first n that were joined did whole rounds
abbrev pub AllJoined : ℕ → ℕ → List (Share SlotEntry) → Type 0
AllJoined lines n joined = (w : ℕ) → w < n → (share : Share SlotEntry) × IsAt joined w share × (share.pass ≡ w + 1) × HasWorked lines w share.rows
