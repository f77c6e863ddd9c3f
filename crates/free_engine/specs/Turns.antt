-- What the turns of a worker add to its rows.
use Rattle.std.specs.Prelude.{◌≡◌, ℕ, ◌+◌, Bool, false, List, [], ◌∷◌, ◌++◌, length, map}
use Rattle.work_store.specs.Stored.{Stored}
use Rattle.net_base.specs.declared.net.Net.{Net}
use Rattle.net_base.specs.declared.tasks.Task.{Task}
use Rattle.turn_table.specs.declared.views.Row.{Row as ARow}
use Rattle.turn_table.specs.declared.views.Sight.{Sight}
use Rattle.turn_table.specs.declared.views.View.{View}
use Rattle.turn_table.specs.Log.{IsAt, given_to}
use Rattle.task_pool.specs.declared.pool.PoolEntry.{PoolEntry}
use Rattle.task_pool.specs.declared.pool.PoolEntry.TheVariants.{Take}
use Rattle.task_pool.specs.declared.pool.Taken.{Taken}
use Rattle.task_pool.specs.declared.pool.Taken.TheVariants.{Task as ATask, Again, Quiet, Stopped}
use Rattle.task_pool.specs.Pools.{holds_after}
use Rattle.free_engine.specs.declared.cells.LineCell.{LineCell}
use Rattle.free_engine.specs.declared.cells.PoolCell.{PoolCell}
use Rattle.free_engine.specs.declared.slots.Slot.{Slot}
use Rattle.free_engine.specs.declared.slots.Slot.TheVariants.{Pool as InPool, Line as InLine}
use Rattle.free_engine.specs.declared.slots.SlotEntry.{SlotEntry}
use Rattle.free_engine.specs.declared.slots.SlotEntry.TheVariants.{OfPool, OfLine}
use Rattle.free_engine.specs.Slots.{AreUnfinished}
use Rattle.free_engine.specs.Counts.{SawQuiet, SawStop}

-- ---- the cells of a phase

-- a pool that began with these tasks for this many workers, over this network and store
pub record IsPoolFor (net : Net) (s : Stored) (workers : ℕ) (first : List Task) (c : PoolCell) : Type 0 where
  pub has_net : c.net.value ≡ net
  pub has_store : c.store.value ≡ s
  pub of_workers : c.pool.workers.value ≡ workers
  pub began : c.pool.first.value.items ≡ first

-- line i of this many, over this network and store
pub record IsRowFor (net : Net) (s : Stored) (lines i : ℕ) (c : LineCell) : Type 0 where
  pub has_net : c.net.value ≡ net
  pub has_store : c.store.value ≡ s
  pub of_lines : c.lines ≡ lines
  pub is_number : c.line.number ≡ i

-- the slot contains such a pool
abbrev pub HasPool : Net → Stored → ℕ → List Task → Slot → Type 0
HasPool net s workers first (InPool q) = IsPoolFor net s workers first q.value
HasPool net s workers first (InLine l) = ⊥

-- the slot contains such a line
abbrev pub HasRow : Net → Stored → ℕ → ℕ → Slot → Type 0
HasRow net s lines i (InPool q) = ⊥
HasRow net s lines i (InLine l) = IsRowFor net s lines i l.value

-- the pool in cell 0, and line i in cell i + 1
pub record IsSetUp (net : Net) (s : Stored) (lines workers : ℕ) (first : List Task) (values : List Slot) : Type 0 where
  pub pool : (x : Slot) → IsAt values 0 x → HasPool net s workers first x
  pub rows : (i : ℕ) (x : Slot) → IsAt values (i + 1) x → HasRow net s lines i x
  pub count : length values ≡ lines + 1

-- ---- a worker's rows

-- whether the worker holds a task after these entries, given whether it held one before
abbrev pub holds_slots : ℕ → Bool → List SlotEntry → Bool
holds_slots w b [] = b
holds_slots w b (OfPool e ∷ es) = holds_slots w (holds_after w b e) es
holds_slots w b (OfLine e ∷ es) = holds_slots w b es

-- the worker's last entry in the pool is a take
abbrev pub has_taken : ℕ → List (ARow SlotEntry) → Bool
has_taken w rows = holds_slots w false (given_to 0 rows)

-- one row of the worker
abbrev pub a_row : ℕ → ℕ → SlotEntry → List (ARow SlotEntry)
a_row w cell e = record { pass = w + 1; cell = cell; entry = e } ∷ []

-- the last sight since then is of the pool, in which no task is waiting and this many are unfinished
abbrev pub SeesUnfinished : List Task → ℕ → List (Sight SlotEntry) → List (Sight SlotEntry) → Type 0
SeesUnfinished first n old new =
    (since : List (Sight SlotEntry)) × (list : List PoolEntry) × (new ≡ (old ++ since) ++ record { cell = 0; list = map OfPool list } ∷ []) × AreUnfinished first list n

-- what a take adds to the rows of the worker
abbrev pub PassTakes : ℕ → List Task → View Slot SlotEntry → View Slot SlotEntry → Taken → Type 0
PassTakes w first p q (ATask t) = q.own ≡ p.own ++ a_row w 0 (OfPool (Take w t))
PassTakes w first p q (Again n) = (q.own ≡ p.own) × SeesUnfinished first n p.seen q.seen
PassTakes w first p q Quiet = (q.own ≡ p.own) × SawQuiet first q.seen
PassTakes w first p q (Stopped by) = (q.own ≡ p.own) × SawStop by q.seen
