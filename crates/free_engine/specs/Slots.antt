-- The content of a slot: the pool or a line.
use Rattle.std.specs.Prelude.{◌≡◌, ◌<◌, ℕ, ◌+◌, List, [], ◌∷◌, ◌++◌, Option, Some, None, length, map}
use Rattle.net_base.specs.declared.tasks.Task.{Task}
use Rattle.token_line.specs.Numbers.{line_number}
use Rattle.task_pool.specs.declared.pool.PoolEntry.{PoolEntry}
use Rattle.task_pool.specs.declared.pool.PoolEntry.TheVariants.{Take, Finish, Stop}
use Rattle.work_store.specs.Stored.{Stored, held_of}
use Rattle.net_base.specs.declared.net.Net.{Net}
use Rattle.net_base.specs.declared.nodes.Node.{Node}
use Rattle.task_pool.specs.declared.pool.Taken.{Taken}
use Rattle.task_pool.specs.declared.pool.Taken.TheVariants.{Task as ATask, Again, Quiet, Stopped}
use Rattle.task_pool.specs.Pools.{IsQuiet, first_stop, played}
use Rattle.free_engine.specs.declared.cells.LineCell.{LineCell}
use Rattle.free_engine.specs.declared.slots.Slot.{Slot}
use Rattle.free_engine.specs.declared.slots.Slot.TheVariants.{Pool as InPool, Line as InLine}
use Rattle.free_engine.specs.declared.slots.SlotEntry.{SlotEntry}
use Rattle.free_engine.specs.declared.slots.SlotEntry.TheVariants.{OfPool, OfLine}
use Rattle.free_engine.specs.declared.slots.SlotName.{SlotName}
use Rattle.free_engine.specs.declared.slots.SlotName.TheVariants.{PoolName, LineName}

-- the entries of a slot, in one type
abbrev pub entries : Slot → List SlotEntry
entries (InPool q) = map OfPool q.value.pool.entries.items
entries (InLine l) = map OfLine l.value.line.entries.items

-- what no turn changes
abbrev pub name : Slot → SlotName
name (InPool q) = PoolName q.value.pool.first q.value.pool.workers q.value.net q.value.store
name (InLine l) = LineName l.value.line.number l.value.lines l.value.first l.value.net l.value.store

-- the worker of a pool's entry
abbrev pub worker_of : PoolEntry → ℕ
worker_of (Take w t) = w
worker_of (Finish w cs) = w
worker_of (Stop w) = w

-- a pool's entry is signed with the number of its worker's pass, and a line's is not
abbrev pub signature : SlotEntry → Option ℕ
signature (OfPool e) = Some (worker_of e + 1)
signature (OfLine e) = None

-- the slot contains the pool
abbrev pub IsPool : Slot → Type 0
IsPool (InPool q) = Unit {0}
IsPool (InLine l) = ⊥

-- a pool that has no entry yet, or a line that is as it was when its cell was made
abbrev pub IsFresh : Slot → Type 0
IsFresh (InPool q) = q.value.pool.entries.items ≡ []
IsFresh (InLine l) = l.value.first.value ≡ l.value.line

-- ---- what turns do

-- the entries of the pool in the slot, and what else of the slot no turn changes
abbrev pub pool_list : Slot → List PoolEntry
pool_list (InPool q) = q.value.pool.entries.items
pool_list (InLine l) = []

abbrev pub first_in : Slot → List Task
first_in (InPool q) = q.value.pool.first.value.items
first_in (InLine l) = []

abbrev pub workers_in : Slot → ℕ
workers_in (InPool q) = q.value.pool.workers.value
workers_in (InLine l) = 0

abbrev pub nodes_in : Slot → List Node
nodes_in (InPool q) = q.value.net.value.nodes
nodes_in (InLine l) = l.value.net.value.nodes

abbrev pub store_in : Slot → Stored
store_in (InPool q) = q.value.store.value
store_in (InLine l) = l.value.store.value

-- this task belongs to the line in the slot, over this network and store
pub record IsLineFor (net : Net) (s : Stored) (x : Task) (c : LineCell) : Type 0 where
  pub has_net : c.net.value ≡ net
  pub has_store : c.store.value ≡ s
  pub here : line_number (held_of s) net.nodes c.lines x.node x.side x.token ≡ c.line.number

-- the same of a slot
abbrev pub IsSlotFor : Net → Stored → Task → Slot → Type 0
IsSlotFor net s x (InPool q) = ⊥
IsSlotFor net s x (InLine l) = IsLineFor net s x l.value

-- no task is waiting, and this many are unfinished, at least one
pub record AreUnfinished (first : List Task) (es : List PoolEntry) (n : ℕ) : Type 0 where
  pub queue : (played first es).queue ≡ []
  pub busy : length (played first es).busy ≡ n
  pub some : 0 < n

-- what a take did to the entries
abbrev pub SlotTakes : ℕ → List Task → List SlotEntry → List SlotEntry → Taken → Type 0
SlotTakes w first old new (ATask t) = new ≡ old ++ OfPool (Take w t) ∷ []
SlotTakes w first old new (Again n) = (new ≡ old) × ((list : List PoolEntry) × (old ≡ map OfPool list) × AreUnfinished first list n)
SlotTakes w first old new Quiet = (new ≡ old) × ((list : List PoolEntry) × (old ≡ map OfPool list) × IsQuiet first list)
SlotTakes w first old new (Stopped by) = (new ≡ old) × ((list : List PoolEntry) × (old ≡ map OfPool list) × (first_stop list ≡ Some by))
