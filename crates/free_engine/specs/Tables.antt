-- Cells that contain a pool and lines.
use Rattle.std.specs.Prelude.{◌≡◌, ℕ, List, [], ◌∷◌, pos, map, length, slice_get, Some}
use Rattle.work_store.specs.Stored.{Stored}
use Rattle.net_base.specs.declared.nodes.Node.{Node}
use Rattle.net_base.specs.declared.tasks.Task.{Task}
use Rattle.step_core.specs.Machine.{Seen}
use Rattle.step_core.specs.Worlds.{seen}
use Rattle.free_engine.specs.declared.cells.LineCell.{LineCell}
use Rattle.free_engine.specs.declared.slots.Slot.{Slot}
use Rattle.free_engine.specs.declared.slots.Slot.TheVariants.{Pool as InPool, Line as InLine}

-- line i of this many, over this network and store
pub record IsLineOf (nodes : List Node) (s : Stored) (lines i : ℕ) (c : LineCell) : Type 0 where
  pub has_nodes : c.net.value.nodes ≡ nodes
  pub has_store : c.store.value ≡ s
  pub of_lines : c.lines ≡ lines
  pub number : c.line.number ≡ i

-- the same of a slot
abbrev pub IsRowOf : List Node → Stored → ℕ → ℕ → Slot → Type 0
IsRowOf nodes s lines i (InPool q) = ⊥
IsRowOf nodes s lines i (InLine l) = IsLineOf nodes s lines i l.value

-- a pool that began with these tasks
abbrev pub BeganWith : List Task → Slot → Type 0
BeganWith first (InPool q) = q.value.pool.first.value.items ≡ first
BeganWith first (InLine l) = ⊥

-- a line without tokens or entries
abbrev pub nothing_seen : Seen
nothing_seen = record { sums = λ n s t. pos 0; entries = [] }

-- the contracts' view of the line in a slot
abbrev pub seen_in : Slot → Seen
seen_in (InPool q) = nothing_seen
seen_in (InLine l) = seen l.value.line

-- the contracts' view of the lines, which are in the cells after the pool's
abbrev pub lines_in : List Slot → List Seen
lines_in [] = []
lines_in (x ∷ xs) = map seen_in xs

-- a pool that began with these tasks, and this many lines
pub record IsTable (nodes : List Node) (s : Stored) (lines : ℕ) (first : List Task) (values : List Slot) : Type 0 where
  pub pool : Slot
  pub rows : List Slot
  pub is : values ≡ pool ∷ rows
  pub began : BeganWith first pool
  pub count : length rows ≡ lines
  pub each : (i : ℕ) (x : Slot) → slice_get rows i ≡ Some x → IsRowOf nodes s lines i x
