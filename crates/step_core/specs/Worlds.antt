-- The world in the code: which part of it the machine's world describes, and what its steps require.
use Rattle.std.specs.Prelude.{◌≡◌, ◌<◌, ◌++◌, ℕ, List, [], length, map, slice_get, Some, All}
use Rattle.work_store.specs.Stored.{Stored, held_of}
use Rattle.net_base.specs.declared.nodes.Node.{Node}
use Rattle.net_base.specs.declared.nodes.Alpha.{Alpha}
use Rattle.net_base.specs.declared.tasks.Task.{Task}
use Rattle.net_base.specs.Tokens.{Elements}
use Rattle.token_line.specs.declared.line.Entry.{Entry}
use Rattle.token_line.specs.declared.line.Line.{Line}
use Rattle.token_line.specs.Held.{Agrees, TaskFits}
use Rattle.token_line.specs.Lawful.{IsLawful}
use Rattle.token_line.specs.Lines.{sum_in}
use Rattle.token_line.specs.Numbers.{line_number}
use Rattle.activation.specs.Acting.{IsCounted}
use Rattle.step_core.specs.declared.world.Step.{Step}
use Rattle.step_core.specs.declared.world.Step.TheVariants.{Feed, Activate, Finish}
use Rattle.step_core.specs.declared.world.World.{World}
use Rattle.step_core.specs.declared.world.Parts.{Parts}
use Rattle.step_core.specs.inner.Doing.{entry_of}
use Rattle.step_core.specs.Machine.{Placing, Seen, Steps, add_entry, place_of, sums_at}
use Rattle.step_core.specs.Machine
use Rattle.step_core.specs.Feeding.{IsKnown}

-- ---- the machine's world

-- the contracts' view of a line
abbrev pub seen : Line → Seen
seen l = record { sums = sum_in l; entries = l.entries.items }

-- the machine's world for a world of the code
abbrev pub world_of : World → Machine.World
world_of w = record { lines = map seen w.lines.items; flight = w.flight.items; done = map entry_of w.done.items; counter = w.counter }

abbrev pub step_of : Step → Machine.Step
step_of (Feed change) = Machine.Feed change
step_of (Activate i) = Machine.Activate i
step_of (Finish j) = Machine.Finish j

-- each token on the line that `line_number` gives it, out of this many lines
abbrev pub placed : Elements → List Node → ℕ → Placing
placed elements nodes lines n s t = line_number elements nodes lines n s t

-- the line of a task, out of this many lines
abbrev pub line_of_task : Stored → List Node → ℕ → Task → ℕ
line_of_task s nodes lines x = place_of (placed (held_of s) nodes lines) x

-- this step leads from the old world to the new one, for every choice of elements that agrees with the store
abbrev pub Takes : List Alpha → List Node → Stored → World → Machine.Step → World → Type 0
Takes alphas nodes s old step new =
    (elements : Elements) → Agrees s elements
    → Steps elements alphas nodes (placed elements nodes (length old.lines.items)) (world_of old) step (world_of new)

-- ---- a task at work

-- The task became an entry of its line, as the machine describes it, for every choice of elements that agrees with
-- the store. The children of the entry fit, and came after the tasks that were there.
pub record ActsOn (nodes : List Node) (s : Stored) (x : Task) (old new : List Line) (before now : List Task) : Type 0 where
  pub entry : Entry
  pub task : entry.task ≡ x
  pub lawful : (elements : Elements) → Agrees s elements → IsLawful elements nodes (sums_at (place_of (placed elements nodes (length old)) x) (map seen old)) entry
  pub joins : (elements : Elements) → Agrees s elements → map seen new ≡ add_entry (place_of (placed elements nodes (length old)) x) entry (map seen old)
  pub fit : All (TaskFits nodes s) entry.children
  pub given : now ≡ before ++ entry.children

-- ---- lines

-- line i has the number i
abbrev pub AreNumbered : List Line → Type 0
AreNumbered ls = (i : ℕ) (l : Line) → slice_get ls i ≡ Some l → l.number ≡ i

abbrev pub numbers_of : World → List ℕ
numbers_of w = map (λ l. l.number) w.lines.items

-- ---- what a step requires

-- the task of an entry and its children fit
pub record EntryFits (nodes : List Node) (s : Stored) (e : Entry) : Type 0 where
  pub task : TaskFits nodes s e.task
  pub children : All (TaskFits nodes s) e.children

-- every task in flight fits, every entry that is done fits, and every line is counted
pub record IsReady (nodes : List Node) (s : Stored) (w : World) : Type 0 where
  pub flight : All (TaskFits nodes s) w.flight.items
  pub done : All (EntryFits nodes s) (map entry_of w.done.items)
  pub lines : All (IsCounted nodes s) w.lines.items

-- the machine's world with these lines and tasks, if no entry is waiting to be finished
abbrev pub joined : List Seen → List Task → Machine.World
joined lines flight = record { lines = lines; flight = flight; done = []; counter = length flight }

-- every task in flight fits, and every line is counted
pub record ArePartsReady (nodes : List Node) (s : Stored) (p : Parts) : Type 0 where
  pub flight : All (TaskFits nodes s) p.flight.items
  pub lines : All (IsCounted nodes s) p.lines.items

-- the store holds the element of the change, there is such a task in flight, or such an entry that is done
abbrev pub IsWithin : Stored → World → Step → Type 0
IsWithin s w (Feed change) = IsKnown s change
IsWithin s w (Activate i) = i < length w.flight.items
IsWithin s w (Finish j) = j < length w.done.items
