-- What a round of a worker adds to its rows, and how a shared phase ends.
use Rattle.std.specs.Prelude.{◌≡◌, ◌<◌, ℕ, List, [], ◌++◌, ◌⊎◌}
use Rattle.ops_base.specs.declared.elements.Element.{Element}
use Rattle.ops_base.specs.declared.elements.Change.{Change}
use Rattle.work_store.specs.Stored.{Stored, held_of}
use Rattle.net_base.specs.declared.net.Net.{Net}
use Rattle.net_base.specs.declared.nodes.Alpha.{Alpha}
use Rattle.net_base.specs.declared.nodes.Node.{Node}
use Rattle.net_base.specs.declared.tasks.Task.{Task}
use Rattle.step_core.specs.Worlds.{placed}
use Rattle.turn_table.specs.declared.views.Row.{Row}
use Rattle.turn_table.specs.Ends.{Accounts}
use Rattle.free_engine.specs.Slots.{entries, name, signature}
use Rattle.free_engine.specs.Tables.{IsTable, lines_in}
use Rattle.free_engine.specs.Turns.{IsSetUp, SeesUnfinished, a_row}
use Rattle.task_pool.specs.declared.pool.PoolEntry.TheVariants.{Stop}
use Rattle.free_engine.specs.declared.slots.SlotEntry.TheVariants.{OfPool}
use Rattle.step_core.specs.Rounds.{IsUnderWay}
use Rattle.turn_table.specs.declared.views.View.{View}
use Rattle.free_engine.specs.declared.slots.Slot.{Slot}
use Rattle.free_engine.specs.declared.slots.SlotEntry.{SlotEntry}
use Rattle.free_engine.specs.declared.turns.RoundEnd.{RoundEnd}
use Rattle.free_engine.specs.declared.turns.RoundEnd.TheVariants.{Done, Nothing, Quiet, Broken}
use Rattle.free_engine.specs.Counts.{Round, rows_of_round, SawQuiet, SawStop, HaveWorked, AreFresh}

-- the worker stopped, or saw that another one had
abbrev pub HasEndedEarly : ℕ → View Slot SlotEntry → Type 0
HasEndedEarly w q = ((rows : List (Row SlotEntry)) × (q.own ≡ rows ++ a_row w 0 (OfPool (Stop w)))) ⊎ ((by : ℕ) × SawStop by q.seen)

-- what a round adds to the rows of the worker
abbrev pub RoundDone : ℕ → ℕ → List Task → View Slot SlotEntry → View Slot SlotEntry → RoundEnd → Type 0
RoundDone lines w first p q Done = (x : Round) × (x.line < lines) × (q.own ≡ p.own ++ rows_of_round w x)
RoundDone lines w first p q Nothing = (q.own ≡ p.own) × ((n : ℕ) × SeesUnfinished first n p.seen q.seen)
RoundDone lines w first p q Quiet = (q.own ≡ p.own) × SawQuiet first q.seen
RoundDone lines w first p q Broken = HasEndedEarly w q

-- the cells as they are set up form a table
abbrev pub SetUpLaw : Type 0
SetUpLaw = (net : Net) (s : Stored) (lines workers : ℕ) (first : List Task) (values : List Slot) → IsSetUp net s lines workers first values → IsTable net.nodes s lines first values

-- From any lines, with a fresh pool of the tasks that are waiting: if each worker has worked and one saw the pool
-- quiet, each phase that was in progress in the lines is in progress in the closed ones, and nothing is waiting.
abbrev pub EndLaw : Type 0
EndLaw =
    (alphas : List Alpha) (nodes : List Node) (s : Stored) (lines workers : ℕ) (wm : List Element) (changes : List Change) (first : List Task)
    (v : View Slot SlotEntry) (lasts : List Slot) (log : List (Row SlotEntry))
    → IsTable nodes s lines first v.values → AreFresh v.values
    → IsUnderWay (held_of s) alphas nodes (placed (held_of s) nodes lines) wm changes (lines_in v.values) first
    → Accounts entries name signature v lasts log → HaveWorked lines workers v → SawQuiet first v.seen
    → IsUnderWay (held_of s) alphas nodes (placed (held_of s) nodes lines) wm changes (lines_in lasts) []
