-- What all workers gave to the lines.
use Rattle.std.specs.Prelude.{◌≡◌, ℕ, suc, ◌+◌, List, [], ◌∷◌, map, sum_by}
use Rattle.work_store.specs.Stored.{Stored, held_of}
use Rattle.net_base.specs.declared.net.Net.{Net}
use Rattle.net_base.specs.declared.tasks.Task.{Task}
use Rattle.token_line.specs.declared.line.Entry.{Entry}
use Rattle.step_core.specs.Machine.{Seen}
use Rattle.step_core.specs.Worlds.{placed, seen}
use Rattle.turn_table.specs.declared.passes.Pass.{Pass}
use Rattle.turn_table.specs.declared.views.Row.{Row as ARow}
use Rattle.turn_table.specs.declared.views.Share.{Share}
use Rattle.turn_table.specs.declared.views.View.{View}
use Rattle.turn_table.specs.Ends.{Accounts}
use Rattle.turn_table.specs.Log.{IsAt, weigh}
use Rattle.turn_table.specs.Turns.{IsPassOf, knows, number}
use Rattle.turn_table.specs.declared.cells.Cells.{Cells}
use Rattle.task_deque.specs.declared.handles.OwnEnd.{OwnEnd}
use Rattle.steal_engine.specs.Team.{weigh_pushed}
use Rattle.steal_engine.specs.Rests.{AreDrained}
use Rattle.steal_engine.specs.declared.rows.Row.{Row}
use Rattle.steal_engine.specs.declared.rows.RowName.{RowName}
use Rattle.steal_engine.specs.Rows.{IsReady, IsSetUp, entries, name, signature}

-- the contracts' view of the line in a cell
abbrev pub seen_row : Row → Seen
seen_row x = seen x.cell.value.line

-- each line is as it was when its cell was made
abbrev pub AreFresh : List Row → Type 0
AreFresh values = (i : ℕ) (x : Row) → IsAt values i x → x.cell.value.line ≡ x.cell.value.first.value

-- each pass is joined, in the order of their numbers, starting with this one
abbrev pub AreJoined : ℕ → List (Pass Row Entry RowName) → List (Share Entry) → Type 0
AreJoined n [] [] = Unit {0}
AreJoined n [] (x ∷ xs) = ⊥
AreJoined n (p ∷ ps) [] = ⊥
AreJoined n (p ∷ ps) (x ∷ xs) = (x.pass ≡ n) × (x.rows ≡ (knows p).own) × AreJoined (suc n) ps xs

-- the tasks of the log together with those left are the tasks that were waiting together with the children of the log
abbrev pub Balances : List Task → List Task → List (ARow Entry) → Type 0
Balances first left log = (h : Task → ℕ) → weigh (λ r. h r.entry.task) log + sum_by h left ≡ weigh (λ r. sum_by h r.entry.children) log + sum_by h first

-- If the log balances, the lines at the end are drained except for what is left.
abbrev pub LogLaw : Type 0
LogLaw =
    (net : Net) (s : Stored) (lines : ℕ) (first left : List Task) (v : View Row Entry) (lasts : List Row) (log : List (ARow Entry))
    → IsSetUp net s lines v.values → AreFresh v.values → Accounts entries name signature v lasts log → Balances first left log
    → IsSetUp net s lines lasts × AreDrained (held_of s) net.nodes (placed (held_of s) net.nodes lines) (map seen_row v.values) (map seen_row lasts) first left

-- a worker may go on with each pass, which has given nothing; their numbers are consecutive from this one on
abbrev pub AreReadyFrom : (Task → Type 0) → Cells Row Entry RowName → Net → Stored → ℕ → ℕ → List (Pass Row Entry RowName) → Type 0
AreReadyFrom fits cells net s lines n [] = Unit {0}
AreReadyFrom fits cells net s lines n (p ∷ ps) = IsReady fits cells net s lines p × (number p ≡ n) × ((knows p).own ≡ []) × AreReadyFrom fits cells net s lines (suc n) ps

-- the passes of the cells, with consecutive numbers from this one on
abbrev pub AreNext : Cells Row Entry RowName → ℕ → List (Pass Row Entry RowName) → Type 0
AreNext cells n [] = Unit {0}
AreNext cells n (p ∷ ps) = IsPassOf cells p × (number p ≡ n) × AreNext cells (suc n) ps

-- the tasks of the log together with those left are the tasks that were dealt together with the children of the log
abbrev pub BalancesDealt : {J : Type 0} → List (OwnEnd J) → List Task → List (ARow Entry) → Type 0
BalancesDealt owns left log = (h : Task → ℕ) → weigh (λ r. h r.entry.task) log + sum_by h left ≡ weigh (λ r. sum_by h r.entry.children) log + weigh_pushed h owns

-- the same for any log that accounts for what the first pass knows
abbrev pub Balanced : {J : Type 0} → List (OwnEnd J) → List Task → View Row Entry → Type 0
Balanced owns left v = (lasts : List Row) (log : List (ARow Entry)) → Accounts entries name signature v lasts log → BalancesDealt owns left log

-- each pass is that of the next worker, which has given nothing; their numbers are consecutive from this one on
abbrev pub AreNew : Cells Row Entry RowName → ℕ → List (Pass Row Entry RowName) → Type 0
AreNew cells n [] = Unit {0}
AreNew cells n (p ∷ ps) = IsPassOf cells p × (number p ≡ n) × ((knows p).own ≡ []) × AreNew cells (suc n) ps

-- for any log that accounts for what the first pass knows: the tasks of the log together with those left are the
-- tasks that were waiting together with the children of the log
abbrev pub BalancesAll : List Task → List Task → View Row Entry → Type 0
BalancesAll first left v = (lasts : List Row) (log : List (ARow Entry)) → Accounts entries name signature v lasts log → Balances first left log
