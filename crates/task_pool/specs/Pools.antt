-- A pool's entries, played one after another.
use Rattle.std.specs.Prelude.{◌≡◌, ◌<◌, ℕ, ◌==◌, Bool, true, false, if◌then◌else◌, List, [], ◌∷◌, ◌++◌, Option, Some, None, length, sum_by}
use Rattle.net_base.specs.declared.tasks.Task.{Task}
use Rattle.task_pool.specs.declared.pool.PoolEntry.{PoolEntry}
use Rattle.task_pool.specs.declared.pool.PoolEntry.TheVariants.{Take, Finish, Stop}
use Rattle.task_pool.specs.declared.pool.Taken.{Taken}
use Rattle.task_pool.specs.declared.pool.Taken.TheVariants.{Task as ATask, Again, Quiet, Stopped}

-- the tasks that are waiting, and the workers that hold one
pub record PoolState : Type 0 where
  pub queue : List Task
  pub busy : List ℕ

abbrev pub is_in : ℕ → List ℕ → Bool
is_in w [] = false
is_in w (x ∷ xs) = if x == w then true else is_in w xs

abbrev pub without : ℕ → List ℕ → List ℕ
without w [] = []
without w (x ∷ xs) = if x == w then xs else x ∷ without w xs

abbrev pub rest : List Task → List Task
rest [] = []
rest (t ∷ ts) = ts

abbrev pub after_entry : PoolState → PoolEntry → PoolState
after_entry p (Take w t) = record { queue = rest p.queue; busy = w ∷ p.busy }
after_entry p (Finish w cs) = record { queue = p.queue ++ cs; busy = without w p.busy }
after_entry p (Stop w) = record { queue = p.queue; busy = without w p.busy }

-- a worker that holds no task takes the first one, and one that holds a task finishes or abandons it
abbrev pub MayCome : PoolState → PoolEntry → Type 0
MayCome p (Take w t) = (p.queue ≡ t ∷ rest p.queue) × (is_in w p.busy ≡ false)
MayCome p (Finish w cs) = is_in w p.busy ≡ true
MayCome p (Stop w) = is_in w p.busy ≡ true

abbrev pub after : PoolState → List PoolEntry → PoolState
after p [] = p
after p (e ∷ es) = after (after_entry p e) es

abbrev pub IsRun : PoolState → List PoolEntry → Type 0
IsRun p [] = Unit {0}
IsRun p (e ∷ es) = MayCome p e × IsRun (after_entry p e) es

abbrev pub begun : List Task → PoolState
begun tasks = record { queue = tasks; busy = [] }

-- the state of a pool that began with these tasks, after these entries
abbrev pub played : List Task → List PoolEntry → PoolState
played first es = after (begun first) es

-- the worker of the first stop
abbrev pub first_stop : List PoolEntry → Option ℕ
first_stop [] = None
first_stop (Take w t ∷ es) = first_stop es
first_stop (Finish w cs ∷ es) = first_stop es
first_stop (Stop w ∷ es) = Some w

-- ---- what one worker holds

abbrev pub holds_after : ℕ → Bool → PoolEntry → Bool
holds_after w b (Take q t) = if q == w then true else b
holds_after w b (Finish q cs) = if q == w then false else b
holds_after w b (Stop q) = if q == w then false else b

abbrev pub holds_from : ℕ → Bool → List PoolEntry → Bool
holds_from w b [] = b
holds_from w b (e ∷ es) = holds_from w (holds_after w b e) es

-- the last of the worker's entries is a take
abbrev pub holds : ℕ → List PoolEntry → Bool
holds w es = holds_from w false es

-- ---- a pool

-- the entries lead from the first tasks to those that are waiting, with this many unfinished ones and this first stop
pub record HasPlayed (first queue : List Task) (es : List PoolEntry) (unfinished : ℕ) (stopped : Option ℕ) : Type 0 where
  pub run : IsRun (begun first) es
  pub queue_is : (played first es).queue ≡ queue
  pub busy_are : length (played first es).busy ≡ unfinished
  pub stop_is : first_stop es ≡ stopped

-- no task is waiting, and none is unfinished
pub record IsQuiet (first : List Task) (es : List PoolEntry) : Type 0 where
  pub queue : (played first es).queue ≡ []
  pub busy : (played first es).busy ≡ []

-- what a take returns, and what it does to the entries
abbrev pub TakeSays : ℕ → List Task → List PoolEntry → List PoolEntry → Taken → Type 0
TakeSays w first old new (ATask t) = (first_stop old ≡ None) × ((played first old).queue ≡ t ∷ rest (played first old).queue) × (new ≡ old ++ Take w t ∷ [])
TakeSays w first old new (Again n) = (first_stop old ≡ None) × ((played first old).queue ≡ []) × (length (played first old).busy ≡ n) × (0 < n) × (new ≡ old)
TakeSays w first old new Quiet = (first_stop old ≡ None) × IsQuiet first old × (new ≡ old)
TakeSays w first old new (Stopped by) = (first_stop old ≡ Some by) × (new ≡ old)

-- what a take does to the tasks that are waiting
abbrev pub TakesFrom : List Task → List Task → Taken → Type 0
TakesFrom old new (ATask t) = old ≡ t ∷ new
TakesFrom old new (Again n) = new ≡ old
TakesFrom old new Quiet = new ≡ old
TakesFrom old new (Stopped by) = new ≡ old

-- ---- laws

abbrev pub taken_in : List PoolEntry → List Task
taken_in [] = []
taken_in (Take w t ∷ es) = t ∷ taken_in es
taken_in (Finish w cs ∷ es) = taken_in es
taken_in (Stop w ∷ es) = taken_in es

abbrev pub given_in : List PoolEntry → List Task
given_in [] = []
given_in (Take w t ∷ es) = given_in es
given_in (Finish w cs ∷ es) = cs ++ given_in es
given_in (Stop w ∷ es) = given_in es

-- the tasks that were taken together with those that are waiting are, each the same number of times, the first tasks
-- together with the children of all finishes
abbrev pub BalanceLaw : Type 0
BalanceLaw = (first : List Task) (es : List PoolEntry) → IsRun (begun first) es → (h : Task → ℕ)
    → sum_by h (taken_in es ++ (played first es).queue) ≡ sum_by h (first ++ given_in es)

-- no entry follows a quiet pool
abbrev pub QuietLaw : Type 0
QuietLaw = (first : List Task) (es more : List PoolEntry) → IsQuiet first es → IsRun (begun first) (es ++ more) → more ≡ []

-- the workers that hold a task are those whose last entry is a take
abbrev pub HoldersLaw : Type 0
HoldersLaw = (first : List Task) (es : List PoolEntry) → IsRun (begun first) es → (w : ℕ) → is_in w (played first es).busy ≡ holds w es
