-- The statement that a pool has played its entries, as a fact.
use Rattle.std.specs.Prelude.{ℕ, List, [], ◌∷◌, Option}
use Rattle.std.proofs.Props.{props}
use Rattle.net_base.specs.declared.tasks.Task.{Task}
use Rattle.task_pool.specs.declared.pool.PoolEntry.{PoolEntry}
use Rattle.task_pool.specs.Pools.{HasPlayed, PoolState, IsRun, after_entry, begun}
use Rattle.task_pool.specs.declared.pool.PoolEntry.TheVariants.{Take, Finish, Stop}

pub run_prop : (p : PoolState) (es : List PoolEntry) → IsProp (IsRun p es)
run_prop p [] = hlevel props
run_prop p (Take w t ∷ es) = let i = run_prop (after_entry p (Take w t)) es in hlevel (props, i)
run_prop p (Finish w cs ∷ es) = let i = run_prop (after_entry p (Finish w cs)) es in hlevel (props, i)
run_prop p (Stop w ∷ es) = let i = run_prop (after_entry p (Stop w)) es in hlevel (props, i)

pub played_prop : (first queue : List Task) (es : List PoolEntry) (unfinished : ℕ) (stopped : Option ℕ) → IsProp (HasPlayed first queue es unfinished stopped)
played_prop first queue es unfinished stopped = let i = run_prop (begun first) es in hlevel (props, i)
