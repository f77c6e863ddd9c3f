-- Which results of a take fit a network and a store.
use Rattle.std.specs.Prelude.{List}
use Rattle.work_store.specs.Stored.{Stored}
use Rattle.net_base.specs.declared.nodes.Node.{Node}
use Rattle.token_line.specs.Held.{TaskFits}
use Rattle.task_pool.specs.declared.pool.Taken.{Taken}
use Rattle.task_pool.specs.declared.pool.Taken.TheVariants.{Task as ATask, Again, Quiet, Stopped}

-- a task that was taken fits
abbrev pub TakenFits : List Node → Stored → Taken → Type 0
TakenFits nodes s (ATask t) = TaskFits nodes s t
TakenFits nodes s (Again n) = Unit {0}
TakenFits nodes s Quiet = Unit {0}
TakenFits nodes s (Stopped by) = Unit {0}
