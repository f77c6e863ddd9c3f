-- What is taken fits, and what still waits fits.
use Rattle.std.proofs.Common.{List, zero, subst, arith, sym}
use Rattle.std.specs.List.{All}
use Rattle.work_store.specs.Stored.{Stored}
use Rattle.net_base.specs.declared.nodes.Node.{Node}
use Rattle.net_base.specs.declared.tasks.Task.{Task}
use Rattle.turn_table.proofs.Lists.{all_rest}
use Rattle.task_pool.specs.declared.pool.Taken.{Taken}
use Rattle.task_pool.specs.declared.pool.Taken.TheVariants.{Task as ATask, Again, Quiet, Stopped}
use Rattle.task_pool.specs.Pools.{TakesFrom}
use Rattle.token_line.specs.Held.{TaskFits}
use Rattle.free_engine.specs.Fitting.{TakenFits}

pub take_fits : (nodes : List Node) (s : Stored) (old new : List Task) (r : Taken) → TakesFrom old new r → All (TaskFits nodes s) old → All (TaskFits nodes s) new × TakenFits nodes s r
take_fits nodes s old new (ATask t) from all =
    let both = subst (All (TaskFits nodes s)) from all in
    (all_rest (TaskFits nodes s) t new both, both zero t (omega arith))
take_fits nodes s old new (Again n) from all = (subst (All (TaskFits nodes s)) (sym from) all, tt)
take_fits nodes s old new Quiet from all = (subst (All (TaskFits nodes s)) (sym from) all, tt)
take_fits nodes s old new (Stopped by) from all = (subst (All (TaskFits nodes s)) (sym from) all, tt)
