-- The pool stands first, and each line after those before it.
use Rattle.std.proofs.Common.{[], ◌∷◌, ◌++◌, ap, ◌∙◌}
use Rattle.free_engine.proofs.Opened.{one_more_row}
use Rattle.free_engine.proofs.slots.open.Goals as goal

pub loop-line-init : goal.loop-line-init
loop-line-init c = record {
  pool = c.in_ok-pool.pool;
  rows = [];
  is = c.in_ok-push.ensures.items ∙ ap (λ l. l ++ c.in_ok-pool.pool ∷ []) c.new-rows.ensures.items;
  has_pool = c.in_ok-pool.ensures.pool;
  fresh = c.in_ok-pool.ensures.fresh;
  are = tt;
}

pub loop-line-preserved : goal.loop-line-preserved
loop-line-preserved c =
    one_more_row c.args.net.now c.args.store.now c.args.workers c.args.parts.flight.items c.len-count.result c.loop-line.yielded c.in-Some.line c.loop-line.rows.items c.push-in-loop-line.new.self.items c.in_ok-row.row
    c.loop-line.invariant c.in_ok-row.ensures.row c.in_ok-push-2.ensures.items
