-- Each line stands after those before it.
use Rattle.std.proofs.Common.{subst, sym}
use Rattle.steal_engine.specs.Opened.{AreRows}
use Rattle.steal_engine.proofs.Opening.{rows_more}
use Rattle.steal_engine.proofs.rows.open.Goals as goal

pub loop-line-preserved : goal.loop-line-preserved
loop-line-preserved c =
    let net = c.args.net.now in
    let s = c.args.store.now in
    let count = c.len-count.result in
    subst (AreRows net s count _) (sym c.in_ok-push.ensures.items) (rows_more net s count c.loop-line.yielded c.in-Some.line c.loop-line.rows.items c.in_ok-row.row c.loop-line.invariant c.in_ok-row.ensures.row)
