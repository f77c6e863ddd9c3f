-- The changes are fed, and all tasks that are left are done.
use Rattle.std.proofs.Common.{[], length, subst, append-nil}
use Rattle.serial_engine.specs.Running.{Went}
use Rattle.serial_engine.proofs.StepLemmas.{went_on}
use Rattle.serial_engine.proofs.phases.work_changes.Goals as goal

pub returns-clause-went : goal.returns-clause-went
returns-clause-went g c =
    let net = c.args.net.now in
    let s = c.args.store.now in
    let old = c.args.world.now in
    let fed = c.feed_changes.new.world in
    let new = c.work_all.new.world in
    let changes = c.args.changes.now in
    let went = went_on net.alphas net.nodes s old fed new changes [] c.in_ok-feed_changes.ensures.went c.feed_changes.ensures.lines c.in_ok-work_all.ensures.went in
    subst (λ cs. Went net.alphas net.nodes s (length old.lines.items) old cs new) (append-nil changes) went
