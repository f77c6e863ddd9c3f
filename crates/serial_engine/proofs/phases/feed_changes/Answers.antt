-- The changes are fed, and some tasks are picked.
use Rattle.std.proofs.Common.{[], length, subst, append-nil}
use Rattle.serial_engine.specs.Running.{Went}
use Rattle.serial_engine.proofs.StepLemmas.{went_on}
use Rattle.serial_engine.proofs.phases.feed_changes.Goals as goal

pub returns-clause-went : goal.returns-clause-went
returns-clause-went g c =
    let net = c.args.net.now in
    let s = c.args.store.now in
    let old = c.args.world.now in
    let fed = c.feed_all.new.world in
    let picked = c.work_picks.new.world in
    let changes = c.args.changes.now in
    let went = went_on net.alphas net.nodes s old fed picked changes [] c.in_ok-feed_all.ensures.went c.feed_all.ensures.lines c.in_ok-work_picks.ensures.went in
    subst (λ cs. Went net.alphas net.nodes s (length old.lines.items) old cs picked) (append-nil changes) went
