-- One change more is fed.
use Rattle.std.proofs.Common.{◌≡◌, ◌+◌, suc, ◌∷◌, [], ◌++◌, length, take, sym, ap, subst, ◌∙◌, arith}
use Rattle.std.proofs.Math.Seq.{take-suc}
use Rattle.ops_base.specs.declared.elements.Change.{Change}
use Rattle.work_store.specs.Stored.{held_of}
use Rattle.step_core.specs.Worlds.{placed, world_of}
use Rattle.serial_engine.specs.Running.{Went}
use Rattle.serial_engine.proofs.StepLemmas.{one_feed, went_on}
use Rattle.serial_engine.proofs.phases.feed_all.Goals as goal

pub loop-change-preserved : goal.loop-change-preserved
loop-change-preserved c =
    let net = c.args.net.now in
    let s = c.args.store.now in
    let elements = held_of s in
    let old = c.args.world.now in
    let mid = c.loop-change.world in
    let new = c.feed.new.self in
    let k = c.loop-change.change-index in
    let changes = c.args.changes.now in
    let x = c.change-item.result in
    let step = c.in_ok-feed.ensures.steps elements (λ tag e h. h) in
    let one = one_feed elements net.alphas net.nodes (placed elements net.nodes (length mid.lines.items)) (world_of mid) (world_of new) x step in
    let more : suc k ≡ k + 1 = omega arith in
    let is : take k changes ++ x ∷ [] ≡ take (k + 1) changes = ap (λ (y : Change). take k changes ++ y ∷ []) c.change-item.is ∙ sym (take-suc changes k x c.loop-change-test.true) ∙ ap (λ n. take n changes) more in
    record {
      went = subst (λ cs. Went net.alphas net.nodes s (length old.lines.items) old cs new) is (went_on net.alphas net.nodes s old mid new (take k changes) (x ∷ []) c.loop-change.invariant.went c.loop-change.invariant.lines one);
      done = ap (λ w. w.done) step ∙ c.loop-change.invariant.done;
      ready = c.feed.ensures.ready;
      lines = c.feed.ensures.lines ∙ c.loop-change.invariant.lines;
    }
