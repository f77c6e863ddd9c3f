-- One change more is fed.
use Rattle.std.proofs.Common.{◌≡◌, ◌+◌, suc, ◌∷◌, [], ◌++◌, length, take, sym, ap, subst, ◌∙◌, arith, append-nil}
use Rattle.std.proofs.Math.Seq.{take-suc}
use Rattle.ops_base.specs.declared.elements.Change.{Change}
use Rattle.work_store.specs.Stored.{held_of}
use Rattle.step_core.specs.Worlds.{placed, world_of}
use Rattle.serial_engine.specs.Running.{Went}
use Rattle.serial_engine.proofs.StepLemmas.{one_feed, went_on}
use Rattle.serial_engine.proofs.phases.feed_in_turns.Goals as goal

pub loop-change-preserved : goal.loop-change-preserved
loop-change-preserved g c =
    let net = c.args.net.now in
    let s = c.args.store.now in
    let elements = held_of s in
    let old = c.args.world.now in
    let mid = c.loop-change.world in
    let roomy = c.make_room.new.world in
    let new = c.feed.new.self in
    let k = c.loop-change.change-index in
    let changes = c.args.changes.now in
    let x = c.change-item.result in
    let step = c.in_ok-feed.ensures.steps elements (λ tag e h. h) in
    let one = one_feed elements net.alphas net.nodes (placed elements net.nodes (length roomy.lines.items)) (world_of roomy) (world_of new) x step in
    let more : suc k ≡ k + 1 = omega arith in
    let room = went_on net.alphas net.nodes s old mid roomy (take k changes) [] c.loop-change.invariant.went c.loop-change.invariant.lines c.in_ok-make_room.ensures.went in
    let same = c.make_room.ensures.lines ∙ c.loop-change.invariant.lines in
    let is : (take k changes ++ []) ++ x ∷ [] ≡ take (k + 1) changes = ap (λ cs. cs ++ x ∷ []) (append-nil (take k changes)) ∙ ap (λ (y : Change). take k changes ++ y ∷ []) c.change-item.is ∙ sym (take-suc changes k x c.loop-change-test.true) ∙ ap (λ n. take n changes) more in
    record {
      went = subst (λ cs. Went net.alphas net.nodes s (length old.lines.items) old cs new) is (went_on net.alphas net.nodes s old roomy new (take k changes ++ []) (x ∷ []) room same one);
      done = ap (λ w. w.done) step ∙ (c.in_ok-make_room.ensures.done ∙ c.loop-change.invariant.done);
      ready = c.feed.ensures.ready;
      lines = c.feed.ensures.lines ∙ same;
    }
