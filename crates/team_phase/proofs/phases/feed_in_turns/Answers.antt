-- Room is made, and one change more is fed.
use Rattle.std.proofs.Common.{◌≡◌, ◌+◌, suc, ◌∷◌, [], ◌++◌, length, map, take, refl, sym, ap, subst, ◌∙◌, arith}
use Rattle.std.proofs.Math.Seq.{take-suc}
use Rattle.std.proofs.lemmas.List.{length-map, take_all}
use Rattle.ops_base.specs.declared.elements.Change.{Change}
use Rattle.work_store.specs.Stored.{held_of}
use Rattle.step_core.specs.inner.Doing.{entry_of}
use Rattle.step_core.specs.Worlds.{placed, world_of}
use Rattle.serial_engine.specs.Carrying.{FeedsOn}
use Rattle.serial_engine.proofs.Carried.{by_steps, fed_and_carried, fed_none, fed_on}
use Rattle.serial_engine.proofs.PhaseLemmas.{no_items}
use Rattle.serial_engine.proofs.StartLemmas.{numbers_stay}
use Rattle.serial_engine.proofs.StepLemmas.{one_feed, same_count}
use Rattle.team_phase.proofs.phases.feed_in_turns.Goals as goal

pub loop-change-init : goal.loop-change-init
loop-change-init g c =
    let net = c.args.net.now in
    let old = c.args.world.now in record {
      feeds = fed_none net.alphas net.nodes c.args.store.now old.lines.items old.flight.items;
      done = c.requires.done;
      ready = c.requires.ready;
      lines = refl;
      workers = refl;
    }

pub make_room-requires-clause-numbered : goal.make_room-requires-clause-numbered
make_room-requires-clause-numbered g c κs within = numbers_stay c.args.world.now.lines.items c.loop-change.world.lines.items c.requires.numbered c.loop-change.invariant.lines

pub loop-change-preserved : goal.loop-change-preserved
loop-change-preserved g c =
    let net = c.args.net.now in
    let s = c.args.store.now in
    let elements = held_of s in
    let old = c.args.world.now in
    let mid = c.loop-change.world in
    let roomy = c.make_room.new.world in
    let new = c.feed.new.self in
    let k = c.loop-change.change-index in
    let changes = c.args.changes.now in
    let x = c.change-item.result in
    let was = c.loop-change.invariant in
    let room = c.in_ok-make_room.ensures in
    let step = c.in_ok-feed.ensures.steps elements (λ tag e h. h) in
    let one = one_feed elements net.alphas net.nodes (placed elements net.nodes (length roomy.lines.items)) (world_of roomy) (world_of new) x step in
    let none = ap (map entry_of) (no_items roomy.done.items room.done) in
    let still = ap (λ w. w.done) step in
    let fed = by_steps net.alphas net.nodes s c.round_laws.ensures.steps c.settle_laws.ensures.placed net.sound roomy new (x ∷ []) one none (still ∙ none) in
    let before = fed_and_carried net.alphas net.nodes s old.lines.items mid.lines.items old.flight.items mid.flight.items (same_count old mid was.lines) roomy.lines.items roomy.flight.items (take k changes) was.feeds room.carries in
    let same = room.numbers ∙ was.lines in
    let more : suc k ≡ k + 1 = omega arith in
    let is : take k changes ++ x ∷ [] ≡ take (k + 1) changes = ap (λ (y : Change). take k changes ++ y ∷ []) c.change-item.is ∙ sym (take-suc changes k x c.loop-change-test.true) ∙ ap (λ n. take n changes) more in
    record {
      feeds = subst (λ cs. FeedsOn net.alphas net.nodes s old.lines.items old.flight.items cs new.lines.items new.flight.items) is
          (fed_on net.alphas net.nodes s old.lines.items roomy.lines.items old.flight.items roomy.flight.items (same_count old roomy same) new.lines.items new.flight.items (take k changes) (x ∷ []) before fed);
      done = sym (length-map new.done.items entry_of) ∙ ap length (still ∙ none);
      ready = c.feed.ensures.ready;
      lines = c.feed.ensures.lines ∙ same;
      workers = room.workers ∙ was.workers;
    }

pub returns-clause-feeds : goal.returns-clause-feeds
returns-clause-feeds g c =
    let net = c.args.net.now in
    let old = c.args.world.now in
    let new = c.loop-change.world in
    let changes = c.args.changes.now in
    let end = c.loop-change-test.false in
    subst (λ cs. FeedsOn net.alphas net.nodes c.args.store.now old.lines.items old.flight.items cs new.lines.items new.flight.items)
    (take_all c.loop-change.change-index changes (omega (arith, end))) c.loop-change.invariant.feeds
