-- One task more is dealt to its shard.
use Rattle.std.proofs.Common.{◌<◌, ◌++◌, ◌∷◌, [], get_or, length, set, sym, ap, subst, ◌∙◌, arith, All}
use Rattle.std.proofs.lemmas.Iterator.Adapters.{YieldsList-from_vec}
use Rattle.std.proofs.lemmas.Iterator.Consumers.{YieldsList-end}
use Rattle.std.proofs.lemmas.List.{map-id}
use Rattle.token_line.specs.Held.{TaskFits}
use Rattle.rounds_engine.specs.declared.shards.Placed.{Placed}
use Rattle.rounds_engine.specs.Sharing.{shard_of}
use Rattle.rounds_engine.proofs.Dealing.{HaveDealt, deal_one, none_dealt}
use Rattle.rounds_engine.proofs.shards.deal.Goals as goal

pub loop-task-init : goal.loop-task-init
loop-task-init c =
    let ground = c.args.ground.now in
    let bare = c.in_ok-dealt.ensures in none_dealt ground.net.now.nodes ground.store.now ground.shards ground.lines c.in_ok-dealt.dealt.items bare.follow bare.lines bare.count bare.dealt bare.bare

pub loop-task-preserved : goal.loop-task-preserved
loop-task-preserved c =
    let ground = c.args.ground.now in
    let s = ground.shards in
    let lines = ground.lines in
    let p : Placed = record { line = c.place_of-line.result.line; code = c.place_of-line.result.code; task = c.in-Some.task } in
    let xs = c.loop-task.dealt.items in
    let x = c.index_mut.result.now in
    let y = c.take.new.self in
    let k = shard_of s lines p.line in
    let e = c.shard_of-shard.ensures.shard in
    let low : k < length xs = (let a = c.shard_of-shard.ensures.below in let b = c.loop-task.invariant.count in omega (arith, a, b, e)) in
    let place = c.place_of-line.ensures in
    subst (λ j. HaveDealt ground.net.now.nodes ground.store.now s lines (c.loop-task.yielded ++ p.task ∷ []) (set xs j y)) (sym e)
    (deal_one ground.net.now.nodes ground.store.now s lines c.loop-task.yielded xs p x y (λ fits. record { fits = fits; line = place.line; below = place.below; code = place.code }) c.loop-task.invariant low
    (c.index_mut.ensures.value ∙ ap (λ j. get_or xs j x) e) c.take.ensures.first c.take.ensures.count c.in_ok-take.ensures.tasks)

pub returns-clause-dealt : goal.returns-clause-dealt
returns-clause-dealt c =
    let ground = c.args.ground.now in
    let ts = c.args.tasks.items in
    let h = c.into_iter-task-iterator.ensures.into_iter_gives in
    let end = YieldsList-end (YieldsList-from_vec {s = c.into_iter-task-iterator.result} ts h.0 (h.1 ∙ c.args.tasks.ok.0)) c.loop-task.yielded c.loop-task.task-iterator c.loop-task.yielded_by c.next.result c.next.new.self c.in-None.is c.next.ensures.steps in
    let was = c.loop-task.invariant in
    record {
      count = was.count;
      whole = was.all_lines;
      dealt = was.dealt;
      each = record {
        follow = was.follow;
        own = was.own (subst (All (TaskFits ground.net.now.nodes ground.store.now)) (sym (sym (map-id c.loop-task.yielded) ∙ end.0)) c.requires.fit);
      };
    }
