-- Each shard is joined with the same one of the other answer.
use Rattle.std.proofs.Common.{rules, subst, sym, ◌∙◌}
use Rattle.std.specs.Iterator.Adapters.{zip_first, zip_second}
use Rattle.std.proofs.lemmas.Iterator.{YieldsList-from_zip}
use Rattle.std.proofs.lemmas.Iterator.Adapters.{YieldsList-from_vec}
use Rattle.std.proofs.lemmas.Iterator.Consumers.{YieldsList-end}
use Rattle.std.proofs.lemmas.List.{map-id}
use Rattle.rounds_engine.specs.Sharing.{AreBoth}
use Rattle.rounds_engine.proofs.Joining.{more_both}
use Rattle.rounds_engine.proofs.shards.joined.Goals as goal

pub loop-shard-preserved : goal.loop-shard-preserved
loop-shard-preserved c =
    subst (AreBoth _) (sym c.in_ok-push.ensures.items)
    (more_both c.loop-shard.yielded c.loop-shard.all.items (c.in-Some.shard, c.in-Some.other) c.in_ok-with.field-0 c.loop-shard.invariant (record { first = c.in_ok-with.ensures.first; count = c.in_ok-with.ensures.count; tasks = c.in_ok-with.ensures.tasks }))

pub returns : goal.returns
returns c =
    let ms = c.in_ok-front.front.items in
    let ns = c.in_ok-back.back.items in
    let both = YieldsList-from_zip {s = c.into_iter-shard-iterator.result} (YieldsList-from_vec {s = zip_first c.into_iter-shard-iterator.result} ms (search rules) (search rules)) (YieldsList-from_vec {s = zip_second c.into_iter-shard-iterator.result} ns (search rules) (search rules)) in
    let end = YieldsList-end both c.loop-shard.yielded c.loop-shard.shard-iterator c.loop-shard.yielded_by c.next.result c.next.new.self c.in-None.is c.next.ensures.steps in
    record {
      front = c.in_ok-front.front;
      back = c.in_ok-back.back;
      low_is = c.in_ok-front.was;
      high_is = c.in_ok-back.was;
      both = subst (λ ps. AreBoth ps c.loop-shard.all.items) (sym (map-id c.loop-shard.yielded) ∙ end.0) c.loop-shard.invariant;
    }
