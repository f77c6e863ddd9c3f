-- One task more is done, and at the end their children are placed.
use Rattle.std.proofs.Common.{◌≡◌, ◌+◌, ◌<◌, ◌++◌, ◌∷◌, [], get_or, length, take, sym, ap, subst, ◌∙◌, arith}
use Rattle.std.proofs.lemmas.List.{take_all, take_more}
use Rattle.std.proofs.lemmas.List.Elements.{All-get_or}
use Rattle.step_core.specs.Phases.{AreSame}
use Rattle.rounds_engine.specs.declared.shards.Placed.{Placed}
use Rattle.rounds_engine.specs.Sharing.{AreAllShards, HasLine, HaveShared, IsPlacedAt, tasks_of_shards}
use Rattle.rounds_engine.proofs.Results.{if_both}
use Rattle.rounds_engine.proofs.Sharing.{HaveWorked, one_worked, shard_shared}
use Rattle.rounds_engine.proofs.rounds.do_share.Goals as goal

pub loop-placed-preserved : goal.loop-placed-preserved
loop-placed-preserved g c =
    let ground = c.args.ground.now in
    let net = ground.net.now in
    let s = ground.store.now in
    let shard = c.args.shard.now in
    let ps = shard.tasks.items in
    let i = c.loop-placed.placed-index in
    let p = c.placed-item.result in
    let at = c.placed-item.is ∙ ap (λ xs. get_or xs i p) c.as_slice-placed-items.ensures.value in
    let low : i < length ps = (let a = c.loop-placed-test.true in omega (arith, a)) in
    let is : IsPlacedAt net.nodes s ground.lines p = subst (IsPlacedAt net.nodes s ground.lines) (sym at) (All-get_or (IsPlacedAt net.nodes s ground.lines) ps i p low c.requires.own.placed) in
    let has : HasLine shard p.line = subst (λ (q : Placed). HasLine shard q.line) (sym at) (All-get_or (λ (q : Placed). HasLine shard q.line) ps i p low c.requires.own.own) in
    let todo : take i ps ++ p ∷ [] ≡ take (i + 1) ps = ap (λ (q : Placed). take i ps ++ q ∷ []) at ∙ sym (take_more ps i p low) in
    record {
      worked = subst (λ ts. HaveWorked net.nodes s ground.lines shard.first ts c.args.lines.now c.do_task.new.lines c.do_task.new.made.items) todo
          (one_worked c.round_laws.ensures.one c.settle_laws.ensures.children net.nodes net.alphas s ground.lines shard.first (take i ps) c.args.lines.now c.loop-placed.lines c.do_task.new.lines p c.loop-placed.made.items c.do_task.new.made.items
          net.sound c.loop-placed.invariant.worked is has.0 (let a = c.requires.count in let b = c.loop-placed.auto.lines in omega (arith, a, b, has.0, has.1)) c.in_ok-do_task.ensures.acts);
      kept = record { counted = c.do_task.ensures.kept.counted; numbers = c.do_task.ensures.kept.numbers ∙ c.loop-placed.invariant.kept.numbers };
    }

pub returns-clause-shared : goal.returns-clause-shared
returns-clause-shared g c =
    let ground = c.args.ground.now in
    let nodes = ground.net.now.nodes in
    let s = ground.store.now in
    let shard = c.args.shard.now in
    let ps = shard.tasks.items in
    let whole : take c.loop-placed.placed-index ps ≡ ps = take_all c.loop-placed.placed-index ps (let a = c.loop-placed-test.false in omega (arith, a)) in
    let worked = subst (λ ts. HaveWorked nodes s ground.lines shard.first ts c.args.lines.now c.loop-placed.lines c.loop-placed.made.items) whole c.loop-placed.invariant.worked in
    if_both (λ v. AreSame c.loop-placed.made.items (tasks_of_shards v.items)) (λ v. AreAllShards nodes s ground.lines ground.shards v.items) (λ v. HaveShared nodes s ground.lines ground.shards (shard ∷ []) c.args.lines.now c.loop-placed.lines v.items) c.deal.result
    (λ v same all. shard_shared nodes s ground.lines ground.shards shard c.args.lines.now c.loop-placed.lines c.loop-placed.made.items v.items worked same all) c.deal.ensures.tasks c.deal.ensures.dealt
