-- A round more carries the phase on. After as many rounds as there are nodes no task is left.
use Rattle.std.proofs.Common.{List, length, sym, ap, subst, ◌∙◌, arith}
use Rattle.net_base.specs.declared.tasks.Task.{Task}
use Rattle.serial_engine.specs.Carrying.{CarriesOn}
use Rattle.rounds_engine.specs.Sharing.{AreDeeper, AreAllShards, tasks_of_shards}
use Rattle.rounds_engine.proofs.Carried.{by_both, none_left, same_length}
use Rattle.rounds_engine.proofs.Sharing.{fit_all}
use Rattle.rounds_engine.proofs.phases.work_rounds.Goals as goal

pub work_round-requires-clause-dealt : goal.work_round-requires-clause-dealt
work_round-requires-clause-dealt g c κs within =
    let ground = c.args.ground.now in
    subst (AreAllShards ground.net.now.nodes ground.store.now ground.lines ground.shards) (sym c.as_slice-in-loop-round.ensures.value) c.loop-round.invariant.dealt

pub loop-round-preserved : goal.loop-round-preserved
loop-round-preserved g c =
    let ground = c.args.ground.now in
    let net = ground.net.now in
    let s = ground.store.now in
    let old = c.args.lines.now in
    let mid = c.loop-round.lines in
    let new = c.work_round.new.lines in
    let was = c.loop-round.invariant in
    let now = c.in_ok-shards.ensures in
    let before = tasks_of_shards c.loop-round.shards.items in
    let made = tasks_of_shards c.in_ok-shards.shards.items in
    let e = ap tasks_of_shards c.as_slice-in-loop-round.ensures.value in
    record {
      carries = by_both net.alphas net.nodes s old mid new (tasks_of_shards c.args.shards.items) before made was.count was.carries (subst (λ (ts : List Task). CarriesOn net.alphas net.nodes s mid ts new made) e now.carries);
      dealt = now.dealt;
      deep = (subst (λ (ts : List Task). AreDeeper ts made) e now.deeper) c.loop-round._round was.deep;
      count = same_length mid new now.kept.numbers ∙ was.count;
      kept = record { counted = now.kept.counted; numbers = now.kept.numbers ∙ was.kept.numbers };
    }

pub returns-clause-carries : goal.returns-clause-carries
returns-clause-carries g c =
    let ground = c.args.ground.now in
    let net = ground.net.now in
    let s = ground.store.now in
    let old = c.args.lines.now in
    let xs = c.loop-round.shards.items in
    let was = c.loop-round.invariant in
    let all = ap length c.nodes-round-end.ensures.nodes in
    let end = c.loop-round-test.false in
    let none = none_left net.nodes s c.loop-round._round (tasks_of_shards xs) (omega (arith, all, end)) (fit_all net.nodes s ground.lines xs was.dealt.each.own) was.deep in
    subst (λ (ts : List Task). CarriesOn net.alphas net.nodes s old (tasks_of_shards c.args.shards.items) c.loop-round.lines ts) none was.carries

pub returns-then-are_idle-clause-carries : goal.returns-then-are_idle-clause-carries
returns-then-are_idle-clause-carries g c =
    let ground = c.args.ground.now in
    let net = ground.net.now in
    let s = ground.store.now in
    let none = ap tasks_of_shards (sym c.as_slice.ensures.value) ∙ c.are_idle.ensures c.if-are_idle.true in
    subst (λ (ts : List Task). CarriesOn net.alphas net.nodes s c.args.lines.now (tasks_of_shards c.args.shards.items) c.loop-round.lines ts) none c.loop-round.invariant.carries
