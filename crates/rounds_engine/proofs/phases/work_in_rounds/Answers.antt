-- The lines are lent to the rounds, and make a world again in which nothing waits.
use Rattle.std.proofs.Common.{List, [], length, sym, ap, subst, ◌∙◌}
use Rattle.std.specs.List.{All}
use Rattle.net_base.specs.declared.tasks.Task.{Task}
use Rattle.token_line.specs.declared.line.Line.{Line}
use Rattle.activation.specs.Acting.{IsCounted}
use Rattle.step_core.specs.declared.world.World.{World}
use Rattle.serial_engine.specs.Carrying.{CarriesOn}
use Rattle.rounds_engine.specs.Sharing.{tasks_of_shards}
use Rattle.rounds_engine.proofs.Carried.{by_order, came_back, same_length}
use Rattle.rounds_engine.proofs.phases.work_in_rounds.Goals as goal

pub returns-clause-carries : goal.returns-clause-carries
returns-clause-carries g c =
    let net = c.args.ground.now.net.now in
    let s = c.args.ground.now.store.now in
    let old = c.replace-taken.result in
    let lent = c.into_parts-lines.result.lines in
    let new = c.work_rounds.new.lines in
    let value = c.as_mut_slice.ensures.value in
    let back = came_back lent.len lent.items new (same_length c.as_mut_slice.result.now new c.in_ok-work_rounds.ensures.kept.numbers ∙ ap length value) lent.ok.0 in
    let from = value ∙ ap (λ v. v.items) c.into_parts-lines.ensures.lines in
    let tasks = ap (λ v. v.items) c.into_parts-lines.ensures.flight in
    let dealt = tasks_of_shards c.in_ok-shards.shards.items in
    let ordered = by_order net.alphas net.nodes s old.lines.items new c.into_parts-lines.result.flight.items dealt [] c.in_ok-shards.ensures.tasks
    (subst (λ (ls : List Line). CarriesOn net.alphas net.nodes s ls dealt new []) from c.in_ok-work_rounds.ensures.carries) in
    let carried = subst (λ (ts : List Task). CarriesOn net.alphas net.nodes s old.lines.items ts new []) tasks ordered in
    let whole = subst (λ (ls : List Line). CarriesOn net.alphas net.nodes s old.lines.items old.flight.items ls []) (sym (ap (λ v. v.items) c.in_ok-world.ensures.lines ∙ back)) carried in
    subst (λ (w : World). CarriesOn net.alphas net.nodes s w.lines.items w.flight.items c.in_ok-world.field-0.lines.items []) c.replace-taken.ensures.value whole

pub returns-clause-counted : goal.returns-clause-counted
returns-clause-counted g c =
    let P : List Line → Type 0 = All (IsCounted c.args.ground.now.net.now.nodes c.args.ground.now.store.now) in
    let lent = c.into_parts-lines.result.lines in
    let new = c.work_rounds.new.lines in
    let back = came_back lent.len lent.items new (same_length c.as_mut_slice.result.now new c.in_ok-work_rounds.ensures.kept.numbers ∙ ap length c.as_mut_slice.ensures.value) lent.ok.0 in
    subst P (sym (ap (λ v. v.items) c.in_ok-world.ensures.lines ∙ back)) c.in_ok-work_rounds.ensures.kept.counted
