-- The steps of the calling thread carry the phase on from the world that the parts make.
use Rattle.std.proofs.Common.{List, [], refl, ap, subst, ◌∙◌}
use Rattle.net_base.specs.declared.tasks.Task.{Task}
use Rattle.token_line.specs.declared.line.Line.{Line}
use Rattle.serial_engine.specs.Carrying.{CarriesOn}
use Rattle.serial_engine.proofs.Carried.{by_work}
use Rattle.team_phase.proofs.phases.finish_alone.Goals as goal

pub returns-clause-carries : goal.returns-clause-carries
returns-clause-carries g c =
    let net = c.args.net.now in
    let s = c.args.store.now in
    let v = c.in_ok-world.world in
    let w = c.work_all.new.world in
    let none = ap (λ x. x.done) c.in_ok-world.ensures.world in
    let steps = by_work net.alphas net.nodes s c.round_laws.ensures.steps c.settle_laws.ensures.placed net.sound v w c.in_ok-work_all.ensures.went none (c.in_ok-work_all.ensures.done ∙ none) in
    let all = subst (CarriesOn net.alphas net.nodes s v.lines.items v.flight.items w.lines.items) (c.in_ok-work_all.ensures.flight refl) steps in
    let of_tasks = subst (λ (ts : List Task). CarriesOn net.alphas net.nodes s v.lines.items ts w.lines.items []) (ap (λ v. v.items) c.in_ok-world.ensures.flight) all in
    subst (λ (ls : List Line). CarriesOn net.alphas net.nodes s ls c.args.parts.flight.items w.lines.items []) (ap (λ v. v.items) c.in_ok-world.ensures.lines) of_tasks
