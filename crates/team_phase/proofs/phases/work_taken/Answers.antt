-- The lines are shared by a team, and the calling thread does what it leaves.
use Rattle.std.proofs.Common.{List, [], map, sym, ap, subst, ◌∙◌, arith}
use Rattle.net_base.specs.declared.tasks.Task.{Task}
use Rattle.token_line.specs.declared.line.Line.{Line}
use Rattle.step_core.specs.Worlds.{AreNumbered}
use Rattle.serial_engine.specs.Carrying.{CarriesOn}
use Rattle.serial_engine.proofs.Carried.{carried_on}
use Rattle.serial_engine.proofs.StepLemmas.{same_lines}
use Rattle.team_phase.proofs.Results.{if_ok}
use Rattle.team_phase.proofs.phases.work_taken.Goals as goal

pub ask_help-requires-clause-may : goal.ask_help-requires-clause-may
ask_help-requires-clause-may g c = record {
  some = c.team_size-team.ensures.some;
  few = (let a = c.team_size-team.ensures.few in let b = c.requires.few in omega (arith, a, b));
  lines = c.into_parts-parts.ensures.some;
  numbered = subst (λ v. AreNumbered v.items) (sym c.into_parts-parts.ensures.lines) c.requires.numbered;
  ready = c.into_parts-parts.ensures.ready c.args.net.now.nodes c.args.store.now c.requires.ready;
}

pub returns-clause-carries : goal.returns-clause-carries
returns-clause-carries g c =
    let net = c.args.net.now in
    let s = c.args.store.now in
    let old = c.into_parts-parts.result in
    let new = c.in_ok-parts.parts in
    let from = λ (ls : List Line) (ts : List Task) (ns : List Line). CarriesOn net.alphas net.nodes s ls ts ns [] in
    if_ok _ _ c.finish_alone.result
    (λ w is. subst (λ (ls : List Line). from ls c.args.world.flight.items w.lines.items) (ap (λ v. v.items) c.into_parts-parts.ensures.lines)
    (subst (λ (ts : List Task). from old.lines.items ts w.lines.items) (ap (λ v. v.items) c.into_parts-parts.ensures.flight)
    (carried_on net.alphas net.nodes s old.lines.items new.lines.items old.flight.items new.flight.items (same_lines old.lines.items new.lines.items c.in_ok-parts.ensures.numbers) w.lines.items [] c.in_ok-parts.ensures.carries is)))
    c.finish_alone.ensures.carries

pub returns-clause-numbers : goal.returns-clause-numbers
returns-clause-numbers g c =
    if_ok _ _ c.finish_alone.result
    (λ w is. is ∙ (c.in_ok-parts.ensures.numbers ∙ ap (λ v. map (λ (l : Line). l.number) v.items) c.into_parts-parts.ensures.lines))
    c.finish_alone.ensures.numbers
