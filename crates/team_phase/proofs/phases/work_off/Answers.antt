-- The calling thread carries the phase on, and the team carries it to its end.
use Rattle.std.proofs.Common.{List, [], length, map, sym, ap, subst, ◌∙◌}
use Rattle.std.specs.List.{All}
use Rattle.std.proofs.lemmas.List.{length-map}
use Rattle.std.proofs.lemmas.List.Elements.{All-nil}
use Rattle.net_base.specs.declared.tasks.Task.{Task}
use Rattle.token_line.specs.Held.{TaskFits}
use Rattle.step_core.specs.inner.Doing.{entry_of}
use Rattle.step_core.specs.Worlds.{EntryFits}
use Rattle.serial_engine.specs.Carrying.{CarriesOn}
use Rattle.serial_engine.proofs.Carried.{by_work, carried_on}
use Rattle.serial_engine.proofs.PhaseLemmas.{no_items, none_in_flight, none_is_done}
use Rattle.serial_engine.proofs.StartLemmas.{numbers_stay}
use Rattle.serial_engine.proofs.StepLemmas.{same_count}
use Rattle.team_phase.proofs.phases.work_off.Goals as goal

pub work_shared-requires-clause-numbered : goal.work_shared-requires-clause-numbered
work_shared-requires-clause-numbered g c κs within = numbers_stay c.args.world.now.lines.items c.work_alone.new.world.lines.items c.requires.numbered c.work_alone.ensures.lines

pub work_shared-requires-clause-done : goal.work_shared-requires-clause-done
work_shared-requires-clause-done g c κs within =
    sym (length-map c.work_alone.new.world.done.items entry_of) ∙ (ap length c.in_ok-work_alone.ensures.done ∙ (length-map c.args.world.now.done.items entry_of ∙ c.requires.done))

pub returns-clause-carries : goal.returns-clause-carries
returns-clause-carries g c =
    let net = c.args.net.now in
    let s = c.args.store.now in
    let old = c.args.world.now in
    let alone = c.work_alone.new.world in
    let new = c.work_shared.new.world in
    let none = ap (map entry_of) (no_items old.done.items c.requires.done) in
    let steps = by_work net.alphas net.nodes s c.round_laws.ensures.steps c.settle_laws.ensures.placed net.sound old alone c.in_ok-work_alone.ensures.went none (c.in_ok-work_alone.ensures.done ∙ none) in
    let all = carried_on net.alphas net.nodes s old.lines.items alone.lines.items old.flight.items alone.flight.items (same_count old alone c.work_alone.ensures.lines) new.lines.items [] steps c.in_ok-work_shared.ensures.carries in
    subst (λ (ts : List Task). CarriesOn net.alphas net.nodes s old.lines.items old.flight.items new.lines.items ts) (sym (none_in_flight new c.in_ok-work_shared.ensures.quiet)) all

pub returns-clause-ready : goal.returns-clause-ready
returns-clause-ready g c =
    let nodes = c.args.net.now.nodes in
    let s = c.args.store.now in
    let new = c.work_shared.new.world in
    let quiet = c.in_ok-work_shared.ensures.quiet in
    record {
      flight = subst (All (TaskFits nodes s)) (sym (none_in_flight new quiet)) (All-nil (TaskFits nodes s));
      done = subst (All (EntryFits nodes s)) (sym (ap (map entry_of) (none_is_done new quiet))) (All-nil (EntryFits nodes s));
      lines = c.in_ok-work_shared.ensures.counted;
    }

pub returns-clause-numbers : goal.returns-clause-numbers
returns-clause-numbers g c = c.in_ok-work_shared.ensures.numbers ∙ c.work_alone.ensures.lines
