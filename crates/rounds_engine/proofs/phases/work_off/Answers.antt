-- The calling thread carries the phase on, and rounds carry it to its end.
use Rattle.std.proofs.Common.{List, [], length, map, sym, ap, subst, ◌∙◌}
use Rattle.std.specs.List.{All}
use Rattle.std.proofs.lemmas.List.{length-map}
use Rattle.std.proofs.lemmas.List.Elements.{All-nil}
use Rattle.net_base.specs.declared.tasks.Task.{Task}
use Rattle.token_line.specs.Held.{TaskFits}
use Rattle.step_core.specs.inner.Doing.{entry_of}
use Rattle.step_core.specs.Worlds.{EntryFits}
use Rattle.serial_engine.specs.Carrying.{CarriesOn}
use Rattle.serial_engine.proofs.Carried.{by_work, carried_on}
use Rattle.serial_engine.proofs.PhaseLemmas.{no_items, none_in_flight, none_is_done}
use Rattle.serial_engine.proofs.StepLemmas.{same_count}
use Rattle.rounds_engine.proofs.phases.work_off.Goals as goal

pub work_in_rounds-requires-clause-lines : goal.work_in_rounds-requires-clause-lines
work_in_rounds-requires-clause-lines g c κs within = same_count c.args.world.now c.work_alone.new.world c.work_alone.ensures.lines ∙ c.requires.lines

pub work_in_rounds-requires-clause-done : goal.work_in_rounds-requires-clause-done
work_in_rounds-requires-clause-done g c κs within =
    sym (length-map c.work_alone.new.world.done.items entry_of) ∙ (ap length c.in_ok-work_alone.ensures.done ∙ (length-map c.args.world.now.done.items entry_of ∙ c.requires.done))

pub returns-clause-carries : goal.returns-clause-carries
returns-clause-carries g c =
    let net = c.args.ground.now.net.now in
    let s = c.args.ground.now.store.now in
    let old = c.args.world.now in
    let alone = c.work_alone.new.world in
    let new = c.work_in_rounds.new.world in
    let none = ap (map entry_of) (no_items old.done.items c.requires.done) in
    let steps = by_work net.alphas net.nodes s c.round_laws.ensures.steps c.settle_laws.ensures.placed net.sound old alone c.in_ok-work_alone.ensures.went none (c.in_ok-work_alone.ensures.done ∙ none) in
    let all = carried_on net.alphas net.nodes s old.lines.items alone.lines.items old.flight.items alone.flight.items (same_count old alone c.work_alone.ensures.lines) new.lines.items [] steps c.in_ok-work_in_rounds.ensures.carries in
    subst (λ (ts : List Task). CarriesOn net.alphas net.nodes s old.lines.items old.flight.items new.lines.items ts) (sym (none_in_flight new c.in_ok-work_in_rounds.ensures.quiet)) all

pub returns-clause-ready : goal.returns-clause-ready
returns-clause-ready g c =
    let nodes = c.args.ground.now.net.now.nodes in
    let s = c.args.ground.now.store.now in
    let new = c.work_in_rounds.new.world in
    let quiet = c.in_ok-work_in_rounds.ensures.quiet in
    record {
      flight = subst (All (TaskFits nodes s)) (sym (none_in_flight new quiet)) (All-nil (TaskFits nodes s));
      done = subst (All (EntryFits nodes s)) (sym (ap (map entry_of) (none_is_done new quiet))) (All-nil (EntryFits nodes s));
      lines = c.in_ok-work_in_rounds.ensures.counted;
    }

pub returns-clause-numbers : goal.returns-clause-numbers
returns-clause-numbers g c = c.in_ok-work_in_rounds.ensures.numbers ∙ c.work_alone.ensures.lines
