-- The task that is done on its line is the one that leaves the flight.
use Rattle.std.proofs.Common.{◌++◌, ◌∷◌, [], length, List, map, refl, sym, ap, ap₂, subst, ◌∙◌}
use Rattle.std.specs.List.{All}
use Rattle.std.proofs.lemmas.List.Elements.{All-push}
use Rattle.std.proofs.lemmas.Option.{slice_get_read}
use Rattle.net_base.specs.declared.tasks.Task.{Task}
use Rattle.token_line.specs.declared.line.Entry.{Entry}
use Rattle.token_line.specs.Held.{TaskFits}
use Rattle.step_core.specs.declared.done.Done.{Done}
use Rattle.step_core.specs.inner.Doing.{entry_of}
use Rattle.step_core.specs.Machine.{Activates}
use Rattle.step_core.specs.Worlds.{EntryFits, placed, seen, world_of}
use Rattle.step_core.proofs.Activating.{All-remove, world, entry_is, entry_fits, activates}
use Rattle.step_core.proofs.ListPlaces.{all_at}
use Rattle.step_core.proofs.Results.{on_err}
use Rattle.step_core.proofs.world.World.activate.Goals as goal

pub act_on-requires-clause-fits : goal.act_on-requires-clause-fits
act_on-requires-clause-fits c =
    let old = c.args.self.now in
    let x = c.index-task.result.now in
    all_at (TaskFits c.args.net.now.nodes c.args.store.now) old.flight.items c.args.index x c.requires.ready.flight (slice_get_read old.flight.items (length old.flight.items) c.args.index x refl c.requires.within c.index-task.ensures)

pub returns-clause-steps : goal.returns-clause-steps
returns-clause-steps c elements agrees =
    let old = c.args.self.now in
    let nodes = c.args.net.now.nodes in
    let s = c.args.store.now in
    let x = c.index-task.result.now in
    let task = slice_get_read old.flight.items (length old.flight.items) c.args.index x refl c.requires.within c.index-task.ensures in
    let fits = all_at (TaskFits nodes s) old.flight.items c.args.index x c.requires.ready.flight task in
    let acts = c.in_ok-act_on.ensures.acts in
    let steps = activates nodes s x fits old.lines.items c.act_on.new.lines.items c.new-children.result.items c.act_on.new.out.items acts elements agrees old.flight.items (map entry_of old.done.items) old.counter c.args.index task in
    let done = ap (λ es. map entry_of es ++ acts.entry ∷ []) (sym c.reserve.ensures.items) ∙ (ap (λ e. map entry_of c.reserve.new.self.items ++ e ∷ []) (sym (entry_is nodes s x fits old.lines.items c.act_on.new.lines.items c.new-children.result.items c.act_on.new.out.items acts c.new-children.ensures.items)) ∙ sym (c.move_to_done.ensures.done x task)) in
    let after : List Task → List Entry → Type 0 = λ flight es. Activates elements nodes (placed elements nodes (length old.lines.items)) (world_of old) c.args.index (world (map seen c.act_on.new.lines.items) flight es old.counter) in
    subst (after c.move_to_done.new.flight.items) done (subst (λ ts. after ts (map entry_of old.done.items ++ acts.entry ∷ [])) (sym c.move_to_done.ensures.flight) steps)

pub returns-clause-ready : goal.returns-clause-ready
returns-clause-ready c =
    let old = c.args.self.now in
    let nodes = c.args.net.now.nodes in
    let s = c.args.store.now in
    let x = c.index-task.result.now in
    let task = slice_get_read old.flight.items (length old.flight.items) c.args.index x refl c.requires.within c.index-task.ensures in
    let fits = all_at (TaskFits nodes s) old.flight.items c.args.index x c.requires.ready.flight task in
    let acts = c.in_ok-act_on.ensures.acts in
    let done = c.move_to_done.ensures.done x task ∙ (ap (λ e. map entry_of c.reserve.new.self.items ++ e ∷ []) (entry_is nodes s x fits old.lines.items c.act_on.new.lines.items c.new-children.result.items c.act_on.new.out.items acts c.new-children.ensures.items) ∙ ap (λ es. map entry_of es ++ acts.entry ∷ []) c.reserve.ensures.items) in
    record {
      flight = subst (All (TaskFits nodes s)) (sym c.move_to_done.ensures.flight) (All-remove (TaskFits nodes s) old.flight.items c.args.index c.requires.ready.flight);
      done =
          subst (All (EntryFits nodes s)) (sym done)
          (All-push (EntryFits nodes s) (map entry_of old.done.items) acts.entry c.requires.ready.done (entry_fits nodes s x fits old.lines.items c.act_on.new.lines.items c.new-children.result.items c.act_on.new.out.items acts));
      lines = c.act_on.ensures.counted;
    }

pub returns-in_err-act_on-clause-err : goal.returns-in_err-act_on-clause-err
returns-in_err-act_on-clause-err c =
    let old = c.args.self.now in
    on_err _ c.from_residual-in_err-act_on.result
    (ap₂ (λ ls (es : List Done). world ls old.flight.items (map entry_of es) old.counter) c.in_err-act_on.ensures.same_seen c.reserve.ensures.items)
