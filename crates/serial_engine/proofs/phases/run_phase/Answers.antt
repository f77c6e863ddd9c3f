-- Nothing is under way where the phase begins and where it ends.
use Rattle.std.proofs.Common.{length, map, sym, ap, subst, ◌∙◌}
use Rattle.std.specs.List.{All}
use Rattle.std.proofs.lemmas.List.Elements.{All-nil}
use Rattle.work_store.specs.Stored.{held_of}
use Rattle.token_line.specs.Held.{TaskFits}
use Rattle.step_core.specs.inner.Doing.{entry_of}
use Rattle.step_core.specs.Worlds.{EntryFits, placed}
use Rattle.serial_engine.proofs.PhaseLemmas.{counter_none, none_in_flight, none_is_done, done_stays, phase_bundle}
use Rattle.serial_engine.proofs.phases.run_phase.Goals as goal

pub work_changes-requires-clause-ready : goal.work_changes-requires-clause-ready
work_changes-requires-clause-ready g c =
    let nodes = c.args.net.now.nodes in
    let s = c.args.store.now in
    let old = c.args.world.now in
    c.clear_phase.ensures.ready nodes s (record {
      flight = subst (All (TaskFits nodes s)) (sym (none_in_flight old c.requires.quiet)) (All-nil (TaskFits nodes s));
      done = subst (All (EntryFits nodes s)) (sym (ap (map entry_of) (none_is_done old c.requires.quiet))) (All-nil (EntryFits nodes s));
      lines = c.requires.counted;
    })

pub returns-clause-quiet : goal.returns-clause-quiet
returns-clause-quiet g c =
    let net = c.args.net.now in
    let s = c.args.store.now in
    let old = c.args.world.now in
    counter_none c.work_changes.new.world c.in_ok-work_changes.ensures.flight
    (c.in_ok-work_changes.ensures.done
    ∙ done_stays net.alphas net.nodes s net.sound old c.clear_phase.new.self c.requires.quiet (c.clear_phase.ensures.steps (held_of s) net.alphas net.nodes (placed (held_of s) net.nodes (length old.lines.items))))

pub returns-clause-bundle : goal.returns-clause-bundle
returns-clause-bundle g c =
    let net = c.args.net.now in
    let s = c.args.store.now in
    let old = c.args.world.now in
    let new = c.work_changes.new.world in
    let cleared = c.clear_phase.ensures.steps (held_of s) net.alphas net.nodes (placed (held_of s) net.nodes (length old.lines.items)) in
    phase_bundle net.alphas net.nodes s net.sound old c.clear_phase.new.self c.requires.quiet cleared
    c.match_laws.ensures.settle c.settle_laws.ensures.placed new c.args.changes.now c.clear_phase.ensures.lines c.in_ok-work_changes.ensures.went
    (counter_none new c.in_ok-work_changes.ensures.flight (c.in_ok-work_changes.ensures.done ∙ done_stays net.alphas net.nodes s net.sound old c.clear_phase.new.self c.requires.quiet cleared))
