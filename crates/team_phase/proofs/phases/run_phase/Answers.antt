-- Nothing is under way where the phase begins and where it ends, and what feeds it and carries it on leads from the one
-- to the other.
use Rattle.std.proofs.Common.{length, map, sym, ap, subst, ◌∙◌}
use Rattle.std.specs.List.{All}
use Rattle.std.proofs.lemmas.List.{length-map}
use Rattle.std.proofs.lemmas.List.Elements.{All-nil}
use Rattle.work_store.specs.Stored.{held_of}
use Rattle.token_line.specs.Held.{TaskFits}
use Rattle.step_core.specs.inner.Doing.{entry_of}
use Rattle.step_core.specs.Worlds.{EntryFits, placed}
use Rattle.serial_engine.proofs.PhaseLemmas.{done_stays, none_in_flight, none_is_done}
use Rattle.serial_engine.proofs.StartLemmas.{numbers_stay}
use Rattle.serial_engine.proofs.Carried.{by_turns}
use Rattle.team_phase.proofs.phases.run_phase.Goals as goal

pub feed_in_turns-requires-clause-ready : goal.feed_in_turns-requires-clause-ready
feed_in_turns-requires-clause-ready g c κs within =
    let nodes = c.args.net.now.nodes in
    let s = c.args.store.now in
    let old = c.args.world.now in
    c.clear_phase.ensures.ready nodes s (record {
      flight = subst (All (TaskFits nodes s)) (sym (none_in_flight old c.requires.quiet)) (All-nil (TaskFits nodes s));
      done = subst (All (EntryFits nodes s)) (sym (ap (map entry_of) (none_is_done old c.requires.quiet))) (All-nil (EntryFits nodes s));
      lines = c.requires.counted;
    })

pub feed_in_turns-requires-clause-numbered : goal.feed_in_turns-requires-clause-numbered
feed_in_turns-requires-clause-numbered g c κs within = numbers_stay c.args.world.now.lines.items c.clear_phase.new.self.lines.items c.requires.numbered c.clear_phase.ensures.lines

pub feed_in_turns-requires-clause-done : goal.feed_in_turns-requires-clause-done
feed_in_turns-requires-clause-done g c κs within =
    let net = c.args.net.now in
    let s = c.args.store.now in
    let old = c.args.world.now in
    let cleared = c.clear_phase.ensures.steps (held_of s) net.alphas net.nodes (placed (held_of s) net.nodes (length old.lines.items)) in
    sym (length-map c.clear_phase.new.self.done.items entry_of) ∙ ap length (done_stays net.alphas net.nodes s net.sound old c.clear_phase.new.self c.requires.quiet cleared)

pub work_off-requires-clause-numbered : goal.work_off-requires-clause-numbered
work_off-requires-clause-numbered g c κs within =
    numbers_stay c.args.world.now.lines.items c.feed_in_turns.new.world.lines.items c.requires.numbered (c.in_ok-feed_in_turns.ensures.numbers ∙ c.clear_phase.ensures.lines)

pub returns-clause-counted : goal.returns-clause-counted
returns-clause-counted g c = c.in_ok-work_off.ensures.ready.lines

pub returns-clause-lines : goal.returns-clause-lines
returns-clause-lines g c = c.in_ok-work_off.ensures.numbers ∙ (c.in_ok-feed_in_turns.ensures.numbers ∙ c.clear_phase.ensures.lines)

pub returns-clause-bundle : goal.returns-clause-bundle
returns-clause-bundle g c =
    let net = c.args.net.now in
    let s = c.args.store.now in
    let old = c.args.world.now in
    let cleared = c.clear_phase.ensures.steps (held_of s) net.alphas net.nodes (placed (held_of s) net.nodes (length old.lines.items)) in
    by_turns net.alphas net.nodes s net.sound old c.clear_phase.new.self c.requires.quiet cleared
    c.round_laws.ensures.begin c.round_laws.ensures.end c.feed_in_turns.new.world c.work_off.new.world c.args.changes.now
    c.clear_phase.ensures.lines c.in_ok-feed_in_turns.ensures.numbers
    c.in_ok-feed_in_turns.ensures.feeds c.in_ok-work_off.ensures.carries c.in_ok-work_off.ensures.quiet
