-- The lines at rest are as good for the new store; the phase is a bundle; what is gathered of it is what changed.
use Rattle.std.proofs.Common.{List, map, sym, subst}
use Rattle.std.specs.List.{All}
use Rattle.token_line.specs.declared.line.Line.{Line}
use Rattle.activation.specs.Acting.{TellsOfLasts}
use Rattle.step_core.specs.Phases.{before, now, total}
use Rattle.step_core.specs.Settling.{HaveOwnLines, IsGathered}
use Rattle.step_core.specs.inner.Worked.{AreWorked}
use Rattle.step_core.specs.Worlds.{seen}
use Rattle.serial_engine.proofs.SettleLemmas.{bundle, has_settled, rests}
use Rattle.steal_engine.proofs.phases.settle.Goals as goal

pub run_phase-requires-clause-counted : goal.run_phase-requires-clause-counted
run_phase-requires-clause-counted g c κs within =
    (rests c.args.net.now c.args.store.now c.do_changes.new.store c.args.world.now c.args.changes.now c.in_ok-do_changes.ensures.phase c.requires.counted c.requires.holds c.settle_laws.ensures.rest).0

pub run_phase-requires-clause-known : goal.run_phase-requires-clause-known
run_phase-requires-clause-known g c κs within = c.in_ok-do_changes.ensures.phase.known

pub gather_worked-requires-clause-worked : goal.gather_worked-requires-clause-worked
gather_worked-requires-clause-worked g c = subst (λ (ls : List Line). AreWorked ls c.worked.result.now) (sym c.lines.ensures.lines) c.worked.ensures

pub gather_worked-requires-clause-told : goal.gather_worked-requires-clause-told
gather_worked-requires-clause-told g c =
    subst (λ (ls : List Line). All (TellsOfLasts c.args.net.now.nodes) ls) (sym c.lines.ensures.lines) (λ i l low. (c.in_ok-run_phase.ensures.counted i l low).told)

pub gather_worked-requires-clause-own : goal.gather_worked-requires-clause-own
gather_worked-requires-clause-own g c =
    subst (λ (ls : List Line). HaveOwnLines (map seen ls)) (sym c.lines.ensures.lines)
    (has_settled c.args.net.now c.args.store.now c.do_changes.new.store c.args.world.now c.args.changes.now c.in_ok-do_changes.ensures.phase c.requires.counted c.requires.holds
    c.settle_laws.ensures.rest c.run_phase.new.world c.in_ok-run_phase.ensures.lines c.in_ok-run_phase.ensures.bundle
    c.settle_laws.ensures.settled c.in_ok-do_changes.ensures.rising.0 c.in_ok-do_changes.ensures.rising.1 c.requires.lawful c.in_ok-do_changes.ensures.elements).own_lines

pub returns-clause-holds : goal.returns-clause-holds
returns-clause-holds g c =
    (has_settled c.args.net.now c.args.store.now c.do_changes.new.store c.args.world.now c.args.changes.now c.in_ok-do_changes.ensures.phase c.requires.counted c.requires.holds
    c.settle_laws.ensures.rest c.run_phase.new.world c.in_ok-run_phase.ensures.lines c.in_ok-run_phase.ensures.bundle
    c.settle_laws.ensures.settled c.in_ok-do_changes.ensures.rising.0 c.in_ok-do_changes.ensures.rising.1 c.requires.lawful c.in_ok-do_changes.ensures.elements).holds

pub returns-clause-bundle : goal.returns-clause-bundle
returns-clause-bundle g c =
    bundle c.args.net.now c.args.store.now c.do_changes.new.store c.args.world.now c.args.changes.now c.in_ok-do_changes.ensures.phase c.requires.counted c.requires.holds
    c.settle_laws.ensures.rest c.run_phase.new.world c.in_ok-run_phase.ensures.lines c.in_ok-run_phase.ensures.bundle

pub returns-clause-settled : goal.returns-clause-settled
returns-clause-settled g c =
    let net = c.args.net.now in
    let come = c.in_ok-gathered.gathered.come.items in
    let gone = c.in_ok-gathered.gathered.gone.items in
    (has_settled c.args.net.now c.args.store.now c.do_changes.new.store c.args.world.now c.args.changes.now c.in_ok-do_changes.ensures.phase c.requires.counted c.requires.holds
    c.settle_laws.ensures.rest c.run_phase.new.world c.in_ok-run_phase.ensures.lines c.in_ok-run_phase.ensures.bundle
    c.settle_laws.ensures.settled c.in_ok-do_changes.ensures.rising.0 c.in_ok-do_changes.ensures.rising.1 c.requires.lawful c.in_ok-do_changes.ensures.elements).settled come gone
    (subst (λ (ls : List Line). IsGathered net.nodes (total (map before (map seen ls))) (total (map now (map seen ls))) come gone) c.lines.ensures.lines c.in_ok-gathered.ensures)
