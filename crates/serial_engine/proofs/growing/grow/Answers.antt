-- The lines at rest take the tasks that are due, and have grown once these are done.
use Rattle.std.proofs.Common.{List, length, map, refl, sym, ap, subst, ◌∙◌}
use Rattle.work_store.specs.Stored.{held_of}
use Rattle.token_line.specs.declared.line.Line.{Line}
use Rattle.step_core.specs.Phases.{before, now, total}
use Rattle.step_core.specs.Settling.{HaveOwnLines, IsGathered}
use Rattle.step_core.specs.Worlds.{placed, seen}
use Rattle.grow_laws.specs.Growing.{AreDue}
use Rattle.serial_engine.proofs.GrowLemmas.{counted_over, have_grown, names_own, still_quiet}
use Rattle.serial_engine.proofs.PhaseLemmas.{counter_none}
use Rattle.serial_engine.proofs.growing.grow.Goals as goal

pub with_due-requires-clause-quiet : goal.with_due-requires-clause-quiet
with_due-requires-clause-quiet g c =
    let net = c.args.net in
    let s = c.args.store.now in
    let old = c.args.world in
    let mid = c.clear_phase.new.self in
    let step = c.clear_phase.ensures.steps (held_of s) net.alphas net.nodes (placed (held_of s) net.nodes (length old.lines.items)) in
    still_quiet net s old mid c.requires.quiet c.requires.counted c.requires.holds step c.clear_phase.ensures.ready c.clear_phase.ensures.count c.growth_laws.ensures.more_nodes

pub with_due-requires-clause-counted : goal.with_due-requires-clause-counted
with_due-requires-clause-counted g c =
    let net = c.args.net in
    let s = c.args.store.now in
    let old = c.args.world in
    let mid = c.clear_phase.new.self in
    let step = c.clear_phase.ensures.steps (held_of s) net.alphas net.nodes (placed (held_of s) net.nodes (length old.lines.items)) in
    counted_over net s old mid c.requires.quiet c.requires.counted c.requires.holds step c.clear_phase.ensures.ready c.clear_phase.ensures.count c.growth_laws.ensures.more_nodes
    c.in_ok-larger.larger c.args.growth.alphas.items c.args.growth.nodes.items (record { alphas_are = c.in_ok-larger.ensures.alphas; nodes_are = c.in_ok-larger.ensures.nodes })

pub gather_worked-requires-clause-own : goal.gather_worked-requires-clause-own
gather_worked-requires-clause-own g c =
    let net = c.args.net in
    let s = c.args.store.now in
    let old = c.args.world in
    let mid = c.clear_phase.new.self in
    let step = c.clear_phase.ensures.steps (held_of s) net.alphas net.nodes (placed (held_of s) net.nodes (length old.lines.items)) in
    let due = c.in_ok-due in
    let work = c.in_ok-work_all.ensures in
    let larger = c.in_ok-larger.larger in
    let more = c.args.growth.alphas.items in
    let chain = c.args.growth.nodes.items in
    let is_due = subst (λ ns. AreDue s.elements larger.alphas larger.nodes (length ns) due.due.flight.items) c.nodes-first.ensures.nodes due.ensures.due in
    subst (λ (ls : List Line). HaveOwnLines (map seen ls)) (sym c.lines.ensures.lines)
    (have_grown net s old mid c.requires.quiet c.requires.counted c.requires.holds step c.clear_phase.ensures.ready c.clear_phase.ensures.count c.growth_laws.ensures.more_nodes due.due c.work_all.new.world (ap (λ v. v.items) due.ensures.lines) due.ensures.world c.work_all.ensures.lines (work.flight refl) work.done
    c.settle_laws.ensures.placed c.growth_laws.ensures.growth c.last-last.ensures.stored.rising (names_own c.settle_laws.ensures.store s c.last-last.ensures.stored) larger more chain
    (record { alphas_are = c.in_ok-larger.ensures.alphas; nodes_are = c.in_ok-larger.ensures.nodes }) c.requires.apart larger.sound is_due work.went).own_lines

pub returns-clause-quiet : goal.returns-clause-quiet
returns-clause-quiet g c =
    let work = c.in_ok-work_all.ensures in
    counter_none c.work_all.new.world (work.flight refl) (work.done ∙ ap (λ w. w.done) c.in_ok-due.ensures.world)

pub returns-clause-holds : goal.returns-clause-holds
returns-clause-holds g c =
    let net = c.args.net in
    let s = c.args.store.now in
    let old = c.args.world in
    let mid = c.clear_phase.new.self in
    let step = c.clear_phase.ensures.steps (held_of s) net.alphas net.nodes (placed (held_of s) net.nodes (length old.lines.items)) in
    let due = c.in_ok-due in
    let work = c.in_ok-work_all.ensures in
    let larger = c.in_ok-larger.larger in
    let more = c.args.growth.alphas.items in
    let chain = c.args.growth.nodes.items in
    let is_due = subst (λ ns. AreDue s.elements larger.alphas larger.nodes (length ns) due.due.flight.items) c.nodes-first.ensures.nodes due.ensures.due in
    (have_grown net s old mid c.requires.quiet c.requires.counted c.requires.holds step c.clear_phase.ensures.ready c.clear_phase.ensures.count c.growth_laws.ensures.more_nodes due.due c.work_all.new.world (ap (λ v. v.items) due.ensures.lines) due.ensures.world c.work_all.ensures.lines (work.flight refl) work.done
    c.settle_laws.ensures.placed c.growth_laws.ensures.growth c.last-last.ensures.stored.rising (names_own c.settle_laws.ensures.store s c.last-last.ensures.stored) larger more chain
    (record { alphas_are = c.in_ok-larger.ensures.alphas; nodes_are = c.in_ok-larger.ensures.nodes }) c.requires.apart larger.sound is_due work.went).holds

pub returns-clause-settled : goal.returns-clause-settled
returns-clause-settled g c =
    let net = c.args.net in
    let s = c.args.store.now in
    let old = c.args.world in
    let mid = c.clear_phase.new.self in
    let step = c.clear_phase.ensures.steps (held_of s) net.alphas net.nodes (placed (held_of s) net.nodes (length old.lines.items)) in
    let due = c.in_ok-due in
    let work = c.in_ok-work_all.ensures in
    let larger = c.in_ok-larger.larger in
    let more = c.args.growth.alphas.items in
    let chain = c.args.growth.nodes.items in
    let is_due = subst (λ ns. AreDue s.elements larger.alphas larger.nodes (length ns) due.due.flight.items) c.nodes-first.ensures.nodes due.ensures.due in
    let come = c.in_ok-come.field-0.come.items in
    let gone = c.in_ok-come.field-0.gone.items in
    (have_grown net s old mid c.requires.quiet c.requires.counted c.requires.holds step c.clear_phase.ensures.ready c.clear_phase.ensures.count c.growth_laws.ensures.more_nodes due.due c.work_all.new.world (ap (λ v. v.items) due.ensures.lines) due.ensures.world c.work_all.ensures.lines (work.flight refl) work.done
    c.settle_laws.ensures.placed c.growth_laws.ensures.growth c.last-last.ensures.stored.rising (names_own c.settle_laws.ensures.store s c.last-last.ensures.stored) larger more chain
    (record { alphas_are = c.in_ok-larger.ensures.alphas; nodes_are = c.in_ok-larger.ensures.nodes }) c.requires.apart larger.sound is_due work.went).settled come gone
    (subst (λ (ls : List Line). IsGathered larger.nodes (total (map before (map seen ls))) (total (map now (map seen ls))) come gone) c.lines.ensures.lines c.in_ok-come.ensures)
