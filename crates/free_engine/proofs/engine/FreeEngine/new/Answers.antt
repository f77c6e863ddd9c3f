-- The start is settled over an empty working memory.
use Rattle.std.proofs.Common.{length, map, sym, ap, subst}
use Rattle.work_store.specs.Stored.{Stored, nothing_stored, held_of}
use Rattle.step_core.specs.Laws.{AreEmpty}
use Rattle.step_core.specs.Phases.{HoldJust, sums_over, now}
use Rattle.step_core.specs.Worlds.{placed, seen}
use Rattle.free_engine.specs.declared.engine.Parts.{Parts}
use Rattle.team_phase.specs.Engines.{CanSettle}
use Rattle.serial_engine.proofs.StartLemmas.{start_empty, start_holds}
use Rattle.free_engine.proofs.engine.FreeEngine.new.Goals as goal

pub invariant_of-result : goal.invariant_of-result
invariant_of-result g c =
    let net = c.args.net in
    let w = c.in_ok-world.world in
    let elements = held_of nothing_stored in
    subst (λ (p : Parts _). CanSettle p.net p.store p.world p.sharing.workers) (sym c.in_ok-parts.ensures.ok)
    (record {
      rest = record {
        quiet = ap (λ v. v.counter) (c.in_ok-world.ensures.start elements);
        numbered = c.in_ok-world.ensures.numbered;
        counted = (c.in_ok-world.ensures.ready c.new.result).lines;
        holds =
            subst (λ (s : Stored). HoldJust (placed (held_of s) net.nodes (length w.lines.items)) (sums_over s.elements net.alphas net.nodes) (map now (map seen w.lines.items))) (sym c.new.ensures)
            (start_holds c.match_laws.ensures.start elements net.alphas net.nodes c.args.lines (c.start.ensures.placed elements) w (c.in_ok-world.ensures.start elements) c.in_ok-world.ensures.count);
      };
      some = c.requires.workers;
      few = c.requires.few;
    })

pub returns-clause-entries : goal.returns-clause-entries
returns-clause-entries g c =
    let net = c.args.net in
    let elements = held_of nothing_stored in
    subst (λ (p : Parts _). AreEmpty (map seen p.world.lines.items)) (sym c.in_ok-parts.ensures.ok)
    (start_empty c.match_laws.ensures.start elements net.alphas net.nodes c.args.lines (c.start.ensures.placed elements) c.in_ok-world.world (c.in_ok-world.ensures.start elements) c.in_ok-world.ensures.count)
