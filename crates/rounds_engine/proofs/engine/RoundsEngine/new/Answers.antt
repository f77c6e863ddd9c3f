-- The start is settled over an empty working memory.
use Rattle.std.proofs.Common.{◌≤◌, length, map, min, sym, ap, subst}
use Rattle.std.proofs.Math.Nat.{le-min, min-le_right}
use Rattle.work_store.specs.Stored.{Stored, nothing_stored, held_of}
use Rattle.step_core.specs.Laws.{AreEmpty}
use Rattle.step_core.specs.Phases.{HoldJust, sums_over, now}
use Rattle.step_core.specs.Worlds.{placed, seen}
use Rattle.rounds_engine.specs.declared.engine.Parts.{Parts}
use Rattle.rounds_engine.specs.Engines.{IsAtRestInShards}
use Rattle.serial_engine.proofs.StartLemmas.{start_empty, start_holds}
use Rattle.rounds_engine.proofs.engine.RoundsEngine.new.Goals as goal

pub invariant_of-result : goal.invariant_of-result
invariant_of-result g c =
    let net = c.args.net in
    let w = c.in_ok-world.world in
    let elements = held_of nothing_stored in
    subst (λ (p : Parts _). IsAtRestInShards p.net p.store p.world p.sharing) (sym c.in_ok-parts.ensures.ok)
    (record {
      rest = record {
        quiet = ap (λ v. v.counter) (c.in_ok-world.ensures.start elements);
        numbered = c.in_ok-world.ensures.numbered;
        counted = (c.in_ok-world.ensures.ready c.new.result).lines;
        holds =
            subst (λ (s : Stored). HoldJust (placed (held_of s) net.nodes (length w.lines.items)) (sums_over s.elements net.alphas net.nodes) (map now (map seen w.lines.items))) (sym c.new.ensures)
            (start_holds c.match_laws.ensures.start elements net.alphas net.nodes c.args.lines (c.start.ensures.placed elements) w (c.in_ok-world.ensures.start elements) c.in_ok-world.ensures.count);
      };
      some = subst (λ k. 1 ≤ k) (sym c.min.ensures) (le-min c.requires.workers c.requires.lines);
      few = subst (λ k. k ≤ length w.lines.items) (sym c.min.ensures) (subst (λ k. min c.args.workers c.args.lines ≤ k) (sym c.in_ok-world.ensures.count) (min-le_right c.args.workers c.args.lines));
    })

pub returns-clause-entries : goal.returns-clause-entries
returns-clause-entries g c =
    let net = c.args.net in
    let elements = held_of nothing_stored in
    subst (λ (p : Parts _). AreEmpty (map seen p.world.lines.items)) (sym c.in_ok-parts.ensures.ok)
    (start_empty c.match_laws.ensures.start elements net.alphas net.nodes c.args.lines (c.start.ensures.placed elements) c.in_ok-world.world (c.in_ok-world.ensures.start elements) c.in_ok-world.ensures.count)
