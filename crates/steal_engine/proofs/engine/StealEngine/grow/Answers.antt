-- The lines keep their numbers, and are shared as before.
use Rattle.std.proofs.Common.{◌≡◌, ◌≤◌, ◌^◌, length, ap, subst, sym, ◌∙◌}
use Rattle.step_core.specs.declared.world.World.{World}
use Rattle.steal_engine.specs.declared.engine.Parts.{Parts}
use Rattle.team_phase.specs.Engines.{CanSettle, Engine}
use Rattle.serial_engine.proofs.StartLemmas.{numbers_stay}
use Rattle.serial_engine.proofs.StepLemmas.{same_count}
use Rattle.steal_engine.proofs.engine.StealEngine.grow.Goals as goal

pub invariant_of-result : goal.invariant_of-result
invariant_of-result g c =
    let before = c.into_inner-net.result in
    let grown = c.in_ok-grown in
    let rest = subst (λ (p : Parts _). CanSettle p.net p.store p.world p.sharing.workers) (sym c.into_inner-net.ensures) c.self.invariant in
    subst (λ (p : Parts _). CanSettle p.net p.store p.world p.sharing.workers) (sym c.in_ok-parts.ensures.ok)
    (record {
      rest = record {
        quiet = grown.ensures.quiet;
        numbered = numbers_stay before.world.lines.items grown.grown.world.lines.items rest.rest.numbered grown.ensures.lines;
        counted = grown.ensures.counted;
        holds = grown.ensures.holds;
      };
      some = rest.some;
      few = rest.few;
    })

pub returns-clause-lines : goal.returns-clause-lines
returns-clause-lines g c =
    let before = c.into_inner-net.result in
    let grown = c.in_ok-grown in
    let same : before.world ≡ c.args.self.world = ap (λ (p : Parts _). p.world) c.into_inner-net.ensures ∙ ap (λ (e : Engine). e.world) c.self.view_is in
    ap (λ (p : Parts _). length p.world.lines.items) c.in_ok-parts.ensures.ok
    ∙ (same_count before.world grown.grown.world grown.ensures.lines ∙ ap (λ (w : World). length w.lines.items) same)
