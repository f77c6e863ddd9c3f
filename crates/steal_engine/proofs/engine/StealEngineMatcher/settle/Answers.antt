-- The lines keep their numbers, and the workers are left alone.
use Rattle.std.proofs.Common.{◌≡◌, ◌≤◌, ◌^◌, length, ap, subst, sym, ◌∙◌}
use Rattle.step_core.specs.declared.world.World.{World}
use Rattle.step_core.specs.Worlds.{AreNumbered}
use Rattle.serial_engine.proofs.StartLemmas.{numbers_stay}
use Rattle.serial_engine.proofs.StepLemmas.{same_count}
use Rattle.steal_engine.specs.declared.engine.Parts.{Parts}
use Rattle.team_phase.specs.Engines.{Engine}
use Rattle.steal_engine.proofs.engine.StealEngineMatcher.settle.Goals as goal

pub invariant_of-result : goal.invariant_of-result
invariant_of-result g c =
    let parts = c.as_mut-parts.result.now in
    let value = sym c.as_mut-parts.ensures.value in
    let numbered = subst (λ (p : Parts _). AreNumbered p.world.lines.items) value c.self.invariant.rest.numbered in
    record {
      rest = record {
        quiet = c.in_ok-come.ensures.quiet;
        numbered = numbers_stay parts.world.lines.items c.settle.new.world.lines.items numbered c.in_ok-come.ensures.lines;
        counted = c.in_ok-come.ensures.counted;
        holds = c.in_ok-come.ensures.holds;
      };
      some = subst (λ (p : Parts _). 1 ≤ p.sharing.workers) value c.self.invariant.some;
      few = subst (λ (p : Parts _). p.sharing.workers ≤ 2 ^ 32) value c.self.invariant.few;
    }

pub returns-clause-lines : goal.returns-clause-lines
returns-clause-lines g c =
    let parts = c.as_mut-parts.result.now in
    let same : parts.world ≡ c.args.self.world = ap (λ (p : Parts _). p.world) c.as_mut-parts.ensures.value ∙ ap (λ (e : Engine). e.world) c.self.view_is in
    same_count parts.world c.settle.new.world c.in_ok-come.ensures.lines ∙ ap (λ (w : World). length w.lines.items) same
