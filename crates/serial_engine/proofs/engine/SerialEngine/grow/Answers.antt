-- The lines keep their numbers.
use Rattle.std.proofs.Common.{◌≡◌, length, ap, subst, sym, ◌∙◌}
use Rattle.step_core.specs.declared.world.World.{World}
use Rattle.step_core.specs.Worlds.{AreNumbered}
use Rattle.serial_engine.specs.declared.engine.Parts.{Parts}
use Rattle.serial_engine.specs.Engines.{Engine, IsAtRest}
use Rattle.serial_engine.proofs.StartLemmas.{numbers_stay}
use Rattle.serial_engine.proofs.StepLemmas.{same_count}
use Rattle.serial_engine.proofs.engine.SerialEngine.grow.Goals as goal

pub invariant_of-result : goal.invariant_of-result
invariant_of-result g c =
    let before = c.into_inner-net.result in
    let grown = c.in_ok-grown in
    let numbered = subst (λ (p : Parts _). AreNumbered p.world.lines.items) (sym c.into_inner-net.ensures) c.self.invariant.numbered in
    subst (λ (p : Parts _). IsAtRest p.net p.store p.world) (sym c.in_ok-parts.ensures.ok)
    (record {
      quiet = grown.ensures.quiet;
      numbered = numbers_stay before.world.lines.items grown.grown.world.lines.items numbered grown.ensures.lines;
      counted = grown.ensures.counted;
      holds = grown.ensures.holds;
    })

pub returns-clause-lines : goal.returns-clause-lines
returns-clause-lines g c =
    let before = c.into_inner-net.result in
    let grown = c.in_ok-grown in
    let same : before.world ≡ c.args.self.world = ap (λ (p : Parts _). p.world) c.into_inner-net.ensures ∙ ap (λ (e : Engine). e.world) c.self.view_is in
    ap (λ (p : Parts _). length p.world.lines.items) c.in_ok-parts.ensures.ok
    ∙ (same_count before.world grown.grown.world grown.ensures.lines ∙ ap (λ (w : World). length w.lines.items) same)
