-- The lines keep their numbers, and there are as many shards as before.
use Rattle.std.proofs.Common.{◌≡◌, length, ap, subst, sym, ◌∙◌, arith}
use Rattle.step_core.specs.declared.world.World.{World}
use Rattle.rounds_engine.specs.declared.engine.Parts.{Parts}
use Rattle.rounds_engine.specs.Engines.{Engine, IsAtRestInShards}
use Rattle.serial_engine.proofs.StartLemmas.{numbers_stay}
use Rattle.serial_engine.proofs.StepLemmas.{same_count}
use Rattle.rounds_engine.proofs.engine.RoundsEngine.settle_in_rounds.Goals as goal

pub invariant_of-result : goal.invariant_of-result
invariant_of-result g c =
    let parts = c.as_mut-parts.result.now in
    let before = subst (λ (p : Parts _). IsAtRestInShards p.net p.store p.world p.sharing) (sym c.as_mut-parts.ensures.value) c.self.invariant in
    let some = before.some in
    let few = before.few in
    let shards = c.in_ok-come.ensures.shards in
    let lines = same_count parts.world c.settle.new.world c.in_ok-come.ensures.lines in
    record {
      rest = record {
        quiet = c.in_ok-come.ensures.quiet;
        numbered = numbers_stay parts.world.lines.items c.settle.new.world.lines.items before.rest.numbered c.in_ok-come.ensures.lines;
        counted = c.in_ok-come.ensures.counted;
        holds = c.in_ok-come.ensures.holds;
      };
      some = omega (arith, some, shards);
      few = omega (arith, few, shards, lines);
    }

pub returns-clause-lines : goal.returns-clause-lines
returns-clause-lines g c =
    let parts = c.as_mut-parts.result.now in
    let same : parts.world ≡ c.args.self.world = ap (λ (p : Parts _). p.world) c.as_mut-parts.ensures.value ∙ ap (λ (e : Engine). e.world) c.self.view_is in
    same_count parts.world c.settle.new.world c.in_ok-come.ensures.lines ∙ ap (λ (w : World). length w.lines.items) same
