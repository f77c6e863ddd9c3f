-- What was taken out is the world that stood there.
use Rattle.std.proofs.Common.{[], subst}
use Rattle.step_core.specs.declared.world.World.{World}
use Rattle.serial_engine.specs.Carrying.{CarriesOn}
use Rattle.team_phase.proofs.phases.work_shared.Goals as goal

pub returns-clause-carries : goal.returns-clause-carries
returns-clause-carries g c =
    let net = c.args.net.now in
    let new = c.in_ok-world.field-0.lines.items in
    subst (λ (w : World). CarriesOn net.alphas net.nodes c.args.store.now w.lines.items w.flight.items new []) c.replace-taken.ensures.value c.in_ok-world.ensures.carries
