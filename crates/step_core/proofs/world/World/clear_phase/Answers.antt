-- What was in flight and done stays so, and each line is still counted.
use Rattle.step_core.proofs.world.World.clear_phase.Goals as goal

pub returns-clause-ready : goal.returns-clause-ready
returns-clause-ready c nodes s ready = record { flight = ready.flight; done = ready.done; lines = c.clear_worked.ensures.counted nodes s ready.lines }
