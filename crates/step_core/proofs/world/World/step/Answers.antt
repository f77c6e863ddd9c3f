-- A finished entry leaves what is ready as it is, for every network and store.
use Rattle.step_core.proofs.world.World.step.Goals as goal

pub returns-in-Finish-clause-ready : goal.returns-in-Finish-clause-ready
returns-in-Finish-clause-ready c = c.finish.ensures.ready c.args.net.now.nodes c.args.store.now c.requires.ready
