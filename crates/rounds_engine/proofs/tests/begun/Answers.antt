-- A world is ready at the start, by any store.
use Rattle.rounds_engine.proofs.tests.begun.Goals as goal

pub feed-requires-clause-ready : goal.feed-requires-clause-ready
feed-requires-clause-ready c = c.in_ok-world.ensures.ready c.args.store.now
