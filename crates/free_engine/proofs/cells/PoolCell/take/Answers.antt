use Rattle.free_engine.proofs.Takes.{take_fits}
use Rattle.free_engine.proofs.cells.PoolCell.take.Goals as goal

pub invariant_of-self : goal.invariant_of-self
invariant_of-self c = let self = c.args.self.now in record {
  fit = (take_fits self.net.value.nodes self.store.value self.pool.queue.items c.take.new.self.queue.items c.take.result c.take.ensures.queue self.fit).0;
}

pub returns-clause-fits : goal.returns-clause-fits
returns-clause-fits c = let self = c.args.self.now in
    (take_fits self.net.value.nodes self.store.value self.pool.queue.items c.take.new.self.queue.items c.take.result c.take.ensures.queue self.fit).1
