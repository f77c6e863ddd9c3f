use Rattle.conflict_index.proofs.Lookups.{fired_gains}
use Rattle.conflict_index.proofs.standing.put.Goals as goal

pub returns-clause-fired : goal.returns-clause-fired
returns-clause-fired c =
    fired_gains c.args.fired.now c.insert.new.self c.args.key c.args.inst c.requires.unique c.insert.ensures.unique c.in-Ok.ensures.updates c.requires.absent
