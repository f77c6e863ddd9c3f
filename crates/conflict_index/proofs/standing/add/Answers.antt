use Rattle.std.proofs.Common.{ap, length, map, arith}
use Rattle.conflict_index.specs.Keeping.{arrival}
use Rattle.conflict_index.proofs.Restoring.{restored}
use Rattle.conflict_index.proofs.standing.add.Goals as goal

pub returns-in-Err-clause-err : goal.returns-in-Err-clause-err
returns-in-Err-clause-err c =
    restored c.args.insts.now c.args.waiting.now.entries (map (arrival c.args.strategy c.args.program.now.rules) c.args.insts.now) c.add_all.new.waiting.entries c.take_back.new.waiting.entries c.take_back.ensures.entries
    c.add_all.ensures.kept c.add_all.ensures.no_other c.requires.apart c.requires.among c.requires.ordered c.take_back.ensures.ordered

pub returns-in-Err-clause-number : goal.returns-in-Err-clause-number
returns-in-Err-clause-number c =
    let same = restored c.args.insts.now c.args.waiting.now.entries (map (arrival c.args.strategy c.args.program.now.rules) c.args.insts.now) c.add_all.new.waiting.entries c.take_back.new.waiting.entries c.take_back.ensures.entries
    c.add_all.ensures.kept c.add_all.ensures.no_other c.requires.apart c.requires.among c.requires.ordered c.take_back.ensures.ordered in
    omega (arith, ap length same)
