use Rattle.std.proofs.Common.{arith}
use Rattle.scan_table.proofs.dfa.Dfa.step.Goals as goal

pub bounds-self-inside-class : goal.bounds-self-inside-class
bounds-self-inside-class g c = c.self.invariant.1.1 c.args.byte (omega (arith, c.self.invariant.0, c.ranges.byte))
