use Rattle.std.proofs.Common.{◌≡◌, map}
use Rattle.why.specs.Explaining.{bound_inst}
use Rattle.why.proofs.explaining.bound_insts.Given as goal

abbrev pub invariant-loop-partial : goal.invariant-loop-partial
invariant-loop-partial l = l.insts.items ≡ map (bound_inst l.rule) l.yielded
