use Rattle.std.proofs.Common.{◌≡◌, take}
use Rattle.ops_meaning.specs.Acting.{fillings}
use Rattle.act_phase.proofs.state.fillings.Given as goal

abbrev pub invariant-loop-hole : goal.invariant-loop-hole
invariant-loop-hole l = l.fillings.items ≡ fillings l.bindings (take l.hole-index l.holes)
