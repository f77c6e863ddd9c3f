use Rattle.std.proofs.Common.{◌≡◌, ◌++◌, take}
use Rattle.direct_engine.proofs.difference.add_copies.Given as goal

abbrev pub invariant-loop-inst : goal.invariant-loop-inst
invariant-loop-inst l = l.to.items ≡ l.fn.to.items ++ take l.inst-index l.from
