use Rattle.std.proofs.Common.{◌≡◌, take}
use Rattle.ops_base.specs.Instances.{IsInOrder}
use Rattle.ops_base.specs.Refraction.{unfired}
use Rattle.feed_engine.proofs.combining.without.Given as goal

abbrev pub invariant-loop-inst : goal.invariant-loop-inst
invariant-loop-inst l = IsInOrder l.others → l.left.items ≡ unfired (take l.inst-index l.insts) l.others
