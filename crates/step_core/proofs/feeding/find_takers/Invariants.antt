use Rattle.std.proofs.Common.{◌≡◌, ◌++◌, drop}
use Rattle.std.specs.Prelude.{flat_map}
use Rattle.step_core.specs.Feeding.{taken_by}
use Rattle.step_core.proofs.feeding.find_takers.Given as goal

abbrev pub invariant-loop-alpha : goal.invariant-loop-alpha
invariant-loop-alpha l =
    l.nodes.items ++ flat_map (taken_by l.net.alphas l.net.nodes l.element) (drop l.alpha-index l.alpha-items) ≡ flat_map (taken_by l.net.alphas l.net.nodes l.element) l.alpha-items
