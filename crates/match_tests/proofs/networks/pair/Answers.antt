-- The network passes the test of soundness.
use Rattle.std.proofs.Common.{◌≡◌, List, refl, subst, rules}
use Rattle.net_base.specs.declared.nodes.Alpha.{Alpha}
use Rattle.net_base.specs.declared.nodes.Node.{Node}
use Rattle.net_base.specs.Sound.{IsSound}
use Rattle.match_tests.specs.Networks.{pair, two_classes}
use Rattle.match_tests.proofs.Soundness.{is_sound}
use Rattle.match_tests.proofs.networks.pair.Goals as goal

pub new-requires : goal.new-requires
new-requires c =
    let a : two_classes ≡ c.in_ok-alphas.alphas = search rules in
    let b : pair ≡ c.in_ok-nodes.nodes = search rules in
    subst (λ (v : List Alpha). IsSound v c.in_ok-nodes.nodes) a (subst (IsSound two_classes) b (is_sound two_classes pair refl))
