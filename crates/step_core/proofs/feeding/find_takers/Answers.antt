-- What each alpha adds is all that takes the element.
use Rattle.std.proofs.Common.{◌∙◌, ap}
use Rattle.std.specs.Prelude.{flat_map}
use Rattle.step_core.specs.Feeding.{taken_by}
use Rattle.step_core.proofs.Takers.{are_takers, all_added}
use Rattle.step_core.proofs.feeding.find_takers.Goals as goal

pub returns : goal.returns
returns c =
    let net = c.args.net.now in
    let e = c.args.element.now in
    let all = all_added (taken_by net.alphas net.nodes e) c.loop-alpha.nodes.items c.as_slice-alpha-items.result.now c.loop-alpha.alpha-index c.loop-alpha-test.false c.loop-alpha.invariant in
    are_takers net.alphas net.nodes e c.candidates.new.found.items c.loop-alpha.nodes.items c.in_ok-candidates.ensures.once c.in_ok-candidates.ensures.passed
    (all ∙ ap (flat_map (taken_by net.alphas net.nodes e)) c.as_slice-alpha-items.ensures)
