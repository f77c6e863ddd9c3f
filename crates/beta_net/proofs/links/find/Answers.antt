use Rattle.std.proofs.Common.{◌≡◌, None, length, ◌∙◌, ap}
use Rattle.std.proofs.lemmas.List.{length-map}
use Rattle.beta_net.specs.Linked.{Stands, link_code}
use Rattle.beta_net.proofs.ChainLemmas.{covers_first, covers_next, covers_none, reach_falls}
use Rattle.beta_net.proofs.LinkLemmas.{stands_coded, other_link}
use Rattle.beta_net.proofs.links.find.Goals as goal

pub loop-at-init : goal.loop-at-init
loop-at-init c =
    covers_first c.args.chains.now c.part_code-code.result (length c.args.links.now) (Stands c.args.links.now c.args.parent c.args.part.now) c.newest-at.result (ap length c.requires ∙ length-map c.args.links.now link_code)
    (stands_coded c.args.links.now c.args.chains.now c.args.parent c.args.part.now c.part_code-code.result c.requires c.part_code-code.ensures) c.newest-at.ensures

pub loop-at-preserved : goal.loop-at-preserved
loop-at-preserved c =
    covers_next c.args.chains.now c.part_code-code.result (length c.args.links.now) (Stands c.args.links.now c.args.parent c.args.part.now) c.loop-at.at c.earlier-at.result c.in-Some.n
    (stands_coded c.args.links.now c.args.chains.now c.args.parent c.args.part.now c.part_code-code.result c.requires c.part_code-code.ensures) c.loop-at.invariant c.in-Some.is
    (other_link c.args.links.now c.args.parent c.args.part.now c.in-Some.n c.index-links-n.result c.is_link_of.result (c.loop-at.invariant.there c.in-Some.n c.in-Some.is) c.index-links-n.is c.is_link_of.ensures c.if-is_link_of.false)
    (c.earlier-at.ensures c.part_code-code.result (c.loop-at.invariant.coded c.in-Some.n c.in-Some.is))

pub loop-at-smaller : goal.loop-at-smaller
loop-at-smaller c = reach_falls c.args.chains.now c.part_code-code.result c.in-Some.n c.loop-at.at c.earlier-at.result c.in-Some.is (c.earlier-at.ensures c.part_code-code.result (c.loop-at.invariant.coded c.in-Some.n c.in-Some.is))

pub returns-clause-none : goal.returns-clause-none
returns-clause-none c = λ n s.
    covers_none c.args.chains.now c.part_code-code.result (length c.args.links.now) (Stands c.args.links.now c.args.parent c.args.part.now) c.loop-at.at c.loop-at.invariant (let e : c.loop-at.at ≡ None = cc in e) n s
