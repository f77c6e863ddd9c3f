use Rattle.std.proofs.Common.{◌≡◌, None, length, ◌∙◌, ap}
use Rattle.std.proofs.lemmas.List.{length-map}
use Rattle.beta_net.specs.Built.{HasAlpha, code_of_alpha}
use Rattle.beta_net.proofs.ChainLemmas.{covers_first, covers_next, covers_none, reach_falls}
use Rattle.beta_net.proofs.AlphaLemmas.{alpha_coded, other_alpha}
use Rattle.beta_net.proofs.alphas.find.Goals as goal

pub loop-at-init : goal.loop-at-init
loop-at-init c =
    covers_first c.args.chains.now c.alpha_code-code.result (length c.args.alphas.now) (HasAlpha c.args.alphas.now c.args.class c.args.tests.now) c.newest-at.result (ap length c.requires ∙ length-map c.args.alphas.now code_of_alpha)
    (alpha_coded c.args.alphas.now c.args.chains.now c.args.class c.args.tests.now c.alpha_code-code.result c.requires c.alpha_code-code.ensures) c.newest-at.ensures

pub loop-at-preserved : goal.loop-at-preserved
loop-at-preserved c =
    covers_next c.args.chains.now c.alpha_code-code.result (length c.args.alphas.now) (HasAlpha c.args.alphas.now c.args.class c.args.tests.now) c.loop-at.at c.earlier-at.result c.in-Some.n
    (alpha_coded c.args.alphas.now c.args.chains.now c.args.class c.args.tests.now c.alpha_code-code.result c.requires c.alpha_code-code.ensures) c.loop-at.invariant c.in-Some.is
    (other_alpha c.args.alphas.now c.args.class c.args.tests.now c.in-Some.n c.index-alphas-n.result c.is_alpha_of.result (c.loop-at.invariant.there c.in-Some.n c.in-Some.is) c.index-alphas-n.is c.is_alpha_of.ensures c.if-is_alpha_of.false)
    (c.earlier-at.ensures c.alpha_code-code.result (c.loop-at.invariant.coded c.in-Some.n c.in-Some.is))

pub loop-at-smaller : goal.loop-at-smaller
loop-at-smaller c = reach_falls c.args.chains.now c.alpha_code-code.result c.in-Some.n c.loop-at.at c.earlier-at.result c.in-Some.is (c.earlier-at.ensures c.alpha_code-code.result (c.loop-at.invariant.coded c.in-Some.n c.in-Some.is))

pub returns-clause-none : goal.returns-clause-none
returns-clause-none c = λ n s.
    covers_none c.args.chains.now c.alpha_code-code.result (length c.args.alphas.now) (HasAlpha c.args.alphas.now c.args.class c.args.tests.now) c.loop-at.at c.loop-at.invariant (let e : c.loop-at.at ≡ None = cc in e) n s
