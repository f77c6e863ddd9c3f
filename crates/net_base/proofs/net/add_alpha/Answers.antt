use Rattle.std.proofs.Common.{length, ap, sym, subst}
use Rattle.net_base.specs.Feeds.{IsIndex, AddsAlpha}
use Rattle.net_base.proofs.Extended.{index_added}
use Rattle.net_base.proofs.net.add_alpha.Goals as goal

pub returns-clause-index : goal.returns-clause-index
returns-clause-index c =
    let adds = subst (λ n. AddsAlpha c.args.index.now c.add.new.self n c.args.alpha) (ap length c.as_slice-number.ensures.value) c.in_ok-add.ensures in
    subst (λ alphas. IsIndex alphas c.add.new.self) (sym c.in_ok-push.ensures.items)
    (index_added c.args.alphas.now.items c.args.alpha c.args.index.now c.add.new.self c.requires adds)
