use Rattle.std.proofs.lemmas.Option.{slice_get_read}
use Rattle.std.proofs.Common.{length, refl}
use Rattle.net_base.proofs.FeedLemmas.{index_more}
use Rattle.net_base.proofs.alpha_index.AlphaIndex.of.Goals as goal

pub loop-number-preserved : goal.loop-number-preserved
loop-number-preserved c =
    let alphas = c.args.alphas.now in
    index_more alphas c.loop-number.number c.index-alphas-number.result c.loop-number.index c.add.new.self
    (slice_get_read alphas (length alphas) c.loop-number.number c.index-alphas-number.result refl c.loop-number-test.true c.index-alphas-number.is) c.loop-number.invariant c.in_ok-add.ensures
