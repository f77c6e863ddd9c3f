-- The dealt shards can do a round.
use Rattle.std.proofs.Common.{List, length, subst, sym, ap, ◌∙◌}
use Rattle.std.specs.List.{All}
use Rattle.activation.specs.Acting.{IsCounted}
use Rattle.rounds_engine.specs.Sharing.{AreAllShards}
use Rattle.rounds_engine.proofs.Halving.{all_can}
use Rattle.rounds_engine.proofs.tests.round.Goals as goal

pub do_shards-requires-clause-can : goal.do_shards-requires-clause-can
do_shards-requires-clause-can g c κs within =
    let ground = c.args.ground.now in
    let lines = c.as_mut_slice.ensures.value in
    all_can ground.net.now.nodes ground.store.now ground.lines ground.shards c.as_slice.result.now c.as_mut_slice.result.now ground.some
    (subst (AreAllShards ground.net.now.nodes ground.store.now ground.lines ground.shards) (sym c.as_slice.ensures.value) c.in_ok-dealt.ensures.dealt)
    (ap length lines ∙ c.requires.lines) (subst (All (IsCounted ground.net.now.nodes ground.store.now)) (sym lines) c.requires.ready.lines)
