-- A round of one shard, and of two halves put together.
use Rattle.std.proofs.Common.{rules, ◌/◌, IfOk, ◌++◌, length, sym, subst, ◌∙◌, arith}
use denote.Param.Send.{IsSync, sendable}
use Rattle.std.proofs.lemmas.List.Elements.{All-get_or}
use Rattle.rounds_engine.specs.Sharing.{AreKept, HasOwn, HaveShared}
use Rattle.rounds_engine.proofs.Crossing.{round_send}
use Rattle.rounds_engine.proofs.Halving.{both_kept, in_parts, joined_shared, one_shard, only_lines}
use Rattle.rounds_engine.proofs.rounds.+shares.Goals as goal

pub do_halves-join_mut-requires-send-F : goal.do_halves-join_mut-requires-send-F
do_halves-join_mut-requires-send-F g t c κs within =
    let y : IsSync g.row.G = search rules in
    let z : IsSync g.row.R = search rules in search (round_send g.row.R g.row.G z y, sendable)

pub do_apart-do_share-requires-clause-own : goal.do_apart-do_share-requires-clause-own
do_apart-do_share-requires-clause-own g t c κs within =
    let ground = c.args.ground.now in
    let P = HasOwn ground.net.now.nodes ground.store.now ground.lines in
    subst P (sym c.index-shards-0.is) (All-get_or P c.args.shards.now 0 c.index-shards-0.result (let a = c.requires.can.some in omega (arith, a)) c.requires.can.shards.own)

pub do_apart-do_share-requires-clause-count : goal.do_apart-do_share-requires-clause-count
do_apart-do_share-requires-clause-count g t c κs within =
    let one = one_shard c.args.shards.now c.index-shards-0.result c.if-shards-eq1.true c.index-shards-0.is in
    only_lines c.args.shards.now c.index-shards-0.result one ∙ c.requires.can.count

pub do_apart-returns-then-shards-eq1-clause-shared : goal.do_apart-returns-then-shards-eq1-clause-shared
do_apart-returns-then-shards-eq1-clause-shared g t c =
    let ground = c.args.ground.now in
    let one = one_shard c.args.shards.now c.index-shards-0.result c.if-shards-eq1.true c.index-shards-0.is in
    subst (λ xs. IfOk c.do_share.result (λ v. HaveShared ground.net.now.nodes ground.store.now ground.lines ground.shards xs c.args.lines.now c.do_share.new.lines v.items)) one c.do_share.ensures.shared

pub do_apart-do_halves-lower-requires-clause-front : goal.do_apart-do_halves-lower-requires-clause-front
do_apart-do_halves-lower-requires-clause-front g t c κs within =
    let ground = c.args.ground.now in
    let some = c.requires.can.some in
    let two = c.if-shards-eq1.false in
    let parts = in_parts ground.net.now.nodes ground.store.now ground.lines (length c.args.shards.now / 2) c.args.shards.now c.split_at.result.0.now c.split_at.result.1.now c.args.lines.now c.split_at_mut-front.result.0.now
    c.split_at_mut-front.result.1.now c.requires.can c.split_at.ensures.by_index.0 c.split_at.ensures.front_len (omega (arith, some, two)) (omega (arith, some, two)) c.split_at_mut-front.ensures.value (c.split_at_mut-front.ensures.front_len ∙ c.count_lines.ensures) in
    parts.low

pub do_apart-do_halves-lower-requires-clause-back : goal.do_apart-do_halves-lower-requires-clause-back
do_apart-do_halves-lower-requires-clause-back g t c κs within =
    let ground = c.args.ground.now in
    let some = c.requires.can.some in
    let two = c.if-shards-eq1.false in
    let parts = in_parts ground.net.now.nodes ground.store.now ground.lines (length c.args.shards.now / 2) c.args.shards.now c.split_at.result.0.now c.split_at.result.1.now c.args.lines.now c.split_at_mut-front.result.0.now
    c.split_at_mut-front.result.1.now c.requires.can c.split_at.ensures.by_index.0 c.split_at.ensures.front_len (omega (arith, some, two)) (omega (arith, some, two)) c.split_at_mut-front.ensures.value (c.split_at_mut-front.ensures.front_len ∙ c.count_lines.ensures) in
    parts.high

pub do_apart-returns-clause-shared : goal.do_apart-returns-clause-shared
do_apart-returns-clause-shared g t c =
    let ground = c.args.ground.now in
    let some = c.requires.can.some in
    let two = c.if-shards-eq1.false in
    let parts = in_parts ground.net.now.nodes ground.store.now ground.lines (length c.args.shards.now / 2) c.args.shards.now c.split_at.result.0.now c.split_at.result.1.now c.args.lines.now c.split_at_mut-front.result.0.now
    c.split_at_mut-front.result.1.now c.requires.can c.split_at.ensures.by_index.0 c.split_at.ensures.front_len (omega (arith, some, two)) (omega (arith, some, two)) c.split_at_mut-front.ensures.value (c.split_at_mut-front.ensures.front_len ∙ c.count_lines.ensures) in
    joined_shared c.round_laws.ensures.shards ground.net.now.nodes ground.store.now ground.lines ground.shards c.args.shards.now c.split_at.result.0.now c.split_at.result.1.now c.args.lines.now
    c.split_at_mut-front.result.0.now c.do_halves-lower.new.front c.split_at_mut-front.result.1.now c.do_halves-lower.new.back c.do_halves-lower.result.0 c.do_halves-lower.result.1 c.joined.result parts.low.some parts.follow c.split_at.ensures.by_index.0 c.split_at_mut-front.ensures.value
    c.do_halves-lower.ensures.front c.do_halves-lower.ensures.back c.joined.ensures

pub do_apart-returns-clause-kept : goal.do_apart-returns-clause-kept
do_apart-returns-clause-kept g t c =
    let ground = c.args.ground.now in
    subst (λ ls. AreKept ground.net.now.nodes ground.store.now ls (c.do_halves-lower.new.front ++ c.do_halves-lower.new.back)) (sym c.split_at_mut-front.ensures.value)
    (both_kept ground.net.now.nodes ground.store.now c.split_at_mut-front.result.0.now c.do_halves-lower.new.front c.split_at_mut-front.result.1.now c.do_halves-lower.new.back c.do_halves-lower.ensures.front_kept c.do_halves-lower.ensures.back_kept)
