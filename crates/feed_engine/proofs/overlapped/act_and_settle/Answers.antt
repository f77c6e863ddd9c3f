use Rattle.std.proofs.Common.{◌∙◌, ◌+◌, ap}
use Rattle.act_phase.specs.Outcomes.{setting_of}
use Rattle.act_phase.proofs.Steps.{whole_short, whole_ok, whole_err}
use Rattle.work_store.specs.Stored.{Stored}
use Rattle.feed_engine.proofs.Whole.{over_whole, does_seen, does_short, unchanged, begins_at, goes_begin, rest_within, rest_lawful, rest_up}
use Rattle.feed_engine.proofs.overlapped.act_and_settle.Goals as goal

pub act_each-requires-clause-unchanged : goal.act_each-requires-clause-unchanged
act_each-requires-clause-unchanged g c κs w =
    let stored = g.M.Matcher.stored c.args.matcher in
    unchanged (setting_of c.args.ground.now.program.now c.args.ground.now.watch) c.args.inst.now c.in_ok-acting.acting.state stored.elements c.args.part.now.elements stored.last (c.last-next_tag.result + 1)
    (ap (λ n. n + 1) (c.last-next_tag.ensures.last ∙ ap (λ (x : Stored). x.last) c.store.ensures.stored)) c.in_ok-acting.ensures.begins

pub act_each-requires-clause-over : goal.act_each-requires-clause-over
act_each-requires-clause-over g c κs w =
    let stored = g.M.Matcher.stored c.args.matcher in
    goes_begin (setting_of c.args.ground.now.program.now c.args.ground.now.watch) c.args.inst.now c.in_ok-acting.acting.state stored.elements c.args.part.now.elements stored.last (c.last-next_tag.result + 1)
    (ap (λ n. n + 1) (c.last-next_tag.ensures.last ∙ ap (λ (x : Stored). x.last) c.store.ensures.stored)) c.in_ok-acting.ensures.begins c.requires.excerpt

pub returns-in_err-acting-clause-does : goal.returns-in_err-acting-clause-does
returns-in_err-acting-clause-does g c =
    let stored = g.M.Matcher.stored c.args.matcher in
    whole_short (setting_of c.args.ground.now.program.now c.args.ground.now.watch) c.args.inst.now stored.elements stored.last _ _ c.from_residual.result c.from_residual.ensures.1 c.requires.whole

pub returns-in_err-feed-clause-does : goal.returns-in_err-feed-clause-does
returns-in_err-feed-clause-does g c =
    let stored = g.M.Matcher.stored c.args.matcher in
    let s = setting_of c.args.ground.now.program.now c.args.ground.now.watch in
    let next = ap (λ n. n + 1) (c.last-next_tag.ensures.last ∙ ap (λ (x : Stored). x.last) c.store.ensures.stored) in
    let begin = begins_at s c.args.inst.now c.in_ok-acting.acting.state stored.elements c.args.part.now.elements stored.last (c.last-next_tag.result + 1) next c.in_ok-acting.ensures.begins in
    over_whole s c.args.inst.now stored.elements c.args.part.now.elements stored.last c.requires.kept c.requires.above c.requires.excerpt
    (whole_err s c.args.inst.now c.args.part.now.elements stored.last _ c.in_ok-acting.acting.actions c.in_ok-acting.ensures.actions c.in_ok-acting.acting.state begin
    _ c.from_residual-in_err-feed.result c.from_residual-in_err-feed.ensures.1 (rw c.in_ok-acting.ensures.setting at c.in_err-feed.ensures.does) c.requires.whole)

pub settle_rest-requires-clause-within : goal.settle_rest-requires-clause-within
settle_rest-requires-clause-within g c =
    rest_within g.M.Matcher.stored g.M.Matcher.found g.M.Matcher.stands_for c.args.matcher c.act_each.new.acting.state c.finish-acted.result c.finish-acted.ensures.left
    c.as_slice.result.now c.as_slice.ensures c.in_ok-feed.settled c.in_ok-feed.feed c.in_ok-feed.ensures.up_to

pub settle_rest-requires-clause-lawful : goal.settle_rest-requires-clause-lawful
settle_rest-requires-clause-lawful g c =
    rest_lawful g.M.Matcher.stored g.M.Matcher.found g.M.Matcher.stands_for c.args.matcher c.act_each.new.acting.state c.finish-acted.result c.finish-acted.ensures.left
    c.as_slice.result.now c.as_slice.ensures c.in_ok-feed.settled c.in_ok-feed.feed c.in_ok-feed.ensures.up_to c.in_ok-feed.ensures.over

pub returns-in_err-feed-2-clause-does : goal.returns-in_err-feed-2-clause-does
returns-in_err-feed-2-clause-does g c =
    let stored = g.M.Matcher.stored c.args.matcher in
    let s = setting_of c.args.ground.now.program.now c.args.ground.now.watch in
    let next = ap (λ n. n + 1) (c.last-next_tag.ensures.last ∙ ap (λ (x : Stored). x.last) c.store.ensures.stored) in
    let begin = begins_at s c.args.inst.now c.in_ok-acting.acting.state stored.elements c.args.part.now.elements stored.last (c.last-next_tag.result + 1) next c.in_ok-acting.ensures.begins in
    does_short _ c.from_residual-in_err-feed-2.result c.from_residual-in_err-feed-2.ensures.1
    (over_whole s c.args.inst.now stored.elements c.args.part.now.elements stored.last c.requires.kept c.requires.above c.requires.excerpt
    (whole_ok s c.args.inst.now c.args.part.now.elements stored.last _ c.in_ok-acting.acting.actions c.in_ok-acting.ensures.actions c.in_ok-acting.acting.state begin
    c.act_each.new.acting.state c.finish-acted.result (rw c.in_ok-acting.ensures.setting at c.in_ok-feed.ensures.does) c.finish-acted.ensures.left c.requires.whole))

pub returns-clause-does : goal.returns-clause-does
returns-clause-does g c =
    let stored = g.M.Matcher.stored c.args.matcher in
    let s = setting_of c.args.ground.now.program.now c.args.ground.now.watch in
    let next = ap (λ n. n + 1) (c.last-next_tag.ensures.last ∙ ap (λ (x : Stored). x.last) c.store.ensures.stored) in
    let begin = begins_at s c.args.inst.now c.in_ok-acting.acting.state stored.elements c.args.part.now.elements stored.last (c.last-next_tag.result + 1) next c.in_ok-acting.ensures.begins in
    does_seen (λ r. r.0)
    (over_whole s c.args.inst.now stored.elements c.args.part.now.elements stored.last c.requires.kept c.requires.above c.requires.excerpt
    (whole_ok s c.args.inst.now c.args.part.now.elements stored.last _ c.in_ok-acting.acting.actions c.in_ok-acting.ensures.actions c.in_ok-acting.acting.state begin
    c.act_each.new.acting.state c.finish-acted.result (rw c.in_ok-acting.ensures.setting at c.in_ok-feed.ensures.does) c.finish-acted.ensures.left c.requires.whole))

pub returns-clause-settled : goal.returns-clause-settled
returns-clause-settled g c =
    rest_up g.M.Matcher.stored g.M.Matcher.found g.M.Matcher.stands_for c.args.matcher c.act_each.new.acting.state c.finish-acted.result c.finish-acted.ensures.left
    c.as_slice.result.now c.as_slice.ensures c.in_ok-feed.settled c.in_ok-feed.feed c.in_ok-feed.ensures.up_to c.in_ok-feed-2.feed c.in_ok-feed-2.ensures
