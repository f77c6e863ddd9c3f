-- Each turn does one token more. Once all are done, a look-up finds what it found before, with the number counted.
use Rattle.std.proofs.Common.{◌≡◌, ℕ, ◌<◌, ◌-◌, ◌^◌, List, length, ap, ◌∙◌, arith}
use Rattle.net_base.specs.Tokens.{goes_with}
use Rattle.work_store.specs.Stored.{held_of}
use Rattle.token_line.proofs.Blocked.{all_blocked, all_there, first_all, first_blocked, length-first_blocked, found, next_blocked, room_at_each}
use Rattle.token_line.proofs.PairLemmas.{Pair}
use Rattle.token_line.proofs.tokens.Tokens.block.Goals as goal

pub block_at-requires-clause-within : goal.block_at-requires-clause-within
block_at-requires-clause-within c =
    let matches = λ (t : List ℕ). goes_with c.args.of.now.kind c.args.of.now.joins (held_of c.args.store.now) t c.args.right.now in
    let same : length c.loop-place.self ≡ length c.args.self.now =
    ap length c.loop-place.invariant ∙ length-first_blocked matches c.args.plus c.loop-place.place c.args.self.now in
    omega (arith, c.len-place-end.ensures.len)

pub block_at-requires-clause-room : goal.block_at-requires-clause-room
block_at-requires-clause-room c = λ one_more.
    let matches = λ (t : List ℕ). goes_with c.args.of.now.kind c.args.of.now.joins (held_of c.args.store.now) t c.args.right.now in
    all_there matches c.args.plus (λ (e : Pair). e.1.blockers < 2 ^ 64 - 1) c.loop-place.place c.args.self.now c.loop-place.self c.loop-place.invariant
    (omega (arith, c.len-place-end.ensures.len))
    (room_at_each (2 ^ 64 - 1) c.args.self.now c.len-place-end.ensures.pairs (c.requires.room one_more))

pub loop-place-preserved : goal.loop-place-preserved
loop-place-preserved c =
    let matches = λ (t : List ℕ). goes_with c.args.of.now.kind c.args.of.now.joins (held_of c.args.store.now) t c.args.right.now in
    next_blocked matches c.args.plus c.loop-place.place c.args.self.now c.loop-place.self c.block_at.new.self c.loop-place.invariant
    (omega (arith, c.len-place-end.ensures.len)) c.block_at.ensures

pub returns : goal.returns
returns c =
    let matches = λ (t : List ℕ). goes_with c.args.of.now.kind c.args.of.now.joins (held_of c.args.store.now) t c.args.right.now in
    let done : c.loop-place.self ≡ all_blocked matches c.args.plus c.args.self.now =
    c.loop-place.invariant ∙ (ap (λ i. first_blocked matches c.args.plus i c.args.self.now) (omega (arith, c.len-place-end.ensures.len)) ∙ first_all matches c.args.plus c.args.self.now) in
    found matches c.args.plus c.args.self.now c.loop-place.self done
