-- The next token is not among those before it, and is copied after them.
use Rattle.std.proofs.Common.{◌∷◌, ◌++◌, ◌∙◌, List, [], ap₂, sym, ℕ}
use Rattle.token_line.specs.inner.Pairs.{Pairs, cell_of}
use Rattle.token_line.specs.inner.TokenRooms.{tokens_in}
use Rattle.token_line.proofs.TokenRoomLemmas.{not_before, one_more}
use Rattle.token_line.proofs.token_room.TokenRoom.as_longer.Goals as goal

pub push-requires : goal.push-requires
push-requires c =
    ap₂ (λ (t : List ℕ) (l : Pairs). cell_of l t) c.in_ok-from_slice.ensures c.loop-place.invariant
    ∙ not_before (tokens_in c.args.self.now) c.loop-place.place c.pair.result.0.now c.pair.result.1 c.pair.ensures c.requires

pub loop-place-preserved : goal.loop-place-preserved
loop-place-preserved c =
    c.in_ok-push.ensures.ok
    ∙ (ap₂ (λ (t : List ℕ) (l : Pairs). l ++ (t, c.pair.result.1) ∷ []) c.in_ok-from_slice.ensures c.loop-place.invariant
    ∙ sym (one_more (tokens_in c.args.self.now) c.loop-place.place c.pair.result.0.now c.pair.result.1 c.pair.ensures))
