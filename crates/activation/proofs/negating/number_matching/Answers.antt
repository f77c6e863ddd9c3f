-- The right token at the place is counted as often as it stands, if it matches.
use Rattle.std.proofs.Common.{◌≡◌, ◌∙◌, ◌+◌, add-one, ap, arith, cond, drop, suc}
use Rattle.work_store.specs.Stored.{held_of}
use Rattle.net_base.specs.Tokens.{goes_with}
use Rattle.token_line.specs.Bags.{standing}
use Rattle.activation.specs.inner.Negating.{number_matching}
use Rattle.activation.proofs.Growth.{Pair, drop_at}
use Rattle.activation.proofs.negating.number_matching.Goals as goal

pub loop-place-preserved : goal.loop-place-preserved
loop-place-preserved c =
    let node = c.args.node.now in
    let elements = held_of c.args.store.now in
    let token = c.args.token.now in
    let right = c.args.right.now in
    let i = c.loop-place.place in
    let e : Pair = (c.pair.result.0.now, c.pair.result.1) in
    let holds = c.goes_with-holds.ensures ∙ ap (λ t. goes_with node.kind node.joins elements t e.0) c.as_slice.ensures in
    let here : c.times.result ≡ cond (goes_with node.kind node.joins elements token e.0) (standing e.1.sum) 0 = c.times.ensures ∙ ap (λ b. cond b (standing e.1.sum) 0) holds in
    let first : number_matching node elements token (drop i right)
    ≡ cond (goes_with node.kind node.joins elements token e.0) (standing e.1.sum) 0 + number_matching node elements token (drop (suc i) right) =
    ap (number_matching node elements token) (drop_at right i e c.pair.ensures.pair) in
    let next : number_matching node elements token (drop (i + 1) right) ≡ number_matching node elements token (drop (suc i) right) =
    ap (λ k. number_matching node elements token (drop k right)) (add-one i) in
    omega (arith, here, first, next, c.in_ok-count.ensures, c.loop-place.invariant)
