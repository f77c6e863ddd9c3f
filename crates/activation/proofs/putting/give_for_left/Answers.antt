-- The right token at the place gives what it gives, and the tasks grow.
use Rattle.std.proofs.Common.{arith, ◌∙◌, ◌++◌, ◌∷◌, [], ap, ap₂, slice_index}
use Rattle.work_store.specs.Stored.{held_of}
use Rattle.net_base.specs.Tokens.{joins_hold}
use Rattle.activation.specs.inner.Children.{children_of, targets_of}
use Rattle.activation.specs.inner.Putting.{put_for_left, put_if}
use Rattle.activation.proofs.Growth.{Pair, grows_more, next_given}
use Rattle.activation.proofs.putting.give_for_left.Goals as goal

pub loop-place-preserved : goal.loop-place-preserved
loop-place-preserved c =
    let tests = c.args.tests.now in
    let elements = held_of c.args.store.now in
    let token = c.args.token.now in
    let nodes = targets_of c.args.below.children.now c.args.below.rights.now in
    let plus = c.args.below.plus in
    let e : Pair = (c.pair.result.0.now, c.pair.result.1) in
    let before = c.loop-place.out.items in
    let tag = c.tag_at-tag.ensures in
    let holds = c.joins-holds.ensures ∙ ap (joins_hold tests elements token) tag in
    let more = c.in_ok-push_if.ensures.ok ∙ ap₂ (λ b k. before ++ children_of nodes plus (put_if b (token ++ k ∷ []) e.1.sum)) holds tag in
    record {
      made =
          next_given nodes plus (λ (r : Pair). put_if (joins_hold tests elements token (slice_index r.0 0)) (token ++ slice_index r.0 0 ∷ []) r.1.sum) c.args.right.now c.loop-place.place e before
          c.push_if.new.out.items (c.args.out.now.items ++ children_of nodes plus (put_for_left tests elements token c.args.right.now)) c.pair.ensures.pair c.loop-place.invariant.made more;
      grown = grows_more c.args.out.now.items before c.push_if.new.out.items c.loop-place.invariant.grown c.push_if.ensures.grown;
      capacity = omega (arith, c.push_if.ensures.capacity, c.loop-place.invariant.capacity);
    }
