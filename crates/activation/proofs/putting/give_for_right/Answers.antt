-- The left token at the place gives what it gives, and the tasks grow.
use Rattle.std.proofs.Common.{arith, ◌∙◌, ◌++◌, ◌∷◌, [], ap}
use Rattle.work_store.specs.Stored.{held_of}
use Rattle.net_base.specs.Tokens.{joins_hold}
use Rattle.token_line.specs.Joins.{joins_with}
use Rattle.activation.specs.inner.Children.{children_of, targets_of}
use Rattle.activation.specs.inner.Putting.{put_for_right, put_if}
use Rattle.activation.proofs.Growth.{Pair, grows_more, next_given}
use Rattle.activation.proofs.putting.give_for_right.Goals as goal

pub loop-place-preserved : goal.loop-place-preserved
loop-place-preserved c =
    let tests = c.args.tests.now in
    let elements = held_of c.args.store.now in
    let tag = c.args.tag in
    let nodes = targets_of c.args.below.children.now c.args.below.rights.now in
    let plus = c.args.below.plus in
    let e : Pair = (c.pair.result.0.now, c.pair.result.1) in
    let before = c.loop-place.out.items in
    let holds = c.joins_element-holds.ensures ∙ ap (joins_with tests elements e.0) c.kept-element.ensures in
    let more = c.in_ok-push_if.ensures.ok ∙ ap (λ b. before ++ children_of nodes plus (put_if b (e.0 ++ tag ∷ []) e.1.sum)) holds in
    record {
      made =
          next_given nodes plus (λ (l : Pair). put_if (joins_hold tests elements l.0 tag) (l.0 ++ tag ∷ []) l.1.sum) c.args.left.now c.loop-place.place e before c.push_if.new.out.items
          (c.args.out.now.items ++ children_of nodes plus (put_for_right tests elements tag c.args.left.now)) c.pair.ensures.pair c.loop-place.invariant.made more;
      grown = grows_more c.args.out.now.items before c.push_if.new.out.items c.loop-place.invariant.grown c.push_if.ensures.grown;
      capacity = omega (arith, c.push_if.ensures.capacity, c.loop-place.invariant.capacity);
    }
