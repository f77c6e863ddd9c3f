-- The left token at the place gives what it gives, and has room; the tasks grow.
use Rattle.std.proofs.Common.{arith, ◌≡◌, ◌∙◌, ◌==◌, ◌&&◌, ◌++◌, add-one, ap, drop, suc, sym, true}
use Rattle.work_store.specs.Stored.{held_of}
use Rattle.net_base.specs.Tokens.{goes_with}
use Rattle.activation.specs.inner.Children.{children_of, targets_of}
use Rattle.activation.specs.inner.Negating.{all_have_room, before_flip, has_room, put_flipped}
use Rattle.activation.specs.inner.Putting.{put_if}
use Rattle.activation.proofs.Growth.{Pair, drop_at, grows_more, next_given}
use Rattle.activation.proofs.negating.give_flipped.Goals as goal

pub loop-place-preserved : goal.loop-place-preserved
loop-place-preserved c =
    let node = c.args.node.now in
    let elements = held_of c.args.store.now in
    let r = c.args.task.now.token in
    let plus = c.args.task.now.plus in
    let left = c.args.left.now in
    let i = c.loop-place.place in
    let nodes = targets_of c.args.below.children.now c.args.below.rights.now in
    let e : Pair = (c.pair.result.0.now, c.pair.result.1) in
    let before = c.loop-place.out.items in
    let more = c.in_ok-push_if.ensures.ok ∙ ap (λ b. before ++ children_of nodes c.args.below.plus (put_if b e.0 e.1.sum)) (c.flips-holds.ensures ∙ ap (λ v. (e.1.blockers == before_flip plus) && goes_with node.kind node.joins elements e.0 v) c.as_slice-right.ensures) in
    let has : has_room plus e.1 ≡ true = sym c.has_room.ensures ∙ c.if-not-has_room.false in
    record {
      made =
          next_given nodes c.args.below.plus (λ (l : Pair). put_if ((l.1.blockers == before_flip plus) && goes_with node.kind node.joins elements l.0 r) l.0 l.1.sum) left i e before c.push_if.new.out.items
          (c.args.out.now.items ++ children_of nodes c.args.below.plus (put_flipped node elements r plus left)) c.pair.ensures.pair c.loop-place.invariant.made more;
      room =
          ap (λ k. all_have_room plus (drop k left)) (add-one i)
          ∙ (sym (ap (λ b. b && all_have_room plus (drop (suc i) left)) has) ∙ (sym (ap (all_have_room plus) (drop_at left i e c.pair.ensures.pair)) ∙ c.loop-place.invariant.room));
      grown = grows_more c.args.out.now.items before c.push_if.new.out.items c.loop-place.invariant.grown c.push_if.ensures.grown;
      capacity = omega (arith, c.push_if.ensures.capacity, c.loop-place.invariant.capacity);
    }
