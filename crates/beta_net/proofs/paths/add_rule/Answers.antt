use Rattle.std.proofs.Common.{◌≡◌, refl, ap, subst, sym, ◌∙◌, cond, arith, [], ◌+◌, length, drop, Some}
use Rattle.net_base.specs.Normal.{normal_parts}
use Rattle.beta_net.specs.Linked.{IsWithin, is_positive}
use Rattle.beta_net.proofs.RuleLemmas.{IsDown, down_next, rule_grows, rule_within, adds_rule}
use Rattle.beta_net.proofs.paths.add_rule.Goals as goal
use Rattle.beta_net.proofs.paths.add_rule.Goals.{then-is_positive, else-is_positive}

pub loop-part-preserved : goal.loop-part-preserved
loop-part-preserved c =
    let lp = c.loop-part in
    let all = normal_parts 0 c.args.parts.now [] in
    let next = down_next lp.links c.add_part.new.links lp.parent c.in_ok-n.n lp.place lp.part-index c.part-item.result c.args.parts.now lp.binders.items all c.in_ok-n.ensures.part c.loop-part-test.true c.part-item.is lp.invariant.down in
    let parent : c.if-is_positive.parent ≡ Some c.in_ok-n.n = elim c.if-is_positive.branch [ then-is_positive w ↦ w.parent-is | else-is_positive w ↦ w.parent-is ] in
    let place : c.if-is_positive.place ≡ cond (is_positive c.part-item.result) (lp.place + 1) lp.place = elim c.if-is_positive.branch [
      | then-is_positive w ↦ w.place-is ∙ ap (λ b. cond b (lp.place + 1) lp.place) (sym (sym c.is_positive.ensures ∙ w.if-is_positive.true))
      | else-is_positive w ↦ w.place-is ∙ ap (λ b. cond b (lp.place + 1) lp.place) (sym (sym c.is_positive.ensures ∙ w.if-is_positive.false))
    ] in
    record {
      within = subst (λ o. IsWithin o (length c.add_part.new.links.list.items)) (sym parent) (rule_within lp.links c.add_part.new.links lp.parent c.in_ok-n.n lp.place lp.part-index c.part-item.result c.args.parts.now lp.binders.items all c.in_ok-n.ensures.part c.loop-part-test.true c.part-item.is lp.invariant.down);
      small = elim c.if-is_positive.branch [ then-is_positive w ↦ omega arith | else-is_positive w ↦ omega arith ];
      down = subst (λ o. IsDown c.add_part.new.links.list.items o c.if-is_positive.place (drop (lp.part-index + 1) c.args.parts.now) c.add_part.new.binders.items all) (sym parent)
          (next c.if-is_positive.place c.add_part.new.binders.items place c.in_ok-n.ensures.binders);
      grows = rule_grows lp.links c.add_part.new.links lp.parent c.in_ok-n.n lp.place lp.part-index c.part-item.result c.args.parts.now lp.binders.items all c.in_ok-n.ensures.part c.loop-part-test.true c.part-item.is lp.invariant.down c.args.links.now lp.invariant.grows;
    }

pub returns : goal.returns
returns c =
    let lp = c.loop-part in
    adds_rule c.args.links.now lp.links (record { parent = lp.parent; depth = c.depth_below-depth.result }) lp.parent lp.place lp.part-index c.args.parts.now lp.binders.items
    lp.invariant.within (omega arith) lp.invariant.down lp.invariant.grows refl c.depth_below-depth.ensures
