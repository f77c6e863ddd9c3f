use Rattle.std.proofs.Common.{rules, sym, ◌∙◌}
use Rattle.steal_engine.specs.Team.{HasPoppedNone, HasStolenNone, IsFresh}
use Rattle.steal_engine.proofs.Weighing.{all_lent, count_lent, first_of, more, none_there, of_more, one_lent, others_of}
use Rattle.steal_engine.proofs.deques.lend_all.Goals as goal

pub loop-first-preserved : goal.loop-first-preserved
loop-first-preserved g c =
    let i = c.loop-first.invariant in
    let first = c.in-Some.first in
    let own = c.lend.new.self in
    let thief = c.in_ok-thief.thief in
    let a = c.in-Some.ensures.items in
    let b = c.in_ok-push_back.ensures.items in
    let d = c.in_ok-push_back-2.ensures.items in
    let was = first_of IsFresh _ _ first a i.fresh in record {
      count = count_lent _ _ _ _ _ first own a b i.count;
      fresh = others_of IsFresh _ _ first a i.fresh;
      of = of_more _ _ _ _ own thief b d (c.in_ok-thief.ensures.lent.1 ∙ sym c.lend.ensures.deque) i.of;
      popped = more HasPoppedNone _ _ own b i.popped (c.lend.ensures.popped ∙ was.popped_none);
      stolen = more HasStolenNone _ _ thief d i.stolen (c.in_ok-thief.ensures.stolen ∙ was.stolen_none);
      pushed = λ h. one_lent h _ _ _ _ _ first own a b c.lend.ensures.pushed (i.pushed h);
    }

pub returns-clause-pushed : goal.returns-clause-pushed
returns-clause-pushed g c h = all_lent h _ c.loop-first.left.items c.loop-first.lent.items (none_there c.loop-first.left.items (search rules)) (c.loop-first.invariant.pushed h)
