use Rattle.std.proofs.Common.{rules}
use Rattle.steal_engine.proofs.Weighing.{all_taken, none_there, one_taken, rest_of}
use Rattle.steal_engine.proofs.deques.collect.Goals as goal

pub loop-own-preserved : goal.loop-own-preserved
loop-own-preserved g c =
    let i = c.loop-own.invariant in
    let a = c.in-Some.ensures.items in
    let b = c.in-Some-pop_front.ensures.items in record {
      of = rest_of _ _ _ _ c.in-Some.own c.in-Some-pop_front.thief a b i.of;
      fit = c.in_ok-take_in.ensures.fit;
      all = λ h. one_taken h _ _ _ _ _ _ _ _ _ c.in-Some.own c.in-Some-pop_front.thief a b (i.all h) (c.in_ok-take_in.ensures.all h);
    }

pub returns-clause-all : goal.returns-clause-all
returns-clause-all g c h = all_taken h _ _ _ _ _ _ (none_there _ (search rules)) c.loop-own.invariant.of (c.loop-own.invariant.all h)
