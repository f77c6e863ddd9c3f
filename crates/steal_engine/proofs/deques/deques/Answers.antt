use Rattle.std.proofs.Common.{[], ◌∷◌, length, length-append, ap, arith}
use Rattle.steal_engine.proofs.Weighing.{fresh_more, one_empty}
use Rattle.steal_engine.proofs.deques.deques.Goals as goal

pub loop-preserved : goal.loop-preserved
loop-preserved g c =
    let e = c.in_ok-new.field-0 in
    let n = c.in_ok-new.ensures in
    let is = c.in_ok-push_back.ensures.items in record {
      fresh = fresh_more _ _ e is c.loop.invariant.fresh (record { whole = n.whole; popped_none = n.none.1; stolen_none = n.none.2 });
      none = λ h. one_empty h _ _ e is n.none.0 (c.loop.invariant.none h);
      count = (let a = ap length is in let b = length-append c.loop.owns.items (e ∷ []) in let d = c.loop.invariant.count in omega (arith, a, b, d));
    }
