use Rattle.std.proofs.Common.{rules}
use Rattle.steal_engine.proofs.Turning.{back_one, whole_one}
use Rattle.steal_engine.proofs.ring.part_all.Goals as goal
use Rattle.steal_engine.proofs.ring.part_all.Goals.{then-not-one, else-not-one}

pub loop-worked-preserved : goal.loop-worked-preserved
loop-worked-preserved g c =
    let i = c.loop-worked.invariant in
    let w = c.in-Some.worked in
    let is = c.in-Some.ensures.items in record {
      passes_are = back_one (λ e. e.pass) _ _ w _ _ _ is c.in_ok-push_front.ensures.items i.passes_are;
      owns_are = back_one (λ e. e.own) _ _ w _ _ _ is c.in_ok-push_front-2.ensures.items i.owns_are;
      thieves_are = back_one (λ e. e.thief) _ _ w _ _ _ is c.in_ok-push_front-3.ensures.items i.thieves_are;
      all_whole = whole_one (λ e. e.whole) c.loop-worked.whole w.whole c.if-not-one.whole _ _ _ w is (search rules)
          (λ n. elim c.if-not-one.branch [ then-not-one b ↦ absurd (search (n, b, rules)) | else-not-one b ↦ (search (n, b, rules), search (n, b, rules)) ])
          i.all_whole;
    }
