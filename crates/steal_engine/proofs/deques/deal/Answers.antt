use Rattle.std.proofs.Common.{[], ◌∷◌, ◌∙◌, arith}
use Rattle.std.proofs.lemmas.List.Sums.{sum_by-append}
use Rattle.steal_engine.proofs.deques.deal.Goals as goal

pub loop-task-preserved : goal.loop-task-preserved
loop-task-preserved g c =
    let i = c.loop-task.invariant in
    let n = c.in_ok-deal_one.ensures in record {
      fresh = n.fresh;
      dealt = λ h. let a = n.more h in let b = i.dealt h in let d = sum_by-append h c.loop-task.yielded (c.in-Some.task ∷ []) in omega (arith, a, b, d);
      count = n.count ∙ i.count;
    }
