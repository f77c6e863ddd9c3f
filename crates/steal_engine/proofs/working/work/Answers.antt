use Rattle.std.proofs.Common.{◌+◌, ap, ◌∙◌, sum_by}
use Rattle.task_deque.specs.Ends.{pushed, popped, thief_stolen}
use Rattle.steal_engine.proofs.Fairly.{one_more}
use Rattle.steal_engine.specs.Rows.{rounds_in}
use Rattle.steal_engine.proofs.working.work.Goals as goal

pub loop-preserved : goal.loop-preserved
loop-preserved g c =
    let did = c.do_task-next.ensures.did c.if-not-did.false in
    let old = c.loop.own in
    let mid = c.next_task.new.own in
    let new = c.push_some.new.own in
    let thief = c.next_task.new.thief in
    let list0 = c.loop.list.items in
    let list1 = c.next_task.new.list.items in
    let list2 = c.do_task-next.new.list.items in
    let list3 = c.push_some.new.list.items in record {
      can_next = tt;
      finite = tt;
      ready = c.do_task-next.ensures.ready;
      number = c.do_task-next.ensures.number ∙ c.loop.invariant.number;
      own = c.push_some.ensures.own ∙ (c.next_task.ensures.own ∙ c.loop.invariant.own);
      thief = c.next_task.ensures.thief ∙ c.loop.invariant.thief;
      fit = c.push_some.ensures.fit;
      fair = one_more (rounds_in c.loop.pass) (rounds_in c.do_task-next.result.0) c.in-Some-next_task.task did.0 (pushed c.args.seat.own) (pushed old) (pushed new) (popped old) (popped new)
          (thief_stolen c.loop.thief) (thief_stolen thief) list0 list1 list2 list3 did.1 did.2
          (λ h. ap (λ p. (sum_by h p + sum_by h (thief_stolen thief)) + sum_by h list0) c.push_some.ensures.popped ∙ c.in-Some-next_task.ensures.took h)
          (λ h. c.push_some.ensures.moved h ∙ ap (λ p. sum_by h p + sum_by h list2) c.next_task.ensures.pushed)
          c.loop.invariant.fair;
    }
