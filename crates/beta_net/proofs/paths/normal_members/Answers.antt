use Rattle.std.proofs.Common.{arith}
use Rattle.beta_net.proofs.RuleLemmas.{normal_next, past_next, normal_all, past_all}
use Rattle.beta_net.proofs.paths.normal_members.Goals as goal

pub loop-condition-preserved : goal.loop-condition-preserved
loop-condition-preserved c =
    let lp = c.loop-condition in
    record {
      here = omega arith;
      members = normal_next lp.here lp.condition-index c.condition-item.result c.args.conditions.now lp.binders.items c.normal_member.new.binders.items lp.members.items c.push.new.self.items _ c.in_ok-normal.normal c.loop-condition-test.true c.condition-item.is c.in_ok-normal.ensures.normal c.in_ok-normal.ensures.binders c.in_ok-push.ensures.items lp.invariant.members;
      past = past_next lp.here lp.condition-index c.condition-item.result c.args.conditions.now lp.binders.items c.normal_member.new.binders.items _ c.loop-condition-test.true c.condition-item.is c.in_ok-normal.ensures.binders lp.invariant.past;
    }

pub returns-clause-members : goal.returns-clause-members
returns-clause-members c = normal_all c.loop-condition.here c.loop-condition.condition-index c.args.conditions.now c.loop-condition.binders.items c.loop-condition.members.items _ (omega arith) c.loop-condition.invariant.members

pub returns-clause-binders : goal.returns-clause-binders
returns-clause-binders c = past_all c.loop-condition.here c.loop-condition.condition-index c.args.conditions.now c.loop-condition.binders.items _ (omega arith) c.loop-condition.invariant.past

pub overflow_add-here : goal.overflow_add-here
overflow_add-here c =
    let room = c.requires in
    let here = c.loop-condition.invariant.here in
    let lt = c.loop-condition-test.true in
    omega (arith, room, here, lt)
