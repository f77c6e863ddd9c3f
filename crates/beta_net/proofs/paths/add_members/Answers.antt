use Rattle.std.proofs.Common.{refl, arith}
use Rattle.net_base.specs.Normal.{normal_members}
use Rattle.beta_net.specs.Linked.{path_to, IsMemberAfter}
use Rattle.beta_net.proofs.RuleLemmas.{members_first, members_next, members_grow, members_within, grows_none, past_next, past_all, adds_members, place_fits}
use Rattle.beta_net.proofs.paths.add_members.Goals as goal

pub loop-condition-init : goal.loop-condition-init
loop-condition-init c = record {
  here = omega arith;
  within = c.requires.within;
  down = members_first c.args.links.now.list.items c.args.parent c.args.place c.args.conditions.now c.args.binders.now.items c.requires.place;
  grows = grows_none c.args.links.now (IsMemberAfter (path_to c.args.links.now.list.items c.args.parent) (normal_members c.args.place c.args.conditions.now c.args.binders.now.items)) c.requires.linked;
  past = refl;
}

pub loop-condition-preserved : goal.loop-condition-preserved
loop-condition-preserved c =
    let lp = c.loop-condition in
    let q = path_to c.args.links.now.list.items c.args.parent in
    let all = normal_members c.args.place c.args.conditions.now c.args.binders.now.items in
    record {
      here = omega arith;
      within = members_within lp.links c.add_condition.new.links q all lp.at lp.here c.in_ok-n.n lp.condition-index c.in_ok-normal.normal c.condition-item.result c.args.conditions.now lp.binders.items lp.invariant.grows.linked lp.invariant.within c.in_ok-n.ensures c.in_ok-normal.ensures.normal c.loop-condition-test.true c.condition-item.is lp.invariant.down;
      down = members_next lp.links c.add_condition.new.links q all lp.at lp.here c.in_ok-n.n lp.condition-index c.in_ok-normal.normal c.condition-item.result c.args.conditions.now lp.binders.items lp.invariant.grows.linked lp.invariant.within c.in_ok-n.ensures c.in_ok-normal.ensures.normal c.loop-condition-test.true c.condition-item.is lp.invariant.down c.normal_member.new.binders.items c.in_ok-normal.ensures.binders;
      grows = members_grow lp.links c.add_condition.new.links q all lp.at lp.here c.in_ok-n.n lp.condition-index c.in_ok-normal.normal c.condition-item.result c.args.conditions.now lp.binders.items lp.invariant.grows.linked lp.invariant.within c.in_ok-n.ensures c.in_ok-normal.ensures.normal c.loop-condition-test.true c.condition-item.is lp.invariant.down c.args.links.now lp.invariant.grows;
      past = past_next lp.here lp.condition-index c.condition-item.result c.args.conditions.now lp.binders.items c.normal_member.new.binders.items _ c.loop-condition-test.true c.condition-item.is c.in_ok-normal.ensures.binders lp.invariant.past;
    }

pub returns-clause-members : goal.returns-clause-members
returns-clause-members c =
    let lp = c.loop-condition in
    adds_members c.args.links.now lp.links c.args.parent lp.at lp.here lp.condition-index c.args.conditions.now lp.binders.items (normal_members c.args.place c.args.conditions.now c.args.binders.now.items) (omega arith) lp.invariant.within lp.invariant.down lp.invariant.grows

pub returns-clause-binders : goal.returns-clause-binders
returns-clause-binders c = past_all c.loop-condition.here c.loop-condition.condition-index c.args.conditions.now c.loop-condition.binders.items _ (omega arith) c.loop-condition.invariant.past

pub overflow_add-here : goal.overflow_add-here
overflow_add-here c =
    let lp = c.loop-condition in
    let fits = place_fits lp.links.list.items lp.invariant.grows.linked.links lp.at lp.invariant.within in
    let small = lp.links.list.small in
    let ok = lp.links.list.ok in
    omega (arith, lp.invariant.down.place_is, fits, small, ok)

pub add_condition-requires-clause-linked : goal.add_condition-requires-clause-linked
add_condition-requires-clause-linked c = c.loop-condition.invariant.grows.linked

pub add_condition-requires-clause-within : goal.add_condition-requires-clause-within
add_condition-requires-clause-within c = c.loop-condition.invariant.within

pub add_condition-requires-clause-place : goal.add_condition-requires-clause-place
add_condition-requires-clause-place c = c.loop-condition.invariant.down.place_is
