use Rattle.std.proofs.Common.{◌≡◌, ◌∙◌, List, sym, ap, arith, subst}
use Rattle.net_base.specs.declared.normal.NormalCondition.{NormalCondition}
use Rattle.net_base.specs.Normal.{normal_members}
use Rattle.beta_net.specs.Linked.{AddsMembers, AddsPart, binders_past_members}
use Rattle.net_base.specs.declared.normal.NormalPart.TheVariants.{Group}
use Rattle.beta_net.proofs.RuleLemmas.{dropped_members, members_room, group_fit, adds_group}
use Rattle.beta_net.proofs.paths.add_group.Goals as goal

pub normal_members-requires : goal.normal_members-requires
normal_members-requires c =
    let room = members_room c.args.links.now c.add_members.new.links c.args.parent c.in_ok-above.above c.args.place c.args.conditions.now c.args.binders.now.items c.requires.place c.in_ok-above.ensures.members in
    let small = c.add_members.new.links.list.small in
    let ok = c.add_members.new.links.list.ok in
    omega (arith, room, small, ok)

pub number_of-requires-clause-fit : goal.number_of-requires-clause-fit
number_of-requires-clause-fit c =
    let back = dropped_members c.args.place c.args.conditions.now c.args.binders.now.items c.as_slice-known.result.now c.add_members.new.binders.items c.truncate.new.self.items c.as_slice-known.ensures.value c.in_ok-above.ensures.binders c.truncate.ensures.items in
    let cs : c.from_vec.result ≡ normal_members c.args.place c.args.conditions.now c.args.binders.now.items =
    c.from_vec.ensures ∙ (c.in_ok-members.ensures.members ∙ ap (normal_members c.args.place c.args.conditions.now) back) in
    group_fit c.args.links.now c.add_members.new.links c.args.parent c.in_ok-above.above c.args.place c.depth_below-depth.result c.args.place c.args.conditions.now c.args.binders.now.items c.from_vec.result c.requires.linked c.requires.within c.requires.place cs c.depth_below-depth.ensures
    (subst (λ (z : List NormalCondition). AddsMembers c.args.links.now c.add_members.new.links c.args.parent z c.in_ok-above.above) (sym cs) c.in_ok-above.ensures.members)

pub returns-clause-part : goal.returns-clause-part
returns-clause-part c =
    let back = dropped_members c.args.place c.args.conditions.now c.args.binders.now.items c.as_slice-known.result.now c.add_members.new.binders.items c.truncate.new.self.items c.as_slice-known.ensures.value c.in_ok-above.ensures.binders c.truncate.ensures.items in
    let cs : c.from_vec.result ≡ normal_members c.args.place c.args.conditions.now c.args.binders.now.items =
    c.from_vec.ensures ∙ (c.in_ok-members.ensures.members ∙ ap (normal_members c.args.place c.args.conditions.now) back) in
    subst (λ (z : List NormalCondition). AddsPart c.args.links.now c.number_of.new.links c.args.parent (Group z) c.in_ok-n.n) cs
    (adds_group c.args.links.now c.add_members.new.links c.number_of.new.links c.args.parent c.in_ok-above.above c.from_vec.result c.in_ok-n.n c.requires.linked c.requires.within
    (subst (λ (z : List NormalCondition). AddsMembers c.args.links.now c.add_members.new.links c.args.parent z c.in_ok-above.above) (sym cs) c.in_ok-above.ensures.members) c.in_ok-n.ensures)

pub returns-clause-binders : goal.returns-clause-binders
returns-clause-binders c =
    let back = dropped_members c.args.place c.args.conditions.now c.args.binders.now.items c.as_slice-known.result.now c.add_members.new.binders.items c.truncate.new.self.items c.as_slice-known.ensures.value c.in_ok-above.ensures.binders c.truncate.ensures.items in
    dropped_members c.args.place c.args.conditions.now c.args.binders.now.items c.as_slice-known.result.now c.normal_members.new.binders.items c.truncate-2.new.self.items c.as_slice-known.ensures.value
    (c.in_ok-members.ensures.binders ∙ ap (binders_past_members c.args.place c.args.conditions.now) back) c.truncate-2.ensures.items
