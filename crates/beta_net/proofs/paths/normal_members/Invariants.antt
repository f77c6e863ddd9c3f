use Rattle.std.proofs.Common.{◌≡◌, ◌+◌, ◌++◌, drop}
use Rattle.net_base.specs.Normal.{normal_members}
use Rattle.beta_net.specs.Linked.{binders_past_members}
use Rattle.beta_net.proofs.paths.normal_members.Given as goal

abbrev pub invariant-loop-condition : goal.invariant-loop-condition
invariant-loop-condition l = record {
  here : l.here ≡ l.place + l.condition-index;
  members : l.members.items ++ normal_members l.here (drop l.condition-index l.conditions) l.binders.items ≡ normal_members l.place l.conditions l.initial.binders.items;
  past : binders_past_members l.here (drop l.condition-index l.conditions) l.binders.items ≡ binders_past_members l.place l.conditions l.initial.binders.items;
}
