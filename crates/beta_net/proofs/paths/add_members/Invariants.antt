use Rattle.std.proofs.Common.{◌≡◌, ◌+◌, length, drop}
use Rattle.net_base.specs.Normal.{normal_members}
use Rattle.beta_net.specs.Linked.{path_to, IsWithin, Grows, IsMemberAfter, binders_past_members}
use Rattle.beta_net.proofs.RuleLemmas.{MembersDown}
use Rattle.beta_net.proofs.paths.add_members.Given as goal

abbrev pub invariant-loop-condition : goal.invariant-loop-condition
invariant-loop-condition l = record {
  here : l.here ≡ l.place + l.condition-index;
  within : IsWithin l.at (length l.links.list.items);
  down : MembersDown l.links.list.items (path_to l.initial.links.list.items l.fn.parent) (normal_members l.place l.conditions l.initial.binders.items) l.at l.here (drop l.condition-index l.conditions) l.binders.items;
  grows : Grows l.initial.links l.links (IsMemberAfter (path_to l.initial.links.list.items l.fn.parent) (normal_members l.place l.conditions l.initial.binders.items));
  past : binders_past_members l.here (drop l.condition-index l.conditions) l.binders.items ≡ binders_past_members l.place l.conditions l.initial.binders.items;
}
