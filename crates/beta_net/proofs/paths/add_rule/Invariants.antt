use Rattle.std.proofs.Common.{◌≤◌, [], length, drop}
use Rattle.net_base.specs.Normal.{normal_parts}
use Rattle.net_base.specs.Shape.{IsIn}
use Rattle.beta_net.specs.Linked.{IsWithin, Grows}
use Rattle.beta_net.proofs.RuleLemmas.{IsDown}
use Rattle.beta_net.proofs.paths.add_rule.Given as goal

abbrev pub invariant-loop-part : goal.invariant-loop-part
invariant-loop-part l = record {
  within : IsWithin l.parent (length l.links.list.items);
  small : l.place ≤ l.part-index;
  down : IsDown l.links.list.items l.parent l.place (drop l.part-index l.parts) l.binders.items (normal_parts 0 l.parts []);
  grows : Grows l.initial.links l.links (IsIn (normal_parts 0 l.parts []));
}
