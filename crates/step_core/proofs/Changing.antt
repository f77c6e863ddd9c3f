-- What is gathered tells how what is found changed.
use Rattle.std.proofs.Common.{List, ap, arith, map}
use Rattle.std.specs.List.{Contains}
use Rattle.ops_base.specs.declared.elements.Element.{Element}
use Rattle.ops_base.specs.declared.rules.Inst.{Inst}
use Rattle.ops_base.specs.WorkingMemory.{HasRisingTags}
use Rattle.net_base.specs.declared.nodes.Node.{Node}
use Rattle.net_base.specs.declared.nodes.Alpha.{Alpha}
use Rattle.net_base.specs.declared.tasks.Side.TheVariants.{Left}
use Rattle.net_base.specs.Sound.{IsSound}
use Rattle.token_line.specs.Bags.{Bag, standing}
use Rattle.work_store.specs.Settling.{IsSettled}
use Rattle.step_core.specs.Machine.{Placing, Seen}
use Rattle.step_core.specs.Phases.{HoldJust, sums_over, now, before, total}
use Rattle.step_core.proofs.Terminals.{once_law}
use Rattle.step_core.specs.Found.{found_over}
use Rattle.step_core.specs.Settling.{Stands, IsGathered}
use Rattle.step_core.proofs.Finding.{found_law}

module _ (alphas : List Alpha) (nodes : List Node) (sound : IsSound alphas nodes) (wm : List Element) (rise : HasRisingTags wm) (line : Placing) (bags : List Bag) (hold : HoldJust line (sums_over wm alphas nodes) bags) where
  stands_found : (i : Inst) → Stands nodes (total bags) i → Contains (found_over alphas nodes wm) i
  stands_found i h =
      let a = ap standing (hold.all h.n Left i.tags) in
      let b = (once_law wm alphas nodes sound h.n i.tags).0 in
      ((found_law alphas nodes wm sound rise).0 i).1 (record { n = h.n; node = h.node; at = h.at; kind = h.kind; stands = omega (arith, a, b, h.some) })

  found_stands : (i : Inst) → Contains (found_over alphas nodes wm) i → Stands nodes (total bags) i
  found_stands i c =
      let f = ((found_law alphas nodes wm sound rise).0 i).0 c in
      let a = ap standing (hold.all f.n Left i.tags) in
      record { n = f.n; node = f.node; at = f.at; kind = f.kind; some = omega (arith, a, f.stands) }

pub change_law : (alphas : List Alpha) (nodes : List Node) (wm wm' : List Element) (line : Placing) (ls : List Seen) (come gone : List Inst)
    → IsSound alphas nodes → HasRisingTags wm → HasRisingTags wm'
    → HoldJust line (sums_over wm alphas nodes) (map before ls) → HoldJust line (sums_over wm' alphas nodes) (map now ls)
    → IsGathered nodes (total (map before ls)) (total (map now ls)) come gone
    → IsSettled (found_over alphas nodes wm) (found_over alphas nodes wm') gone come
change_law alphas nodes wm wm' line ls come gone sound rise rise' was is gathered = record {
  gone_is = λ i. (
    λ c. (let h = (gathered.gone_is i).0 c in (stands_found alphas nodes sound wm rise line (map before ls) was i h.0, λ d. h.1 (found_stands alphas nodes sound wm' rise' line (map now ls) is i d))),
    λ h. (gathered.gone_is i).1 (found_stands alphas nodes sound wm rise line (map before ls) was i h.0, λ s. h.1 (stands_found alphas nodes sound wm' rise' line (map now ls) is i s)),
  );
  come_is = λ i. (
    λ c. (let h = (gathered.come_is i).0 c in (stands_found alphas nodes sound wm' rise' line (map now ls) is i h.0, λ d. h.1 (found_stands alphas nodes sound wm rise line (map before ls) was i d))),
    λ h. (gathered.come_is i).1 (found_stands alphas nodes sound wm' rise' line (map now ls) is i h.0, λ s. h.1 (stands_found alphas nodes sound wm rise line (map before ls) was i s)),
  );
  gone_in_order = gathered.gone_in_order;
  come_in_order = gathered.come_in_order;
}
