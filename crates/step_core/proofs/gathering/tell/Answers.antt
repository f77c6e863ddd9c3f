-- Each total has the change of fewer than all, and all are reported.
use Rattle.std.proofs.Common.{◌≡◌, ◌<◌, ◌+◌, ◌^◌, [], fold, length, sym, subst, ◌∙◌, arith, List}
use Rattle.std.proofs.lemmas.Iterator.Adapters.{YieldsList-from_vec}
use Rattle.std.proofs.lemmas.Iterator.Consumers.{YieldsList-end, YieldsList-turn}
use Rattle.std.proofs.lemmas.List.{map-id}
use Rattle.step_core.specs.declared.gathering.Gathered.{Gathered}
use Rattle.step_core.specs.declared.gathering.Moved.{Moved}
use Rattle.step_core.specs.inner.Gathering.{AreToldBut, added, has_come, has_gone}
use Rattle.step_core.proofs.Telling.{all_told, chosen, hand_fits, none_told}
use Rattle.step_core.proofs.gathering.tell.Goals as goal
use Rattle.step_core.proofs.gathering.tell.Goals.{in-Some-hand+in_ok-tell_of, in_default}

pub count-requires : goal.count-requires
count-requires c =
    let h = c.into_iter-next-iterator.ensures.into_iter_gives in
    let ms = c.in_order-next-items.result.items in
    let ys = c.loop-next.yielded in
    let t = YieldsList-turn (YieldsList-from_vec {s = c.into_iter-next-iterator.result} ms h.0 (h.1 ∙ c.in_order-next-items.result.ok.0)) ys c.loop-next.next-iterator c.loop-next.yielded_by c.next.result c.next.new.self c.in-Some.next c.in-Some.is c.next.ensures.steps in
    let few : length ys + 1 < 2 ^ 63 = omega (arith, t.0, c.in_order-next-items.result.ok.0, c.in_order-next-items.result.ok.1, c.in_order-next-items.result.small) in
    λ x at. hand_fits ys c.in-Some.next few x c.loop-next.hand c.loop-next.told.come.items c.loop-next.told.gone.items at c.loop-next.invariant

pub returns : goal.returns
returns c =
    let h = c.into_iter-next-iterator.ensures.into_iter_gives in
    let ms = c.in_order-next-items.result.items in
    let ys = c.loop-next.yielded in
    let end = YieldsList-end (YieldsList-from_vec {s = c.into_iter-next-iterator.result} ms h.0 (h.1 ∙ c.in_order-next-items.result.ok.0)) ys c.loop-next.next-iterator c.loop-next.yielded_by c.next.result c.next.new.self c.in-None.is c.next.ensures.steps in
    let all : ys ≡ ms = sym (map-id ys) ∙ end.0 in
    let told = subst (λ (ns : List Moved). AreToldBut (fold added [] ns) c.loop-next.hand c.loop-next.told.come.items c.loop-next.told.gone.items) all c.loop-next.invariant in
    let last : (c.match-hand-2.told.come.items ≡ chosen has_come (fold added [] ms)) × (c.match-hand-2.told.gone.items ≡ chosen has_gone (fold added [] ms)) = elim c.match-hand-2.branch [
      | in-Some-hand+in_ok-tell_of w ↦
          subst (λ (g : Gathered). (g.come.items ≡ chosen has_come (fold added [] ms)) × (g.gone.items ≡ chosen has_gone (fold added [] ms))) (sym w.told-is)
          (all_told (fold added [] ms) c.loop-next.hand w.in-Some-hand.last c.loop-next.told.come.items c.loop-next.told.gone.items w.tell_of.new.told.come.items w.tell_of.new.told.gone.items
          w.in-Some-hand.is told w.in_ok-tell_of.ensures.come w.in_ok-tell_of.ensures.gone)
      | in_default w ↦
          subst (λ (g : Gathered). (g.come.items ≡ chosen has_come (fold added [] ms)) × (g.gone.items ≡ chosen has_gone (fold added [] ms))) (sym w.told-is)
          (none_told (fold added [] ms) c.loop-next.hand c.loop-next.told.come.items c.loop-next.told.gone.items w.in_default.is told)
    ] in
    record {
      sorted = ms;
      same = c.in_order-next-items.ensures.same;
      order = c.in_order-next-items.ensures.order;
      come_is = last.0;
      gone_is = last.1;
    }
