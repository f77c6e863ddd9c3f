-- The steps of a phase from lines at rest to a counter of 0 are a bundle.
use Rattle.std.proofs.Common.{◌≡◌, zero, suc, List, [], ◌∷◌, refl, sym, ap, subst, ◌∙◌, arith, length, map}
use Rattle.std.proofs.lemmas.List.{length-map}
use Rattle.ops_base.specs.declared.elements.Change.{Change}
use Rattle.ops_base.specs.declared.elements.Element.{Element}
use Rattle.work_store.specs.Stored.{Stored, held_of}
use Rattle.net_base.specs.declared.nodes.Node.{Node}
use Rattle.net_base.specs.declared.nodes.Alpha.{Alpha}
use Rattle.net_base.specs.Sound.{IsSound}
use Rattle.step_core.specs.declared.world.World.{World}
use Rattle.step_core.specs.Machine.{Placing, Seen, Steps, Clear, cleared}
use Rattle.step_core.specs.Phases.{HoldJust, sums_over, now, IsBundle}
use Rattle.step_core.specs.Laws.{AreEmpty, IsAtRest, SettleLaw}
use Rattle.step_core.specs.Settling.{PlacedLaw}
use Rattle.step_core.specs.inner.Doing.{entry_of}
use Rattle.step_core.specs.Worlds.{placed, seen, world_of, numbers_of}
use Rattle.serial_engine.specs.Running.{HasRun, Went, IsBundleOf}
use Rattle.serial_engine.proofs.StepLemmas.{same_count}

empty_cleared : (ls : List Seen) → AreEmpty (map cleared ls)
empty_cleared [] i l at = absurd (cc)
empty_cleared (x ∷ xs) zero l at = let e : cleared x ≡ l = cc in ap (λ (y : Seen). y.entries) (sym e)
empty_cleared (x ∷ xs) (suc i) l at = empty_cleared xs i l at

now_cleared : (ls : List Seen) → map now (map cleared ls) ≡ map now ls
now_cleared [] = refl
now_cleared (x ∷ xs) = ap (λ bs. now x ∷ bs) (now_cleared xs)

pub no_items : {X : Type 0} (xs : List X) → length xs ≡ 0 → xs ≡ []
no_items [] e = refl
no_items (x ∷ xs) e = absurd (omega (arith, e))

pub none_in_flight : (w : World) → w.counter ≡ 0 → w.flight.items ≡ []
none_in_flight w quiet = let e = w.counted in no_items w.flight.items (omega (arith, e, quiet))

pub none_is_done : (w : World) → w.counter ≡ 0 → w.done.items ≡ []
none_is_done w quiet = let e = w.counted in no_items w.done.items (omega (arith, e, quiet))

-- where nothing is in flight, and nothing done, the counter is 0
pub counter_none : (w : World) → w.flight.items ≡ [] → (world_of w).done ≡ [] → w.counter ≡ 0
counter_none w flight done =
    let a = w.counted in
    let b = ap length flight in
    let d = sym (length-map w.done.items entry_of) ∙ ap length done in omega (arith, a, b, d)

module _ (alphas : List Alpha) (nodes : List Node) (s : Stored) (sound : IsSound alphas nodes) (old mid : World) (quiet : old.counter ≡ 0)
    (step : Steps (held_of s) alphas nodes (placed (held_of s) nodes (length old.lines.items)) (world_of old) Clear (world_of mid)) where
  abbrev line : Placing
  line = placed (held_of s) nodes (length old.lines.items)

  pub done_stays : (world_of mid).done ≡ []
  done_stays = ap (λ w. w.done) step.1 ∙ ap (map entry_of) (none_is_done old quiet)

  pub flight_stays : mid.flight.items ≡ []
  flight_stays = ap (λ w. w.flight) step.1 ∙ none_in_flight old quiet

  pub at_rest : (wm : List Element) → HoldJust line (sums_over wm alphas nodes) (map now (map seen old.lines.items)) → IsAtRest line (sums_over wm alphas nodes) (world_of mid)
  at_rest wm holds = record {
    counter = ap (λ w. w.counter) step.1 ∙ quiet;
    flight = flight_stays;
    done = done_stays;
    empty = subst AreEmpty (sym (ap (λ w. w.lines) step.1)) (empty_cleared (map seen old.lines.items));
    holds = subst (HoldJust line (sums_over wm alphas nodes)) (sym (ap (λ w. map now w.lines) step.1 ∙ now_cleared (map seen old.lines.items))) holds;
  }

  pub phase_bundle : SettleLaw → PlacedLaw → (new : World) (changes : List Change) → numbers_of mid ≡ numbers_of old → Went alphas nodes s (length mid.lines.items) mid changes new → new.counter ≡ 0 → IsBundleOf alphas nodes s changes old new
  phase_bundle settle_law placed_law new changes same went zero' wm holds =
      let count = same_count old mid same in
      let h : HasRun (held_of s) alphas nodes line (world_of mid) (world_of new) changes = subst (λ n. Went alphas nodes s n mid changes new) count went in
      let long = length-map mid.lines.items seen in
      let some = old.some in
      let at = placed_law (held_of s) alphas nodes (length old.lines.items) sound some in
      subst (λ cs. IsBundle (held_of s) alphas nodes line wm cs (map seen new.lines.items)) h.fed
      (settle_law (held_of s) alphas nodes line wm h.steps (world_of mid) (world_of new) (λ n d t. (let b = at.below n d t in omega (arith, b, count, long))) (at_rest wm holds) h.clear h.run zero')
