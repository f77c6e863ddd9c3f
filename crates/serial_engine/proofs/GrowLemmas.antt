-- What stands once the tasks that are due at appended nodes are done, with all that came of them.
use Rattle.std.proofs.Common.{◌≡◌, ℕ, List, [], ◌++◌, arith, length, map, refl, sym, ap, subst, ◌∙◌, Option, Some, None}
use Rattle.std.specs.List.{All}
use Rattle.std.specs.Option.{option_or}
use Rattle.std.proofs.lemmas.List.{length-map}
use Rattle.std.proofs.lemmas.List.Elements.{All-nil}
use Rattle.ops_base.specs.declared.elements.Element.{Element}
use Rattle.ops_base.specs.declared.rules.Inst.{Inst}
use Rattle.ops_base.specs.WorkingMemory.{HasRisingTags}
use Rattle.work_store.specs.Settling.{IsSettled}
use Rattle.work_store.specs.Stored.{IsStored, Stored, held_of, of_tag}
use Rattle.net_base.specs.declared.net.Net.{Net}
use Rattle.net_base.specs.declared.nodes.Node.{Node}
use Rattle.net_base.specs.declared.nodes.Alpha.{Alpha}
use Rattle.net_base.specs.Sound.{IsSound}
use Rattle.token_line.specs.Held.{TaskFits}
use Rattle.activation.specs.Acting.{IsCounted}
use Rattle.step_core.specs.declared.world.World.{World}
use Rattle.step_core.specs.Found.{found_over}
use Rattle.step_core.specs.Laws.{AreEmpty, IsAtRest, NamesWm}
use Rattle.step_core.specs.Machine.{Clear, Seen, Steps}
use Rattle.step_core.specs.Phases.{HoldJust, before, now, sums_over, total}
use Rattle.step_core.specs.Settling.{HaveOwnLines, IsGathered, PlacedLaw, StoreLaw}
use Rattle.step_core.specs.inner.Doing.{entry_of}
use Rattle.step_core.specs.Worlds.{EntryFits, IsReady, joined, numbers_of, placed, seen, world_of}
use Rattle.grow_net.specs.Behind.{IsGrown, StandApart}
use Rattle.grow_laws.specs.Growing.{AreDue, GrowthLaw, HaveGrown, IsGrowing, MoreNodesLaw}
use Rattle.serial_engine.specs.Running.{Went}
use Rattle.serial_engine.proofs.PhaseLemmas.{at_rest, counter_none, none_in_flight, none_is_done}
use Rattle.serial_engine.proofs.StepLemmas.{same_count}

-- ---- what a store names

or_none : (o : Option Element) → o ≡ option_or o None
or_none None = refl
or_none (Some e) = refl

-- a store holds each element that is present under its tag
pub names_own : StoreLaw → (s : Stored) → IsStored s → NamesWm (held_of s) s.elements
names_own store_law s is e has = by (of_tag s.elements e.tag) ((store_law s bare [] is tt (λ tag. or_none (held_of bare tag))).names e has)
  where
    bare : Stored
    bare = record s { kept = [] }

    by : (o : Option Element) → option_or o None ≡ Some e → option_or o (of_tag s.kept e.tag) ≡ Some e
    by None q = absurd (cc)
    by (Some x) q = q

-- ---- the lines over the larger network

-- what is so of lines that have grown, over the alphas and nodes of the larger network
pub record HaveGrownTo (s : Stored) (old_alphas : List Alpha) (old_nodes : List Node) (alphas : List Alpha) (nodes : List Node) (w : World) : Type 0 where
  pub holds : HoldJust (placed (held_of s) nodes (length w.lines.items)) (sums_over s.elements alphas nodes) (map now (map seen w.lines.items))
  pub own_lines : HaveOwnLines (map seen w.lines.items)
  pub settled : (come gone : List Inst) → IsGathered nodes (total (map before (map seen w.lines.items))) (total (map now (map seen w.lines.items))) come gone
      → IsSettled (found_over old_alphas old_nodes s.elements) (found_over alphas nodes s.elements) gone come

-- nothing is pending in lines at rest, so they are ready
ready_at_rest : (nodes : List Node) (s : Stored) (w : World) → w.counter ≡ 0 → All (IsCounted nodes s) w.lines.items → IsReady nodes s w
ready_at_rest nodes s w quiet counted = record {
  flight = subst (All (TaskFits nodes s)) (sym (none_in_flight w quiet)) (All-nil (TaskFits nodes s));
  done = subst (All (EntryFits nodes s)) (sym (ap (map entry_of) (none_is_done w quiet))) (All-nil (EntryFits nodes s));
  lines = counted;
}

-- lines at rest that begin a phase
module _ (net : Net) (s : Stored) (old mid : World) (quiet : old.counter ≡ 0) (old_counted : All (IsCounted net.nodes s) old.lines.items)
    (holds : HoldJust (placed (held_of s) net.nodes (length old.lines.items)) (sums_over s.elements net.alphas net.nodes) (map now (map seen old.lines.items)))
    (step : Steps (held_of s) net.alphas net.nodes (placed (held_of s) net.nodes (length old.lines.items)) (world_of old) Clear (world_of mid))
    (ready : (nodes : List Node) (s : Stored) → IsReady nodes s old → IsReady nodes s mid) (count : length mid.lines.items ≡ length old.lines.items) (law : MoreNodesLaw) where
  abbrev n : ℕ
  n = length old.lines.items

  rest : IsAtRest (placed (held_of s) net.nodes n) (sums_over s.elements net.alphas net.nodes) (world_of mid)
  rest = at_rest net.alphas net.nodes s net.sound old mid quiet step s.elements holds

  pub still_quiet : mid.counter ≡ 0
  still_quiet = rest.counter

  over_more : (chain : List Node) → All (IsCounted (net.nodes ++ chain) s) mid.lines.items
      × HoldJust (placed (held_of s) (net.nodes ++ chain) (length mid.lines.items)) (sums_over s.elements net.alphas net.nodes) (map now (map seen mid.lines.items))
  over_more chain =
      law net.alphas net.nodes chain s.elements s mid.lines.items net.sound rest.empty (ready net.nodes s (ready_at_rest net.nodes s old quiet old_counted)).lines
      (subst (λ m. HoldJust (placed (held_of s) net.nodes m) (sums_over s.elements net.alphas net.nodes) (map now (map seen mid.lines.items))) (sym count) rest.holds)

  -- the lines are counted for the larger network
  pub counted_over : (grown : Net) (more : List Alpha) (chain : List Node) → IsGrown net grown more chain → All (IsCounted grown.nodes s) mid.lines.items
  counted_over grown more chain is = subst (λ ns. All (IsCounted ns s) mid.lines.items) (sym is.nodes_are) (over_more chain).0

  module _ (due new : World) (lines : due.lines.items ≡ mid.lines.items) (parts : world_of due ≡ joined (map seen mid.lines.items) due.flight.items) (numbers : numbers_of new ≡ numbers_of due)
      (flight : new.flight.items ≡ []) (done : (world_of new).done ≡ (world_of due).done) (placed_law : PlacedLaw) (growth_law : GrowthLaw) (rising : HasRisingTags s.elements) (names : NamesWm (held_of s) s.elements) where
    -- nothing is pending any longer
    pub quiet_again : new.counter ≡ 0
    quiet_again = counter_none new flight (done ∙ ap (λ w. w.done) parts)

    -- the tasks that are due over these alphas and nodes lead to lines that have grown
    abbrev Leads : List Alpha → List Node → Type 0
    Leads alphas nodes =
        IsSound alphas nodes → AreDue s.elements alphas nodes (length net.nodes) due.flight.items → Went alphas nodes s (length due.lines.items) due [] new
        → HaveGrownTo s net.alphas net.nodes alphas nodes new

    leads : (more : List Alpha) (chain : List Node) → StandApart net.nodes chain → Leads (net.alphas ++ more) (net.nodes ++ chain)
    leads more chain apart sound is_due went =
        let alphas = net.alphas ++ more in
        let nodes = net.nodes ++ chain in
        let m = length due.lines.items in
        let at = placed_law (held_of s) alphas nodes m sound due.some in
        let long = length-map due.lines.items seen in
        let same : length due.lines.items ≡ length mid.lines.items = ap length lines in
        let growing : IsGrowing (placed (held_of s) nodes m) s.elements net.alphas more net.nodes chain (world_of due) = record {
          due = is_due;
          done = ap (λ w. w.done) parts;
          counter = ap (λ w. w.counter) parts;
          empty = subst AreEmpty (sym (ap (λ w. w.lines) parts)) rest.empty;
          holds =
              subst (λ (ls : List Seen). HoldJust (placed (held_of s) nodes m) (sums_over s.elements net.alphas net.nodes) (map now ls)) (sym (ap (λ w. w.lines) parts))
              (subst (λ k. HoldJust (placed (held_of s) nodes k) (sums_over s.elements net.alphas net.nodes) (map now (map seen mid.lines.items))) (sym same) (over_more chain).1);
        } in
        let have : HaveGrown (placed (held_of s) nodes m) s.elements net.alphas more net.nodes chain (map seen new.lines.items) =
        growth_law (held_of s) net.alphas more net.nodes chain (placed (held_of s) nodes m) s.elements went.steps (world_of due) (world_of new) net.sound sound apart
        at.one_line (λ k d t. (let b = at.below k d t in omega (arith, b, long))) rising names growing went.clear went.fed went.run quiet_again in
        record {
          holds = subst (λ k. HoldJust (placed (held_of s) nodes k) (sums_over s.elements alphas nodes) (map now (map seen new.lines.items))) (sym (same_count due new numbers)) have.holds;
          own_lines = have.own_lines;
          settled = have.settled;
        }

    pub have_grown : (grown : Net) (more : List Alpha) (chain : List Node) → IsGrown net grown more chain → StandApart net.nodes chain → Leads grown.alphas grown.nodes
    have_grown grown more chain is apart =
        subst (λ ns. Leads grown.alphas ns) (sym is.nodes_are) (subst (λ xs. Leads xs (net.nodes ++ chain)) (sym is.alphas_are) (leads more chain apart))
