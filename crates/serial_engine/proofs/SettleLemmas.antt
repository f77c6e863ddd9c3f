-- What stands between the engine before a settle and after it.
use Rattle.std.proofs.Common.{◌≡◌, ◌≤◌, ◌<◌, ◌^◌, ℕ, List, [], ◌∷◌, ◌++◌, arith, length, map, sym, ap, subst}
use Rattle.std.specs.List.{All, AllByRecursion}
use Rattle.std.proofs.lemmas.List.Elements.{All-from_recursion, recursion_from_All}
use Rattle.std.specs.Option.{option_or}
use Rattle.ops_base.specs.declared.elements.Change.{Change}
use Rattle.ops_base.specs.declared.elements.Element.{Element}
use Rattle.ops_base.specs.WorkingMemory.{HasRisingTags, Lawful, done, tags_of}
use Rattle.work_store.specs.Stored.{IsStored, Stored, held_of, of_tag}
use Rattle.net_base.specs.declared.net.Net.{Net}
use Rattle.net_base.specs.Network.{IsWm}
use Rattle.activation.specs.Acting.{IsCounted}
use Rattle.step_core.specs.declared.world.World.{World}
use Rattle.step_core.specs.Phases.{HoldJust, IsBundle, now, sums_over}
use Rattle.step_core.specs.Settling.{HasSettled, HoldsPhase, HoldsWm, RestLaw, SettledLaw}
use Rattle.step_core.specs.Worlds.{numbers_of, placed, seen}
use Rattle.serial_engine.specs.Running.{IsBundleOf}
use Rattle.serial_engine.proofs.StepLemmas.{same_count}

holds_own : (s : Stored) → HoldsWm s.elements s
holds_own s tag e at = ap (λ o. option_or o (of_tag s.kept tag)) at

-- the lines of the old world hold just the tokens over the old store, and the new store holds what the phase looks up
module _ (net : Net) (s s' : Stored) (w : World) (changes : List Change) (phase : HoldsPhase s s' changes) (counted : All (IsCounted net.nodes s) w.lines.items)
    (holds : HoldJust (placed (held_of s) net.nodes (length w.lines.items)) (sums_over s.elements net.alphas net.nodes) (map now (map seen w.lines.items))) where
  pub rests : RestLaw → All (IsCounted net.nodes s') w.lines.items × HoldJust (placed (held_of s') net.nodes (length w.lines.items)) (sums_over s.elements net.alphas net.nodes) (map now (map seen w.lines.items))
  rests rest_law = rest_law net.alphas net.nodes s.elements s s' w.lines.items net.sound w.some (holds_own s) phase.holds counted holds

  module _ (rest_law : RestLaw) (w' : World) (same : numbers_of w' ≡ numbers_of w) (of : IsBundleOf net.alphas net.nodes s' changes w w') where
    pub bundle : IsBundle (held_of s') net.alphas net.nodes (placed (held_of s') net.nodes (length w'.lines.items)) s.elements changes (map seen w'.lines.items)
    bundle =
        subst (λ n. IsBundle (held_of s') net.alphas net.nodes (placed (held_of s') net.nodes n) s.elements changes (map seen w'.lines.items)) (sym (same_count w w' same))
        (of s.elements (rests rest_law).1)

    pub has_settled : SettledLaw → HasRisingTags s.elements → HasRisingTags s'.elements → Lawful s.elements s.last changes → s'.elements ≡ done s.elements changes
        → HasSettled net.alphas net.nodes s s' (length w'.lines.items) (map seen w'.lines.items)
    has_settled settled_law rise rise' lawful is =
        settled_law net.alphas net.nodes s s' changes (length w'.lines.items) (map seen w'.lines.items) net.sound w'.some rise rise' lawful is phase bundle

-- ---- working memory

small_from : (es more : List Element) (last : ℕ) → AllByRecursion (λ t. t ≤ last) (tags_of (es ++ more)) → last < 2 ^ 64 → AllByRecursion (λ e. e.tag < 2 ^ 64) es
small_from [] more last low lt = tt
small_from (e ∷ es) more last low lt = (omega (arith, low.0, lt), small_from es more last low.1 lt)

-- what a store holds is a working memory
pub stored_wm : (s : Stored) → IsStored s → s.last < 2 ^ 64 → IsWm s.elements
stored_wm s is lt = record {
  rising = is.rising;
  small = All-from_recursion (λ e. e.tag < 2 ^ 64) s.elements (small_from s.elements s.kept s.last (recursion_from_All (λ t. t ≤ s.last) (tags_of (s.elements ++ s.kept)) is.below) lt);
}
