-- A phase that begins is carried on by steps, and by what follows them, to its bundle.
use Rattle.std.proofs.Common.{◌≡◌, ℕ, List, [], ◌++◌, sym, subst, arith, length, map, append-nil, append_assoc}
use Rattle.std.proofs.lemmas.List.{length-map}
use Rattle.ops_base.specs.declared.elements.Change.{Change}
use Rattle.ops_base.specs.declared.elements.Element.{Element}
use Rattle.work_store.specs.Stored.{Stored, held_of}
use Rattle.net_base.specs.declared.nodes.Node.{Node}
use Rattle.net_base.specs.declared.nodes.Alpha.{Alpha}
use Rattle.net_base.specs.declared.tasks.Task.{Task}
use Rattle.net_base.specs.Sound.{IsSound}
use Rattle.token_line.specs.declared.line.Entry.{Entry}
use Rattle.token_line.specs.declared.line.Line.{Line}
use Rattle.step_core.specs.declared.world.World.{World}
use Rattle.step_core.specs.Machine.{Clear, Steps, changes_of}
use Rattle.step_core.specs.Phases.{children_of}
use Rattle.step_core.specs.Rounds.{BeginLaw, EndLaw, IsUnderWay, StepsLaw}
use Rattle.step_core.specs.Settling.{PlacedLaw}
use Rattle.step_core.specs.Worlds.{numbers_of, placed, seen, world_of}
use Rattle.serial_engine.specs.Carrying.{CarriesOn, FeedsOn}
use Rattle.serial_engine.specs.Running.{IsBundleOf, Went}
use Rattle.serial_engine.proofs.PhaseLemmas.{at_rest, flight_stays, none_in_flight}
use Rattle.serial_engine.proofs.StepLemmas.{same_count}

module _ (alphas : List Alpha) (nodes : List Node) (s : Stored) where
  -- a phase of these changes is on its way in these lines, of which there are this many, where these tasks wait
  abbrev pub way : ℕ → List Element → List Change → List Line → List Task → Type 0
  way n wm changes ls waiting = IsUnderWay (held_of s) alphas nodes (placed (held_of s) nodes n) wm changes (map seen ls) waiting

  -- steps that feed changes
  pub by_steps : StepsLaw → PlacedLaw → IsSound alphas nodes → (v w : World) (cs : List Change) → Went alphas nodes s (length v.lines.items) v cs w → (world_of v).done ≡ [] → (world_of w).done ≡ []
      → (wm : List Element) (changes : List Change) → way (length v.lines.items) wm changes v.lines.items v.flight.items → way (length v.lines.items) wm (changes ++ cs) w.lines.items w.flight.items
  by_steps steps_law placed_law sound v w cs went v_done w_done wm changes on =
      let n = length v.lines.items in
      let long = length-map v.lines.items seen in
      let at = placed_law (held_of s) alphas nodes n sound v.some in
      let before = subst (λ (es : List Entry). way n wm changes v.lines.items (v.flight.items ++ children_of es)) (sym v_done) (subst (way n wm changes v.lines.items) (sym (append-nil v.flight.items)) on) in
      let after = steps_law (held_of s) alphas nodes (placed (held_of s) nodes n) wm changes went.steps (world_of v) (world_of w) (λ m d t. (let b = at.below m d t in omega (arith, b, long))) went.clear went.run before in
      subst (λ ds. way n wm (changes ++ ds) w.lines.items w.flight.items) went.fed
      (subst (way n wm (changes ++ changes_of went.steps) w.lines.items) (append-nil w.flight.items)
      (subst (λ (es : List Entry). way n wm (changes ++ changes_of went.steps) w.lines.items (w.flight.items ++ children_of es)) w_done after))

  -- steps that feed none
  pub by_work : StepsLaw → PlacedLaw → IsSound alphas nodes → (v w : World) → Went alphas nodes s (length v.lines.items) v [] w → (world_of v).done ≡ [] → (world_of w).done ≡ []
      → CarriesOn alphas nodes s v.lines.items v.flight.items w.lines.items w.flight.items
  by_work steps_law placed_law sound v w went v_done w_done wm changes on =
      subst (λ cs. way (length v.lines.items) wm cs w.lines.items w.flight.items) (append-nil changes) (by_steps steps_law placed_law sound v w [] went v_done w_done wm changes on)

-- ---- one after another

module _ (alphas : List Alpha) (nodes : List Node) (s : Stored) (a b : List Line) (ts us : List Task) (same : length b ≡ length a) where
  -- changes are fed, and then others
  pub fed_on : (c : List Line) (vs : List Task) (fed more : List Change) → FeedsOn alphas nodes s a ts fed b us → FeedsOn alphas nodes s b us more c vs → FeedsOn alphas nodes s a ts (fed ++ more) c vs
  fed_on c vs fed more first then wm changes on =
      subst (λ ds. way alphas nodes s (length a) wm ds c vs) (append_assoc changes fed more)
      (subst (λ n. way alphas nodes s n wm ((changes ++ fed) ++ more) c vs) same (then wm (changes ++ fed) (subst (λ n. way alphas nodes s n wm (changes ++ fed) b us) (sym same) (first wm changes on))))

  -- changes are fed, and then tasks are done
  pub fed_and_carried : (c : List Line) (vs : List Task) (fed : List Change) → FeedsOn alphas nodes s a ts fed b us → CarriesOn alphas nodes s b us c vs → FeedsOn alphas nodes s a ts fed c vs
  fed_and_carried c vs fed first then wm changes on =
      subst (λ n. way alphas nodes s n wm (changes ++ fed) c vs) same (then wm (changes ++ fed) (subst (λ n. way alphas nodes s n wm (changes ++ fed) b us) (sym same) (first wm changes on)))

  -- tasks are done, and then others
  pub carried_on : (c : List Line) (vs : List Task) → CarriesOn alphas nodes s a ts b us → CarriesOn alphas nodes s b us c vs → CarriesOn alphas nodes s a ts c vs
  carried_on c vs first then wm changes on =
      subst (λ n. way alphas nodes s n wm changes c vs) same (then wm changes (subst (λ n. way alphas nodes s n wm changes b us) (sym same) (first wm changes on)))

-- no change is fed
pub fed_none : (alphas : List Alpha) (nodes : List Node) (s : Stored) (a : List Line) (ts : List Task) → FeedsOn alphas nodes s a ts [] a ts
fed_none alphas nodes s a ts wm changes on = subst (λ cs. way alphas nodes s (length a) wm cs a ts) (sym (append-nil changes)) on

-- ---- a whole phase: changes are fed, tasks done between them, and what is left is carried on to its end

module _ (alphas : List Alpha) (nodes : List Node) (s : Stored) (sound : IsSound alphas nodes) (old mid : World) (quiet : old.counter ≡ 0)
    (step : Steps (held_of s) alphas nodes (placed (held_of s) nodes (length old.lines.items)) (world_of old) Clear (world_of mid)) where
  pub by_turns : BeginLaw → EndLaw → (fed new : World) (changes : List Change)
      → numbers_of mid ≡ numbers_of old → numbers_of fed ≡ numbers_of mid
      → FeedsOn alphas nodes s mid.lines.items mid.flight.items changes fed.lines.items fed.flight.items
      → CarriesOn alphas nodes s fed.lines.items fed.flight.items new.lines.items new.flight.items → new.counter ≡ 0
      → IsBundleOf alphas nodes s changes old new
  by_turns begin_law end_law fed new changes mid_same fed_same feeds carries none wm holds =
      let rest = at_rest alphas nodes s sound old mid quiet step wm holds in
      let n = length old.lines.items in
      let begun = subst (way alphas nodes s n wm [] mid.lines.items) (sym (flight_stays alphas nodes s sound old mid quiet step))
      (begin_law (held_of s) alphas nodes (placed (held_of s) nodes n) wm (map seen mid.lines.items) rest.empty rest.holds) in
      let begun' = subst (λ n. way alphas nodes s n wm [] mid.lines.items mid.flight.items) (sym (same_count old mid mid_same)) begun in
      let all = fed_and_carried alphas nodes s mid.lines.items fed.lines.items mid.flight.items fed.flight.items (same_count mid fed fed_same) new.lines.items new.flight.items changes feeds carries in
      let whole = subst (way alphas nodes s (length mid.lines.items) wm changes new.lines.items) (none_in_flight new none) (all wm [] begun') in
      end_law (held_of s) alphas nodes (placed (held_of s) nodes n) wm changes (map seen new.lines.items)
      (subst (λ n. way alphas nodes s n wm changes new.lines.items []) (same_count old mid mid_same) whole)
