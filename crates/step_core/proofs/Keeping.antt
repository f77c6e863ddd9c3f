-- What every list of steps keeps.
use Rattle.std.proofs.Common.{◌≡◌, ℕ, ◌+◌, ◌<◌, List, [], ◌∷◌, ◌++◌, sym, ap, ap₂, subst, ◌∙◌, arith, sum_by, length, map, remove, length-append}
use Rattle.std.proofs.lemmas.List.{nil_from_length}
use Rattle.std.proofs.lemmas.List.Sums.{sum_by-append, sum_by-cons}
use Rattle.std.proofs.lemmas.Grind.{flat_map-append}
use Rattle.ops_base.specs.declared.elements.Change.{Change}
use Rattle.net_base.specs.declared.nodes.Node.{Node}
use Rattle.net_base.specs.declared.nodes.Alpha.{Alpha}
use Rattle.net_base.specs.declared.tasks.Side.{Side}
use Rattle.net_base.specs.declared.tasks.Task.{Task}
use Rattle.net_base.specs.Tokens.{Elements}
use Rattle.token_line.specs.declared.line.Entry.{Entry}
use Rattle.step_core.specs.Machine.{Placing, place_of, cleared, add_entry, fed_by, World, Step, Feed, Activate, Finish, Clear, Activates, Finishes, Steps, Run}
use Rattle.step_core.specs.Phases.{tasks_of, children_of, entries_of}
use Rattle.step_core.specs.Laws.{IsTallied}
use Rattle.step_core.proofs.Lines.{AreLines}
use Rattle.step_core.proofs.Adding.{AreLines-add, entries_of-add, length-add, remove_sum, remove_length, tasks_weight, AreLines-clear, no_entries, length-clear}

-- ---- the counter

abbrev pub IsCounted : World → Type 0
IsCounted w = w.counter ≡ length w.flight + length w.done

module _ (elements : Elements) (alphas : List Alpha) (nodes : List Node) (line : Placing) where
  counted_step : (s : Step) (w w' : World) → IsCounted w → Steps elements alphas nodes line w s w' → IsCounted w'
  counted_step (Feed c) w w' k f = subst IsCounted (sym f) (let a = length-append w.flight (fed_by elements alphas nodes c) in omega (arith, a, k))
  counted_step (Activate i) w w' k f =
      subst IsCounted (sym f.becomes)
      (let a = length-append w.done (f.entry ∷ []) in let b = remove_length w.flight i f.entry.task f.task in omega (arith, a, b, k))
  counted_step (Finish j) w w' k f =
      subst IsCounted (sym f.becomes)
      (let a = length-append w.flight f.entry.children in let b = remove_length w.done j f.entry f.was in omega (arith, a, b, k))
  counted_step Clear w w' k f = subst IsCounted (sym f.1) k

  pub counted_run : (ss : List Step) (w w' : World) → IsCounted w → Run elements alphas nodes line w ss w' → IsCounted w'
  counted_run [] w w' k run = subst IsCounted (sym run) k
  counted_run (s ∷ ss) w w' k run = counted_run ss run.0 w' (counted_step s w run.0 k run.1) run.2

pub none_under_way : (w : World) → IsCounted w → w.counter ≡ 0 → (w.flight ≡ []) × (w.done ≡ [])
none_under_way w k z = (nil_from_length w.flight (omega (arith, k, z)), nil_from_length w.done (omega (arith, k, z)))

-- ---- lines and tally

-- `since` is what was fed since the lines were last empty, `finished` the entries that were finished since
pub record Kept (elements : Elements) (nodes : List Node) (line : Placing) (since : List Task) (finished : List Entry) (w : World) : Type 0 where
  pub room : (n : ℕ) (s : Side) (t : List ℕ) → line n s t < length w.lines
  pub counted : IsCounted w
  pub lines : AreLines elements nodes line 0 w.lines
  pub tally : IsTallied since finished w

-- lines without entries, where nothing is under way
pub fresh_tally : (w : World) → entries_of w.lines ≡ [] → IsCounted w → w.counter ≡ 0 → IsTallied [] [] w
fresh_tally w none counted quiet = record {
  entries = λ h. ap (sum_by h) none ∙ sym (ap (sum_by h) (none_under_way w counted quiet).1);
  tasks = λ g. ap₂ (λ (es : List Entry) (xs : List Task). sum_by g (tasks_of es ++ xs)) none (none_under_way w counted quiet).0;
}

module _ (elements : Elements) (alphas : List Alpha) (nodes : List Node) (line : Placing) where
  pub kept_feed : (since : List Task) (finished : List Entry) (w w' : World) (c : Change) → Kept elements nodes line since finished w → Steps elements alphas nodes line w (Feed c) w'
      → Kept elements nodes line (since ++ fed_by elements alphas nodes c) finished w'
  kept_feed since finished w w' c k f = subst (Kept elements nodes line (since ++ xs) finished) (sym f) (record {
    room = k.room;
    counted = subst IsCounted f (counted_step elements alphas nodes line (Feed c) w w' k.counted f);
    lines = k.lines;
    tally = record {
      entries = k.tally.entries;
      tasks = λ g.
          let a = k.tally.tasks g in
          let b = sum_by-append g (tasks_of (entries_of w.lines)) w.flight in
          let d = sum_by-append g (tasks_of (entries_of w.lines)) (w.flight ++ xs) in
          let e = sum_by-append g w.flight xs in
          let h = sum_by-append g since (children_of finished) in
          let i = sum_by-append g (since ++ xs) (children_of finished) in
          let j = sum_by-append g since xs in omega (arith, a, b, d, e, h, i, j);
    };
  })
    where
      xs : List Task
      xs = fed_by elements alphas nodes c

  pub kept_finish : (since : List Task) (finished : List Entry) (w w' : World) (j : ℕ) → Kept elements nodes line since finished w → (f : Finishes w j w')
      → Kept elements nodes line since (finished ++ f.entry ∷ []) w'
  kept_finish since finished w w' j k f = subst (Kept elements nodes line since (finished ++ e ∷ [])) (sym f.becomes) (record {
    room = k.room;
    counted = subst IsCounted f.becomes (counted_step elements alphas nodes line (Finish j) w w' k.counted f);
    lines = k.lines;
    tally = record {
      entries = λ h.
          let a = k.tally.entries h in
          let b = sum_by-append h finished w.done in
          let c = sum_by-append h (finished ++ e ∷ []) (remove w.done j) in
          let d = sum_by-append h finished (e ∷ []) in
          let g = sum_by-cons h e [] in
          let i = remove_sum h w.done j e f.was in omega (arith, a, b, c, d, g, i);
      tasks = λ g.
          let a = k.tally.tasks g in
          let b = sum_by-append g (tasks_of (entries_of w.lines)) w.flight in
          let c = sum_by-append g (tasks_of (entries_of w.lines)) (w.flight ++ e.children) in
          let d = sum_by-append g w.flight e.children in
          let h = sum_by-append g since (children_of finished) in
          let i = sum_by-append g since (children_of (finished ++ e ∷ [])) in
          let l = ap (sum_by g) (flat_map-append (λ (x : Entry). x.children) finished (e ∷ [])) in
          let m = sum_by-append g (children_of finished) (e.children ++ []) in
          let n = sum_by-append g e.children [] in omega (arith, a, b, c, d, h, i, l, m, n);
    };
  })
    where
      e : Entry
      e = f.entry

  pub kept_activate : (since : List Task) (finished : List Entry) (w w' : World) (i : ℕ) → Kept elements nodes line since finished w → Activates elements nodes line w i w'
      → Kept elements nodes line since finished w'
  kept_activate since finished w w' i k f = subst (Kept elements nodes line since finished) (sym f.becomes) (record {
    room = λ n s t. let a = length-add at w.lines e in let b = k.room n s t in omega (arith, a, b);
    counted = subst IsCounted f.becomes (counted_step elements alphas nodes line (Activate i) w w' k.counted f);
    lines = AreLines-add elements nodes line 0 at w.lines e k.lines (omega arith) f.lawful;
    tally = record {
      entries = λ h.
          let a = k.tally.entries h in
          let b = entries_of-add h at w.lines e here in
          let c = sum_by-append h finished w.done in
          let d = sum_by-append h finished (w.done ++ e ∷ []) in
          let g = sum_by-append h w.done (e ∷ []) in
          let m = sum_by-cons h e [] in omega (arith, a, b, c, d, g, m);
      tasks = λ g.
          let a = k.tally.tasks g in
          let b = entries_of-add (λ x. g x.task) at w.lines e here in
          let c = tasks_weight g (entries_of w.lines) in
          let d = tasks_weight g (entries_of (add_entry at e w.lines)) in
          let h = sum_by-append g (tasks_of (entries_of w.lines)) w.flight in
          let m = sum_by-append g (tasks_of (entries_of (add_entry at e w.lines))) (remove w.flight i) in
          let n = remove_sum g w.flight i e.task f.task in omega (arith, a, b, c, d, h, m, n);
    };
  })
    where
      e : Entry
      e = f.entry

      at : ℕ
      at = place_of line f.entry.task

      here : place_of line f.entry.task < length w.lines
      here = k.room f.entry.task.node f.entry.task.side f.entry.task.token

  pub kept_clear : (since : List Task) (finished : List Entry) (w w' : World) → Kept elements nodes line since finished w → Steps elements alphas nodes line w Clear w'
      → Kept elements nodes line [] [] w'
  kept_clear since finished w w' k f = subst (Kept elements nodes line [] []) (sym f.1) (record {
    room = λ n s t. let a = length-clear w.lines in let b = k.room n s t in omega (arith, a, b);
    counted = k.counted;
    lines = AreLines-clear elements nodes line 0 w.lines k.lines;
    tally = fresh_tally (record { lines = map cleared w.lines; flight = w.flight; done = w.done; counter = w.counter }) (no_entries w.lines) k.counted f.0;
  })
