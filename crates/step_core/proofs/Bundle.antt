-- A bundle leaves just the tokens over the working memory that its changes make.
use Rattle.std.proofs.Common.{◌≡◌, ℕ, suc, List, [], ◌∷◌, ◌++◌, pos, ◌+ℤ◌, refl, ap, ap₂, subst, ◌∙◌, arith, option_map, map}
use Rattle.std.proofs.lemmas.Int.{ints}
use Rattle.std.proofs.lemmas.Option.{slice_get-map}
use Rattle.std.proofs.lemmas.List.Elements.{recursion_from_All}
use Rattle.ops_base.specs.declared.elements.Element.{Element}
use Rattle.ops_base.specs.declared.elements.Change.{Change}
use Rattle.ops_base.specs.WorkingMemory.{done, Lawful}
use Rattle.net_base.specs.declared.nodes.Node.{Node}
use Rattle.net_base.specs.declared.nodes.Alpha.{Alpha}
use Rattle.net_base.specs.declared.tasks.Side.{Side}
use Rattle.net_base.specs.Sound.{IsSound}
use Rattle.net_base.specs.Tokens.{Elements, Giver, Nothing, Root, Memory, Out}
use Rattle.token_line.specs.declared.line.Entry.{Entry}
use Rattle.token_line.specs.Bags.{Bag, signs, after}
use Rattle.token_line.specs.Lawful.{giver_of}
use Rattle.step_core.specs.Machine.{Placing, KeepsOneLine, Seen, fed_by, fed_by_all}
use Rattle.step_core.specs.Phases.{total, HoldJust, sums_over, tasks_of, children_of, now, before, entries_of, IsBundle}
use Rattle.step_core.specs.Laws.{NamesAdded, put_out}
use Rattle.step_core.proofs.Signs.{signs-append, signs-none, signs-same}
use Rattle.step_core.proofs.Memory.{IsKnown, known_done}
use Rattle.step_core.proofs.Fed.{IsFed, fed_by-fed, fed_is_given}
use Rattle.step_core.proofs.Settled.{over_is_given, settled}
use Rattle.step_core.proofs.Fair.{IsOn, AreFair, after_all, after_all_is}
use Rattle.step_core.proofs.Lines.{all_from, IsLine, AreLines, now_within, total_is, lines_are_fair, hold_just}

-- what the children of fair entries add up to: the change of what the givers put out
children_add : (elements : Elements) (nodes : List Node) (memory : Bag) (es : List Entry) (b : Bag) → AreFair elements nodes memory b es → (n : ℕ) (s : Side) (t : List ℕ)
    → signs n s t (children_of es) +ℤ put_out elements nodes memory b (giver_of nodes n s) n s t ≡ put_out elements nodes memory (after_all b es) (giver_of nodes n s) n s t
children_add elements nodes memory [] b fair n s t = omega (arith, ints)
children_add elements nodes memory (e ∷ es) b fair n s t =
    let h = fair.0 n s t in
    let k = children_add elements nodes memory es (after b e.task) fair.1 n s t in
    let a = signs-append n s t e.children (children_of es) in omega (arith, ints, h, k, a)

-- no task is fed to a side to which working memory does not give
fed-none : (elements : Elements) (alphas : List Alpha) (nodes : List Node) (cs : List Change) (n : ℕ) (s : Side) (t : List ℕ) → (giver_of nodes n s ≡ Memory → ⊥) → signs n s t (fed_by_all elements alphas nodes cs) ≡ pos 0
fed-none elements alphas nodes [] n s t other = refl
fed-none elements alphas nodes (c ∷ cs) n s t other =
    let a = signs-append n s t (fed_by elements alphas nodes c) (fed_by_all elements alphas nodes cs) in
    let b = signs-none n s t (IsFed nodes) (λ x m p q r. other (ap₂ (giver_of nodes) p q ∙ m)) (fed_by elements alphas nodes c) (fed_by-fed elements alphas nodes c) in
    let d = fed-none elements alphas nodes cs n s t other in omega (arith, ints, a, b, d)

module _ (elements : Elements) (alphas : List Alpha) (nodes : List Node) (line : Placing) where
  pub bundle_lines : (wm : List Element) (cs : List Change) (ls : List Seen) → IsBundle elements alphas nodes line wm cs ls → AreLines elements nodes line 0 ls
  bundle_lines wm cs ls bundle = all_from (IsLine elements nodes line) 0 ls (λ i l at. subst (λ j. IsLine elements nodes line j l) (omega arith) (record {
    within = bundle.start.apart i (before l) (slice_get-map before ls i ∙ ap (option_map before) at);
    placed = recursion_from_All (IsOn line i) (tasks_of l.entries) (bundle.phases i l at).placed;
    lawful = (bundle.phases i l at).lawful;
  }))

  -- the fed tasks are what working memory gives more, over any sums
  feed_gives : (last : ℕ) (wm : List Element) (cs : List Change) → IsKnown elements last wm → Lawful wm last cs → NamesAdded elements cs → (b : Bag) (n : ℕ) (s : Side) (t : List ℕ)
      → signs n s t (fed_by_all elements alphas nodes cs) +ℤ put_out elements nodes (sums_over wm alphas nodes) b (giver_of nodes n s) n s t
      ≡ put_out elements nodes (sums_over (done wm cs) alphas nodes) b (giver_of nodes n s) n s t
  feed_gives last wm cs k lawful names b n s t = by_giver (giver_of nodes n s) refl
    where
      by_giver : (g : Giver) → giver_of nodes n s ≡ g
          → signs n s t (fed_by_all elements alphas nodes cs) +ℤ put_out elements nodes (sums_over wm alphas nodes) b g n s t ≡ put_out elements nodes (sums_over (done wm cs) alphas nodes) b g n s t
      by_giver Nothing e = let z = fed-none elements alphas nodes cs n s t (λ c. absurd (cc)) in omega (arith, ints, z)
      by_giver Root e = let z = fed-none elements alphas nodes cs n s t (λ c. absurd (cc)) in omega (arith, ints, z)
      by_giver Memory e = fed_is_given elements alphas nodes last wm cs k lawful names n s t e
      by_giver (Out p) e = let z = fed-none elements alphas nodes cs n s t (λ c. absurd (cc)) in omega (arith, ints, z)

  pub bundle_settles : (sound : IsSound alphas nodes) (one : KeepsOneLine elements nodes line) (last : ℕ) (wm : List Element) (cs : List Change) (ls : List Seen)
      → IsKnown elements last wm → Lawful wm last cs → NamesAdded elements cs → IsBundle elements alphas nodes line wm cs ls
      → HoldJust line (sums_over (done wm cs) alphas nodes) (map now ls)
  bundle_settles sound one last wm cs ls known lawful names bundle =
      hold_just line (sums_over (done wm cs) alphas nodes) (map now ls)
      (λ n s t. end_is n s t ∙ settled elements alphas nodes sound (done wm cs) (known_done elements last wm cs known lawful names).name
      (sums_over (done wm cs) alphas nodes) (after_all (total (map before ls)) (entries_of ls)) (λ n' s' t' e. refl) balance (suc n) n s t (omega arith))
      (now_within elements nodes line 0 ls (bundle_lines wm cs ls bundle))
    where
      end_is : (n : ℕ) (s : Side) (t : List ℕ) → total (map now ls) n s t ≡ after_all (total (map before ls)) (entries_of ls) n s t
      end_is n s t =
          let a = total_is ls n s t in
          let b = after_all_is (total (map before ls)) (entries_of ls) n s t in omega (arith, ints, a, b)

      balance : (n : ℕ) (s : Side) (t : List ℕ)
          → after_all (total (map before ls)) (entries_of ls) n s t
          ≡ put_out elements nodes (sums_over (done wm cs) alphas nodes) (after_all (total (map before ls)) (entries_of ls)) (giver_of nodes n s) n s t
      balance n s t =
          let es = entries_of ls in
          let fair = lines_are_fair elements nodes line one (sums_over wm alphas nodes) 0 ls (total (map before ls)) (bundle_lines wm cs ls bundle) (λ n' s' t' le. refl) in
          let a = after_all_is (total (map before ls)) es n s t in
          let b = signs-same (tasks_of es) (fed_by_all elements alphas nodes cs ++ children_of es) bundle.tasks n s t in
          let c = signs-append n s t (fed_by_all elements alphas nodes cs) (children_of es) in
          let d = children_add elements nodes (sums_over wm alphas nodes) es (total (map before ls)) fair n s t in
          let e = bundle.start.all n s t in
          let f = over_is_given elements alphas nodes sound wm known.name (total (map before ls)) n s t (λ p s' u low. bundle.start.all p s' u) in
          let g = feed_gives last wm cs known lawful names (after_all (total (map before ls)) es) n s t in
          omega (arith, ints, a, b, c, d, e, f, g)
