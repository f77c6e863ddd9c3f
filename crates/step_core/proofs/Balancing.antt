-- Each step keeps the balance.
use Rattle.std.proofs.Common.{◌≡◌, ℕ, ◌<◌, List, [], ◌∷◌, ◌++◌, pos, ◌+ℤ◌, refl, sym, ap, ap₂, subst, ◌∙◌, arith, length, map, remove}
use Rattle.std.specs.List.{AllByRecursion}
use Rattle.std.proofs.lemmas.Int.{ints}
use Rattle.std.proofs.lemmas.Grind.{flat_map-append}
use Rattle.ops_base.specs.declared.elements.Change.{Change}
use Rattle.net_base.specs.declared.nodes.Node.{Node}
use Rattle.net_base.specs.declared.nodes.Alpha.{Alpha}
use Rattle.net_base.specs.declared.tasks.Side.{Side}
use Rattle.net_base.specs.declared.tasks.Task.{Task}
use Rattle.net_base.specs.Tokens.{Elements, Giver, Nothing, Root, Memory, Out}
use Rattle.token_line.specs.declared.line.Entry.{Entry}
use Rattle.token_line.specs.Bags.{Bag, sign_at, signs, after}
use Rattle.token_line.specs.Lawful.{giver_of}
use Rattle.step_core.specs.Machine.{Placing, place_of, KeepsOneLine, cleared, sums_at, add_entry, fed_by, World, Feed, Clear, Activates, Finishes, Steps}
use Rattle.step_core.specs.Phases.{total, children_of, now}
use Rattle.step_core.specs.Laws.{put_out, IsBalanced}
use Rattle.step_core.proofs.Signs.{signs-append, signs-none}
use Rattle.step_core.proofs.Fed.{IsFed, fed_by-fed}
use Rattle.step_core.proofs.Fair.{IsFair, lawful_is_fair}
use Rattle.step_core.proofs.Lines.{AreWithin, now_within}
use Rattle.step_core.proofs.Adding.{bag_ext, total-add, total-at, sums_at-off, remove_signs, remove_children, total-clear}
use Rattle.step_core.proofs.Keeping.{Kept}

-- the balance of a world, where `fed` was fed so far
abbrev pub IsBalancedAfter : Elements → List Node → List Task → World → Type 0
IsBalancedAfter elements nodes fed w = IsBalanced elements nodes (λ n s t. signs n s t fed) (total (map now w.lines)) (w.flight ++ children_of w.done)

fed_more : (elements : Elements) (nodes : List Node) (fed xs : List Task) (b : Bag) → AllByRecursion (IsFed nodes) xs → (n : ℕ) (s : Side) (t : List ℕ)
    → put_out elements nodes (λ n' s' t'. signs n' s' t' (fed ++ xs)) b (giver_of nodes n s) n s t ≡ put_out elements nodes (λ n' s' t'. signs n' s' t' fed) b (giver_of nodes n s) n s t +ℤ signs n s t xs
fed_more elements nodes fed xs b of_memory n s t = by_giver (giver_of nodes n s) refl
  where
    none : (giver_of nodes n s ≡ Memory → ⊥) → signs n s t xs ≡ pos 0
    none other = signs-none n s t (IsFed nodes) (λ x c p q r. other (ap₂ (giver_of nodes) p q ∙ c)) xs of_memory

    by_giver : (g : Giver) → giver_of nodes n s ≡ g
        → put_out elements nodes (λ n' s' t'. signs n' s' t' (fed ++ xs)) b g n s t ≡ put_out elements nodes (λ n' s' t'. signs n' s' t' fed) b g n s t +ℤ signs n s t xs
    by_giver Nothing e = let z = none (λ c. absurd (cc)) in omega (arith, ints, z)
    by_giver Root e = let z = none (λ c. absurd (cc)) in omega (arith, ints, z)
    by_giver Memory e = signs-append n s t fed xs
    by_giver (Out p) e = let z = none (λ c. absurd (cc)) in omega (arith, ints, z)

-- an activation: the task leaves the flight, its children come
balanced : (elements : Elements) (nodes : List Node) (memory b : Bag) (pending rest : List Task) (e : Entry) → IsBalanced elements nodes memory b pending → IsFair elements nodes memory b e
    → ((n : ℕ) (s : Side) (t : List ℕ) → signs n s t rest +ℤ sign_at n s t e.task ≡ signs n s t pending +ℤ signs n s t e.children)
    → IsBalanced elements nodes memory (after b e.task) rest
balanced elements nodes memory b pending rest e bal fair moved n s t =
    let a = bal n s t in
    let c = fair n s t in
    let d = moved n s t in omega (arith, ints, a, c, d)

module _ (elements : Elements) (alphas : List Alpha) (nodes : List Node) (line : Placing) where
  pub balanced_feed : (fed : List Task) (w w' : World) (c : Change) → IsBalancedAfter elements nodes fed w → Steps elements alphas nodes line w (Feed c) w'
      → IsBalancedAfter elements nodes (fed ++ fed_by elements alphas nodes c) w'
  balanced_feed fed w w' c bal f = subst (IsBalancedAfter elements nodes (fed ++ xs)) (sym f) (λ n s t.
      let a = bal n s t in
      let b = signs-append n s t (w.flight ++ xs) (children_of w.done) in
      let d = signs-append n s t w.flight xs in
      let e = signs-append n s t w.flight (children_of w.done) in
      let g = fed_more elements nodes fed xs (total (map now w.lines)) (fed_by-fed elements alphas nodes c) n s t in omega (arith, ints, a, b, d, e, g))
    where
      xs : List Task
      xs = fed_by elements alphas nodes c

  pub balanced_finish : (fed : List Task) (w w' : World) (j : ℕ) → IsBalancedAfter elements nodes fed w → Finishes w j w' → IsBalancedAfter elements nodes fed w'
  balanced_finish fed w w' j bal f = subst (IsBalancedAfter elements nodes fed) (sym f.becomes) (λ n s t.
      let a = bal n s t in
      let b = signs-append n s t (w.flight ++ f.entry.children) (children_of (remove w.done j)) in
      let c = signs-append n s t w.flight f.entry.children in
      let d = signs-append n s t w.flight (children_of w.done) in
      let g = remove_children w.done j f.entry f.was n s t in omega (arith, ints, a, b, c, d, g))

  pub balanced_clear : (fed : List Task) (w w' : World) → IsBalancedAfter elements nodes fed w → Steps elements alphas nodes line w Clear w' → IsBalancedAfter elements nodes fed w'
  balanced_clear fed w w' bal f = subst (IsBalancedAfter elements nodes fed) (sym f.1)
      (subst (λ b. IsBalanced elements nodes (λ n s t. signs n s t fed) b (w.flight ++ children_of w.done))
      (bag_ext (total (map now w.lines)) (total (map now (map cleared w.lines))) (λ n s t. sym (total-clear w.lines n s t))) bal)

  pub balanced_activate : KeepsOneLine elements nodes line → (fed since : List Task) (finished : List Entry) (w w' : World) (i : ℕ)
      → Kept elements nodes line since finished w → IsBalancedAfter elements nodes fed w → Activates elements nodes line w i w' → IsBalancedAfter elements nodes fed w'
  balanced_activate one fed since finished w w' i k bal f = subst (IsBalancedAfter elements nodes fed) (sym f.becomes)
      (subst (λ b. IsBalanced elements nodes memory b (remove w.flight i ++ children_of (w.done ++ e ∷ [])))
      (bag_ext (after (total (map now w.lines)) e.task) (total (map now (add_entry at e w.lines))) (λ n s t. sym (total-add at w.lines e here n s t)))
      (balanced elements nodes memory (total (map now w.lines)) (w.flight ++ children_of w.done) (remove w.flight i ++ children_of (w.done ++ e ∷ [])) e bal fair moved))
    where
      e : Entry
      e = f.entry

      memory : Bag
      memory = λ n s t. signs n s t fed

      at : ℕ
      at = place_of line f.entry.task

      here : place_of line f.entry.task < length w.lines
      here = k.room f.entry.task.node f.entry.task.side f.entry.task.token

      within : AreWithin line 0 (map now w.lines)
      within = now_within elements nodes line 0 w.lines k.lines

      fair : IsFair elements nodes (λ n s t. signs n s t fed) (total (map now w.lines)) f.entry
      fair =
          lawful_is_fair elements nodes line one (λ n s t. signs n s t fed) (place_of line f.entry.task) (total (map now w.lines)) (sums_at (place_of line f.entry.task) w.lines) f.entry
          (λ n s t q. total-at line 0 (place_of line f.entry.task) w.lines within n s t (omega arith))
          (λ n s t off. sums_at-off line 0 (place_of line f.entry.task) w.lines within n s t (λ q. off (omega arith)))
          refl f.lawful

      moved : (n : ℕ) (s : Side) (t : List ℕ) → signs n s t (remove w.flight i ++ children_of (w.done ++ f.entry ∷ [])) +ℤ sign_at n s t f.entry.task ≡ signs n s t (w.flight ++ children_of w.done) +ℤ signs n s t f.entry.children
      moved n s t =
          let a = signs-append n s t (remove w.flight i) (children_of (w.done ++ f.entry ∷ [])) in
          let b = ap (signs n s t) (flat_map-append (λ (x : Entry). x.children) w.done (f.entry ∷ [])) in
          let c = signs-append n s t (children_of w.done) (f.entry.children ++ []) in
          let d = signs-append n s t f.entry.children [] in
          let g = signs-append n s t w.flight (children_of w.done) in
          let m = remove_signs w.flight i f.entry.task f.task n s t in omega (arith, ints, a, b, c, d, g, m)
