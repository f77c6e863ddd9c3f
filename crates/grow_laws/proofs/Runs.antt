-- Steps that do what is due lead to the tokens of the larger network.
use Rattle.std.proofs.Common.{◌≡◌, ◌≢◌, ℕ, suc, ◌<◌, List, [], ◌∷◌, ◌++◌, ◌+ℤ◌, refl, sym, ap, ap₂, subst, ◌∙◌, arith, option_map, sum_by, length, map, remove, slice_get, Option, Some, None, append-nil}
use Rattle.std.specs.List.{AllByRecursion, Contains}
use Rattle.std.proofs.lemmas.Int.{ints}
use Rattle.std.proofs.lemmas.Grind.{flat_map-append}
use Rattle.std.proofs.lemmas.Option.{slice_get-map, slice_get_within}
use Rattle.ops_base.specs.declared.elements.Element.{Element}
use Rattle.ops_base.specs.declared.rules.Inst.{Inst}
use Rattle.ops_base.specs.WorkingMemory.{HasRisingTags}
use Rattle.ops_base.proofs.Members.{member_from_contains, members_from_each}
use Rattle.net_base.specs.declared.nodes.Node.{Node}
use Rattle.net_base.specs.declared.nodes.Alpha.{Alpha}
use Rattle.net_base.specs.declared.tasks.Side.{Side}
use Rattle.net_base.specs.declared.tasks.Side.TheVariants.{Left}
use Rattle.net_base.specs.declared.tasks.Task.{Task}
use Rattle.net_base.specs.Sound.{IsSound}
use Rattle.net_base.specs.Tokens.{Elements, left_giver, given_in, left_tokens}
use Rattle.token_line.specs.declared.line.Entry.{Entry}
use Rattle.token_line.specs.Bags.{Bag, sign_at, signs, after, standing}
use Rattle.token_line.specs.Lawful.{giver_of}
use Rattle.step_core.specs.Machine.{Placing, place_of, KeepsOneLine, Seen, sums_at, add_entry, World, Step, Feed, Activate, Finish, Clear, Activates, Finishes, Run, changes_of, fed_by_all}
use Rattle.step_core.specs.Phases.{total, HoldJust, sums_over, tasks_of, children_of, now, before, AreLawful}
use Rattle.step_core.specs.Laws.{put_out, IsBalanced, AreEmpty, NoClear}
use Rattle.step_core.specs.Found.{found_over}
use Rattle.step_core.specs.Settling.{Stands, HaveOwnLines}
use Rattle.step_core.proofs.Named.{NameWm}
use Rattle.step_core.proofs.Signs.{signs-append}
use Rattle.step_core.proofs.Fair.{IsOn, IsFair, lawful_is_fair}
use Rattle.step_core.proofs.Lines.{all_from, at_from, IsLine, AreLines, AreWithin, now_within, hold_just}
use Rattle.step_core.proofs.Adding.{bag_ext, total-add, total-at, sums_at-off, remove_signs, remove_children}
use Rattle.step_core.proofs.Keeping.{Kept, none_under_way, kept_finish, kept_activate}
use Rattle.step_core.proofs.Runs.{KeptPhase, kept_phase}
use Rattle.step_core.proofs.Settled.{settled}
use Rattle.step_core.proofs.LawProofs.{empty_entries, empty_before}
use Rattle.step_core.proofs.Terminals.{once_law}
use Rattle.step_core.proofs.Finding.{found_law}
use Rattle.grow_net.proofs.Joined.{get_same}
use Rattle.grow_laws.specs.Growing.{GrowthLaw}
use Rattle.grow_laws.proofs.Balance.{same_some, name_wm, due_balance}

-- ---- the balance of a world, whatever working memory has given

abbrev Balanced : Elements → List Node → Bag → World → Type 0
Balanced elements nodes memory w = IsBalanced elements nodes memory (total (map now w.lines)) (w.flight ++ children_of w.done)

module _ (elements : Elements) (alphas : List Alpha) (nodes : List Node) (line : Placing) (one : KeepsOneLine elements nodes line) (memory : Bag) where
  finish : (w w' : World) (j : ℕ) → Balanced elements nodes memory w → Finishes w j w' → Balanced elements nodes memory w'
  finish w w' j bal f = subst (Balanced elements nodes memory) (sym f.becomes) (λ n s t.
      let a = bal n s t in
      let b = signs-append n s t (w.flight ++ f.entry.children) (children_of (remove w.done j)) in
      let c = signs-append n s t w.flight f.entry.children in
      let d = signs-append n s t w.flight (children_of w.done) in
      let g = remove_children w.done j f.entry f.was n s t in omega (arith, ints, a, b, c, d, g))

  activate : (since : List Task) (finished : List Entry) (w w' : World) (i : ℕ) → Kept elements nodes line since finished w → Balanced elements nodes memory w → Activates elements nodes line w i w'
      → Balanced elements nodes memory w'
  activate since finished w w' i k bal f = subst (Balanced elements nodes memory) (sym f.becomes)
      (subst (λ b. IsBalanced elements nodes memory b (remove w.flight i ++ children_of (w.done ++ e ∷ [])))
      (bag_ext (after (total (map now w.lines)) e.task) (total (map now (add_entry at e w.lines))) (λ n s t. sym (total-add at w.lines e here n s t)))
      (λ n s t. let a = bal n s t in let c = fair n s t in let d = moved n s t in omega (arith, ints, a, c, d)))
    where
      e : Entry
      e = f.entry

      at : ℕ
      at = place_of line f.entry.task

      here : place_of line f.entry.task < length w.lines
      here = k.room f.entry.task.node f.entry.task.side f.entry.task.token

      within : AreWithin line 0 (map now w.lines)
      within = now_within elements nodes line 0 w.lines k.lines

      fair : IsFair elements nodes memory (total (map now w.lines)) f.entry
      fair =
          lawful_is_fair elements nodes line one memory (place_of line f.entry.task) (total (map now w.lines)) (sums_at (place_of line f.entry.task) w.lines) f.entry
          (λ n s t q. total-at line 0 (place_of line f.entry.task) w.lines within n s t (omega arith))
          (λ n s t off. sums_at-off line 0 (place_of line f.entry.task) w.lines within n s t (λ q. off (omega arith)))
          refl f.lawful

      moved : (n : ℕ) (s : Side) (t : List ℕ) → signs n s t (remove w.flight i ++ children_of (w.done ++ f.entry ∷ [])) +ℤ sign_at n s t f.entry.task ≡ signs n s t (w.flight ++ children_of w.done) +ℤ signs n s t f.entry.children
      moved n s t =
          let a = signs-append n s t (remove w.flight i) (children_of (w.done ++ f.entry ∷ [])) in
          let b = ap (signs n s t) (flat_map-append (λ (x : Entry). x.children) w.done (f.entry ∷ [])) in
          let c = signs-append n s t (children_of w.done) (f.entry.children ++ []) in
          let d = signs-append n s t f.entry.children [] in
          let g = signs-append n s t w.flight (children_of w.done) in
          let m = remove_signs w.flight i f.entry.task f.task n s t in omega (arith, ints, a, b, c, d, g, m)

  balanced_run : (ss : List Step) (since : List Task) (finished : List Entry) (w w' : World) → NoClear ss → changes_of ss ≡ [] → Kept elements nodes line since finished w → Balanced elements nodes memory w
      → Run elements alphas nodes line w ss w' → Balanced elements nodes memory w'
  balanced_run [] since finished w w' clear unfed k b run = subst (Balanced elements nodes memory) (sym run) b
  balanced_run (Feed c ∷ ss) since finished w w' clear unfed k b run = absurd (cc)
  balanced_run (Activate i ∷ ss) since finished w w' clear unfed k b run =
      balanced_run ss since finished run.0 w' clear unfed (kept_activate elements alphas nodes line since finished w run.0 i k run.1) (activate since finished w run.0 i k b run.1) run.2
  balanced_run (Finish j ∷ ss) since finished w w' clear unfed k b run =
      balanced_run ss since (finished ++ run.1.entry ∷ []) run.0 w' clear unfed (kept_finish elements alphas nodes line since finished w run.0 j k run.1) (finish w run.0 j b run.1) run.2
  balanced_run (Clear ∷ ss) since finished w w' clear unfed k b run = absurd clear

-- ---- the start

module _ (elements : Elements) (nodes : List Node) (line : Placing) (b : Bag) (w : World) (room : (n : ℕ) (s : Side) (t : List ℕ) → line n s t < length w.lines)
    (empty : AreEmpty w.lines) (holds : HoldJust line b (map now w.lines)) (done : w.done ≡ []) (counter : w.counter ≡ length w.flight) where
  empty_lines : AreLines elements nodes line 0 w.lines
  empty_lines = all_from (IsLine elements nodes line) 0 w.lines (λ i l at. subst (λ j. IsLine elements nodes line j l) (omega arith) (record {
    within = λ n s t off.
        let a = ap (λ es. signs n s t (tasks_of es)) (empty i l at) in
        let z = holds.apart i (now l) (slice_get-map now w.lines i ∙ ap (option_map now) at) n s t off in omega (arith, ints, a, z);
    placed = subst (λ es. AllByRecursion (IsOn line i) (tasks_of es)) (sym (empty i l at)) tt;
    lawful = subst (λ es. AreLawful elements nodes (before l) es) (sym (empty i l at)) tt;
  }))

  kept_start : Kept elements nodes line w.flight [] w
  kept_start = record {
    room = room;
    counted = (let a = ap length done in omega (arith, counter, a));
    lines = empty_lines;
    tally = record {
      entries = λ h. ap (sum_by h) (empty_entries w.lines empty) ∙ sym (ap (sum_by h) done);
      tasks = λ g. ap (λ (es : List Entry). sum_by g (tasks_of es ++ w.flight)) (empty_entries w.lines empty) ∙ sym (ap (sum_by g) (append-nil w.flight));
    };
  }

-- ---- the instantiations of the tokens at terminals, among more nodes

module _ (alphas : List Alpha) (nodes all : List Node) (wm : List Element) (line : Placing) (bags : List Bag) (sound : IsSound alphas nodes) (rise : HasRisingTags wm)
    (hold : HoldJust line (sums_over wm alphas nodes) bags) (are : (n : ℕ) (x : Node) → slice_get nodes n ≡ Some x → slice_get all n ≡ Some x) where
  stands_found : (i : Inst) → Stands all (total bags) i → Contains (found_over alphas nodes wm) i
  stands_found i h = by (slice_get nodes h.n) refl
    where
      a : standing (total bags h.n Left i.tags) ≡ left_tokens wm alphas nodes h.n i.tags
      a = ap standing (hold.all h.n Left i.tags)

      by : (o : Option Node) → slice_get nodes h.n ≡ o → Contains (found_over alphas nodes wm) i
      by None at =
          let z : left_tokens wm alphas nodes h.n i.tags ≡ 0 = ap (λ o. given_in wm alphas nodes left_giver o i.tags) at in
          let s = h.some in absurd (omega (arith, a, z, s))
      by (Some x) at =
          let same = same_some x h.node (sym (are h.n x at) ∙ h.at) in
          let b = (once_law wm alphas nodes sound h.n i.tags).0 in
          let s = h.some in
          ((found_law alphas nodes wm sound rise).0 i).1 (record { n = h.n; node = x; at = at; kind = ap (λ (z : Node). z.kind) same ∙ h.kind; stands = omega (arith, a, b, s) })

  found_stands : (i : Inst) → Contains (found_over alphas nodes wm) i → Stands all (total bags) i
  found_stands i c =
      let f = ((found_law alphas nodes wm sound rise).0 i).0 c in
      let a = ap standing (hold.all f.n Left i.tags) in
      let b = f.stands in record { n = f.n; node = f.node; at = are f.n f.node f.at; kind = f.kind; some = omega (arith, a, b) }

pub growth_law : GrowthLaw
growth_law elements alphas more nodes chain line wm ss w w' sound sound' stand one room rise names growing clear unfed run quiet = record {
  holds = holds;
  own_lines = own;
  settled = λ come gone gathered. record {
    gone_is = λ i. (
      λ c. (let h = (gathered.gone_is i).0 c in (found_old i h.0, λ d. h.1 (new_stands i d))),
      λ h. (gathered.gone_is i).1 (old_stands i h.0, λ s. h.1 (found_new i s)),
    );
    come_is = λ i. (
      λ c. (let h = (gathered.come_is i).0 c in (found_new i h.0, λ d. h.1 (old_stands i d))),
      λ h. (gathered.come_is i).1 (new_stands i h.0, λ s. h.1 (found_old i s)),
    );
    gone_in_order = gathered.gone_in_order;
    come_in_order = gathered.come_in_order;
  };
}
  where
    name : NameWm elements wm
    name = name_wm elements wm names

    memory : Bag
    memory = sums_over wm (alphas ++ more) (nodes ++ chain)

    kept : Kept elements (nodes ++ chain) line w.flight [] w
    kept = kept_start elements (nodes ++ chain) line (sums_over wm alphas nodes) w room growing.empty growing.holds growing.done growing.counter

    start : Balanced elements (nodes ++ chain) (sums_over wm (alphas ++ more) (nodes ++ chain)) w
    start n s t =
        let a = due_balance elements alphas more nodes chain wm sound stand name w.flight growing.due n s t in
        let b = growing.holds.all n s t in
        let same = bag_ext (total (map now w.lines)) (sums_over wm alphas nodes) growing.holds.all in
        let c = ap (λ (x : Bag). put_out elements (nodes ++ chain) (sums_over wm (alphas ++ more) (nodes ++ chain)) x (giver_of (nodes ++ chain) n s) n s t) same in
        let d = ap (λ (es : List Entry). signs n s t (w.flight ++ children_of es)) growing.done in
        let e = signs-append n s t w.flight [] in omega (arith, ints, a, b, c, d, e)

    end : Balanced elements (nodes ++ chain) (sums_over wm (alphas ++ more) (nodes ++ chain)) w'
    end = balanced_run elements (alphas ++ more) (nodes ++ chain) line one (sums_over wm (alphas ++ more) (nodes ++ chain)) ss w.flight [] w w' clear unfed kept start run

    phase : KeptPhase elements (nodes ++ chain) line (w.flight ++ fed_by_all elements (alphas ++ more) (nodes ++ chain) (changes_of ss)) w w'
    phase = kept_phase elements (alphas ++ more) (nodes ++ chain) line ss w.flight [] w w' clear kept run

    balance : (n : ℕ) (s : Side) (t : List ℕ)
        → total (map now w'.lines) n s t ≡ put_out elements (nodes ++ chain) (sums_over wm (alphas ++ more) (nodes ++ chain)) (total (map now w'.lines)) (giver_of (nodes ++ chain) n s) n s t
    balance n s t =
        let none = none_under_way w' phase.kept.counted quiet in
        let a = end n s t in
        let b = ap₂ (λ (xs : List Task) (es : List Entry). signs n s t (xs ++ children_of es)) none.0 none.1 in omega (arith, ints, a, b)

    holds : HoldJust line (sums_over wm (alphas ++ more) (nodes ++ chain)) (map now w'.lines)
    holds =
        hold_just line (sums_over wm (alphas ++ more) (nodes ++ chain)) (map now w'.lines)
        (λ n s t. settled elements (alphas ++ more) (nodes ++ chain) sound' wm name
        (sums_over wm (alphas ++ more) (nodes ++ chain)) (total (map now w'.lines)) (λ n' s' t' e. refl) balance (suc n) n s t (omega arith))
        (now_within elements (nodes ++ chain) line 0 w'.lines phase.kept.lines)

    was : HoldJust line (sums_over wm alphas nodes) (map before w'.lines)
    was = subst (HoldJust line (sums_over wm alphas nodes)) (sym (phase.start ∙ empty_before w.lines growing.empty)) growing.holds

    away : (i j : ℕ) (l : Seen) → slice_get w'.lines i ≡ Some l → j ≢ i → (x : Task) → Contains (tasks_of l.entries) x → line x.node x.side x.token ≢ j
    away i j l at ne x c e =
        let is : IsLine elements (nodes ++ chain) line i l = subst (λ k. IsLine elements (nodes ++ chain) line k l) (omega arith) (at_from (IsLine elements (nodes ++ chain) line) 0 w'.lines phase.kept.lines i l at) in
        let p = members_from_each (IsOn line i) (tasks_of l.entries) is.placed x (member_from_contains x (tasks_of l.entries) c) in
        ne (sym e ∙ p)

    own : HaveOwnLines w'.lines
    own i j l m at at' ne x c = holds.apart j (now m) (slice_get-map now w'.lines j ∙ ap (option_map now) at') x.node x.side x.token (away i j l at ne x c)

    old_are : (n : ℕ) (x : Node) → slice_get nodes n ≡ Some x → slice_get (nodes ++ chain) n ≡ Some x
    old_are n x at = get_same nodes chain n (slice_get_within nodes n x at) ∙ at

    found_old : (i : Inst) → Stands (nodes ++ chain) (total (map before w'.lines)) i → Contains (found_over alphas nodes wm) i
    found_old i h = stands_found alphas nodes (nodes ++ chain) wm line (map before w'.lines) sound rise was old_are i h

    old_stands : (i : Inst) → Contains (found_over alphas nodes wm) i → Stands (nodes ++ chain) (total (map before w'.lines)) i
    old_stands i c = found_stands alphas nodes (nodes ++ chain) wm line (map before w'.lines) sound rise was old_are i c

    found_new : (i : Inst) → Stands (nodes ++ chain) (total (map now w'.lines)) i → Contains (found_over (alphas ++ more) (nodes ++ chain) wm) i
    found_new i h = stands_found (alphas ++ more) (nodes ++ chain) (nodes ++ chain) wm line (map now w'.lines) sound' rise holds (λ n x at. at) i h

    new_stands : (i : Inst) → Contains (found_over (alphas ++ more) (nodes ++ chain) wm) i → Stands (nodes ++ chain) (total (map now w'.lines)) i
    new_stands i c = found_stands (alphas ++ more) (nodes ++ chain) (nodes ++ chain) wm line (map now w'.lines) sound' rise holds (λ n x at. at) i c
