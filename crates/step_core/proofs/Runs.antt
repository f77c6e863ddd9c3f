-- What lists of steps keep, from the start on and from a moment where the lines have no entries.
use Rattle.std.proofs.Common.{◌≡◌, append_assoc, append-nil, ℕ, zero, suc, ◌+◌, ◌*◌, ◌^◌, ◌<◌, ◌≤◌, Bool, true, false, cond, ◌==◌, List, [], ◌∷◌, ◌++◌, pos, ◌+ℤ◌, refl, sym, ap, ap₂, subst, ◌∙◌, arith, length, map, slice_get, Option, Some, None, length-append}
use Rattle.std.proofs.lemmas.Int.{ints}
use Rattle.std.proofs.lemmas.List.{map-append}
use Rattle.std.proofs.lemmas.Grind.{flat_map-append}
use Rattle.std.proofs.lemmas.Bool.Decides.{nat_tests}
use mathlib.Core.Path.{fun_ext}
use Rattle.net_base.specs.declared.nodes.Kind.{Kind}
use Rattle.net_base.specs.declared.nodes.Kind.TheVariants.{Join, Negated, Group, Terminal}
use Rattle.net_base.specs.declared.nodes.Node.{Node}
use Rattle.net_base.specs.declared.nodes.Alpha.{Alpha}
use Rattle.net_base.specs.declared.tasks.Side.{Side}
use Rattle.net_base.specs.declared.tasks.Side.TheVariants.{Left, Right}
use Rattle.net_base.specs.declared.tasks.Task.{Task}
use Rattle.net_base.specs.Sound.{is_join, IsSound}
use Rattle.net_base.specs.Tokens.{Elements, Tokens, Giver, Nothing, Root, Memory, Out, joins_hold, front, last, out_of, giver_of_parent, giver_of_kind}
use Rattle.token_line.specs.declared.line.Entry.{Entry}
use Rattle.token_line.specs.Bags.{standing}
use Rattle.token_line.specs.Lawful.{giver_in, giver_of, out_in, out_at}
use Rattle.step_core.specs.Machine.{Placing, KeepsOneLine, Seen, with_entry, place_of, add_entry, fed_by, fed_by_all, World, Step, Feed, Activate, Finish, Clear, Run, changes_of, root_part, sums_at_start, on_line, lines_at_start, start}
use Rattle.step_core.specs.Phases.{total, now, before, entries_of}
use Rattle.step_core.specs.Laws.{put_out, IsPlaced, AreEmpty, NoClear}
use Rattle.step_core.proofs.Lines.{AllFrom, at_from, total-append, IsLine, AreLines}
use Rattle.step_core.proofs.Local.{out_none}
use Rattle.step_core.proofs.Adding.{bag_ext, before-push}
use Rattle.step_core.proofs.Keeping.{Kept, kept_feed, kept_finish, kept_activate, kept_clear, fresh_tally}
use Rattle.step_core.proofs.Balancing.{IsBalancedAfter, balanced_feed, balanced_finish, balanced_activate, balanced_clear}

-- ---- every list of steps

-- what is kept, and the balance, for some tasks and entries since the lines were last empty
pub record KeptSince (elements : Elements) (nodes : List Node) (line : Placing) (fed : List Task) (w : World) : Type 0 where
  pub since : List Task
  pub finished : List Entry
  pub kept : Kept elements nodes line since finished w
  pub balance : IsBalancedAfter elements nodes fed w

module _ (elements : Elements) (alphas : List Alpha) (nodes : List Node) (line : Placing) (one : KeepsOneLine elements nodes line) where
  pub kept_run : (ss : List Step) (fed since : List Task) (finished : List Entry) (w w' : World) → Kept elements nodes line since finished w → IsBalancedAfter elements nodes fed w → Run elements alphas nodes line w ss w'
      → KeptSince elements nodes line (fed ++ fed_by_all elements alphas nodes (changes_of ss)) w'
  kept_run [] fed since finished w w' k b run = record {
    since = since;
    finished = finished;
    kept = subst (Kept elements nodes line since finished) (sym run) k;
    balance = subst (IsBalancedAfter elements nodes (fed ++ [])) (sym run) (subst (λ f. IsBalancedAfter elements nodes f w) (sym (append-nil fed)) b);
  }
  kept_run (Feed c ∷ ss) fed since finished w w' k b run =
      subst (λ f. KeptSince elements nodes line f w') (append_assoc fed (fed_by elements alphas nodes c) (fed_by_all elements alphas nodes (changes_of ss)))
      (kept_run ss (fed ++ fed_by elements alphas nodes c) (since ++ fed_by elements alphas nodes c) finished run.0 w'
      (kept_feed elements alphas nodes line since finished w run.0 c k run.1) (balanced_feed elements alphas nodes line fed w run.0 c b run.1) run.2)
  kept_run (Activate i ∷ ss) fed since finished w w' k b run =
      kept_run ss fed since finished run.0 w' (kept_activate elements alphas nodes line since finished w run.0 i k run.1) (balanced_activate elements alphas nodes line one fed since finished w run.0 i k b run.1) run.2
  kept_run (Finish j ∷ ss) fed since finished w w' k b run =
      kept_run ss fed since (finished ++ run.1.entry ∷ []) run.0 w' (kept_finish elements alphas nodes line since finished w run.0 j k run.1) (balanced_finish elements alphas nodes line fed w run.0 j b run.1) run.2
  kept_run (Clear ∷ ss) fed since finished w w' k b run =
      kept_run ss fed [] [] run.0 w' (kept_clear elements alphas nodes line since finished w run.0 k run.1) (balanced_clear elements alphas nodes line fed w run.0 b run.1) run.2

-- ---- a list of steps that does not clear the lines

before-add : (i : ℕ) (ls : List Seen) (e : Entry) → map before (add_entry i e ls) ≡ map before ls
before-add i [] e = refl
before-add zero (l ∷ ls) e = ap (λ b. b ∷ map before ls) (bag_ext (before (with_entry l e)) (before l) (before-push l e))
before-add (suc i) (l ∷ ls) e = ap (λ bs. before l ∷ bs) (before-add i ls e)

-- what is kept, for some entries that were finished, and the sums before the phase as they were
pub record KeptPhase (elements : Elements) (nodes : List Node) (line : Placing) (since : List Task) (w w' : World) : Type 0 where
  pub finished : List Entry
  pub kept : Kept elements nodes line since finished w'
  pub start : map before w'.lines ≡ map before w.lines

module _ (elements : Elements) (alphas : List Alpha) (nodes : List Node) (line : Placing) where
  pub kept_phase : (ss : List Step) (since : List Task) (finished : List Entry) (w w' : World) → NoClear ss → Kept elements nodes line since finished w → Run elements alphas nodes line w ss w'
      → KeptPhase elements nodes line (since ++ fed_by_all elements alphas nodes (changes_of ss)) w w'
  kept_phase [] since finished w w' clear k run = record {
    finished = finished;
    kept = subst (Kept elements nodes line (since ++ []) finished) (sym run) (subst (λ f. Kept elements nodes line f finished w) (sym (append-nil since)) k);
    start = ap (λ (v : World). map before v.lines) run;
  }
  kept_phase (Feed c ∷ ss) since finished w w' clear k run =
      let xs = fed_by elements alphas nodes c in
      let r = kept_phase ss (since ++ xs) finished run.0 w' clear (kept_feed elements alphas nodes line since finished w run.0 c k run.1) run.2 in
      record {
        finished = r.finished;
        kept = subst (λ f. Kept elements nodes line f r.finished w') (append_assoc since xs (fed_by_all elements alphas nodes (changes_of ss))) r.kept;
        start = r.start ∙ ap (λ (v : World). map before v.lines) run.1;
      }
  kept_phase (Activate i ∷ ss) since finished w w' clear k run =
      let r = kept_phase ss since finished run.0 w' clear (kept_activate elements alphas nodes line since finished w run.0 i k run.1) run.2 in
      record {
        finished = r.finished;
        kept = r.kept;
        start = r.start ∙ (ap (λ (v : World). map before v.lines) run.1.becomes ∙ before-add (place_of line run.1.entry.task) w.lines run.1.entry);
      }
  kept_phase (Finish j ∷ ss) since finished w w' clear k run =
      let r = kept_phase ss since (finished ++ run.1.entry ∷ []) run.0 w' clear (kept_finish elements alphas nodes line since finished w run.0 j k run.1) run.2 in
      record {
        finished = r.finished;
        kept = r.kept;
        start = r.start ∙ ap (λ (v : World). map before v.lines) run.1.becomes;
      }
  kept_phase (Clear ∷ ss) since finished w w' clear k run = absurd clear

-- ---- the start

AllFrom-append : {X : Type 0} (P : ℕ → X → Type 0) (k : ℕ) (xs ys : List X) → AllFrom P k xs → AllFrom P (k + length xs) ys → AllFrom P k (xs ++ ys)
AllFrom-append P k [] ys a b = subst (λ j. AllFrom P j ys) (omega arith) b
AllFrom-append P k (x ∷ xs) ys a b = (a.0, AllFrom-append P (suc k) xs ys a.1 (subst (λ j. AllFrom P j ys) (omega arith) b))

module _ (nodes : List Node) (line : Placing) where
  start_length : (k : ℕ) → length (lines_at_start nodes line k) ≡ k
  start_length zero = refl
  start_length (suc k) =
      let a = length-append (lines_at_start nodes line k) (record { sums = on_line line k (sums_at_start nodes); entries = [] } ∷ []) in
      let b = start_length k in omega (arith, a, b)

  start_entries : (k : ℕ) → entries_of (lines_at_start nodes line k) ≡ []
  start_entries zero = refl
  start_entries (suc k) =
      flat_map-append (λ (l : Seen). l.entries) (lines_at_start nodes line k) (record { sums = on_line line k (sums_at_start nodes); entries = [] } ∷ []) ∙ ap (λ es. es ++ []) (start_entries k)

  start_empty : (k : ℕ) → AllFrom (λ i (l : Seen). l.entries ≡ []) 0 (lines_at_start nodes line k)
  start_empty zero = tt
  start_empty (suc k) =
      AllFrom-append (λ i (l : Seen). l.entries ≡ []) 0 (lines_at_start nodes line k) (record { sums = on_line line k (sums_at_start nodes); entries = [] } ∷ []) (start_empty k) (refl, tt)

  pub start_are_empty : (k : ℕ) → AreEmpty (lines_at_start nodes line k)
  start_are_empty k i l at = at_from (λ j (m : Seen). m.entries ≡ []) 0 (lines_at_start nodes line k) (start_empty k) i l at

  start_now : (k : ℕ) → map now (lines_at_start nodes line (suc k)) ≡ map now (lines_at_start nodes line k) ++ on_line line k (sums_at_start nodes) ∷ []
  start_now k = map-append now (lines_at_start nodes line k) (record { sums = on_line line k (sums_at_start nodes); entries = [] } ∷ [])

  start_past : (k n : ℕ) (s : Side) (t : List ℕ) → k ≤ line n s t → total (map now (lines_at_start nodes line k)) n s t ≡ pos 0
  start_past zero n s t le = refl
  start_past (suc k) n s t le =
      let below : k ≤ line n s t = omega arith in
      let a = start_past k n s t below in
      let b = ap (λ bs. total bs n s t) (start_now k) in
      let c = total-append (map now (lines_at_start nodes line k)) (on_line line k (sums_at_start nodes) ∷ []) n s t in
      let other : (line n s t == k) ≡ false = grind (arith, nat_tests) in
      let d = ap (λ x. cond x (sums_at_start nodes n s t) (pos 0)) other in omega (arith, ints, a, b, c, d)

  -- each line's own token, once
  start_total : (k n : ℕ) (s : Side) (t : List ℕ) → line n s t < k → total (map now (lines_at_start nodes line k)) n s t ≡ sums_at_start nodes n s t
  start_total zero n s t lt = absurd (omega arith)
  start_total (suc k) n s t lt = by (λ low. start_total k n s t low) (line n s t == k) refl
    where
      b : total (map now (lines_at_start nodes line (suc k))) n s t ≡ total (map now (lines_at_start nodes line k) ++ on_line line k (sums_at_start nodes) ∷ []) n s t
      b = ap (λ bs. total bs n s t) (start_now k)

      c : total (map now (lines_at_start nodes line k) ++ on_line line k (sums_at_start nodes) ∷ []) n s t ≡ total (map now (lines_at_start nodes line k)) n s t +ℤ total (on_line line k (sums_at_start nodes) ∷ []) n s t
      c = total-append (map now (lines_at_start nodes line k)) (on_line line k (sums_at_start nodes) ∷ []) n s t

      by : (line n s t < k → total (map now (lines_at_start nodes line k)) n s t ≡ sums_at_start nodes n s t) → (x : Bool) → (line n s t == k) ≡ x → total (map now (lines_at_start nodes line (suc k))) n s t ≡ sums_at_start nodes n s t
      by ih true e =
          let past : k ≤ line n s t = grind (arith, nat_tests) in
          let a = start_past k n s t past in
          let d = ap (λ x. cond x (sums_at_start nodes n s t) (pos 0)) e in omega (arith, ints, a, b, c, d)
      by ih false e =
          let low : line n s t < k = grind (arith, nat_tests) in
          let a = ih low in
          let d = ap (λ x. cond x (sums_at_start nodes n s t) (pos 0)) e in omega (arith, ints, a, b, c, d)

  start_are_lines : (elements : Elements) (k : ℕ) → AreLines elements nodes line 0 (lines_at_start nodes line k)
  start_are_lines elements zero = tt
  start_are_lines elements (suc k) =
      AllFrom-append (IsLine elements nodes line) 0 (lines_at_start nodes line k) (record { sums = on_line line k (sums_at_start nodes); entries = [] } ∷ []) (start_are_lines elements k) (subst (λ j. IsLine elements nodes line j (record { sums = on_line line k (sums_at_start nodes); entries = [] })) (sym at) own, tt)
    where
      at : 0 + length (lines_at_start nodes line k) ≡ k
      at = let a = start_length k in omega (arith, a)

      own : IsLine elements nodes line k (record { sums = on_line line k (sums_at_start nodes); entries = [] })
      own = record {
        within = λ n s t off.
            let other : (line n s t == k) ≡ false = grind (arith, nat_tests) in
            let d = ap (λ x. cond x (sums_at_start nodes n s t) (pos 0)) other in omega (arith, ints, d);
        placed = tt;
        lawful = tt;
      }

-- a child of the root is a join, and no element has come
start_quiet : (elements : Elements) (alphas : List Alpha) (nodes : List Node) → IsSound alphas nodes → (p : ℕ) (t : List ℕ)
    → out_in elements (slice_get nodes p) (root_part (giver_of nodes p Left)) (root_part (giver_of nodes p Right)) t ≡ 0
start_quiet elements alphas nodes sound p t = by_node (slice_get nodes p) refl
  where
    product : (b : Bool) (l : ℕ) → cond b (l * 0) 0 ≡ 0
    product true l = omega arith
    product false l = refl

    no_join : (x : Node) (l : Tokens) (u : List ℕ) → out_of (2 ^ 64) elements Join x.joins l (λ v. 0) u ≡ 0
    no_join x l [] = refl
    no_join x l (y ∷ ys) = product (joins_hold x.joins elements (front y ys) (last y ys)) (l (front y ys))

    no_right : (k : Kind) → root_part (giver_of_kind k) ≡ (λ u. 0)
    no_right Join = refl
    no_right Negated = refl
    no_right (Group giver width members) = refl
    no_right (Terminal rule) = refl

    by_node : (o : Option Node) → slice_get nodes p ≡ o → out_in elements o (root_part (giver_in o Left)) (root_part (giver_in o Right)) t ≡ 0
    by_node None at = refl
    by_node (Some x) at =
        ap (λ (r : Tokens). out_in elements (Some x) (root_part (giver_of_parent x.parent)) r t) (no_right x.kind) ∙ by_parent x.parent refl
      where
        by_kind : (k : Kind) → is_join k ≡ true → (l : Tokens) → out_of (2 ^ 64) elements k x.joins l (λ u. 0) t ≡ 0
        by_kind Join is l = no_join x l t
        by_kind Negated is l = absurd (cc)
        by_kind (Group giver width members) is l = absurd (cc)
        by_kind (Terminal rule) is l = absurd (cc)

        by_parent : (o : Option ℕ) → x.parent ≡ o → out_in elements (Some x) (root_part (giver_of_parent o)) (λ u. 0) t ≡ 0
        by_parent None e = by_kind x.kind ((sound.each p x at).root e) (root_part Root)
        by_parent (Some q) e = out_none elements (Some x) t

module _ (elements : Elements) (alphas : List Alpha) (nodes : List Node) (line : Placing) (lines : ℕ) (placed : IsPlaced elements alphas nodes line lines) where
  kept_start : Kept elements nodes line [] [] (start nodes line lines)
  kept_start = record {
    room = λ n s t. let a = start_length nodes line lines in let b = placed.below n s t in omega (arith, a, b);
    counted = refl;
    lines = start_are_lines nodes line elements lines;
    tally = fresh_tally (start nodes line lines) (start_entries nodes line lines) refl refl;
  }

  start_out : (p : ℕ) (t : List ℕ) → out_at elements nodes (total (map now (lines_at_start nodes line lines))) p t ≡ 0
  start_out p t =
      ap₂ (λ (l : Tokens) (r : Tokens). out_in elements (slice_get nodes p) l r t)
      (fun_ext (λ u. ap standing (start_total nodes line lines p Left u (placed.below p Left u))))
      (fun_ext (λ u. ap standing (start_total nodes line lines p Right u (placed.below p Right u))))
      ∙ start_quiet elements alphas nodes placed.sound p t

  start_given : (n : ℕ) (s : Side) (t : List ℕ) (g : Giver) → pos (root_part g t) ≡ put_out elements nodes (λ n' s' t'. pos 0) (total (map now (lines_at_start nodes line lines))) g n s t
  start_given n s t Nothing = refl
  start_given n s t Root = refl
  start_given n s t Memory = refl
  start_given n s t (Out p) = ap pos (sym (start_out p t))

  balanced_start : IsBalancedAfter elements nodes [] (start nodes line lines)
  balanced_start n s t =
      let a = start_total nodes line lines n s t (placed.below n s t) in
      let b = start_given n s t (giver_of nodes n s) in omega (arith, ints, a, b)

  -- what is kept from the start on
  pub kept_from_start : (ss : List Step) (w : World) → Run elements alphas nodes line (start nodes line lines) ss w → KeptSince elements nodes line (fed_by_all elements alphas nodes (changes_of ss)) w
  kept_from_start ss w run = kept_run elements alphas nodes line placed.one_line ss [] [] [] (start nodes line lines) w kept_start balanced_start run
