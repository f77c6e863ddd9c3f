-- The laws of rounds, and of a phase on its way.
use Rattle.std.proofs.Common.{◌≡◌, append_assoc, append-nil, ℕ, zero, suc, ◌+◌, ◌<◌, List, [], ◌∷◌, ◌++◌, length, map, remove, sum_by, refl, sym, ap, subst, ◌∙◌, arith, length-append, slice_get, Some}
use Rattle.std.specs.List.{All}
use Rattle.std.proofs.lemmas.List.{map-append}
use Rattle.std.proofs.lemmas.List.Elements.{All-from_recursion}
use Rattle.std.proofs.lemmas.List.Sums.{sum_by-append, sum_by-cons}
use Rattle.std.proofs.lemmas.Grind.{flat_map-append}
use Rattle.ops_base.specs.declared.elements.Element.{Element}
use Rattle.ops_base.specs.declared.elements.Change.{Change}
use Rattle.net_base.specs.declared.nodes.Node.{Node}
use Rattle.net_base.specs.declared.nodes.Alpha.{Alpha}
use Rattle.net_base.specs.declared.tasks.Side.{Side}
use Rattle.net_base.specs.declared.tasks.Task.{Task}
use Rattle.net_base.specs.Tokens.{Elements}
use Rattle.token_line.specs.Bags.{Bag}
use Rattle.token_line.specs.declared.line.Entry.{Entry}
use Rattle.token_line.specs.Lawful.{IsLawful}
use Rattle.step_core.specs.Machine.{Placing, place_of, Seen, World, Step, Feed, Activate, Finish, Clear, Run, Steps, fed_by, fed_by_all, changes_of, sums_at, add_entry, with_entry}
use Rattle.step_core.specs.Laws.{NoClear}
use Rattle.step_core.specs.Phases.{AreLawful, HoldJust, sums_over, tasks_of, children_of, before, entries_of, IsPhase}
use Rattle.step_core.specs.Rounds.{IsUnderWay, IsKept, BeginLaw, StepsLaw, EndLaw, NoneLaw, OneLaw, ShardLaw, RoundLaw}
use Rattle.step_core.proofs.Adding.{bag_ext, before-push, entry_law, entries_of-add, length-add, remove_sum, tasks_weight, children_weight}
use Rattle.step_core.proofs.LawProofs.{empty_entries, empty_before}

plus_nil : {X : Type 0} (h : X → ℕ) (xs : List X) → sum_by h (xs ++ []) ≡ sum_by h xs
plus_nil h xs = let a = sum_by-append h xs [] in omega (arith, a)

pub none_law : NoneLaw
none_law elements nodes line first ls = record {
  count = refl;
  begins = refl;
  phases = λ k l at. record { was = l; at = at; phase = λ p. p };
  tasks = λ h. sym (plus_nil h (tasks_of (entries_of ls)));
  children = λ h. sym (plus_nil h (children_of (entries_of ls)));
}

-- ---- one entry more

begins_add : (k : ℕ) (ls : List Seen) (e : Entry) → map before (add_entry k e ls) ≡ map before ls
begins_add k [] e = refl
begins_add zero (l ∷ ls) e = ap (λ (b : Bag). b ∷ map before ls) (bag_ext (before (with_entry l e)) (before l) (before-push l e))
begins_add (suc k) (l ∷ ls) e = ap (λ bs. before l ∷ bs) (begins_add k ls e)

-- line j after line k has one entry more
module _ (elements : Elements) (nodes : List Node) (line : Placing) where
  kept_add : (first k : ℕ) (ls : List Seen) (e : Entry) → place_of line e.task ≡ first + k → IsLawful elements nodes (sums_at k ls) e
      → (j : ℕ) (l : Seen) → slice_get (add_entry k e ls) j ≡ Some l → IsKept elements nodes line (first + j) ls j l
  kept_add first k [] e on lawful j l at = absurd (cc)
  kept_add first zero (x ∷ ls) e on lawful zero l at =
      let same : with_entry x e ≡ l = cc in
      record { was = x; at = refl; phase = λ p. subst (IsPhase elements nodes line (first + 0)) same (entry_law elements nodes line (first + 0) x e p on lawful) }
  kept_add first zero (x ∷ ls) e on lawful (suc j) l at = record { was = l; at = at; phase = λ p. p }
  kept_add first (suc k) (x ∷ ls) e on lawful zero l at = record { was = l; at = at; phase = λ p. p }
  kept_add first (suc k) (x ∷ ls) e on lawful (suc j) l at =
      let r = kept_add (suc first) k ls e (on ∙ omega arith) lawful j l at in
      record { was = r.was; at = r.at; phase = subst (λ i. IsPhase elements nodes line i r.was → IsPhase elements nodes line i l) (omega arith) r.phase }

pub one_law : OneLaw
one_law elements nodes line first old mid todo made k e did low on lawful = record {
  count = length-add k mid e ∙ did.count;
  begins = begins_add k mid e ∙ did.begins;
  phases = λ j l at. (
      let r = kept_add elements nodes line first k mid e on lawful j l at in
      let q = did.phases j r.was r.at in
      record { was = q.was; at = q.at; phase = λ p. r.phase (q.phase p) });
  tasks = λ h.
      let a = tasks_weight h (entries_of (add_entry k e mid)) in
      let b = entries_of-add (λ x. h x.task) k mid e low in
      let c = tasks_weight h (entries_of mid) in
      let d = did.tasks h in
      let f = sum_by-append h (tasks_of (entries_of old)) todo in
      let g = sum_by-append h (tasks_of (entries_of old)) (todo ++ e.task ∷ []) in
      let i = sum_by-append h todo (e.task ∷ []) in
      let j = sum_by-cons h e.task [] in omega (arith, a, b, c, d, f, g, i, j);
  children = λ h.
      let a = children_weight h (entries_of (add_entry k e mid)) in
      let b = entries_of-add (λ x. sum_by h x.children) k mid e low in
      let c = children_weight h (entries_of mid) in
      let d = did.children h in
      let f = sum_by-append h (children_of (entries_of old)) made in
      let g = sum_by-append h (children_of (entries_of old)) (made ++ e.children) in
      let i = sum_by-append h made e.children in omega (arith, a, b, c, d, f, g, i);
}

-- ---- two shards

entries_append : (xs ys : List Seen) (h : Entry → ℕ) → sum_by h (entries_of (xs ++ ys)) ≡ sum_by h (entries_of xs) + sum_by h (entries_of ys)
entries_append [] ys h = omega arith
entries_append (l ∷ ls) ys h =
    let a = sum_by-append h l.entries (entries_of (ls ++ ys)) in
    let b = sum_by-append h l.entries (entries_of ls) in
    let r = entries_append ls ys h in omega (arith, a, b, r)

module _ (elements : Elements) (nodes : List Node) (line : Placing) where
  kept_append : (first : ℕ) (xs xs' ys ys' : List Seen) → length xs' ≡ length xs
      → ((k : ℕ) (l : Seen) → slice_get xs' k ≡ Some l → IsKept elements nodes line (first + k) xs k l)
      → ((k : ℕ) (l : Seen) → slice_get ys' k ≡ Some l → IsKept elements nodes line (first + length xs + k) ys k l)
      → (k : ℕ) (l : Seen) → slice_get (xs' ++ ys') k ≡ Some l → IsKept elements nodes line (first + k) (xs ++ ys) k l
  kept_append first [] [] ys ys' e a b k l at =
      let r = b k l at in record { was = r.was; at = r.at; phase = subst (λ i. IsPhase elements nodes line i r.was → IsPhase elements nodes line i l) (omega arith) r.phase }
  kept_append first [] (x' ∷ xs') ys ys' e a b k l at = absurd (omega arith)
  kept_append first (x ∷ xs) [] ys ys' e a b k l at = absurd (omega arith)
  kept_append first (x ∷ xs) (x' ∷ xs') ys ys' e a b zero l at = let r = a zero l at in record { was = r.was; at = r.at; phase = r.phase }
  kept_append first (x ∷ xs) (x' ∷ xs') ys ys' e a b (suc k) l at =
      let r = kept_append (suc first) xs xs' ys ys' (omega arith)
      (λ j m at'. (let q = a (suc j) m at' in record { was = q.was; at = q.at; phase = subst (λ i. IsPhase elements nodes line i q.was → IsPhase elements nodes line i m) (omega arith) q.phase }))
      (λ j m at'. (let q = b j m at' in record { was = q.was; at = q.at; phase = subst (λ i. IsPhase elements nodes line i q.was → IsPhase elements nodes line i m) (omega arith) q.phase }))
      k l at in
      record { was = r.was; at = r.at; phase = subst (λ i. IsPhase elements nodes line i r.was → IsPhase elements nodes line i l) (omega arith) r.phase }

pub shard_law : ShardLaw
shard_law elements nodes line first xs xs' ys ys' a b c d left right = record {
  count = (let p = length-append xs' ys' in let q = length-append xs ys in omega (arith, p, q, left.count, right.count));
  begins = map-append before xs' ys' ∙ (ap (λ bs. bs ++ map before ys') left.begins ∙ (ap (λ bs. map before xs ++ bs) right.begins ∙ sym (map-append before xs ys)));
  phases = kept_append elements nodes line first xs xs' ys ys' left.count left.phases right.phases;
  tasks = λ h.
      let p = tasks_weight h (entries_of (xs' ++ ys')) in
      let q = entries_append xs' ys' (λ x. h x.task) in
      let r = tasks_weight h (entries_of xs') in
      let s = tasks_weight h (entries_of ys') in
      let t = left.tasks h in
      let u = right.tasks h in
      let v = sum_by-append h (tasks_of (entries_of xs)) a in
      let w = sum_by-append h (tasks_of (entries_of ys)) c in
      let x = tasks_weight h (entries_of (xs ++ ys)) in
      let y = entries_append xs ys (λ z. h z.task) in
      let z = tasks_weight h (entries_of xs) in
      let k = tasks_weight h (entries_of ys) in
      let l = sum_by-append h (tasks_of (entries_of (xs ++ ys))) (a ++ c) in
      let m = sum_by-append h a c in omega (arith, p, q, r, s, t, u, v, w, x, y, z, k, l, m);
  children = λ h.
      let p = children_weight h (entries_of (xs' ++ ys')) in
      let q = entries_append xs' ys' (λ x. sum_by h x.children) in
      let r = children_weight h (entries_of xs') in
      let s = children_weight h (entries_of ys') in
      let t = left.children h in
      let u = right.children h in
      let v = sum_by-append h (children_of (entries_of xs)) b in
      let w = sum_by-append h (children_of (entries_of ys)) d in
      let x = children_weight h (entries_of (xs ++ ys)) in
      let y = entries_append xs ys (λ z. sum_by h z.children) in
      let z = children_weight h (entries_of xs) in
      let k = children_weight h (entries_of ys) in
      let l = sum_by-append h (children_of (entries_of (xs ++ ys))) (b ++ d) in
      let m = sum_by-append h b d in omega (arith, p, q, r, s, t, u, v, w, x, y, z, k, l, m);
}

-- ---- a round

pub round_law : RoundLaw
round_law elements alphas nodes line wm changes old new waiting todo made rest way same did = record {
  start = subst (HoldJust line (sums_over wm alphas nodes)) (sym did.begins) way.start;
  phases = λ k l at. (let r = did.phases k l at in subst (λ i. IsPhase elements nodes line i l) (omega arith) (r.phase (subst (λ i. IsPhase elements nodes line i r.was) (omega arith) (way.phases k r.was r.at))));
  tasks = λ h.
      let a = way.tasks h in
      let b = same h in
      let c = did.tasks h in
      let d = did.children h in
      let e = sum_by-append h (tasks_of (entries_of old)) waiting in
      let f = sum_by-append h (tasks_of (entries_of old)) todo in
      let g = sum_by-append h (children_of (entries_of old)) made in
      let i = sum_by-append h (fed_by_all elements alphas nodes changes) (children_of (entries_of old)) in
      let j = sum_by-append h (fed_by_all elements alphas nodes changes) (children_of (entries_of new)) in
      let k = sum_by-append h (tasks_of (entries_of new)) (made ++ rest) in
      let l = sum_by-append h made rest in
      let m = sum_by-append h todo rest in omega (arith, a, b, c, d, e, f, g, i, j, k, l, m);
}

pub end_law : EndLaw
end_law elements alphas nodes line wm changes ls way = record {
  start = way.start;
  phases = way.phases;
  tasks = λ h. sym (plus_nil h (tasks_of (entries_of ls))) ∙ way.tasks h;
}

-- ---- a phase that begins

pub begin_law : BeginLaw
begin_law elements alphas nodes line wm ls empty holds = record {
  start = subst (HoldJust line (sums_over wm alphas nodes)) (sym (empty_before ls empty)) holds;
  phases = λ i l at. record {
    lawful = subst (λ es. AreLawful elements nodes (before l) es) (sym (empty i l at)) tt;
    placed = subst (λ es. All (λ x. place_of line x ≡ i) (tasks_of es)) (sym (empty i l at)) (All-from_recursion (λ x. place_of line x ≡ i) [] tt);
  };
  tasks = λ h. ap (λ (es : List Entry). sum_by h (tasks_of es ++ [])) (empty_entries ls empty) ∙ sym (ap (λ (es : List Entry). sum_by h (children_of es)) (empty_entries ls empty));
}

-- ---- steps

-- what waits in a world
abbrev waits : World → List Task
waits w = w.flight ++ children_of w.done

module _ (elements : Elements) (alphas : List Alpha) (nodes : List Node) (line : Placing) (wm : List Element) where
  way_feed : (changes : List Change) (c : Change) (w w' : World) → Steps elements alphas nodes line w (Feed c) w'
      → IsUnderWay elements alphas nodes line wm changes w.lines (waits w) → IsUnderWay elements alphas nodes line wm (changes ++ c ∷ []) w'.lines (waits w')
  way_feed changes c w w' f way = subst (λ (v : World). IsUnderWay elements alphas nodes line wm (changes ++ c ∷ []) v.lines (waits v)) (sym f) (record {
    start = way.start;
    phases = way.phases;
    tasks = λ h.
        let fed = fed_by elements alphas nodes c in
        let a = way.tasks h in
        let b = sum_by-append h (tasks_of (entries_of w.lines)) (w.flight ++ children_of w.done) in
        let d = sum_by-append h w.flight (children_of w.done) in
        let e = sum_by-append h (tasks_of (entries_of w.lines)) ((w.flight ++ fed) ++ children_of w.done) in
        let g = sum_by-append h (w.flight ++ fed) (children_of w.done) in
        let i = sum_by-append h w.flight fed in
        let j = sum_by-append h (fed_by_all elements alphas nodes changes) (children_of (entries_of w.lines)) in
        let k = sum_by-append h (fed_by_all elements alphas nodes (changes ++ c ∷ [])) (children_of (entries_of w.lines)) in
        let l = ap (sum_by h) (flat_map-append (fed_by elements alphas nodes) changes (c ∷ [])) in
        let m = sum_by-append h (fed_by_all elements alphas nodes changes) (fed ++ []) in
        let n = plus_nil h fed in omega (arith, a, b, d, e, g, i, j, k, l, m, n);
  })

  way_activate : (changes : List Change) (i : ℕ) (w w' : World) → ((n : ℕ) (s : Side) (t : List ℕ) → line n s t < length w.lines) → Steps elements alphas nodes line w (Activate i) w'
      → IsUnderWay elements alphas nodes line wm changes w.lines (waits w) → IsUnderWay elements alphas nodes line wm changes w'.lines (waits w')
  way_activate changes i w w' room f way =
      let k = place_of line f.entry.task in
      let one = one_law elements nodes line 0 w.lines w.lines [] [] k f.entry (none_law elements nodes line 0 w.lines) (room f.entry.task.node f.entry.task.side f.entry.task.token) (omega arith) f.lawful in
      let rest = remove w.flight i ++ children_of w.done in
      let r = round_law elements alphas nodes line wm changes w.lines (add_entry k f.entry w.lines) (w.flight ++ children_of w.done) (f.entry.task ∷ []) f.entry.children rest way
      (λ h.
      let a = sum_by-append h w.flight (children_of w.done) in
      let b = remove_sum h w.flight i f.entry.task f.task in
      let c = sum_by-append h (remove w.flight i) (children_of w.done) in
      let d = sum_by-append h (f.entry.task ∷ []) rest in
      let e = sum_by-cons h f.entry.task [] in omega (arith, a, b, c, d, e))
      one in
      subst (λ (v : World). IsUnderWay elements alphas nodes line wm changes v.lines (waits v)) (sym f.becomes) (record {
        start = r.start;
        phases = r.phases;
        tasks = λ h.
            let entries = tasks_of (entries_of (add_entry k f.entry w.lines)) in
            let a = r.tasks h in
            let b = sum_by-append h entries (f.entry.children ++ rest) in
            let c = sum_by-append h f.entry.children rest in
            let d = sum_by-append h (remove w.flight i) (children_of w.done) in
            let e = sum_by-append h entries (remove w.flight i ++ children_of (w.done ++ f.entry ∷ [])) in
            let g = sum_by-append h (remove w.flight i) (children_of (w.done ++ f.entry ∷ [])) in
            let j = ap (sum_by h) (flat_map-append (λ (x : Entry). x.children) w.done (f.entry ∷ [])) in
            let l = sum_by-append h (children_of w.done) (f.entry.children ++ []) in
            let m = plus_nil h f.entry.children in omega (arith, a, b, c, d, e, g, j, l, m);
      })

  way_finish : (changes : List Change) (j : ℕ) (w w' : World) → Steps elements alphas nodes line w (Finish j) w'
      → IsUnderWay elements alphas nodes line wm changes w.lines (waits w) → IsUnderWay elements alphas nodes line wm changes w'.lines (waits w')
  way_finish changes j w w' f way = subst (λ (v : World). IsUnderWay elements alphas nodes line wm changes v.lines (waits v)) (sym f.becomes) (record {
    start = way.start;
    phases = way.phases;
    tasks = λ h.
        let entries = tasks_of (entries_of w.lines) in
        let a = way.tasks h in
        let b = sum_by-append h entries (w.flight ++ children_of w.done) in
        let c = sum_by-append h w.flight (children_of w.done) in
        let d = sum_by-append h entries ((w.flight ++ f.entry.children) ++ children_of (remove w.done j)) in
        let e = sum_by-append h (w.flight ++ f.entry.children) (children_of (remove w.done j)) in
        let g = sum_by-append h w.flight f.entry.children in
        let i = children_weight h w.done in
        let k = children_weight h (remove w.done j) in
        let l = remove_sum (λ (x : Entry). sum_by h x.children) w.done j f.entry f.was in omega (arith, a, b, c, d, e, g, i, k, l);
  })

  way_steps : (changes : List Change) (ss : List Step) (w w' : World) → ((n : ℕ) (s : Side) (t : List ℕ) → line n s t < length w.lines) → NoClear ss → Run elements alphas nodes line w ss w'
      → IsUnderWay elements alphas nodes line wm changes w.lines (waits w) → IsUnderWay elements alphas nodes line wm (changes ++ changes_of ss) w'.lines (waits w')
  way_steps changes [] w w' room clear run way =
      subst (λ (v : World). IsUnderWay elements alphas nodes line wm (changes ++ []) v.lines (waits v)) (sym run)
      (subst (λ cs. IsUnderWay elements alphas nodes line wm cs w.lines (waits w)) (sym (append-nil changes)) way)
  way_steps changes (Feed c ∷ ss) w w' room clear run way =
      subst (λ cs. IsUnderWay elements alphas nodes line wm cs w'.lines (waits w')) (append_assoc changes (c ∷ []) (changes_of ss))
      (way_steps (changes ++ c ∷ []) ss run.0 w'
      (λ n s t. let a = room n s t in let b = ap (λ (v : World). length v.lines) run.1 in omega (arith, a, b))
      clear run.2 (way_feed changes c w run.0 run.1 way))
  way_steps changes (Activate i ∷ ss) w w' room clear run way =
      way_steps changes ss run.0 w'
      (λ n s t. let a = room n s t in let b = ap (λ (v : World). length v.lines) run.1.becomes in let c = length-add (place_of line run.1.entry.task) w.lines run.1.entry in omega (arith, a, b, c))
      clear run.2 (way_activate changes i w run.0 room run.1 way)
  way_steps changes (Finish j ∷ ss) w w' room clear run way =
      way_steps changes ss run.0 w'
      (λ n s t. let a = room n s t in let b = ap (λ (v : World). length v.lines) run.1.becomes in omega (arith, a, b))
      clear run.2 (way_finish changes j w run.0 run.1 way)
  way_steps changes (Clear ∷ ss) w w' room clear run way = absurd clear

pub steps_law : StepsLaw
steps_law elements alphas nodes line wm changes ss w w' room clear run way = way_steps elements alphas nodes line wm changes ss w w' room clear run way
