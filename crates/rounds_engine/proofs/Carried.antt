-- A phase is carried on by rounds, until no task is left.
use Rattle.std.proofs.Common.{◌≡◌, ◌≤◌, ◌-◌, ℕ, List, [], ◌∷◌, ◌++◌, refl, sym, ap, subst, ◌∙◌, arith, length, map, take, drop, sum_by, append-nil}
use Rattle.std.specs.List.{All, AllByRecursion}
use Rattle.std.proofs.lemmas.List.{drop_all, length-map, take_all}
use Rattle.std.proofs.lemmas.List.Sums.{sum_by-append, sum_by-cons}
use Rattle.std.proofs.lemmas.List.Elements.{All-from_recursion, recursion_from_All}
use Rattle.work_store.specs.Stored.{Stored, held_of}
use Rattle.net_base.specs.declared.nodes.Node.{Node}
use Rattle.net_base.specs.declared.nodes.Alpha.{Alpha}
use Rattle.net_base.specs.declared.tasks.Task.{Task}
use Rattle.token_line.specs.Held.{TaskFits}
use Rattle.token_line.specs.declared.line.Line.{Line}
use Rattle.step_core.specs.Phases.{AreSame, entries_of, tasks_of}
use Rattle.step_core.specs.Rounds.{HaveDone, RoundLaw}
use Rattle.step_core.specs.Worlds.{placed, seen}
use Rattle.serial_engine.specs.Carrying.{CarriesOn}
use Rattle.serial_engine.proofs.Carried.{way}

module _ (alphas : List Alpha) (nodes : List Node) (s : Stored) where
  pub by_round : RoundLaw → (old new : List Line) (waiting todo made : List Task) → AreSame waiting todo
      → HaveDone (held_of s) nodes (placed (held_of s) nodes (length old)) 0 (map seen old) (map seen new) todo made → CarriesOn alphas nodes s old waiting new made
  by_round round_law old new waiting todo made same did wm changes on =
      subst (way alphas nodes s (length old) wm changes new) (append-nil made)
      (round_law (held_of s) alphas nodes (placed (held_of s) nodes (length old)) wm changes (map seen old) (map seen new) waiting todo made [] on
      (λ h. same h ∙ ap (sum_by h) (sym (append-nil todo))) did)

  pub by_both : (old mid new : List Line) (a b c : List Task) → length mid ≡ length old → CarriesOn alphas nodes s old a mid b → CarriesOn alphas nodes s mid b new c → CarriesOn alphas nodes s old a new c
  by_both old mid new a b c same first second wm changes on =
      subst (λ n. way alphas nodes s n wm changes new c) same (second wm changes (subst (λ n. way alphas nodes s n wm changes mid b) (sym same) (first wm changes on)))

  -- those that wait, in another order
  pub by_order : (old new : List Line) (waiting dealt rest : List Task) → AreSame waiting dealt → CarriesOn alphas nodes s old dealt new rest → CarriesOn alphas nodes s old waiting new rest
  by_order old new waiting dealt rest same carries wm changes on =
      carries wm changes (record {
        start = on.start;
        phases = on.phases;
        tasks = λ h.
            let a = on.tasks h in
            let b = sum_by-append h (tasks_of (entries_of (map seen old))) waiting in
            let c = sum_by-append h (tasks_of (entries_of (map seen old))) dealt in
            let d = same h in omega (arith, a, b, c, d);
      })

-- ---- tasks below all nodes

pub none_left : (nodes : List Node) (s : Stored) (level : ℕ) (xs : List Task) → length nodes ≤ level → All (TaskFits nodes s) xs → All (λ (x : Task). level ≤ x.node) xs → xs ≡ []
none_left nodes s level [] low fit deep = refl
none_left nodes s level (x ∷ xs) low fit deep =
    let a = (recursion_from_All (TaskFits nodes s) (x ∷ xs) fit).0 in
    let b = (recursion_from_All (λ (y : Task). level ≤ y.node) (x ∷ xs) deep).0 in
    absurd (let c = a.within in omega (arith, b, c, low))

pub same_length : (ls ms : List Line) → map (λ (l : Line). l.number) ms ≡ map (λ (l : Line). l.number) ls → length ms ≡ length ls
same_length ls ms same = sym (length-map ms (λ (l : Line). l.number)) ∙ (ap length same ∙ length-map ls (λ (l : Line). l.number))

-- a vector of which all was lent, and as much came back
pub came_back : (n : ℕ) (old new : List Line) → length new ≡ length old → n ≡ length old → take n (new ++ drop (length new) old) ≡ new
came_back n old new same count =
    ap (λ rest. take n (new ++ rest)) (drop_all (length new) old (omega (arith, same)))
    ∙ (ap (take n) (append-nil new) ∙ take_all n new (omega (arith, same, count)))

-- ---- tasks of a level

-- how far the task's node is above the level
abbrev above : ℕ → Task → ℕ
above level x = level - x.node

none_above : (level : ℕ) (xs : List Task) → AllByRecursion (λ (x : Task). level ≤ x.node) xs → sum_by (above level) xs ≡ 0
none_above level [] all = refl
none_above level (x ∷ xs) all = let here = all.0 in let rest = none_above level xs all.1 in let e = sum_by-cons (above level) x xs in omega (arith, here, rest, e)

all_below : (level : ℕ) (xs : List Task) → sum_by (above level) xs ≡ 0 → AllByRecursion (λ (x : Task). level ≤ x.node) xs
all_below level [] none = tt
all_below level (x ∷ xs) none = let e = sum_by-cons (above level) x xs in (omega (arith, none, e), all_below level xs (omega (arith, none, e)))

-- tasks that are the same, each as often, are of the same level
pub same_level : (level : ℕ) (xs ys : List Task) → AreSame xs ys → All (λ (x : Task). level ≤ x.node) xs → All (λ (x : Task). level ≤ x.node) ys
same_level level xs ys same all =
    All-from_recursion (λ (x : Task). level ≤ x.node) ys
    (all_below level ys (sym (same (above level)) ∙ none_above level xs (recursion_from_All (λ (x : Task). level ≤ x.node) xs all)))
