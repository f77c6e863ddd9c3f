-- One run after another, and the last task in flight.
use Rattle.std.proofs.Common.{inl, inr, ◌≡◌, ℕ, zero, suc, ◌+◌, ◌-◌, ◌<◌, ◌≤◌, List, [], ◌∷◌, ◌++◌, refl, sym, ap, ap₂, subst, ◌∙◌, arith, length, map, take, slice_get, Some}
use Rattle.std.specs.List.{All}
use Rattle.std.proofs.lemmas.Grind.{flat_map-append}
use Rattle.std.proofs.lemmas.List.{take-take, length-take-le}
use Rattle.std.proofs.lemmas.List.Elements.{All-get_or}
use Rattle.std.proofs.lemmas.Option.{slice_get_within, get_or_from_slice_get, slice_get_cases}
use Rattle.std.proofs.lemmas.List.{length-map}
use Rattle.net_base.specs.Sound.{IsSound}
use Rattle.token_line.specs.declared.line.Line.{Line}
use Rattle.token_line.specs.Lawful.{IsChildOf}
use Rattle.work_store.specs.Stored.{Stored, held_of}
use Rattle.step_core.specs.declared.world.World as Code
use Rattle.step_core.specs.Working.{IsWorked, but_last}
use Rattle.step_core.specs.Worlds.{numbers_of, placed, world_of}
use Rattle.ops_base.specs.declared.elements.Change.{Change}
use Rattle.net_base.specs.declared.nodes.Node.{Node}
use Rattle.net_base.specs.declared.nodes.Alpha.{Alpha}
use Rattle.net_base.specs.declared.tasks.Task.{Task}
use Rattle.net_base.specs.Tokens.{Elements}
use Rattle.step_core.specs.Machine.{Placing, World, Step, Feed, Activate, Finish, Clear, Steps, Run, change_in}
use Rattle.step_core.specs.Laws.{NoClear}
use Rattle.step_core.specs.Settling.{ChildLaw}
use Rattle.serial_engine.specs.Running.{HasRun, Went}

module _ (elements : Elements) (alphas : List Alpha) (nodes : List Node) (line : Placing) where
  run_append : (ss ts : List Step) (old mid new : World) → Run elements alphas nodes line old ss mid → Run elements alphas nodes line mid ts new → Run elements alphas nodes line old (ss ++ ts) new
  run_append [] ts old mid new a b = subst (λ w. Run elements alphas nodes line w ts new) a b
  run_append (s ∷ ss) ts old mid new a b = (a.0, a.1, run_append ss ts a.0 mid new a.2 b)

  clear_append : (ss ts : List Step) → NoClear ss → NoClear ts → NoClear (ss ++ ts)
  clear_append [] ts a b = b
  clear_append (Feed c ∷ ss) ts a b = clear_append ss ts a b
  clear_append (Activate i ∷ ss) ts a b = clear_append ss ts a b
  clear_append (Finish j ∷ ss) ts a b = clear_append ss ts a b
  clear_append (Clear ∷ ss) ts a b = absurd a

  pub no_run : (w : World) → HasRun elements alphas nodes line w w []
  no_run w = record { steps = []; run = refl; clear = tt; fed = refl }

  pub run_on : (old mid new : World) (cs ds : List Change) → HasRun elements alphas nodes line old mid cs → HasRun elements alphas nodes line mid new ds → HasRun elements alphas nodes line old new (cs ++ ds)
  run_on old mid new cs ds a b = record {
    steps = a.steps ++ b.steps;
    run = run_append a.steps b.steps old mid new a.run b.run;
    clear = clear_append a.steps b.steps a.clear b.clear;
    fed = flat_map-append change_in a.steps b.steps ∙ ap₂ (λ xs ys. xs ++ ys) a.fed b.fed;
  }

  pub one_feed : (old new : World) (c : Change) → Steps elements alphas nodes line old (Feed c) new → HasRun elements alphas nodes line old new (c ∷ [])
  one_feed old new c step = record { steps = Feed c ∷ []; run = (new, step, refl); clear = tt; fed = refl }

-- ---- the last task

module _ {X : Type 0} (xs : List X) (some : 1 ≤ length xs) where
  pub length_but_last : length (but_last xs) ≡ length xs - 1
  length_but_last = length-take-le (length xs - 1) xs (omega (arith, some))

-- ---- the children that are left

all_at : {X : Type 0} (P : X → Type 0) (xs : List X) (i : ℕ) (x : X) → All P xs → slice_get xs i ≡ Some x → P x
all_at P xs i x all at =
    let lt = slice_get_within xs i x at in
    subst P (get_or_from_slice_get xs i x x at) (All-get_or P xs i x lt all)

get_after : {X : Type 0} (xs ys : List X) (j : ℕ) → slice_get (xs ++ ys) (length xs + j) ≡ slice_get ys j
get_after [] ys j = ap (slice_get ys) (omega arith)
get_after (x ∷ xs) ys j = let e : length (x ∷ xs) + j ≡ suc (length xs + j) = omega arith in ap (slice_get (x ∷ (xs ++ ys))) e ∙ get_after xs ys j

get_taken : {X : Type 0} (m i : ℕ) (xs : List X) → i < m → slice_get (take m xs) i ≡ slice_get xs i
get_taken zero i xs lt = absurd (omega (arith, lt))
get_taken (suc m) i [] lt = refl
get_taken (suc m) zero (x ∷ xs) lt = refl
get_taken (suc m) (suc i) (x ∷ xs) lt = get_taken m i xs (omega (arith, lt))

module _ {X : Type 0} (front after : List X) (m : ℕ) (low : length front < m) (high : m ≤ length (front ++ after)) where
  pub length_left : length (take m (front ++ after)) ≡ m
  length_left = length-take-le m (front ++ after) high

  pub left_but_last : but_last (take m (front ++ after)) ≡ take (m - 1) (front ++ after)
  left_but_last = ap (λ n. take (n - 1) (take m (front ++ after))) length_left ∙ take-take (m - 1) m (front ++ after) (omega arith)

  pub last_left : (P : X → Type 0) → All P after → (x : X) → slice_get (take m (front ++ after)) (length (take m (front ++ after)) - 1) ≡ Some x → P x
  last_left P all x at =
      let i : ℕ = m - 1 - length front in
      let a = ap (λ n. slice_get (take m (front ++ after)) (n - 1)) length_left in
      let b = get_taken m (m - 1) (front ++ after) (omega (arith, low)) in
      let e : m - 1 ≡ length front + i = omega (arith, low) in
      let d = ap (slice_get (front ++ after)) e ∙ get_after front after i in
      all_at P after i x all (sym (sym at ∙ (a ∙ (b ∙ d))))

-- a child is below its task
module _ (child_law : ChildLaw) (alphas : List Alpha) (nodes : List Node) (sound : IsSound alphas nodes) (levels p : ℕ) (x : Task) (child : IsChildOf nodes p x) (deep : length nodes ≤ levels + p) where
  pub child_below : length nodes ≤ levels - 1 + x.node
  child_below = let c = child_law alphas nodes p x sound child in omega (arith, c.0, deep)

  pub some_level : 1 ≤ levels
  some_level = let c = child_law alphas nodes p x sound child in omega (arith, c.0, c.1, deep)

pub same_count : (v w : Code.World) → numbers_of w ≡ numbers_of v → length w.lines.items ≡ length v.lines.items
same_count v w same = sym (length-map w.lines.items (λ (l : Line). l.number)) ∙ (ap length same ∙ length-map v.lines.items (λ (l : Line). l.number))

-- lines with the same numbers are as many
pub same_lines : (ls ms : List Line) → map (λ (l : Line). l.number) ms ≡ map (λ (l : Line). l.number) ls → length ms ≡ length ls
same_lines ls ms same = sym (length-map ms (λ (l : Line). l.number)) ∙ (ap length same ∙ length-map ls (λ (l : Line). l.number))

module _ {X : Type 0} (front after : List X) (m : ℕ) (low : length front < m) (high : m ≤ length (front ++ after)) (ws : List X) (is : ws ≡ take m (front ++ after)) where
  pub some_left : 1 ≤ length ws
  some_left = let e = ap length is ∙ length_left front after m low high in omega (arith, e, low)

  pub one_less : but_last ws ≡ take (m - 1) (front ++ after)
  one_less = ap but_last is ∙ left_but_last front after m low high

  pub last_is : (P : X → Type 0) → All P after → (x : X) → slice_get ws (length ws - 1) ≡ Some x → P x
  last_is P all x at = last_left front after m low high P all x (sym (ap (λ us. slice_get us (length us - 1)) is) ∙ at)

  pub has_last : (x : X) × (slice_get ws (length ws - 1) ≡ Some x)
  has_last = elim (slice_get_cases ws (length ws - 1)).1 [ inl h ↦ (h.0, h.2) | inr h ↦ absurd (let a = some_left in omega (arith, h.0, a)) ]

pub went_on : (alphas : List Alpha) (nodes : List Node) (s : Stored) (old mid new : Code.World) (cs ds : List Change)
    → Went alphas nodes s (length old.lines.items) old cs mid → numbers_of mid ≡ numbers_of old → Went alphas nodes s (length mid.lines.items) mid ds new
    → Went alphas nodes s (length old.lines.items) old (cs ++ ds) new
went_on alphas nodes s old mid new cs ds a same b =
    run_on (held_of s) alphas nodes (placed (held_of s) nodes (length old.lines.items)) (world_of old) (world_of mid) (world_of new) cs ds a
    (subst (λ n. Went alphas nodes s n mid ds new) (same_count old mid same) b)

-- a task that is done and finished at once
pub worked_run : (alphas : List Alpha) (nodes : List Node) (s : Stored) (old new : Code.World) (i : ℕ) (left : List Task) → IsWorked alphas nodes s old i left new
    → Went alphas nodes s (length old.lines.items) old [] new
worked_run alphas nodes s old new i left w = record { steps = Activate i ∷ Finish (length old.done.items) ∷ []; run = w.steps (held_of s) (λ tag e h. h); clear = tt; fed = refl }
