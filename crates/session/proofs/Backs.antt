-- What `back` leaves.
use Rattle.std.proofs.Common.{◌≡◌, ◌∙◌, ap, sym, subst, refl, ℕ, zero, suc, ◌-◌, ◌<◌, ◌≤◌, List, [], ◌∷◌, length, map, take, true, cond, Option, Some, None, option_map, unwrap_or, slice_get, nat_lt, arith}
use Rattle.std.proofs.lemmas.Bool.{lt-ltb, le-ltb}
use Rattle.std.proofs.lemmas.Option.{slice_get-map, slice_get_past}
use Rattle.ops_base.specs.declared.endings.Ending.{Ending}
use Rattle.ops_base.specs.declared.rules.Rule.{Rule}
use Rattle.ops_base.specs.Names.{Spellings}
use Rattle.ops_base.specs.WorkingMemory.{Lawful, last_after}
use Rattle.ops_base.specs.declared.elements.Change.{Change}
use Rattle.ops_io.specs.Coming.{Coming}
use Rattle.ops_meaning.specs.Effects.{Effect, writes}
use Rattle.ops_meaning.specs.Kept.{KeepsNames}
use Rattle.ops_meaning.specs.Layout.{kept_line}
use Rattle.ops_meaning.specs.Running.{Course, Earlier, Session as Meant, back_given, gone_back_to, lists, restored, states_kept}
use Rattle.ops_meaning.specs.Running as run
use Rattle.cycle.specs.States.{Held, alone, no_names, no_input, state_course}
use Rattle.live_rules.specs.Moves.{Places}
use Rattle.work_store.specs.Stored.{Stored}
use Rattle.back_trail.specs.Trails.{Trailed, Earlier as Kept, gone_back, names_at, taken_back, AreMarkedIn, AreNamedFrom}
use Rattle.session.specs.Courses.{IsFollowed, IsOf, meant_by, with_moved, with_pending}
use Rattle.session.specs.Trailing.{IsTrailOf, IsUndoable, standing_of, earlier_by, meant_with, states_of, trail_by}
use Rattle.session.specs.declared.session.Session.{Session}
use Rattle.session.specs.declared.undoable.Undoable.{Undoable}
use Rattle.session.proofs.Points.{taken_long, before_means, got_some, keeps_at, map_long, named_before, within_names}
use Rattle.session.proofs.Trailed.{trailed}

-- the states that are kept are as many as the trail has
pub kept_long : (names : Spellings) (trail : Option Trailed) → length (unwrap_or (trail_by names trail) []) ≡ length (states_of trail)
kept_long names None = refl
kept_long names (Some t) = map_long (earlier_by names) t.states

-- fewer are kept
pub few_given : (column count : ℕ) (k : Meant) (kept : ℕ) → length (states_kept k) ≡ kept → kept < count → back_given column count k ≡ lists column (kept_line kept ∷ []) k
few_given column count k kept is few =
    ap (λ n. cond (nat_lt n count) (lists column (kept_line n ∷ []) k) (writes [] (gone_back_to (n - count) k))) is
    ∙ ap (λ b. cond b (lists column (kept_line kept ∷ []) k) (writes [] (gone_back_to (kept - count) k))) (lt-ltb kept count few)

-- none is to be undone
pub none_given : (column : ℕ) (k : Meant) → back_given column 0 k ≡ writes [] k
none_given column k =
    let n = length (states_kept k) in
    let place : n - 0 ≡ n = omega arith in
    ap (λ b. cond b (lists column (kept_line n ∷ []) k) (writes [] (gone_back_to (n - 0) k))) (le-ltb n 0 (omega arith))
    ∙ ap (λ o. let e : Effect Ending Meant = writes [] (unwrap_or (option_map (restored (n - 0) k) o) k) in e) (ap (slice_get (states_kept k)) place ∙ slice_get_past (states_kept k) n (omega arith))

-- so many are
pub some_given : (column count : ℕ) (k : Meant) (x : Earlier) → count ≤ length (states_kept k) → slice_get (states_kept k) (length (states_kept k) - count) ≡ Some x → back_given column count k ≡ writes [] (restored (length (states_kept k) - count) k x)
some_given column count k x enough there =
    let n = length (states_kept k) in
    ap (λ b. cond b (lists column (kept_line n ∷ []) k) (writes [] (gone_back_to (n - count) k))) (le-ltb n count enough)
    ∙ ap (λ o. let e : Effect Ending Meant = writes [] (unwrap_or (option_map (restored (n - count) k) o) k) in e) there

-- the earliest of the last so many is there
pub earliest : (states : List Kept) (n : ℕ) → 0 < n → n ≤ length states → (e : Kept) × (slice_get states (length states - n) ≡ Some e)
earliest states n some enough = got_some states (length states - n) (omega (arith, some, enough))

marked_before : (rules : List Rule) (i : ℕ) (states : List Kept) → AreMarkedIn rules states → AreMarkedIn rules (take i states)
marked_before rules zero states h = tt
marked_before rules (suc i) [] h = tt
marked_before rules (suc i) (e ∷ states) h = (h.0, marked_before rules i states h.1)

module _ {M H : Type 0} (stored : M → Stored) (stands_for : M → List Rule → Type 0) (rules : List Rule) (before now : Session M H) (trail gone : Trailed) (names new : Spellings) (n : ℕ) (e : Kept)
    (some : 0 < n) (enough : n ≤ length trail.states) (there : slice_get trail.states (length trail.states - n) ≡ Some e) (are : AreNamedFrom 1 names trail.states)
    (same : (z : Coming) → meant_by stored rules now names z ≡ meant_by stored rules before names z) (none : now.pending ≡ []) (current : now.moved ≡ None)
    (h : Held M) (course : (m : Spellings) (z : Coming) → state_course stored h m z ≡ gone_back e (state_course stored now.state m z)) (named : new ≡ names_at e.point names) (left : gone ≡ taken_back n e trail) (tag : ℕ) where
  abbrev at : ℕ
  at = length trail.states - n

  abbrev pub back : Session M H
  back = record now { state = h; last_tag = tag; ran = true }

  abbrev pub back_with : Undoable M H
  back_with = record { session = back; trail = Some gone }

  abbrev come_to : Course → Option (List Earlier) → Meant
  come_to m t = record { course = m; rules = rules; watch = now.watch; breaks = now.breaks; trail = t }

  left_states : map (earlier_by new) gone.states ≡ take at (map (earlier_by names) trail.states)
  left_states =
      ap (λ (t : Trailed). map (earlier_by new) t.states) left ∙ before_means 1 names new trail.states at e are there named

  pub back_meant : (z : Coming) → restored at (meant_with stored rules (record { session = before; trail = Some trail }) names z) (earlier_by names e) ≡ meant_with stored rules back_with new z
  back_meant z =
      let x = earlier_by names e in
      let states = map (earlier_by names) trail.states in
      ap (λ k. restored at (trailed (Some states) k) x) (sym (same z))
      ∙ ap (λ moved. come_to (run.gone_back x (with_pending now.pending (with_moved moved (state_course stored now.state names z)))) (Some (take at states))) current
      ∙ ap (λ cs. come_to (run.gone_back x (with_pending cs (state_course stored now.state names z))) (Some (take at states))) none
      ∙ ap (λ m. come_to (gone_back e (state_course stored now.state m z)) (Some (take at states))) (sym named)
      ∙ ap (λ m. come_to m (Some (take at states))) (sym (course new z))
      ∙ ap (λ cs. come_to (with_pending cs (state_course stored h new z)) (Some (take at states))) (sym none)
      ∙ ap (λ moved. come_to (with_pending now.pending (with_moved moved (state_course stored h new z))) (Some (take at states))) (sym current)
      ∙ ap (λ ss. come_to (with_pending now.pending (with_moved now.moved (state_course stored h new z))) (Some ss)) (sym left_states)

  pub back_effect : (column : ℕ) (z : Coming) → back_given column n (meant_with stored rules (record { session = before; trail = Some trail }) names z) ≡ writes [] (meant_with stored rules back_with new z)
  back_effect column z =
      let k = meant_with stored rules (record { session = before; trail = Some trail }) names z in
      let long = map_long (earlier_by names) trail.states in
      let place : length (states_kept k) - n ≡ at = ap (λ m. m - n) long in
      some_given column n k (earlier_by names e) (omega (arith, long, enough)) (ap (slice_get (states_kept k)) place ∙ slice_get-map (earlier_by names) trail.states at ∙ ap (option_map (earlier_by names)) there)
      ∙ ap (λ i. let f : Effect Ending Meant = writes [] (restored i k (earlier_by names e)) in f) place
      ∙ ap (λ j. let f : Effect Ending Meant = writes [] j in f) (back_meant z)

  pub back_undoable : IsOf stands_for rules h → tag ≡ (stored h.matcher).last → AreMarkedIn rules trail.states → IsUndoable stored stands_for rules back_with
  back_undoable of last marked = record {
    under_way = record {
      state = let P : Option Places → Type 0 = λ o. IsFollowed stands_for rules o h in subst P (sym current) of;
      unmarked = λ ran. absurd (cc);
      none_waits = λ _. none;
      lawful = let P : List Change → Type 0 = Lawful (alone stored h).wm (alone stored h).last in subst P (sym none) tt;
      last = last ∙ ap (last_after (alone stored h).last) (sym none);
    };
    trail = subst (λ (t : Trailed). IsTrailOf rules (with_pending now.pending (with_moved now.moved (state_course stored h no_names no_input))) (Some t)) (sym left) (
      λ s is. (let one : e.standing ≡ s = cc in
          sym one
          ∙ ap (λ (m : Course). standing_of m) (sym (course no_names no_input))
          ∙ ap (λ cs. standing_of (with_pending cs (state_course stored h no_names no_input))) (sym none)
          ∙ ap (λ moved. standing_of (with_pending now.pending (with_moved moved (state_course stored h no_names no_input)))) (sym current)),
      marked_before rules at trail.states marked,
    );
  }

  names_long : length new.held ≡ e.point.held
  names_long =
      ap (λ (m : Spellings). length m.held) named ∙ taken_long e.point.held names.held (within_names 1 names trail.states at e are there).1

  pub back_named : (least : ℕ) → AreNamedFrom least names trail.states → AreNamedFrom least new gone.states
  back_named least h =
      subst (λ (t : Trailed). AreNamedFrom least new t.states) (sym left) (named_before least names new trail.states at e h there names_long)

  pub back_names : (first : Spellings) → KeepsNames first names → AreNamedFrom (length first.held) names trail.states → KeepsNames first new
  back_names first keeps h =
      subst (KeepsNames first) (sym named) (keeps_at e.point first names keeps (within_names (length first.held) names trail.states at e h there).0)
