-- What a session that is under way has come to, and what its parts leave of it.
use Rattle.std.proofs.Common.{◌≡◌, ◌∙◌, ap, sym, subst, refl, ◌+◌, ◌<◌, ℕ, List, [], ◌∷◌, ◌++◌, length, replicate, Bool, true, false, Option, Some, None, IsTrue, arith}
use Rattle.std.specs.Prelude.{◌↔◌}
use Rattle.ops_base.specs.declared.commands.Fixed.{Fixed}
use Rattle.ops_base.specs.declared.elements.Change.{Change}
use Rattle.ops_base.specs.declared.elements.Change.TheVariants.{Add}
use Rattle.ops_base.specs.declared.elements.Class.{Class}
use Rattle.ops_base.specs.declared.elements.Element.{Element}
use Rattle.ops_base.specs.declared.rules.Inst.{Inst}
use Rattle.ops_base.specs.declared.rules.Rule.{Rule}
use Rattle.ops_base.specs.ConflictSet.{conflict_set}
use Rattle.ops_base.specs.Names.{Spellings}
use Rattle.ops_base.specs.Valid.{class_of}
use Rattle.ops_base.specs.WorkingMemory.{done, last_after, Lawful}
use Rattle.ops_base.proofs.Changes.{last_after_push}
use Rattle.ops_io.specs.Coming.{Coming}
use Rattle.ops_meaning.specs.Acting.{Setting}
use Rattle.ops_meaning.specs.Running.{Course, Session as Meant, element_made, fixed_fields, nothing_yet, begun, phase_by, phase_done, with_course}
use Rattle.ops_meaning.proofs.Lawful.{lawful_push}
use Rattle.cycle.specs.States.{Held, no_names, no_input, alone, state_course}
use Rattle.work_store.specs.Stored.{Stored}
use Rattle.live_rules.specs.Moves.{Places, insts_moved}
use Rattle.session.specs.Courses.{with_pending, with_moved, marks_moved, course_of, meant_by, IsOf, IsFollowed, IsUnderWay}
use Rattle.session.specs.declared.session.Session.{Session}
use Rattle.session.proofs.ProductionLemmas.{none_broken}
use Rattle.session.proofs.Pending.{none_stay, phase_unmarked, made_element, made_waits}

-- the element of a top-level make, where this is its tag
pub tagged : (classes : List Class) (class : ℕ) (puts : List Fixed) (e : Element) (tag last : ℕ) → (let x : Element = record { tag = tag; class = class; fields = fixed_fields (class_of classes class) puts } in e ≡ x) → tag ≡ last + 1 → e ≡ made_element classes class puts last
tagged classes class puts e tag last is next =
    is ∙ ap (λ (tag : ℕ). let x : Element = record { tag = tag; class = class; fields = fixed_fields (class_of classes class) puts } in x) next

-- where changes wait, no run was begun
not_ran : (ran : Bool) (waiting : List Change) → (ran ≡ true → waiting ≡ []) → ¬ (waiting ≡ []) → ran ≡ false
not_ran true waiting none some = absurd (some (none refl))
not_ran false waiting none some = refl

-- a session begins with nothing
pub started_is : {M : Type 0} (H : Type 0) (stored : M → Stored) (h : Held M) (waiting : List Change) (breaks : List Bool) (rules : List Rule) (n : Spellings) (z : Coming) → waiting ≡ [] → state_course stored h n z ≡ nothing_yet n z → breaks ≡ replicate (length rules) false
    → (let s : Session M H = record { state = h; pending = waiting; last_tag = 0; ran = false; watch = 0; breaks = breaks; moved = None } in meant_by stored rules s n z ≡ begun [] rules n z)
started_is H stored h waiting breaks rules n z none course unbroken =
    let by : Course → List Bool → Meant = λ m bs. record { course = m; rules = rules; watch = 0; breaks = bs; trail = None } in
    ap (λ m. by m breaks) (ap (λ changes. with_pending changes (state_course stored h n z)) none ∙ course)
    ∙ ap (by (nothing_yet n z)) (unbroken ∙ none_broken rules)

-- no marks are moved where there are none
pub no_marks : (moved : Option Places) (fired : List Inst) → fired ≡ [] → marks_moved moved fired ≡ []
no_marks None fired none = none
no_marks (Some places) fired none = ap (insts_moved places) none

module _ {M H : Type 0} (stored : M → Stored) where
  -- the session goes on with this state, while these changes wait
  abbrev pub with_state : Session M H → Held M → List Change → ℕ → Bool → Session M H
  with_state s h waiting tag ran = record s { state = h; pending = waiting; last_tag = tag; ran = ran }

  -- where nothing waits and no number has changed, a session has come to what its state has
  pub nothing_waits : (s : Session M H) (n : Spellings) (z : Coming) → s.pending ≡ [] → s.moved ≡ None → state_course stored s.state n z ≡ course_of stored s n z
  nothing_waits s n z none current =
      ap (λ moved. with_moved moved (state_course stored s.state n z)) (sym current)
      ∙ ap (λ changes. with_pending changes (with_moved s.moved (state_course stored s.state n z))) (sym none)

  -- where nothing waits, its working memory is what its matcher stores
  pub all_stored : (s : Session M H) (n : Spellings) (z : Coming) → s.pending ≡ [] → (stored s.state.matcher).elements ≡ (course_of stored s n z).wm
  all_stored s n z none = ap (done (stored s.state.matcher).elements) (sym none)

  module _ (stands_for : M → List Rule → Type 0) (rules : List Rule) (s : Session M H) (p : IsUnderWay stored stands_for rules s) where
    -- it has come to a course, with its productions, its trace level and its breaks
    abbrev come_to : Course → Meant
    come_to m = record { course = m; rules = rules; watch = s.watch; breaks = s.breaks; trail = None }

    abbrev pub Phase : Held M → List Change → Type 0
    Phase h changes =
        (n : Spellings) (z : Coming) → state_course stored h n z ≡ phase_by (conflict_set rules) changes s.state.firings (last_after (stored s.state.matcher).last changes) (state_course stored s.state n z)

    -- the last tag that was given
    pub last_is : (n : Spellings) (z : Coming) → s.last_tag ≡ (course_of stored s n z).last
    last_is n z = p.last

    -- where no number has changed, the state is of the productions in force
    pub state_is : s.moved ≡ None → IsOf stands_for rules s.state
    state_is current = let P : Option Places → Type 0 = λ o. IsFollowed stands_for rules o s.state in subst P current p.state

    -- the phases that wait are made
    module _ (h : Held M) (current : s.moved ≡ None) (waiting : List Change) (none : waiting ≡ []) (empty : Bool) (told : IsTrue empty ↔ (s.pending ≡ [])) (some : empty ≡ false) (changes : List Change) (all : changes ≡ s.pending) (phase : Phase h changes) where
      unmarked : (alone stored s.state).fired ≡ []
      unmarked = p.unmarked (not_ran s.ran s.pending p.none_waits (λ e. let h : empty ≡ true = told.1 e in absurd (cc)))

      settled_is : (n : Spellings) (z : Coming) → state_course stored h n z ≡ with_pending s.pending (state_course stored s.state n z)
      settled_is n z =
          phase n z ∙ phase_unmarked (conflict_set rules) changes (state_course stored s.state n z) unmarked ∙ ap (λ changes. with_pending changes (state_course stored s.state n z)) all

      pub settled_meant : (n : Spellings) (z : Coming) → meant_by stored rules (with_state s h waiting s.last_tag s.ran) n z ≡ meant_by stored rules s n z
      settled_meant n z =
          ap come_to
          (ap (λ changes. with_pending changes (with_moved s.moved (state_course stored h n z))) none
          ∙ ap (λ moved. with_moved moved (state_course stored h n z)) current
          ∙ settled_is n z
          ∙ ap (λ moved. with_pending s.pending (with_moved moved (state_course stored s.state n z))) (sym current))

      pub settled_under_way : IsOf stands_for rules h → IsUnderWay stored stands_for rules (with_state s h waiting s.last_tag s.ran)
      settled_under_way of = record {
        state = let P : Option Places → Type 0 = λ o. IsFollowed stands_for rules o h in subst P (sym current) of;
        unmarked = λ _. ap (λ (m : Course). m.fired) (settled_is no_names no_input) ∙ unmarked;
        none_waits = λ _. none;
        lawful = let P : List Change → Type 0 = Lawful (alone stored h).wm (alone stored h).last in subst P (sym none) tt;
        last = p.last ∙ ap (λ (m : Course). m.last) (sym (settled_is no_names no_input)) ∙ ap (last_after (alone stored h).last) (sym none);
      }

    -- one phase
    module _ (h : Held M) (current : s.moved ≡ None) (none : s.pending ≡ []) (changes : List Change) (phase : Phase h changes) (tag : ℕ) where
      pub changed_meant : (n : Spellings) (z : Coming) → meant_by stored rules (with_state s h s.pending tag s.ran) n z
          ≡ (let k = meant_by stored rules s n z in with_course k (phase_by (conflict_set rules) changes k.course.firings (last_after k.course.last changes) k.course))
      changed_meant n z =
          let by : Course → Course = λ m. phase_by (conflict_set rules) changes m.firings (last_after m.last changes) m in
          ap come_to
          (ap (λ changes. with_pending changes (with_moved s.moved (state_course stored h n z))) none
          ∙ ap (λ moved. with_moved moved (state_course stored h n z)) current
          ∙ phase n z ∙ ap by (nothing_waits s n z none current))

      pub changed_under_way : IsOf stands_for rules h → tag ≡ (stored h.matcher).last → IsUnderWay stored stands_for rules (with_state s h s.pending tag s.ran)
      changed_under_way of last = record {
        state = let P : Option Places → Type 0 = λ o. IsFollowed stands_for rules o h in subst P (sym current) of;
        unmarked = λ e. ap (λ (m : Course). m.fired) (phase no_names no_input) ∙ none_stay (conflict_set rules (done (alone stored s.state).wm changes)) (alone stored s.state).fired (p.unmarked e);
        none_waits = p.none_waits;
        lawful = let P : List Change → Type 0 = Lawful (alone stored h).wm (alone stored h).last in subst P (sym none) tt;
        last = last ∙ ap (last_after (alone stored h).last) (sym none);
      }

    -- an element that a command makes
    module _ (classes : List Class) (class : ℕ) (puts : List Fixed) (e : Element) (is : e ≡ made_element classes class puts s.last_tag) where
      pub made_is : (n : Spellings) (z : Coming) → e ≡ element_made classes class puts (course_of stored s n z)
      made_is n z = is ∙ ap (made_element classes class puts) p.last

      next_tag : e.tag ≡ last_after (stored s.state.matcher).last s.pending + 1
      next_tag = ap (λ (x : Element). x.tag) (is ∙ ap (made_element classes class puts) p.last)

      -- where nothing waits it may be added
      pub made_lawful : s.pending ≡ [] → Lawful (stored s.state.matcher).elements (stored s.state.matcher).last (Add e ∷ [])
      made_lawful none =
          let last : last_after (stored s.state.matcher).last s.pending ≡ (stored s.state.matcher).last = ap (last_after (stored s.state.matcher).last) none in
          let tag = next_tag in
          let above : (stored s.state.matcher).last < e.tag = omega arith in
          (above, tt)

      -- its phase is the one that is meant
      pub made_effect : (at : Setting) (column : ℕ) (n : Spellings) (z : Coming) → (let k = meant_by stored rules s n z in
          phase_done at column (Add e ∷ []) (last_after k.course.last (Add e ∷ [])) k ≡ phase_done at column (Add (element_made classes class puts k.course) ∷ []) (k.course.last + 1) k)
      made_effect at column n z =
          let k = meant_by stored rules s n z in ap (λ (x : Element). phase_done at column (Add x ∷ []) x.tag k) (made_is n z)

      -- it waits
      module _ (ran : s.ran ≡ false) (t : Session M H) (same : t ≡ record s { pending = s.pending ++ Add e ∷ []; last_tag = e.tag }) where
        abbrev waits : Session M H
        waits = record s { pending = s.pending ++ Add e ∷ []; last_tag = e.tag }

        pub waits_meant : (n : Spellings) (z : Coming) → meant_by stored rules t n z
            ≡ (let k = meant_by stored rules s n z in with_course k (phase_by (conflict_set rules) (Add (element_made classes class puts k.course) ∷ []) k.course.firings (k.course.last + 1) k.course))
        waits_meant n z =
            let m = course_of stored s n z in
            ap (λ t. meant_by stored rules t n z) same
            ∙ ap come_to
            (made_waits (conflict_set rules) s.pending (with_moved s.moved (state_course stored s.state n z)) e (no_marks s.moved (alone stored s.state).fired (p.unmarked ran))
            ∙ ap (λ (x : Element). phase_by (conflict_set rules) (Add x ∷ []) m.firings x.tag m) (made_is n z))

        pub waits_under_way : IsUnderWay stored stands_for rules t
        waits_under_way =
            let tag = next_tag in
            let last = (stored s.state.matcher).last in
            let above : last_after last s.pending < e.tag = omega arith in
            let P : Session M H → Type 0 = IsUnderWay stored stands_for rules in
            subst P (sym same) (record {
              state = p.state;
              unmarked = p.unmarked;
              none_waits = λ e. let no : false ≡ true = sym ran ∙ e in absurd (cc);
              lawful = lawful_push (stored s.state.matcher).elements last s.pending (Add e) p.lawful (above, tt);
              last = sym (last_after_push last s.pending (Add e));
            })
