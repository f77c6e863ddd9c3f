-- A phase, with the lines that tell its changes.
use Rattle.std.proofs.Common.{◌≡◌, ◌∙◌, ap, sym, ℕ, List, [], ◌∷◌, ◌++◌, codes}
use Rattle.ops_base.specs.declared.elements.Change.{Change}
use Rattle.ops_base.specs.declared.elements.Change.TheVariants.{Add}
use Rattle.ops_base.specs.declared.elements.Element.{Element}
use Rattle.ops_base.specs.declared.endings.Ending.{Ending}
use Rattle.ops_base.specs.ConflictSet.{conflict_set}
use Rattle.ops_base.specs.Names.{Spellings}
use Rattle.ops_base.specs.WorkingMemory.{last_after}
use Rattle.ops_io.specs.Coming.{Coming}
use Rattle.ops_meaning.specs.Acting.{Setting, change_lines}
use Rattle.ops_meaning.specs.Effects.{Effect, writes}
use Rattle.ops_meaning.specs.Layout.{tagged_text, traced}
use Rattle.ops_meaning.specs.Running.{Session as Meant, phase_by, phase_done, with_course}
use Rattle.work_store.specs.Stored.{Stored}
use Rattle.session.specs.Courses.{meant_by}
use Rattle.session.specs.declared.session.Session.{Session}
use Rattle.session.proofs.UnderWay.{all_stored}

module _ {M H : Type 0} (stored : M → Stored) (at : Setting) (column : ℕ) (names : Spellings) (s : Session M H) where
  abbrev come : Coming → Meant
  come z = meant_by stored at.rules s names z

  module _ (none : s.pending ≡ []) (changes : List Change) where
    -- the lines that tell the changes by what the matcher stores
    abbrev told : List ℕ
    told = traced s.watch column (change_lines names at.classes (stored s.state.matcher).elements changes)

    abbrev phase : Meant → Effect Ending Meant
    phase k = phase_done at column changes (last_after k.course.last changes) k

    pub phase_bytes : (z : Coming) → told ≡ (phase (come z)).bytes
    phase_bytes z =
        ap (λ wm. traced s.watch column (change_lines names at.classes wm changes)) (all_stored stored s names z none)

    pub phase_is : (t : Session M H) → ((n : Spellings) (z : Coming) → meant_by stored at.rules t n z ≡ (let k = meant_by stored at.rules s n z in with_course k (phase_by (conflict_set at.rules) changes k.course.firings (last_after k.course.last changes) k.course)))
        → (z : Coming) → phase (come z) ≡ writes told (meant_by stored at.rules t names z)
    phase_is t meant z =
        ap (λ bytes. writes bytes (phase_left z)) (sym (phase_bytes z)) ∙ ap (writes told) (sym (meant names z))
      where
        phase_left : Coming → Meant
        phase_left z =
            let k = come z in with_course k (phase_by (conflict_set at.rules) changes k.course.firings (last_after k.course.last changes) k.course)

    -- the same, where the changes are known otherwise and give no tag
    pub phase_as : (cs : Meant → List Change) (z : Coming) → changes ≡ cs (come z) → last_after (come z).course.last (cs (come z)) ≡ (come z).course.last
        → phase (come z) ≡ phase_done at column (cs (come z)) (come z).course.last (come z)
    phase_as cs z is same =
        let k = come z in
        ap (λ xs. phase_done at column xs (last_after k.course.last xs) k) is ∙ ap (λ last. phase_done at column (cs k) last k) same

  -- the line that tells an element that is made
  pub made_bytes : (e : Element) (f : Meant → Element) (last : Meant → ℕ) (z : Coming) → e ≡ f (come z)
      → traced s.watch column ((codes "=>WM: " ++ tagged_text names at.classes e) ∷ []) ≡ (phase_done at column (Add (f (come z)) ∷ []) (last (come z)) (come z)).bytes
  made_bytes e f last z is =
      ap (λ (x : Element). traced s.watch column ((codes "=>WM: " ++ tagged_text names at.classes x) ∷ [])) is

  -- it waits, once that is told
  pub made_waiting : (e : Element) (f : Meant → Element) (last : Meant → ℕ) (t : Session M H) (z : Coming) → e ≡ f (come z) → (let k = come z in meant_by stored at.rules t names z ≡ with_course k (phase_by (conflict_set at.rules) (Add (f k) ∷ []) k.course.firings (last k) k.course))
      → phase_done at column (Add (f (come z)) ∷ []) (last (come z)) (come z) ≡ writes (traced s.watch column ((codes "=>WM: " ++ tagged_text names at.classes e) ∷ [])) (meant_by stored at.rules t names z)
  made_waiting e f last t z is waits =
      let k = come z in
      let told = traced s.watch column ((codes "=>WM: " ++ tagged_text names at.classes e) ∷ []) in
      ap (λ bytes. writes bytes (with_course k (phase_by (conflict_set at.rules) (Add (f k) ∷ []) k.course.firings (last k) k.course))) (sym (made_bytes e f last z is))
      ∙ ap (writes told) (sym waits)
