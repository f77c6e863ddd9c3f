-- Phases that wait: where no instantiation is marked, joining them loses nothing.
use Rattle.std.proofs.Common.{◌≡◌, ◌∙◌, ap, sym, ◌+◌, ℕ, List, [], ◌∷◌, ◌++◌, refl}
use Rattle.ops_base.specs.declared.elements.Class.{Class}
use Rattle.ops_base.specs.declared.elements.Change.{Change}
use Rattle.ops_base.specs.declared.elements.Change.TheVariants.{Add}
use Rattle.ops_base.specs.declared.elements.Element.{Element}
use Rattle.ops_base.specs.declared.commands.Fixed.{Fixed}
use Rattle.ops_base.specs.declared.rules.Inst.{Inst}
use Rattle.ops_base.specs.Refraction.{still_fired}
use Rattle.ops_base.specs.Valid.{class_of}
use Rattle.ops_base.specs.WorkingMemory.{done, last_after}
use Rattle.ops_base.proofs.Changes.{done_push, last_after_push}
use Rattle.ops_meaning.specs.Running.{Course, Finder, phase_by, fixed_fields}
use Rattle.session.specs.Courses.{with_pending}

-- where nothing is marked, nothing stays marked
pub none_stay : (found fired : List Inst) → fired ≡ [] → still_fired found fired ≡ []
none_stay found fired none = ap (still_fired found) none ∙ by found
  where
    by : (found : List Inst) → still_fired found [] ≡ []
    by [] = refl
    by (i ∷ found) = by found

-- where nothing is marked a phase does its changes and no more
pub phase_unmarked : (found : Finder) (changes : List Change) (m : Course) → m.fired ≡ [] → phase_by found changes m.firings (last_after m.last changes) m ≡ with_pending changes m
phase_unmarked found changes m none =
    let wm = done m.wm changes in
    let marks : List Inst → Course = λ fired. record m { wm = wm; fired = fired; last = last_after m.last changes } in
    ap marks (none_stay (found wm) m.fired none ∙ sym none)

-- one change more that waits
pending_push : (changes : List Change) (c : Change) (m : Course) → with_pending (changes ++ c ∷ []) m ≡ with_pending (c ∷ []) (with_pending changes m)
pending_push changes c m =
    let by : List Element → ℕ → Course = λ wm last. record m { wm = wm; last = last } in
    ap (λ wm. by wm (last_after m.last (changes ++ c ∷ []))) (done_push m.wm changes c)
    ∙ ap (λ last. by (done (done m.wm changes) (c ∷ [])) last) (last_after_push m.last changes c)

-- the element that a top-level make adds
abbrev pub made_element : List Class → ℕ → List Fixed → ℕ → Element
made_element classes class puts last = record { tag = last + 1; class = class; fields = fixed_fields (class_of classes class) puts }

-- an element that waits is made by a phase of its own
pub made_waits : (found : Finder) (changes : List Change) (m : Course) (e : Element) → m.fired ≡ [] → with_pending (changes ++ Add e ∷ []) m ≡ phase_by found (Add e ∷ []) m.firings e.tag (with_pending changes m)
made_waits found changes m e none =
    pending_push changes (Add e) m ∙ sym (phase_unmarked found (Add e ∷ []) (with_pending changes m) none)
