use Rattle.std.proofs.Common.{◌≡◌, List, [], ◌∷◌, IfOk, ap, subst, ◌∙◌}
use Rattle.ops_base.specs.declared.elements.Element.{Element}
use Rattle.ops_base.specs.declared.elements.Change.{Change}
use Rattle.ops_base.specs.declared.elements.Change.TheVariants.{Add}
use Rattle.ops_base.specs.WorkingMemory.{done}
use Rattle.work_store.specs.Stored.{Stored, nothing_stored}
use Rattle.match_tests.proofs.serial.begun.Goals as goal

-- one element is added while nothing is stored
one_is_added : (s : Stored) (e f : Element) (cs : List Change) → s ≡ nothing_stored → cs ≡ Add e ∷ [] → e ≡ f → done s.elements cs ≡ f ∷ []
one_is_added s e f cs none changes same =
    ap (λ (t : Stored). done t.elements cs) none ∙ (ap (λ ds. done [] ds) changes ∙ ap (λ g. g ∷ []) same)

pub returns-clause-elements : goal.returns-clause-elements
returns-clause-elements c =
    let P : List Element → Type 0 = λ es. IfOk c.settle.result (λ s. s.matcher.store.elements ≡ es) in
    subst P (one_is_added _ _ _ _ c.in_ok-engine.ensures.empty c.as_slice.ensures c.in_ok-element.ensures) c.settle.ensures.elements
