use Rattle.std.proofs.Common.{◌≡◌, List, [], ◌∷◌, ap, sym, subst, inl, arith}
use Rattle.ops_base.specs.declared.elements.Element.{Element}
use Rattle.ops_base.specs.declared.elements.Change.{Change}
use Rattle.ops_base.specs.declared.elements.Change.TheVariants.{Add, Remove}
use Rattle.ops_base.specs.WorkingMemory.{Lawful}
use Rattle.ops_base.proofs.Members.{contains_from_member}
use Rattle.work_store.specs.Stored.{Stored, nothing_stored}
use Rattle.match_tests.proofs.serial.passing.Goals as goal

-- one element is added and removed while nothing is stored
one_comes_and_goes : (s : Stored) (e : Element) (cs : List Change) → s ≡ nothing_stored → e.tag ≡ 1 → cs ≡ Add e ∷ Remove 1 ∷ [] → Lawful s.elements s.last cs
one_comes_and_goes s e cs none tag changes =
    let P : List Change → Type 0 = Lawful [] 0 in
    let Q : Stored → Type 0 = λ t. Lawful t.elements t.last cs in
    subst Q (sym none) (subst P (sym changes) (omega (arith, tag), (contains_from_member 1 (e.tag ∷ []) (inl (sym tag)), tt)))

pub settle_by-requires-after_bounds : goal.settle_by-requires-after_bounds
settle_by-requires-after_bounds c κs =
    one_comes_and_goes _ _ _ c.in_ok-engine.ensures.empty (ap (λ (e : Element). e.tag) c.in_ok-element.ensures) c.as_slice.ensures
