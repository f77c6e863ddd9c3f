use Rattle.std.proofs.Common.{◌≡◌, ℕ, List, [], ◌∷◌, ◌++◌, ap, sym, subst, inl, inr, arith}
use denote.Param.Send.{sendable}
use Rattle.std.proofs.Crossing.{crosses}
use Rattle.std.specs.Prelude.{Contains}
use Rattle.ops_base.specs.declared.elements.Element.{Element}
use Rattle.ops_base.specs.declared.elements.Change.{Change}
use Rattle.ops_base.specs.declared.elements.Change.TheVariants.{Add, Remove}
use Rattle.ops_base.specs.WorkingMemory.{tags_of, Lawful}
use Rattle.ops_base.proofs.Members.{contains_from_member}
use Rattle.match_tests.proofs.serial.blocked_for_a_moment.Goals as goal

-- in addition to one element, a second one is added and removed
second_comes_and_goes : (wm : List Element) (e f : Element) (last : ℕ) (cs : List Change) → wm ≡ e ∷ [] → last ≡ 1 → f.tag ≡ 2 → cs ≡ Add f ∷ Remove 2 ∷ [] → Lawful wm last cs
second_comes_and_goes wm e f last cs only is tag changes =
    let P : List Change → Type 0 = Lawful wm last in
    let Q : List Element → Type 0 = λ es. Contains (tags_of (es ++ f ∷ [])) 2 in
    subst P (sym changes)
    (omega (arith, is, tag), (subst Q (sym only) (contains_from_member 2 (e.tag ∷ f.tag ∷ []) (inr (inl (sym tag)))), tt))

pub settle_by-requires : goal.settle_by-requires
settle_by-requires c = λ k. (
  search (sendable, crosses) depth 80,
  second_comes_and_goes _ _ _ _ _ c.requires.elements c.requires.last (ap (λ (e : Element). e.tag) c.in_ok-element.ensures) c.as_slice.ensures,
)
