-- Tags are above 0, and stay so.
use Rattle.std.proofs.Common.{◌≡◌, ℕ, ◌<◌, List, [], ◌∷◌, ◌++◌, not, ◌==◌, ap, sym, ◌∙◌, subst, inl, inr, arith}
use Rattle.std.specs.List.{All}
use Rattle.std.proofs.lemmas.List.Elements.{recursion_from_All}
use Rattle.ops_base.specs.declared.elements.Element.{Element}
use Rattle.ops_base.specs.declared.elements.Change.{Change}
use Rattle.ops_base.specs.declared.elements.Change.TheVariants.{Add, Remove}
use Rattle.ops_base.specs.WorkingMemory.{tags_of, done, Lawful, without_tag}
use Rattle.ops_base.proofs.Filtered.{filter_member}
use Rattle.work_store.specs.Stored.{Stored}
use Rattle.cycle.specs.States.{Held}
use Rattle.ops_base.proofs.Members.{IsMember, all_from_members, members_from_each, member_cases, member-map, map_member}

abbrev pub AreAbove : List Element → Type 0
AreAbove wm = All (λ t. 0 < t) (tags_of wm)

abbrev EachAbove : List Element → Type 0
EachAbove wm = (e : Element) → IsMember e wm → 0 < e.tag

each_above : (wm : List Element) → AreAbove wm → EachAbove wm
each_above wm a e h =
    members_from_each (λ t. 0 < t) (tags_of wm) (recursion_from_All (λ t. 0 < t) (tags_of wm) a) e.tag (member-map (λ (w : Element). w.tag) e wm h)

all_above : (wm : List Element) → EachAbove wm → AreAbove wm
all_above wm a =
    all_from_members (λ t. 0 < t) (tags_of wm)
    (λ t h.
    let f = map_member (λ (w : Element). w.tag) t wm h in
    let P : ℕ → Type 0 = λ n. 0 < n in
    subst P (sym f.2) (a f.0 f.1))

-- each new tag is above the last one
each_done : (wm : List Element) (last : ℕ) (cs : List Change) → EachAbove wm → Lawful wm last cs → EachAbove (done wm cs)
each_done wm last [] a l = a
each_done wm last (Add e ∷ cs) a l = each_done (wm ++ e ∷ []) e.tag cs more l.1
  where
    more : EachAbove (wm ++ e ∷ [])
    more d h = elim (member_cases d wm (e ∷ []) h) [
      | inl m ↦ a d m
      | inr m ↦ elim m [
        | inl is ↦ (let P : Element → Type 0 = λ w. 0 < w.tag in subst P (sym is) (omega (arith, l.0)))
        | inr none ↦ absurd none
      ]
    ]
each_done wm last (Remove tag ∷ cs) a l =
    each_done (without_tag tag wm) last cs (λ d h. a d (filter_member (λ (w : Element). not (w.tag == tag)) d wm h).0) l.1

-- where a matcher's elements are those after lawful changes
pub phase_above : {M : Type 0} (stored : M → Stored) (k h : Held M) → k ≡ h → AreAbove (stored k.matcher).elements → (cs : List Change) → Lawful (stored h.matcher).elements (stored h.matcher).last cs
    → (now : List Element) → now ≡ done (stored k.matcher).elements cs → AreAbove now
phase_above {M} stored k h is a cs l now e =
    let P : List Element → Type 0 = AreAbove in
    let Q : Held M → Type 0 = λ w. AreAbove (stored w.matcher).elements in
    subst P (sym (e ∙ ap (λ (w : Held M). done (stored w.matcher).elements cs) is))
    (all_above (done (stored h.matcher).elements cs) (each_done (stored h.matcher).elements (stored h.matcher).last cs (each_above (stored h.matcher).elements (subst Q is a)) l))
