-- Changes that are printed from working memory as it was before them: one element that is made, and removals.
use Rattle.std.proofs.Common.{◌≡◌, ◌∙◌, ap, sym, subst, refl, ℕ, List, [], ◌∷◌, map, Bool, true, false, cond, not, ◌==◌, Option, Some, None, unwrap_or, codes, ◌++◌}
use Rattle.std.specs.Prelude.{IsSome}
use Rattle.std.proofs.lemmas.List.Elements.{All-nil, All-cons}
use Rattle.std.specs.List.{All}
use Rattle.ops_base.specs.declared.elements.Change.{Change}
use Rattle.ops_base.specs.declared.elements.Change.TheVariants.{Add, Remove}
use Rattle.ops_base.specs.declared.elements.Class.{Class}
use Rattle.ops_base.specs.declared.elements.Element.{Element}
use Rattle.ops_base.specs.Names.{Spellings}
use Rattle.ops_base.specs.WorkingMemory.{without_tag, Lawful}
use Rattle.ops_meaning.specs.Acting.{element_of, has_tag, no_element, change_text, change_lines}
use Rattle.ops_meaning.specs.Layout.{tagged_text}
use Rattle.ops_meaning.specs.Running.{removals}
use Rattle.work_store.proofs.Doing.{found_to_remove}
use Rattle.work_store.proofs.Lists.{tag_is}
use Rattle.session.specs.Traces.{IsToldBy, AreToldBy}

-- an element that is made
pub made_told : (wm : List Element) (e : Element) → AreToldBy wm (Add e ∷ [])
made_told wm e =
    record { there = All-cons (IsToldBy wm) (Add e) [] tt (All-nil (IsToldBy wm)); lines = λ names classes. refl }

-- ---- removals

-- none is an element that is made
abbrev pub AreRemovals : List Change → Type 0
AreRemovals [] = Unit {0}
AreRemovals (Add e ∷ cs) = ⊥
AreRemovals (Remove tag ∷ cs) = AreRemovals cs

-- no element of a tag is left without it
gone : (tag : ℕ) (wm : List Element) → element_of (without_tag tag wm) tag ≡ None
gone tag [] = refl
gone tag (x ∷ wm) = by (x.tag == tag) refl (gone tag wm)
  where
    by : (b : Bool) → (x.tag == tag) ≡ b → element_of (without_tag tag wm) tag ≡ None → element_of (cond (not b) (x ∷ without_tag tag wm) (without_tag tag wm)) tag ≡ None
    by true is ih = ih
    by false is ih = ap (λ b. cond b (Some x) (element_of (without_tag tag wm) tag)) is ∙ ih

-- what is found without a tag was found with it
stayed : (tag other : ℕ) (e : Element) (wm : List Element) → element_of (without_tag tag wm) other ≡ Some e → element_of wm other ≡ Some e
stayed tag other e [] h = h
stayed tag other e (x ∷ wm) h = by (x.tag == tag) refl (stayed tag other e wm) h
  where
    taken : (b : Bool) → (x.tag == other) ≡ b → (x.tag == tag) ≡ true → (element_of (without_tag tag wm) other ≡ Some e → element_of wm other ≡ Some e) → element_of (without_tag tag wm) other ≡ Some e
        → cond b (Some x) (element_of wm other) ≡ Some e
    taken true same is ih h =
        let at : other ≡ tag = sym (tag_is x.tag other same) ∙ tag_is x.tag tag is in
        let none : element_of (without_tag tag wm) other ≡ None = ap (element_of (without_tag tag wm)) at ∙ gone tag wm in
        absurd (cc)
    taken false same is ih h = ih h

    kept : (b : Bool) → (element_of (without_tag tag wm) other ≡ Some e → element_of wm other ≡ Some e) → cond b (Some x) (element_of (without_tag tag wm) other) ≡ Some e
        → cond b (Some x) (element_of wm other) ≡ Some e
    kept true ih h = h
    kept false ih h = ih h

    by : (b : Bool) → (x.tag == tag) ≡ b → (element_of (without_tag tag wm) other ≡ Some e → element_of wm other ≡ Some e) → element_of (cond (not b) (x ∷ without_tag tag wm) (without_tag tag wm)) other ≡ Some e
        → cond (x.tag == other) (Some x) (element_of wm other) ≡ Some e
    by true is ih h = taken (x.tag == other) refl is ih h
    by false is ih h = kept (x.tag == other) ih h

some_there : (o : Option Element) → IsSome o → (e : Element) × (o ≡ Some e)
some_there None h = absurd (cc)
some_there (Some e) h = (e, refl)

-- what is found here was found at the start
abbrev IsPartOf : List Element → List Element → Type 0
IsPartOf wm start = (tag : ℕ) (e : Element) → element_of wm tag ≡ Some e → element_of start tag ≡ Some e

module _ (start : List Element) (last : ℕ) where
  found_first : (wm : List Element) (tag : ℕ) (cs : List Change) → Lawful wm last (Remove tag ∷ cs) → (e : Element) × (element_of wm tag ≡ Some e)
  found_first wm tag cs p =
      some_there (element_of wm tag) (found_to_remove wm last tag (Remove tag) refl (p.0, tt))

  removed_there : (wm : List Element) (cs : List Change) → AreRemovals cs → Lawful wm last cs → IsPartOf wm start → All (IsToldBy start) cs
  removed_there wm [] r p part = All-nil (IsToldBy start)
  removed_there wm (Add e ∷ cs) r p part = absurd r
  removed_there wm (Remove tag ∷ cs) r p part =
      let f = found_first wm tag cs p in
      let there : IsSome (element_of start tag) = let P : Option Element → Type 0 = IsSome in subst P (sym (part tag f.0 f.1)) refl in
      All-cons (IsToldBy start) (Remove tag) cs there (removed_there (without_tag tag wm) cs r p.1 (λ other e h. part other e (stayed tag other e wm h)))

  removed_lines : (names : Spellings) (classes : List Class) (wm : List Element) (cs : List Change) → AreRemovals cs → Lawful wm last cs → IsPartOf wm start
      → change_lines names classes wm cs ≡ map (change_text names classes start) cs
  removed_lines names classes wm [] r p part = refl
  removed_lines names classes wm (Add e ∷ cs) r p part = absurd r
  removed_lines names classes wm (Remove tag ∷ cs) r p part =
      let f = found_first wm tag cs p in
      let same : element_of wm tag ≡ element_of start tag = f.1 ∙ sym (part tag f.0 f.1) in
      let text : change_text names classes wm (Remove tag) ≡ change_text names classes start (Remove tag) =
      ap (λ (o : Option Element). codes "<=WM: " ++ tagged_text names classes (unwrap_or o no_element)) same in
      ap (λ t. t ∷ change_lines names classes (without_tag tag wm) cs) text
      ∙ ap (λ ts. change_text names classes start (Remove tag) ∷ ts)
      (removed_lines names classes (without_tag tag wm) cs r p.1 (λ other e h. part other e (stayed tag other e wm h)))

-- lawful removals
pub removed_told : (wm : List Element) (last : ℕ) (cs : List Change) → AreRemovals cs → Lawful wm last cs → AreToldBy wm cs
removed_told wm last cs r p = record {
  there = removed_there wm last wm cs r p (λ tag e h. h);
  lines = λ names classes. removed_lines wm last names classes wm cs r p (λ tag e h. h);
}

-- what commands remove
pub removals_remove : (wm : List Element) (tags : List ℕ) → AreRemovals (removals wm tags)
removals_remove wm [] = tt
removals_remove wm (t ∷ ts) =
    by (has_tag wm t) (removals_remove (without_tag t wm) ts) (removals_remove wm ts)
  where
    by : (b : Bool) → AreRemovals (removals (without_tag t wm) ts) → AreRemovals (removals wm ts) → AreRemovals (cond b (Remove t ∷ removals (without_tag t wm) ts) (removals wm ts))
    by true one none = one
    by false one none = none

pub clearing_removes : (tags : List ℕ) → AreRemovals (map Remove tags)
clearing_removes [] = tt
clearing_removes (t ∷ ts) = clearing_removes ts
