-- What a store holds once an element was added, once one was removed, and once changes were done one after another.
use Rattle.std.proofs.Common.{◌≡◌, ℕ, ◌<◌, ◌≤◌, ◌==◌, Bool, true, false, cond, not, List, [], ◌∷◌, ◌++◌, Option, Some, None, IsSome, refl, ap, sym, ◌∙◌, subst, arith}
use Rattle.std.proofs.lemmas.Bool.Decides.{nat_tests}
use Rattle.std.proofs.lemmas.List.Elements.{recursion_from_All}
use Rattle.std.proofs.lemmas.List.Folds.{find-append}
use Rattle.std.specs.List.{AllByRecursion}
use Rattle.std.specs.Option.{option_or}
use Rattle.ops_base.specs.declared.elements.Change.{Change}
use Rattle.ops_base.specs.declared.elements.Change.TheVariants.{Add, Remove}
use Rattle.ops_base.specs.declared.elements.Element.{Element}
use Rattle.ops_base.specs.WorkingMemory.{tags_of, without_tag, change_done, last_after}
use Rattle.ops_base.proofs.Changes.{done_push, last_after_push}
use Rattle.work_store.specs.Stored.{Stored, of_tag, held_of, HoldsAlso, added_by, IsStored, AreDone}
use Rattle.work_store.proofs.Lists.{tag_is, below_differs}

-- ---- the first of two that is there

or_none : {X : Type 0} (o : Option X) → option_or o None ≡ o
or_none None = refl
or_none (Some x) = refl

or_assoc : {X : Type 0} (a b c : Option X) → option_or (option_or a b) c ≡ option_or a (option_or b c)
or_assoc None b c = refl
or_assoc (Some x) b c = refl

some_or : {X : Type 0} (o other : Option X) → IsSome o → option_or o other ≡ o
some_or None other h = absurd (cc)
some_or (Some x) other h = refl

-- ---- an addition

-- a tag above those of all elements is that of none
none_above : (wm : List Element) (last tag : ℕ) → last < tag → AllByRecursion (λ t. t ≤ last) (tags_of wm) → of_tag wm tag ≡ None
none_above [] last tag above a = refl
none_above (e ∷ wm) last tag above a =
    let low : e.tag ≤ last = a.0 in
    ap (λ b. cond b (Some e) (of_tag wm tag)) (below_differs e.tag tag (omega arith)) ∙ none_above wm last tag above a.1

-- nothing is held under a tag above the last
none_held : (s : Stored) (tag : ℕ) → IsStored s → s.last < tag → held_of s tag ≡ None
none_held s tag well above =
    sym (find-append (λ e. e.tag == tag) s.elements s.kept)
    ∙ none_above (s.elements ++ s.kept) s.last tag above (recursion_from_All (λ t. t ≤ s.last) (tags_of (s.elements ++ s.kept)) well.below)

-- an element with a tag above the last is held beside the others
pub added_held : (s : Stored) (x : Element) → IsStored s → s.last < x.tag → HoldsAlso s (record { elements = s.elements ++ x ∷ []; kept = s.kept; last = x.tag }) (x ∷ [])
added_held s x well above tag =
    ap (λ o. option_or o (of_tag s.kept tag)) (find-append (λ e. e.tag == tag) s.elements (x ∷ [])) ∙ by (x.tag == tag) refl
  where
    by : (b : Bool) → (x.tag == tag) ≡ b → option_or (option_or (of_tag s.elements tag) (cond b (Some x) None)) (of_tag s.kept tag) ≡ option_or (held_of s tag) (cond b (Some x) None)
    by true is =
        let P : ℕ → Type 0 = λ n. s.last < n in
        fresh (of_tag s.elements tag) (of_tag s.kept tag) (none_held s tag well (subst P (tag_is x.tag tag is) above))
      where
        fresh : (there kept : Option Element) → option_or there kept ≡ None → option_or (option_or there (Some x)) kept ≡ option_or (option_or there kept) (Some x)
        fresh None kept none = sym (ap (λ o. option_or o (Some x)) none)
        fresh (Some e) kept none = refl
    by false is = ap (λ o. option_or o (of_tag s.kept tag)) (or_none (of_tag s.elements tag)) ∙ sym (or_none (held_of s tag))

-- ---- a removal

same_both : (k t n : ℕ) → (k == t) ≡ true → (k == n) ≡ true → (n == t) ≡ false → ⊥
same_both k t n h i j = grind (arith, nat_tests)

same_one : (k t n : ℕ) → (k == t) ≡ false → (k == n) ≡ true → (n == t) ≡ true → ⊥
same_one k t n h i j = grind (arith, nat_tests)

-- no element has the tag that was taken out, and the others are where they were
of_tag-without : (t n : ℕ) (wm : List Element) → of_tag (without_tag t wm) n ≡ cond (n == t) None (of_tag wm n)
of_tag-without t n [] = by (n == t)
  where
    by : (b : Bool) → ◌≡◌ {A = Option Element} None (cond b None None)
    by true = refl
    by false = refl
of_tag-without t n (e ∷ wm) = by (e.tag == t) (e.tag == n) (n == t) refl refl refl (of_tag-without t n wm)
  where
    by : (b c d : Bool) → (e.tag == t) ≡ b → (e.tag == n) ≡ c → (n == t) ≡ d → of_tag (without_tag t wm) n ≡ cond d None (of_tag wm n)
        → of_tag (cond (not b) (e ∷ without_tag t wm) (without_tag t wm)) n ≡ cond d None (cond c (Some e) (of_tag wm n))
    by true c true at is same ih = ih
    by true true false at is same ih = absurd (same_both e.tag t n at is same)
    by true false false at is same ih = ih
    by false true true at is same ih = absurd (same_one e.tag t n at is same)
    by false true false at is same ih = ap (λ b. cond b (Some e) (of_tag (without_tag t wm) n)) is
    by false false d at is same ih = ap (λ b. cond b (Some e) (of_tag (without_tag t wm) n)) is ∙ ih

-- what is removed is kept, and all else is held as before
pub removed_held : (before now : Stored) (t : ℕ) → IsSome (of_tag before.elements t) → now.elements ≡ without_tag t before.elements
    → ((n : ℕ) → of_tag now.kept n ≡ cond (n == t) (of_tag before.elements t) (of_tag before.kept n)) → HoldsAlso before now []
removed_held before now t there elements kept n =
    ap (λ es. option_or (of_tag es n) (of_tag now.kept n)) elements
    ∙ ap (option_or (of_tag (without_tag t before.elements) n)) (kept n)
    ∙ ap (λ o. option_or o (cond (n == t) (of_tag before.elements t) (of_tag before.kept n))) (of_tag-without t n before.elements)
    ∙ by (n == t) refl
    ∙ sym (or_none (held_of before n))
  where
    by : (b : Bool) → (n == t) ≡ b → option_or (cond b None (of_tag before.elements n)) (cond b (of_tag before.elements t) (of_tag before.kept n)) ≡ held_of before n
    by true is =
        let P : ℕ → Type 0 = λ k. of_tag before.elements t ≡ option_or (of_tag before.elements k) (of_tag before.kept n) in
        subst P (sym (tag_is n t is)) (sym (some_or (of_tag before.elements t) (of_tag before.kept n) there))
    by false is = refl

-- ---- changes

-- what changes add, and others after them
added_by-append : (cs ds : List Change) → added_by (cs ++ ds) ≡ added_by cs ++ added_by ds
added_by-append [] ds = refl
added_by-append (Add e ∷ cs) ds = ap (λ es. e ∷ es) (added_by-append cs ds)
added_by-append (Remove tag ∷ cs) ds = added_by-append cs ds

-- one more change was done
pub one_more_done : (cs : List Change) (c : Change) (first before now : Stored) → AreDone cs first before → AreDone (c ∷ []) before now → AreDone (cs ++ c ∷ []) first now
one_more_done cs c first before now some one = record {
  elements = one.elements ∙ ap (λ wm. change_done wm c) some.elements ∙ sym (done_push first.elements cs c);
  last = one.last ∙ ap (λ last. last_after last (c ∷ [])) some.last ∙ sym (last_after_push first.last cs c);
  kept = λ tag.
      let new = of_tag (added_by (c ∷ [])) tag in
      one.kept tag
      ∙ ap (λ o. option_or o new) (some.kept tag)
      ∙ or_assoc (held_of first tag) (of_tag (added_by cs) tag) new
      ∙ ap (option_or (held_of first tag)) (sym (find-append (λ e. e.tag == tag) (added_by cs) (added_by (c ∷ []))) ∙ sym (ap (λ es. of_tag es tag) (added_by-append cs (c ∷ []))));
}
