-- The element that a removal takes out: it was there at the start, or a change before it has added it.
use Rattle.std.proofs.Common.{◌≡◌, ℕ, zero, suc, ◌-◌, ◌<◌, ◌≤◌, List, [], ◌∷◌, ◌++◌, take, fold, Bool, true, false, cond, not, ◌==◌, ◌&&◌, ◌||◌, Option, Some, None, is_some, refl, ap, sym, ◌∙◌, subst, arith}
use Rattle.std.specs.Prelude.{slice_get, Contains}
use Rattle.std.specs.Option.{option_or}
use Rattle.std.proofs.lemmas.Bool.Decides.{nat_tests}
use Rattle.std.proofs.lemmas.List.Folds.{find-append}
use Rattle.std.proofs.lemmas.List.Sums.{fold-append}
use Rattle.ops_base.specs.declared.elements.Element.{Element}
use Rattle.ops_base.specs.declared.elements.Change.{Change}
use Rattle.ops_base.specs.declared.elements.Change.TheVariants as change
use Rattle.ops_base.specs.WorkingMemory.{tags_of, without_tag, done, Lawful}
use Rattle.ops_meaning.specs.Acting.{has_tag, element_of}
use Rattle.work_store.proofs.Doing.{found_to_remove}
use Rattle.work_store.proofs.Lists.{tag_is, above_differs}
use Rattle.act_phase.specs.Changed.{AreCounted, added_by, last_added}
use Rattle.act_phase.proofs.Counts.{has_tag-added, has_tag-without, found_there}

-- ---- the element that was added last

abbrev pub adds : ℕ → Option Element → Change → Option Element
adds tag found c = option_or (added_by tag c) found

pub last_added_push : (changes : List Change) (c : Change) (tag : ℕ) → last_added (changes ++ c ∷ []) tag ≡ option_or (added_by tag c) (last_added changes tag)
last_added_push changes c tag = fold-append (adds tag) None changes (c ∷ [])

-- ---- one change

-- no tag is above this one
abbrev IsBelow : List Element → ℕ → Type 0
IsBelow wm last = (t : ℕ) → has_tag wm t ≡ true → t ≤ last

pub none_there : (wm : List Element) (tag : ℕ) → has_tag wm tag ≡ false → element_of wm tag ≡ None
none_there wm tag gone = by (element_of wm tag) (found_there wm tag ∙ gone)
  where
    by : (o : Option Element) → is_some o ≡ false → o ≡ None
    by None h = refl
    by (Some e) h = cc

there_from_found : (wm : List Element) (tag : ℕ) (e : Element) → element_of wm tag ≡ Some e → has_tag wm tag ≡ true
there_from_found wm tag e is = sym (found_there wm tag) ∙ ap is_some is

gone_from_none : (wm : List Element) (tag : ℕ) → element_of wm tag ≡ None → has_tag wm tag ≡ false
gone_from_none wm tag is = sym (found_there wm tag) ∙ ap is_some is

-- what stands first is found first
found_before : (wm : List Element) (x e : Element) (tag : ℕ) → element_of wm tag ≡ Some e → element_of (wm ++ x ∷ []) tag ≡ Some e
found_before wm x e tag is =
    find-append (λ e. e.tag == tag) wm (x ∷ []) ∙ ap (λ o. option_or o (element_of (x ∷ []) tag)) is

found_last : (wm : List Element) (x : Element) (tag : ℕ) (b : Bool) → element_of wm tag ≡ None → (x.tag == tag) ≡ b → element_of (wm ++ x ∷ []) tag ≡ cond b (Some x) None
found_last wm x tag b none same =
    find-append (λ e. e.tag == tag) wm (x ∷ []) ∙ ap (λ o. option_or o (element_of (x ∷ []) tag)) none ∙ ap (λ b. cond b (Some x) None) same

-- another one is taken out
pub found_still : (wm : List Element) (t tag : ℕ) → (tag == t) ≡ false → element_of (without_tag t wm) tag ≡ element_of wm tag
found_still [] t tag apart = refl
found_still (e ∷ wm) t tag apart = by (e.tag == t) (e.tag == tag) refl refl (found_still wm t tag apart)
  where
    by : (b c : Bool) → (e.tag == t) ≡ b → (e.tag == tag) ≡ c → element_of (without_tag t wm) tag ≡ element_of wm tag → element_of (cond (not b) (e ∷ without_tag t wm) (without_tag t wm)) tag ≡ cond c (Some e) (element_of wm tag)
    by true true is_t is_tag ih = absurd (let same : (tag == t) ≡ true = grind (arith, nat_tests) in cc)
    by true false is_t is_tag ih = ih
    by false true is_t is_tag ih = ap (λ b. cond b (Some e) (element_of (without_tag t wm) tag)) is_tag
    by false false is_t is_tag ih = ap (λ b. cond b (Some e) (element_of (without_tag t wm) tag)) is_tag ∙ ih

below_added : (wm : List Element) (last : ℕ) (x : Element) → last < x.tag → IsBelow wm last → IsBelow (wm ++ x ∷ []) x.tag
below_added wm last x above below t there = by (has_tag wm t) (x.tag == t) refl refl (sym (has_tag-added wm x t) ∙ there)
  where
    by : (b c : Bool) → has_tag wm t ≡ b → (x.tag == t) ≡ c → (b || c) ≡ true → t ≤ x.tag
    by true c h k or = let le = below t h in omega (arith, above)
    by false true h k or = let same = tag_is x.tag t k in omega arith
    by false false h k or = cc

below_without : (wm : List Element) (last tag : ℕ) → IsBelow wm last → IsBelow (without_tag tag wm) last
below_without wm last tag below t there = by (has_tag wm t) refl (sym (has_tag-without wm tag t) ∙ there)
  where
    by : (b : Bool) → has_tag wm t ≡ b → (b && not (t == tag)) ≡ true → t ≤ last
    by true h and = below t h
    by false h and = cc

-- the element that a lawful removal names is there
there_to_remove : (wm : List Element) (last t tag : ℕ) → Contains (tags_of wm) t → Some (change.Remove t) ≡ Some (change.Remove tag) → has_tag wm tag ≡ true
there_to_remove wm last t tag p same =
    let is : t ≡ tag = cc in
    sym (ap (has_tag wm) is) ∙ sym (found_there wm t) ∙ found_to_remove wm last t (change.Remove t) refl (p, tt)

-- ---- changes before a removal

-- What is gone is never removed again.
stays_gone : (wm : List Element) (last tag : ℕ) (cs : List Change) (k : ℕ) → Lawful wm last cs → has_tag wm tag ≡ false → tag ≤ last → slice_get cs k ≡ Some (change.Remove tag) → ⊥
stays_gone wm last tag [] k p gone le at = cc
stays_gone wm last tag (change.Add x ∷ cs) zero p gone le at = cc
stays_gone wm last tag (change.Remove t ∷ cs) zero p gone le at = let there = there_to_remove wm last t tag p.0 at in cc
stays_gone wm last tag (change.Add x ∷ cs) (suc k) p gone le at =
    stays_gone (wm ++ x ∷ []) x.tag tag cs k p.1
    (has_tag-added wm x tag ∙ ap (λ b. b || x.tag == tag) gone ∙ above_differs x.tag tag (omega (arith, p.0))) (omega (arith, p.0)) at
stays_gone wm last tag (change.Remove t ∷ cs) (suc k) p gone le at =
    stays_gone (without_tag t wm) last tag cs k p.1 (has_tag-without wm t tag ∙ ap (λ b. b && not (tag == t)) gone) le at

-- What is there before a removal takes it out was there at the start.
stays_found : (wm : List Element) (last tag : ℕ) (e : Element) (cs : List Change) (k : ℕ) → Lawful wm last cs → element_of wm tag ≡ Some e → IsBelow wm last → slice_get cs k ≡ Some (change.Remove tag)
    → element_of (done wm (take k cs)) tag ≡ Some e
stays_found wm last tag e [] k p is below at = cc
stays_found wm last tag e (c ∷ cs) zero p is below at = is
stays_found wm last tag e (change.Add x ∷ cs) (suc k) p is below at =
    stays_found (wm ++ x ∷ []) x.tag tag e cs k p.1 (found_before wm x e tag is) (below_added wm last x p.0 below) at
stays_found wm last tag e (change.Remove t ∷ cs) (suc k) p is below at =
    by (tag == t) refl (λ apart. stays_found (without_tag t wm) last tag e cs k p.1 (found_still wm t tag apart ∙ is) (below_without wm last t below) at)
  where
    by : (b : Bool) → (tag == t) ≡ b → ((tag == t) ≡ false → element_of (done (without_tag t wm) (take k cs)) tag ≡ Some e) → element_of (done (without_tag t wm) (take k cs)) tag ≡ Some e
    by true same other =
        absurd (stays_gone (without_tag t wm) last tag cs k p.1
        (has_tag-without wm t tag ∙ ap (λ b. b && not (tag == t)) (there_from_found wm tag e is) ∙ ap not same) (below tag (there_from_found wm tag e is)) at)
    by false apart other = other apart

-- No change adds a tag that was given before.
none_later : (wm : List Element) (last tag : ℕ) (found : Option Element) (cs : List Change) (k : ℕ) → Lawful wm last cs → tag ≤ last → fold (adds tag) found (take k cs) ≡ found
none_later wm last tag found [] zero p le = refl
none_later wm last tag found [] (suc k) p le = refl
none_later wm last tag found (c ∷ cs) zero p le = refl
none_later wm last tag found (change.Add x ∷ cs) (suc k) p le =
    ap (λ b. fold (adds tag) (option_or (cond b (Some x) None) found) (take k cs)) (above_differs x.tag tag (omega (arith, p.0)))
    ∙ none_later (wm ++ x ∷ []) x.tag tag found cs k p.1 (omega (arith, p.0))
none_later wm last tag found (change.Remove t ∷ cs) (suc k) p le = none_later (without_tag t wm) last tag found cs k p.1 le

-- what a removal takes out that was not there at the start, and that the changes before it have added it last
pub record IsMade (before : Option Element) (found : Option Element) : Type 0 where
  pub element : Element
  pub there : before ≡ Some element
  pub last : found ≡ Some element

-- the element that is added last, where the first change may add this one
abbrev added_first : ℕ → Element → Option Element → List Change → Bool → Option Element
added_first tag x found cs b = fold (adds tag) (option_or (cond b (Some x) None) found) cs

made_before : (wm : List Element) (last tag : ℕ) (found : Option Element) (cs : List Change) (k : ℕ) → Lawful wm last cs → element_of wm tag ≡ None → IsBelow wm last → slice_get cs k ≡ Some (change.Remove tag)
    → IsMade (element_of (done wm (take k cs)) tag) (fold (adds tag) found (take k cs))
made_before wm last tag found [] k p none below at = absurd (cc)
made_before wm last tag found (change.Add x ∷ cs) zero p none below at = absurd (cc)
made_before wm last tag found (change.Remove t ∷ cs) zero p none below at =
    absurd (let there = there_to_remove wm last t tag p.0 at in let gone = gone_from_none wm tag none in cc)
made_before wm last tag found (change.Add x ∷ cs) (suc k) p none below at =
    by (x.tag == tag) refl (λ apart. made_before (wm ++ x ∷ []) x.tag tag found cs k p.1 (found_last wm x tag false none apart) (below_added wm last x p.0 below) at)
  where
    by : (b : Bool) → (x.tag == tag) ≡ b → ((x.tag == tag) ≡ false → IsMade (element_of (done (wm ++ x ∷ []) (take k cs)) tag) (added_first tag x found (take k cs) false))
        → IsMade (element_of (done (wm ++ x ∷ []) (take k cs)) tag) (added_first tag x found (take k cs) (x.tag == tag))
    by true same other = record {
      element = x;
      there = stays_found (wm ++ x ∷ []) x.tag tag x cs k p.1 (found_last wm x tag true none same) (below_added wm last x p.0 below) at;
      last = ap (added_first tag x found (take k cs)) same ∙ none_later (wm ++ x ∷ []) x.tag tag (Some x) cs k p.1 (let is = tag_is x.tag tag same in omega arith);
    }
    by false apart other = let P : Option Element → Type 0 = IsMade (element_of (done (wm ++ x ∷ []) (take k cs)) tag) in subst P (sym (ap (added_first tag x found (take k cs)) apart)) (other apart)
made_before wm last tag found (change.Remove t ∷ cs) (suc k) p none below at =
    made_before (without_tag t wm) last tag found cs k p.1
    (none_there (without_tag t wm) tag (has_tag-without wm t tag ∙ ap (λ b. b && not (tag == t)) (gone_from_none wm tag none))) (below_without wm last t below) at

-- ---- a removal of a right side

module _ (start : List Element) (changes : List Change) (gone : ℕ → Bool) (first next tag k : ℕ) (counted : AreCounted start changes gone first next) (at : slice_get changes k ≡ Some (change.Remove tag)) where
  below_first : IsBelow start (first - 1)
  below_first t there = let lt = counted.start_below t there in omega arith

  -- an element of the start
  pub removed_found : (e : Element) → element_of start tag ≡ Some e → element_of (done start (take k changes)) tag ≡ Some e
  removed_found e is = stays_found start (first - 1) tag e changes k counted.lawful is below_first at

  -- one that was made
  pub removed_made : element_of start tag ≡ None → IsMade (element_of (done start (take k changes)) tag) (last_added (take k changes) tag)
  removed_made none = made_before start (first - 1) tag None changes k counted.lawful none below_first at
