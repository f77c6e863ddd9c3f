-- What is copied of working memory, one tag after another from the least on.
use Rattle.std.proofs.Common.{◌≡◌, ℕ, ◌+◌, ◌<◌, ◌≤◌, List, [], ◌∷◌, ◌++◌, length, get_or, nat_le, ◌==◌, Bool, true, false, cond, Option, Some, None, is_some, refl, ap, sym, ◌∙◌, subst, inl, inr, ◌⊎◌, arith}
use Rattle.std.specs.Prelude.{Contains, IsPermutation, IsSorted}
use Rattle.std.specs.List.{All}
use Rattle.std.specs.Option.{option_or}
use Rattle.std.specs.Ordering.{nat_cmp, is_lt}
use Rattle.std.proofs.lemmas.Bool.Decides.{nat_tests}
use Rattle.std.proofs.lemmas.List.{get_or_default, map-append}
use Rattle.std.proofs.lemmas.List.Elements.{All-nil, All-cons, All-append, All-contains, Contains-append_left}
use Rattle.std.proofs.lemmas.List.Folds.{find-append}
use Rattle.std.proofs.lemmas.List.Sorted.{All-permutation, IsPermutation-sym}
use Rattle.ops_base.specs.declared.elements.Element.{Element}
use Rattle.ops_base.specs.WorkingMemory.{tags_of}
use Rattle.ops_meaning.specs.Acting.{has_tag, element_of}
use Rattle.ops_meaning.proofs.Lawful.{has_tag-Contains}
use Rattle.work_store.specs.Stored.{Stored, IsStored, nothing_stored, of_tag}
use Rattle.work_store.proofs.Lists.{same_tag}
use Rattle.act_phase.specs.Excerpts.{IsExcerpt, with_one, with_copy}
use Rattle.act_phase.proofs.Counts.{found_there}
use Rattle.act_phase.proofs.Alike.{found_tag}

-- Of these tags the elements were copied: the copy holds an element as the whole does or not at all.
pub record IsCopied (whole : List Element) (last : ℕ) (tags : List ℕ) (copy : Stored) : Type 0 where
  pub same : All (λ t. element_of copy.elements t ≡ element_of whole t) tags
  pub part : (t : ℕ) → (element_of copy.elements t ≡ None) ⊎ (element_of copy.elements t ≡ element_of whole t)
  pub top : element_of copy.elements copy.last ≡ element_of whole copy.last
  pub below : copy.last ≤ last

-- the tag of what is found
pub tag_found : (wm : List Element) (t : ℕ) (e : Element) → of_tag wm t ≡ Some e → e.tag ≡ t
tag_found wm t e is = found_tag wm t e is

within_last : (s : Stored) (t : ℕ) (e : Element) → IsStored s → element_of s.elements t ≡ Some e → t ≤ s.last
within_last s t e stored is =
    let there = has_tag-Contains s.elements t (sym (found_there s.elements t) ∙ ap is_some is) in
    let P : List ℕ → Type 0 = λ tags. Contains tags t in
    All-contains (λ t. t ≤ s.last) (tags_of (s.elements ++ s.kept)) t stored.below
    (subst P (sym (map-append (λ (e : Element). e.tag) s.elements s.kept)) (Contains-append_left (tags_of s.elements) (tags_of s.kept) t there))

-- no element has tag 0
none_at_0 : (wm : List Element) → All (λ t. 0 < t) (tags_of wm) → element_of wm 0 ≡ None
none_at_0 wm above = by (element_of wm 0) refl
  where
    by : (o : Option Element) → element_of wm 0 ≡ o → element_of wm 0 ≡ None
    by None is = is
    by (Some e) is = absurd (let lt = All-contains (λ t. 0 < t) (tags_of wm) 0 above (has_tag-Contains wm 0 (sym (found_there wm 0) ∙ ap is_some is)) in omega (arith, lt))

-- nothing was copied
pub copied_first : (whole : List Element) (last : ℕ) → All (λ t. 0 < t) (tags_of whole) → IsCopied whole last [] nothing_stored
copied_first whole last above = record { same = All-nil (λ t. element_of [] t ≡ element_of whole t); part = λ t. inl refl; top = sym (none_at_0 whole above); below = omega arith }

-- ---- one tag more

module _ (s : Stored) (tags : List ℕ) (tag : ℕ) (copy : Stored) (stored : IsStored s) (p : IsCopied s.elements s.last tags copy) (order : copy.last ≤ tag) where
  abbrev Copies : Stored → Type 0
  Copies now = IsCopied s.elements s.last (tags ++ tag ∷ []) now

  -- it is copied already, or is not there
  again : element_of copy.elements tag ≡ element_of s.elements tag → Copies copy
  again is = record {
    same = All-append (λ t. element_of copy.elements t ≡ element_of s.elements t) tags (tag ∷ []) p.same
        (All-cons (λ t. element_of copy.elements t ≡ element_of s.elements t) tag [] is (All-nil (λ t. element_of copy.elements t ≡ element_of s.elements t)));
    part = p.part;
    top = p.top;
    below = p.below;
  }

  module _ (e : Element) (is : element_of s.elements tag ≡ Some e) where
    abbrev more : Stored
    more = with_one copy (Some e)

    at_tag : e.tag ≡ tag
    at_tag = found_tag s.elements tag e is

    split : (t : ℕ) → element_of more.elements t ≡ option_or (element_of copy.elements t) (cond (e.tag == t) (Some e) None)
    split t = find-append (λ (e : Element). e.tag == t) copy.elements (e ∷ [])

    -- what is held as in the whole still is
    stays : (t : ℕ) → element_of copy.elements t ≡ element_of s.elements t → element_of more.elements t ≡ element_of s.elements t
    stays t same = by (e.tag == t) refl (element_of s.elements t) refl
      where
        by : (b : Bool) → (e.tag == t) ≡ b → (o : Option Element) → element_of s.elements t ≡ o → element_of more.elements t ≡ element_of s.elements t
        by b at (Some x) found = split t ∙ ap (λ o. option_or o (cond (e.tag == t) (Some e) None)) (same ∙ found) ∙ sym found
        by false apart None none = split t ∙ ap (λ b. option_or (element_of copy.elements t) (cond b (Some e) None)) apart ∙ ap (λ o. option_or o None) (same ∙ none) ∙ sym none
        by true at None none = absurd (let one : e.tag ≡ t = grind (arith, nat_tests) in let both : t ≡ tag = sym one ∙ at_tag in let there : element_of s.elements t ≡ Some e = ap (element_of s.elements) both ∙ is in cc)

    new : element_of more.elements tag ≡ element_of s.elements tag
    new = by (p.part tag)
      where
        by : (element_of copy.elements tag ≡ None) ⊎ (element_of copy.elements tag ≡ element_of s.elements tag) → element_of more.elements tag ≡ element_of s.elements tag
        by (inl none) = split tag ∙ ap (λ o. option_or o (cond (e.tag == tag) (Some e) None)) none ∙ ap (λ b. cond b (Some e) None) (same_tag e.tag tag at_tag) ∙ sym is
        by (inr same) = stays tag same

    partly : (t : ℕ) → (element_of more.elements t ≡ None) ⊎ (element_of more.elements t ≡ element_of s.elements t)
    partly t = by (p.part t) (e.tag == t) refl
      where
        by : (element_of copy.elements t ≡ None) ⊎ (element_of copy.elements t ≡ element_of s.elements t) → (b : Bool) → (e.tag == t) ≡ b → (element_of more.elements t ≡ None) ⊎ (element_of more.elements t ≡ element_of s.elements t)
        by (inr same) b at = inr (stays t same)
        by (inl none) false apart = inl (split t ∙ ap (λ o. option_or o (cond (e.tag == t) (Some e) None)) none ∙ ap (λ b. cond b (Some e) None) apart)
        by (inl none) true at =
            let one : e.tag ≡ t = grind (arith, nat_tests) in
            let P : ℕ → Type 0 = λ t. element_of more.elements t ≡ element_of s.elements t in inr (subst P (sym at_tag ∙ one) new)

    one_more : Copies more
    one_more = record {
      same = All-append (λ t. element_of more.elements t ≡ element_of s.elements t) tags (tag ∷ []) (λ k d within. stays (get_or tags k d) (p.same k d within))
          (All-cons (λ t. element_of more.elements t ≡ element_of s.elements t) tag [] new (All-nil (λ t. element_of more.elements t ≡ element_of s.elements t)));
      part = partly;
      top = let P : ℕ → Type 0 = λ t. element_of more.elements t ≡ element_of s.elements t in subst P (sym at_tag) new;
      below = let le = within_last s tag e stored is in omega (arith, at_tag);
    }

  found_or_not : (o : Option Element) → element_of s.elements tag ≡ o → Copies (with_one copy o)
  found_or_not (Some e) is = one_more e is
  found_or_not None is = by (p.part tag)
    where
      by : (element_of copy.elements tag ≡ None) ⊎ (element_of copy.elements tag ≡ element_of s.elements tag) → Copies copy
      by (inl none) = again (none ∙ sym is)
      by (inr same) = again same

  pub copied_more : Copies (with_copy s.elements tag copy)
  copied_more = by (nat_le tag copy.last) refl
    where
      by : (b : Bool) → nat_le tag copy.last ≡ b → Copies (cond b copy (with_one copy (of_tag s.elements tag)))
      by true le =
          let same : copy.last ≡ tag = grind (arith, nat_tests, order) in
          let P : ℕ → Type 0 = λ t. element_of copy.elements t ≡ element_of s.elements t in again (subst P same p.top)
      by false gt = found_or_not (of_tag s.elements tag) refl

  -- its tags do not go past this one
  pub copied_order : (with_copy s.elements tag copy).last ≤ tag
  copied_order = by (nat_le tag copy.last) (of_tag s.elements tag) refl
    where
      by : (b : Bool) (o : Option Element) → element_of s.elements tag ≡ o → (cond b copy (with_one copy o)).last ≤ tag
      by true o is = order
      by false None is = order
      by false (Some e) is = let at = found_tag s.elements tag e is in omega (arith, at)

-- ---- in order

not_below : (a b : ℕ) → is_lt (nat_cmp b a) ≡ false → a ≤ b
not_below a b h = grind (arith, nat_tests)

-- one tag more of sorted ones
pub next_is_above : (tags : List ℕ) (k tag last : ℕ) → IsSorted nat_cmp tags → tag ≡ get_or tags k tag → last ≤ tag → k + 1 < length tags → last ≤ get_or tags (k + 1) 0
next_is_above tags k tag last sorted at le within =
    let above = not_below (get_or tags k tag) (get_or tags (k + 1) tag) (sorted k tag (omega arith) within) in
    let same : get_or tags (k + 1) tag ≡ get_or tags (k + 1) 0 = get_or_default tags (k + 1) tag 0 within in omega (arith, le, above, at, same)

-- all tags were gone through
pub excerpted : (whole : List Element) (last : ℕ) (tags sorted : List ℕ) (copy : Stored) → IsPermutation tags sorted → IsCopied whole last sorted copy → IsExcerpt whole copy.elements tags
excerpted whole last tags sorted copy moved p = record {
  same = All-permutation (λ t. element_of copy.elements t ≡ element_of whole t) sorted tags (IsPermutation-sym tags sorted moved) p.same;
  within = λ t there. by t (p.part t) (found_there copy.elements t ∙ there);
}
  where
    by : (t : ℕ) → (element_of copy.elements t ≡ None) ⊎ (element_of copy.elements t ≡ element_of whole t) → is_some (element_of copy.elements t) ≡ true → has_tag whole t ≡ true
    by t (inl none) there = absurd (let no : is_some (element_of copy.elements t) ≡ false = ap is_some none in cc)
    by t (inr same) there = sym (found_there whole t) ∙ sym (ap is_some same) ∙ there
