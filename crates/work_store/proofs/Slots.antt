-- What a look-up in the slots of a store finds of its elements, and in which order these stand.
use Rattle.std.proofs.Common.{◌≡◌, ℕ, ◌<◌, ◌≤◌, ◌==◌, Bool, true, false, cond, not, List, [], ◌∷◌, Option, Some, None, IsSome, refl, ap, sym, ◌∙◌, subst, arith}
use Rattle.std.proofs.lemmas.Bool.Decides.{nat_tests}
use Rattle.std.proofs.lemmas.List.{map-append}
use Rattle.std.proofs.lemmas.List.Elements.{All-append, All-from_recursion}
use Rattle.std.proofs.lemmas.Map.Keys.{IsStrictlyIncreasing-from_sorted}
use Rattle.std.specs.declared.cmp.Ordering.TheVariants.{Less}
use Rattle.std.specs.BTreeMap.{is_at}
use Rattle.std.specs.List.{AllByRecursion, All}
use Rattle.std.specs.List.Sorted.{IsStrictlySortedBy}
use Rattle.std.specs.Map.{lookup}
use Rattle.std.specs.Option.{option_or}
use Rattle.std.specs.Ordering.{nat_cmp}
use Rattle.ops_base.specs.declared.elements.Element.{Element}
use Rattle.ops_base.specs.WorkingMemory.{tags_of}
use Rattle.work_store.specs.declared.slot.Slot.{Slot}
use Rattle.work_store.specs.Slots.{passing, elements_of, those, is_present, is_kept, stored_in, ArePlaced, AreSlots, passed}
use Rattle.work_store.specs.Stored.{of_tag, IsStored}
use Rattle.work_store.proofs.Lists.{tag_is, same_tag, above_differs, at_is, all_weaker}

-- a tag below those of all slots is that of none of their elements
missing : (test : Slot → Bool) (t : ℕ) (es : List (ℕ × Slot)) → ArePlaced es → AllByRecursion (λ e. t < e.0) es → of_tag (those test es) t ≡ None
missing test t [] placed above = refl
missing test t (e ∷ es) placed above = by (test e.1) (missing test t es placed.2 above.1)
  where
    by : (b : Bool) → of_tag (those test es) t ≡ None → of_tag (elements_of (cond b (e ∷ passing test es) (passing test es))) t ≡ None
    by true ih =
        let apart : (e.1.element.tag == t) ≡ false = above_differs e.1.element.tag t (subst (λ (n : ℕ). t < n) (sym placed.0) above.0) in
        ap (λ b. cond b (Some e.1.element) (of_tag (those test es) t)) apart ∙ ih
    by false ih = ih

module _ (t : ℕ) (same : ℕ → Bool) (is : (k : ℕ) → same k ≡ (k == t)) where
  pub tag_found : (k : ℕ) → same k ≡ true → k ≡ t
  tag_found k h = tag_is k t (sym (is k) ∙ h)

  pub tag_passed : (k : ℕ) → same k ≡ false → (k == t) ≡ false
  tag_passed k h = sym (is k) ∙ h

  -- the tags after the one that was found are above it
  pub after_found : (e : ℕ × Slot) (es : List (ℕ × Slot)) → same e.0 ≡ true → ArePlaced (e ∷ es) → AllByRecursion (λ f. t < f.0) es
  after_found e es h placed = subst (λ (n : ℕ). AllByRecursion (λ f. n < f.0) es) (tag_found e.0 h) placed.1

  -- the element of a tag, among those that pass, is that of its slot, where that passes
  pub of_tag_is : (test : Slot → Bool) (es : List (ℕ × Slot)) → ArePlaced es → of_tag (those test es) t ≡ passed test (lookup same es)
  of_tag_is test [] placed = refl
  of_tag_is test (e ∷ es) placed = by (same e.0) (test e.1) refl refl (of_tag_is test es placed.2)
    where
      by : (b c : Bool) → same e.0 ≡ b → test e.1 ≡ c → of_tag (those test es) t ≡ passed test (lookup same es) → of_tag (elements_of (cond c (e ∷ passing test es) (passing test es))) t ≡ passed test (cond b (Some e.1) (lookup same es))
      by true true h k ih =
          ap (λ b. cond b (Some e.1.element) (of_tag (those test es) t)) (same_tag e.1.element.tag t (placed.0 ∙ tag_found e.0 h))
          ∙ sym (ap (λ b. cond b (Some e.1.element) None) k)
      by true false h k ih =
          missing test t es placed.2 (after_found e es h placed) ∙ sym (ap (λ b. cond b (Some e.1.element) None) k)
      by false true h k ih =
          ap (λ n. cond (n == t) (Some e.1.element) (of_tag (those test es) t)) placed.0
          ∙ ap (λ b. cond b (Some e.1.element) (of_tag (those test es) t)) (tag_passed e.0 h)
          ∙ ih
      by false false h k ih = ih

-- what a look-up finds
pub found : (test : Slot → Bool) (t : ℕ) (es : List (ℕ × Slot)) → ArePlaced es → of_tag (those test es) t ≡ passed test (lookup (is_at (nat_cmp t)) es)
found test t es placed = of_tag_is t (is_at (nat_cmp t)) (at_is t) test es placed

pub get_present : (t : ℕ) (es : List (ℕ × Slot)) (o : Option Slot) → ArePlaced es → o ≡ lookup (is_at (nat_cmp t)) es → of_tag (those is_present es) t ≡ passed is_present o
get_present t es o placed e = found is_present t es placed ∙ sym (ap (passed is_present) e)

-- what was found, present or kept
pub get_any : (t : ℕ) (es : List (ℕ × Slot)) (o : Option Slot) → ArePlaced es → o ≡ lookup (is_at (nat_cmp t)) es → option_or (of_tag (those is_present es) t) (of_tag (those is_kept es) t) ≡ passed (λ s. true) o
get_any t es o placed e =
    ap (λ a. option_or a (of_tag (those is_kept es) t)) (get_present t es o placed e)
    ∙ ap (option_or (passed is_present o)) (found is_kept t es placed ∙ sym (ap (passed is_kept) e)) ∙ by o
  where
    by : (o : Option Slot) → option_or (passed is_present o) (passed is_kept o) ≡ passed (λ s. true) o
    by None = refl
    by (Some s) = either s.present
      where
        either : (b : Bool) → option_or (cond b (Some s.element) None) (cond (not b) (Some s.element) None) ≡ Some s.element
        either true = refl
        either false = refl

-- ---- the laws of what is stored

-- the tags of the elements that pass are among those of the slots
tags_all : (P : ℕ → Type 0) (test : Slot → Bool) (es : List (ℕ × Slot)) → ArePlaced es → AllByRecursion (λ e. P e.0) es → AllByRecursion P (tags_of (those test es))
tags_all P test [] placed a = tt
tags_all P test (e ∷ es) placed a = by (test e.1) (tags_all P test es placed.2 a.1)
  where
    by : (b : Bool) → AllByRecursion P (tags_of (those test es)) → AllByRecursion P (tags_of (elements_of (cond b (e ∷ passing test es) (passing test es))))
    by true ih = (subst P (sym placed.0) a.0, ih)
    by false ih = ih

compares_less : (x y : ℕ) → x < y → nat_cmp x y ≡ Less
compares_less x y h = grind (arith, nat_tests)

tags_sorted : (test : Slot → Bool) (es : List (ℕ × Slot)) → ArePlaced es → IsStrictlySortedBy nat_cmp (tags_of (those test es))
unfolding IsStrictlySortedBy
tags_sorted test [] placed = tt
tags_sorted test (e ∷ es) placed = by (test e.1) (tags_sorted test es placed.2)
  where
    by : (b : Bool) → IsStrictlySortedBy nat_cmp (tags_of (those test es)) → IsStrictlySortedBy nat_cmp (tags_of (elements_of (cond b (e ∷ passing test es) (passing test es))))
    by true ih = (
      all_weaker (λ n. e.1.element.tag < n) (λ n. nat_cmp e.1.element.tag n ≡ Less) (λ n. compares_less e.1.element.tag n) (tags_of (those test es))
          (subst (λ (k : ℕ). AllByRecursion (λ n. k < n) (tags_of (those test es))) (sym placed.0) (tags_all (λ n. e.0 < n) test es placed.2 placed.1)),
      ih,
    )
    by false ih = ih

one_place : (o : Option Slot) (e : Element) → passed is_present o ≡ Some e → passed is_kept o ≡ None
one_place None e h = refl
one_place (Some s) e h = by s.present h
  where
    by : (b : Bool) → cond b (Some s.element) None ≡ Some e → cond (not b) (Some s.element) None ≡ None
    by true h = refl
    by false h = absurd (cc)

pub stored_well : (es : List (ℕ × Slot)) (gone : List ℕ) (space last : ℕ) → AreSlots es gone space last → IsStored (stored_in es last)
stored_well es gone space last a = record {
  rising = IsStrictlyIncreasing-from_sorted (tags_of (those is_present es)) (tags_sorted is_present es a.placed);
  kept_rising = IsStrictlyIncreasing-from_sorted (tags_of (those is_kept es)) (tags_sorted is_kept es a.placed);
  apart = λ tag e h. found is_kept tag es a.placed ∙ one_place (lookup (is_at (nat_cmp tag)) es) e (sym (found is_present tag es a.placed) ∙ h);
  below =
      subst (All (λ t. t ≤ last)) (sym (map-append (λ e. e.tag) (those is_present es) (those is_kept es)))
      (All-append (λ t. t ≤ last) (tags_of (those is_present es)) (tags_of (those is_kept es))
      (All-from_recursion (λ t. t ≤ last) (tags_of (those is_present es)) (tags_all (λ t. t ≤ last) is_present es a.placed a.below))
      (All-from_recursion (λ t. t ≤ last) (tags_of (those is_kept es)) (tags_all (λ t. t ≤ last) is_kept es a.placed a.below)));
}

-- ---- a slot that is present

pub present_slot : (t : ℕ) (es : List (ℕ × Slot)) → ArePlaced es → IsSome (of_tag (those is_present es) t) → (s : Slot) × (lookup (is_at (nat_cmp t)) es ≡ Some s) × (s.present ≡ true)
present_slot t es placed h = by (lookup (is_at (nat_cmp t)) es) refl (subst IsSome (found is_present t es placed) h)
  where
    by : (o : Option Slot) → lookup (is_at (nat_cmp t)) es ≡ o → IsSome (passed is_present o) → (s : Slot) × (lookup (is_at (nat_cmp t)) es ≡ Some s) × (s.present ≡ true)
    by None e k = absurd (cc)
    by (Some s) e k = (s, e, either s.present k)
      where
        either : (b : Bool) → IsSome (cond b (Some s.element) None) → b ≡ true
        either true k = refl
        either false k = absurd (cc)
