-- Which tags are present after the changes of a right side.
use Rattle.std.proofs.Common.{◌≡◌, ℕ, ◌+◌, ◌-◌, ◌<◌, ◌≤◌, List, [], ◌∷◌, ◌++◌, nat_le, nat_lt, Bool, true, false, cond, not, ◌==◌, ◌&&◌, ◌||◌, Option, Some, None, is_some, refl, ap, sym, ◌∙◌, subst, arith}
use Rattle.std.specs.List.{All}
use Rattle.std.specs.Borrow.{Bor}
use Rattle.std.specs.Option.{option_copied}
use Rattle.std.specs.Prelude.{Contains}
use Rattle.std.proofs.lemmas.Bool.Decides.{nat_tests}
use Rattle.std.proofs.lemmas.List.{map-append}
use Rattle.std.proofs.lemmas.List.Elements.{All-contains, Contains-append_left}
use Rattle.std.proofs.lemmas.List.Folds.{list_any-append}
use Rattle.std.proofs.lemmas.List.Sums.{fold-append}
use Rattle.ops_base.specs.declared.elements.Element.{Element}
use Rattle.ops_base.specs.declared.elements.Change.{Change}
use Rattle.ops_base.specs.declared.elements.Change.TheVariants as change
use Rattle.ops_base.specs.WorkingMemory.{tags_of, without_tag, done}
use Rattle.ops_meaning.specs.Acting.{has_tag, element_of, made_by, made_last, no_element}
use Rattle.ops_base.proofs.Changes.{done_push, last_after_push}
use Rattle.ops_meaning.proofs.Lawful.{has_tag-Contains, lawful_push}
use Rattle.work_store.proofs.Lists.{or_false, tag_is}
use Rattle.act_phase.specs.Changed.{is_new, AreCounted}

-- ---- one change

pub has_tag-added : (wm : List Element) (e : Element) (t : ℕ) → has_tag (wm ++ e ∷ []) t ≡ (has_tag wm t || e.tag == t)
has_tag-added wm e t = list_any-append (λ e. e.tag == t) wm (e ∷ []) ∙ ap (λ b. has_tag wm t || b) (or_false (e.tag == t))

without_step : (x tag t : ℕ) (a b : Bool) → a ≡ (b && not (t == tag)) → cond (not (x == tag)) (x == t || a) a ≡ ((x == t || b) && not (t == tag))
without_step x tag t a b e = grind (arith, nat_tests)

pub has_tag-without : (wm : List Element) (tag t : ℕ) → has_tag (without_tag tag wm) t ≡ (has_tag wm t && not (t == tag))
has_tag-without [] tag t = refl
has_tag-without (e ∷ wm) tag t = by (not (e.tag == tag)) ∙ without_step e.tag tag t (has_tag (without_tag tag wm) t) (has_tag wm t) (has_tag-without wm tag t)
  where
    by : (b : Bool) → has_tag (cond b (e ∷ without_tag tag wm) (without_tag tag wm)) t ≡ cond b (e.tag == t || has_tag (without_tag tag wm) t) (has_tag (without_tag tag wm) t)
    by true = refl
    by false = refl

-- ---- what is counted

none_new : (next t : ℕ) → is_new next next t ≡ false
none_new next t = grind (arith, nat_tests)

add_step : (g s : Bool) (first next t : ℕ) → first ≤ next → (g ≡ true → t < next) → ((not g && (s || is_new first next t)) || next == t) ≡ (not g && (s || is_new first (next + 1) t))
add_step true s first next t order below = let lt : t < next = below refl in grind (arith, nat_tests)
add_step false true first next t order below = refl
add_step false false first next t order below = grind (arith, nat_tests)

remove_step : (g s b : Bool) → ((not g && s) && not b) ≡ (not (cond b true g) && s)
remove_step true s true = refl
remove_step true s false = refl
remove_step false true true = refl
remove_step false false true = refl
remove_step false true false = refl
remove_step false false false = refl

-- nothing is changed
pub counted_first : (start kept : List Element) (gone : ℕ → Bool) (last next : ℕ) → All (λ t. t ≤ last) (tags_of (start ++ kept)) → last < next → ((t : ℕ) → gone t ≡ false) → AreCounted start [] gone next next
counted_first start kept gone last next below lt none = record {
  present = λ t. sym (ap (λ g. not g && (has_tag start t || is_new next next t)) (none t) ∙ ap (λ b. has_tag start t || b) (none_new next t) ∙ or_false (has_tag start t));
  positive = omega arith;
  order = omega arith;
  gone_below = λ t h. absurd (let e : true ≡ false = sym h ∙ none t in cc);
  start_below = λ t h. let le = All-contains (λ t. t ≤ last) (tags_of (start ++ kept)) t below (within t h) in omega (arith, le);
  lawful = tt;
  free = omega arith;
}
  where
    within : (t : ℕ) → has_tag start t ≡ true → Contains (tags_of (start ++ kept)) t
    within t h =
        let P : List ℕ → Type 0 = λ tags. Contains tags t in
        subst P (sym (map-append (λ e. e.tag) start kept)) (Contains-append_left (tags_of start) (tags_of kept) t (has_tag-Contains start t h))

-- an element more, with the next tag
pub counted_added : (start : List Element) (changes : List Change) (gone : ℕ → Bool) (first next : ℕ) (e : Element) → AreCounted start changes gone first next → e.tag ≡ next → AreCounted start (changes ++ change.Add e ∷ []) gone first (next + 1)
counted_added start changes gone first next e c is = record {
  present = λ t.
      ap (λ wm. has_tag wm t) (done_push start changes (change.Add e)) ∙ has_tag-added (done start changes) e t
      ∙ ap (λ b. b || e.tag == t) (c.present t) ∙ ap (λ n. (not (gone t) && (has_tag start t || is_new first next t)) || n == t) is
      ∙ add_step (gone t) (has_tag start t) first next t c.order (c.gone_below t);
  positive = c.positive;
  order = let o = c.order in omega arith;
  gone_below = λ t h. let lt = c.gone_below t h in omega arith;
  start_below = c.start_below;
  lawful = lawful_push start (first - 1) changes (change.Add e) c.lawful (let f = c.free in omega (arith, f, is), tt);
  free = let last = last_after_push (first - 1) changes (change.Add e) in omega (arith, last, is);
}

-- an element less
pub counted_removed : (start : List Element) (changes : List Change) (gone now : ℕ → Bool) (first next tag : ℕ) → AreCounted start changes gone first next → has_tag (done start changes) tag ≡ true → ((t : ℕ) → now t ≡ cond (t == tag) true (gone t)) → AreCounted start (changes ++ change.Remove tag ∷ []) now first next
counted_removed start changes gone now first next tag c there is = record {
  present = λ t.
      ap (λ wm. has_tag wm t) (done_push start changes (change.Remove tag)) ∙ has_tag-without (done start changes) tag t
      ∙ ap (λ b. b && not (t == tag)) (c.present t) ∙ remove_step (gone t) (has_tag start t || is_new first next t) (t == tag)
      ∙ ap (λ g. not g && (has_tag start t || is_new first next t)) (sym (is t));
  positive = c.positive;
  order = c.order;
  gone_below = λ t h. gone_or_this t (t == tag) (gone t) refl refl (sym (is t) ∙ h);
  start_below = c.start_below;
  lawful = lawful_push start (first - 1) changes (change.Remove tag) c.lawful (has_tag-Contains (done start changes) tag there, tt);
  free = let last = last_after_push (first - 1) changes (change.Remove tag) in let f = c.free in omega (arith, last, f);
}
  where
    present_below : (g s : Bool) → has_tag start tag ≡ s → true ≡ (not g && (s || is_new first next tag)) → tag < next
    present_below true s h e = absurd (cc)
    present_below false true h e = let lt = c.start_below tag h in let o = c.order in omega arith
    present_below false false h e = grind (arith, nat_tests)

    gone_or_this : (t : ℕ) (b g : Bool) → (t == tag) ≡ b → gone t ≡ g → cond b true g ≡ true → t < next
    gone_or_this t true g h k e = let lt = present_below (gone tag) (has_tag start tag) refl (sym there ∙ c.present tag) in let same = tag_is t tag h in omega arith
    gone_or_this t false g h k e = c.gone_below t (k ∙ e)

-- ---- what is looked up

-- an element is found exactly where its tag is there
pub found_there : (wm : List Element) (tag : ℕ) → is_some (element_of wm tag) ≡ has_tag wm tag
found_there [] tag = refl
found_there (e ∷ wm) tag = by (e.tag == tag) (found_there wm tag)
  where
    by : (b : Bool) → is_some (element_of wm tag) ≡ has_tag wm tag → is_some (cond b (Some e) (element_of wm tag)) ≡ (b || has_tag wm tag)
    by true ih = refl
    by false ih = ih

copied_there : (r : Option (Bor Element)) → is_some r ≡ is_some (option_copied r)
copied_there None = refl
copied_there (Some e) = refl

-- a tag from before that was not removed is present where it is found at the start
pub present_old : (start : List Element) (changes : List Change) (gone : ℕ → Bool) (first next tag : ℕ) → AreCounted start changes gone first next → gone tag ≡ false → tag < first → (r : Option (Bor Element)) → option_copied r ≡ element_of start tag
    → is_some r ≡ has_tag (done start changes) tag
present_old start changes gone first next tag c stays old r found =
    let not_new : nat_le first tag ≡ false = grind (arith, nat_tests) in
    copied_there r ∙ ap is_some found ∙ found_there start tag ∙ sym (or_false (has_tag start tag))
    ∙ sym (c.present tag ∙ ap (λ g. not g && (has_tag start tag || is_new first next tag)) stays ∙ ap (λ b. has_tag start tag || (b && nat_lt tag next)) not_new)

-- ---- the element that was made last

pub made_last_push : (changes : List Change) (c : Change) → made_last (changes ++ c ∷ []) ≡ made_by (made_last changes) c
made_last_push changes c = fold-append made_by no_element changes (c ∷ [])
