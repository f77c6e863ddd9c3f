-- What an addition, a removal and the forgetting of what is kept leave in the slots of a store.
use Rattle.std.proofs.Common.{◌≡◌, ℕ, ◌+◌, ◌<◌, ◌≤◌, ◌==◌, ◌||◌, Bool, true, false, cond, not, List, [], ◌∷◌, ◌++◌, filter, length, Some, None, IsSome, refl, ap, sym, ◌∙◌, subst, arith, length-append}
use Rattle.std.proofs.lemmas.List.{append-nil}
use Rattle.std.proofs.lemmas.Cmp.{nat_cmp_total}
use Rattle.std.proofs.lemmas.Map.{lookup-set_value}
use Rattle.std.specs.BTreeMap.{is_at, insert_entry}
use Rattle.std.specs.Cmp.{eq_by_cmp_equiv}
use Rattle.std.specs.List.{AllByRecursion, list_any}
use Rattle.std.specs.Map.{lookup, set_value, remove_entry}
use Rattle.std.specs.Ordering.{nat_cmp, match_ordering}
use Rattle.ops_base.specs.declared.elements.Element.{Element}
use Rattle.ops_base.specs.WorkingMemory.{without_tag}
use Rattle.work_store.specs.declared.slot.Slot.{Slot}
use Rattle.work_store.specs.Slots.{passing, elements_of, those, is_present, is_kept, stored_in, ArePlaced, IsNoted, AreSlots, without_all, passed}
use Rattle.work_store.specs.Stored.{Stored, of_tag}
use Rattle.work_store.proofs.Lists.{same_tag, above_differs, differs_back, at_is, compares_greater, not_not, or_true, or_false, all_each, all_weaker, all_push, all_filter, passes, filter_all, filter_none, filter_same, filter_twice, filter_shorter, any_push, none_above}
use Rattle.work_store.proofs.Slots.{tag_found, tag_passed, after_found, found}

-- ---- an addition

-- a tag above all goes last
pub goes_last : (t : ℕ) (s : Slot) (es : List (ℕ × Slot)) → AllByRecursion (λ e. e.0 < t) es → insert_entry nat_cmp es t s ≡ es ++ (t, s) ∷ []
goes_last t s [] below = refl
goes_last t s (e ∷ es) below =
    ap (λ o. match_ordering o ((t, s) ∷ e ∷ es) ((e.0, s) ∷ es) (e ∷ insert_entry nat_cmp es t s)) (compares_greater t e.0 below.0)
    ∙ ap (λ fs. e ∷ fs) (goes_last t s es below.1)

those_push : (test : Slot → Bool) (es : List (ℕ × Slot)) (e : ℕ × Slot) → those test (es ++ e ∷ []) ≡ those test es ++ those test (e ∷ [])
those_push test [] e = refl
those_push test (f ∷ es) e = by (test f.1) (those_push test es e)
  where
    by : (b : Bool) → those test (es ++ e ∷ []) ≡ those test es ++ those test (e ∷ []) → elements_of (cond b (f ∷ passing test (es ++ e ∷ [])) (passing test (es ++ e ∷ []))) ≡ elements_of (cond b (f ∷ passing test es) (passing test es)) ++ those test (e ∷ [])
    by true ih = ap (λ xs. f.1.element ∷ xs) ih
    by false ih = ih

placed_push : (es : List (ℕ × Slot)) (t : ℕ) (s : Slot) → ArePlaced es → AllByRecursion (λ e. e.0 < t) es → s.element.tag ≡ t → ArePlaced (es ++ (t, s) ∷ [])
placed_push [] t s placed below h = (h, tt, tt)
placed_push (e ∷ es) t s placed below h =
    (placed.0, all_push (λ f. e.0 < f.0) es (t, s) placed.1 below.0, placed_push es t s placed.2 below.1 h)

pub all_below : (es : List (ℕ × Slot)) (last t : ℕ) → last < t → AllByRecursion (λ e. e.0 ≤ last) es → AllByRecursion (λ e. e.0 < t) es
all_below es last t above a = all_weaker (λ e. e.0 ≤ last) (λ e. e.0 < t) (λ e h. omega arith) es a

-- the slot of an element that is added
abbrev pub new_slot : Element → Slot
new_slot x = record { element = x; present = true }

abbrev stored_of : List Element → List Element → ℕ → Stored
stored_of elements kept last = record { elements = elements; kept = kept; last = last }

pub added_stored : (es : List (ℕ × Slot)) (x : Element)
    → stored_in (es ++ (x.tag, new_slot x) ∷ []) x.tag ≡ record { elements = those is_present es ++ x ∷ []; kept = those is_kept es; last = x.tag }
added_stored es x =
    let e : ℕ × Slot = (x.tag, new_slot x) in
    ap (λ xs. stored_of xs (those is_kept (es ++ e ∷ [])) x.tag) (those_push is_present es e)
    ∙ ap (λ xs. stored_of (those is_present es ++ x ∷ []) xs x.tag) (those_push is_kept es e ∙ append-nil (those is_kept es))

pub added_slots : (es : List (ℕ × Slot)) (gone : List ℕ) (space more last : ℕ) (x : Element)
    → AreSlots es gone space last → last < x.tag → length es + 1 ≤ more → AreSlots (es ++ (x.tag, new_slot x) ∷ []) gone more x.tag
added_slots es gone space more last x a above room =
    let e : ℕ × Slot = (x.tag, new_slot x) in
    let below = all_below es last x.tag above a.below in
    let gone_under : AllByRecursion (λ t. t < x.tag) gone = all_weaker (λ t. t ≤ last) (λ t. t < x.tag) (λ t h. omega arith) gone a.gone_below in
    let long = length-append es (e ∷ []) in
    let long_present = ap length (those_push is_present es e) ∙ length-append (those is_present es) (x ∷ []) in
    let number = a.number in
    record {
      placed = placed_push es x.tag (new_slot x) a.placed below refl;
      below = all_push (λ f. f.0 ≤ x.tag) es e (all_weaker (λ f. f.0 < x.tag) (λ f. f.0 ≤ x.tag) (λ f h. omega arith) es below) (omega arith);
      noted = all_push (IsNoted gone) es e a.noted (none_above gone x.tag gone_under);
      gone_below = all_weaker (λ t. t < x.tag) (λ t. t ≤ x.tag) (λ t h. omega arith) gone gone_under;
      number = omega arith;
      room = omega arith;
    }

-- the same, of the tree's insertion
pub inserted_slots : (es : List (ℕ × Slot)) (gone : List ℕ) (space more last : ℕ) (x : Element)
    → AreSlots es gone space last → last < x.tag → length es + 1 ≤ more → AreSlots (insert_entry nat_cmp es x.tag (new_slot x)) gone more x.tag
inserted_slots es gone space more last x a above room =
    subst (λ fs. AreSlots fs gone more x.tag) (sym (goes_last x.tag (new_slot x) es (all_below es last x.tag above a.below))) (added_slots es gone space more last x a above room)

pub inserted_stored : (es : List (ℕ × Slot)) (gone : List ℕ) (space last : ℕ) (x : Element) → AreSlots es gone space last → last < x.tag
    → stored_in (insert_entry nat_cmp es x.tag (new_slot x)) x.tag ≡ record { elements = those is_present es ++ x ∷ []; kept = those is_kept es; last = x.tag }
inserted_stored es gone space last x a above =
    ap (λ fs. stored_in fs x.tag) (goes_last x.tag (new_slot x) es (all_below es last x.tag above a.below)) ∙ added_stored es x

-- ---- a removal

-- the slot once its element was removed
abbrev pub kept_slot : Slot → Slot
kept_slot s = record s { present = false }

-- working memory without a tag that is below all of its tags
without_missing : (test : Slot → Bool) (t : ℕ) (es : List (ℕ × Slot)) → ArePlaced es → AllByRecursion (λ e. t < e.0) es → without_tag t (those test es) ≡ those test es
without_missing test t [] placed above = refl
without_missing test t (e ∷ es) placed above = by (test e.1) (without_missing test t es placed.2 above.1)
  where
    by : (b : Bool) → without_tag t (those test es) ≡ those test es → without_tag t (elements_of (cond b (e ∷ passing test es) (passing test es))) ≡ elements_of (cond b (e ∷ passing test es) (passing test es))
    by true ih =
        let apart : (e.1.element.tag == t) ≡ false = above_differs e.1.element.tag t (subst (λ (n : ℕ). t < n) (sym placed.0) above.0) in
        ap (λ b. cond (not b) (e.1.element ∷ without_tag t (those test es)) (without_tag t (those test es))) apart
        ∙ ap (λ xs. e.1.element ∷ xs) ih
    by false ih = ih

-- a tag that is noted changes nothing at another
other_noted : (t : ℕ) (gone : List ℕ) (f : ℕ × Slot) → (t == f.0) ≡ false → IsNoted gone f → IsNoted (gone ++ t ∷ []) f
other_noted t gone f apart n =
    any_push (λ g. g == f.0) gone t ∙ ap (λ b. list_any (λ g. g == f.0) gone || b) apart ∙ or_false (list_any (λ g. g == f.0) gone) ∙ n

others_noted : (t : ℕ) (gone : List ℕ) (fs : List (ℕ × Slot)) → AllByRecursion (λ f. t < f.0) fs → AllByRecursion (IsNoted gone) fs → AllByRecursion (IsNoted (gone ++ t ∷ [])) fs
others_noted t gone [] above n = tt
others_noted t gone (f ∷ fs) above n = (other_noted t gone f (differs_back f.0 t (above_differs f.0 t above.0)) n.0, others_noted t gone fs above.1 n.1)

same_some : {X : Type 0} (x y : X) → Some x ≡ Some y → x ≡ y
same_some x y h = cc

module _ (t : ℕ) (same : ℕ → Bool) (is : (k : ℕ) → same k ≡ (k == t)) where
  all_set : (P : ℕ → Type 0) (es : List (ℕ × Slot)) (w : Slot) → AllByRecursion (λ e. P e.0) es → AllByRecursion (λ e. P e.0) (set_value same es w)
  all_set P [] w a = tt
  all_set P (e ∷ es) w a = by (same e.0) (all_set P es w a.1)
    where
      by : (b : Bool) → AllByRecursion (λ f. P f.0) (set_value same es w) → AllByRecursion (λ f. P f.0) (cond b ((e.0, w) ∷ es) (e ∷ set_value same es w))
      by true ih = a
      by false ih = (a.0, ih)

  placed_set : (es : List (ℕ × Slot)) (s : Slot) → ArePlaced es → lookup same es ≡ Some s → ArePlaced (set_value same es (kept_slot s))
  placed_set [] s placed h = tt
  placed_set (e ∷ es) s placed h = by (same e.0) h (placed_set es s placed.2)
    where
      by : (b : Bool) → cond b (Some e.1) (lookup same es) ≡ Some s → (lookup same es ≡ Some s → ArePlaced (set_value same es (kept_slot s))) → ArePlaced (cond b ((e.0, kept_slot s) ∷ es) (e ∷ set_value same es (kept_slot s)))
      by true k ih = (ap (λ r. r.element.tag) (sym (same_some e.1 s k)) ∙ placed.0, placed.1, placed.2)
      by false k ih = (placed.0, all_set (λ n. e.0 < n) es (kept_slot s) placed.1, ih k)

  -- the element goes from among those that are present
  present_set : (es : List (ℕ × Slot)) (s : Slot) → ArePlaced es → lookup same es ≡ Some s → s.present ≡ true → those is_present (set_value same es (kept_slot s)) ≡ without_tag t (those is_present es)
  present_set [] s placed h p = refl
  present_set (e ∷ es) s placed h p = by (same e.0) refl h (λ k. present_set es s placed.2 k p)
    where
      by : (b : Bool) → same e.0 ≡ b → cond b (Some e.1) (lookup same es) ≡ Some s
          → (lookup same es ≡ Some s → those is_present (set_value same es (kept_slot s)) ≡ without_tag t (those is_present es))
          → those is_present (cond b ((e.0, kept_slot s) ∷ es) (e ∷ set_value same es (kept_slot s))) ≡ without_tag t (those is_present (e ∷ es))
      by true at k ih =
          let here : e.1.present ≡ true = ap (λ r. r.present) (same_some e.1 s k) ∙ p in
          let hit : (e.1.element.tag == t) ≡ true = same_tag e.1.element.tag t (placed.0 ∙ tag_found t same is e.0 at) in
          sym (without_missing is_present t es placed.2 (after_found t same is e es at placed))
          ∙ sym (ap (λ b. cond (not b) (e.1.element ∷ without_tag t (those is_present es)) (without_tag t (those is_present es))) hit)
          ∙ sym (ap (λ b. without_tag t (elements_of (cond b (e ∷ passing is_present es) (passing is_present es)))) here)
      by false at k ih = beyond e.1.present
        where
          beyond : (c : Bool) → elements_of (cond c (e ∷ passing is_present (set_value same es (kept_slot s))) (passing is_present (set_value same es (kept_slot s))))
              ≡ without_tag t (elements_of (cond c (e ∷ passing is_present es) (passing is_present es)))
          beyond true =
              let miss : (e.1.element.tag == t) ≡ false = ap (λ n. n == t) placed.0 ∙ tag_passed t same is e.0 at in
              ap (λ xs. e.1.element ∷ xs) (ih k)
              ∙ sym (ap (λ b. cond (not b) (e.1.element ∷ without_tag t (those is_present es)) (without_tag t (those is_present es))) miss)
          beyond false = ih k

  -- and there is one less of these
  number_set : (es : List (ℕ × Slot)) (s : Slot) → lookup same es ≡ Some s → s.present ≡ true → length (those is_present (set_value same es (kept_slot s))) + 1 ≡ length (those is_present es)
  number_set [] s h p = absurd (cc)
  number_set (e ∷ es) s h p = by (same e.0) h (λ k. number_set es s k p)
    where
      by : (b : Bool) → cond b (Some e.1) (lookup same es) ≡ Some s
          → (lookup same es ≡ Some s → length (those is_present (set_value same es (kept_slot s))) + 1 ≡ length (those is_present es))
          → length (those is_present (cond b ((e.0, kept_slot s) ∷ es) (e ∷ set_value same es (kept_slot s)))) + 1 ≡ length (those is_present (e ∷ es))
      by true k ih =
          let here : e.1.present ≡ true = ap (λ r. r.present) (same_some e.1 s k) ∙ p in
          let more : length (those is_present es) + 1 ≡ length (e.1.element ∷ those is_present es) = omega arith in
          more ∙ sym (ap (λ b. length (elements_of (cond b (e ∷ passing is_present es) (passing is_present es)))) here)
      by false k ih = beyond e.1.present (ih k)
        where
          beyond : (c : Bool) → length (those is_present (set_value same es (kept_slot s))) + 1 ≡ length (those is_present es)
              → length (elements_of (cond c (e ∷ passing is_present (set_value same es (kept_slot s))) (passing is_present (set_value same es (kept_slot s))))) + 1
              ≡ length (elements_of (cond c (e ∷ passing is_present es) (passing is_present es)))
          beyond true one = omega arith
          beyond false one = one

  length_set : (es : List (ℕ × Slot)) (w : Slot) → length (set_value same es w) ≡ length es
  length_set [] w = refl
  length_set (e ∷ es) w = by (same e.0) (length_set es w)
    where
      by : (b : Bool) → length (set_value same es w) ≡ length es → length (cond b ((e.0, w) ∷ es) (e ∷ set_value same es w)) ≡ length (e ∷ es)
      by true ih = refl
      by false ih = omega arith

  -- a tag is noted, and its slot is marked
  noted_set : (gone : List ℕ) (es : List (ℕ × Slot)) (s : Slot) → ArePlaced es → AllByRecursion (IsNoted gone) es → lookup same es ≡ Some s → AllByRecursion (IsNoted (gone ++ t ∷ [])) (set_value same es (kept_slot s))
  noted_set gone [] s placed noted h = tt
  noted_set gone (e ∷ es) s placed noted h = by (same e.0) refl h (noted_set gone es s placed.2 noted.1)
    where
      by : (b : Bool) → same e.0 ≡ b → cond b (Some e.1) (lookup same es) ≡ Some s
          → (lookup same es ≡ Some s → AllByRecursion (IsNoted (gone ++ t ∷ [])) (set_value same es (kept_slot s)))
          → AllByRecursion (IsNoted (gone ++ t ∷ [])) (cond b ((e.0, kept_slot s) ∷ es) (e ∷ set_value same es (kept_slot s)))
      by true at k ih = (
        any_push (λ g. g == e.0) gone t ∙ ap (λ b. list_any (λ g. g == e.0) gone || b) (same_tag t e.0 (sym (tag_found t same is e.0 at))) ∙ or_true (list_any (λ g. g == e.0) gone),
        others_noted t gone es (after_found t same is e es at placed) noted.1,
      )
      by false at k ih = (other_noted t gone e (differs_back e.0 t (tag_passed t same is e.0 at)) noted.0, ih k)

  tag_below : (last : ℕ) (es : List (ℕ × Slot)) (s : Slot) → AllByRecursion (λ e. e.0 ≤ last) es → lookup same es ≡ Some s → t ≤ last
  tag_below last [] s below h = absurd (cc)
  tag_below last (e ∷ es) s below h = by (same e.0) refl h (tag_below last es s below.1)
    where
      by : (b : Bool) → same e.0 ≡ b → cond b (Some e.1) (lookup same es) ≡ Some s → (lookup same es ≡ Some s → t ≤ last) → t ≤ last
      by true at k ih = subst (λ (n : ℕ). n ≤ last) (tag_found t same is e.0 at) below.0
      by false at k ih = ih k

  -- the slot of a tag goes
  remove_is : (es : List (ℕ × Slot)) → ArePlaced es → remove_entry same es ≡ filter (λ e. not (t == e.0)) es
  remove_is [] placed = refl
  remove_is (e ∷ es) placed = by (same e.0) refl (remove_is es placed.2)
    where
      by : (b : Bool) → same e.0 ≡ b → remove_entry same es ≡ filter (λ f. not (t == f.0)) es → cond b es (e ∷ remove_entry same es) ≡ cond (not (t == e.0)) (e ∷ filter (λ f. not (t == f.0)) es) (filter (λ f. not (t == f.0)) es)
      by true at ih =
          sym (filter_all (λ f. not (t == f.0)) es
          (all_weaker (λ f. t < f.0) (λ f. not (t == f.0) ≡ true) (λ f h. ap not (differs_back f.0 t (above_differs f.0 t h))) es (after_found t same is e es at placed)))
          ∙ sym (ap (λ b. cond (not b) (e ∷ filter (λ f. not (t == f.0)) es) (filter (λ f. not (t == f.0)) es)) (same_tag t e.0 (sym (tag_found t same is e.0 at))))
      by false at ih =
          ap (λ fs. e ∷ fs) ih
          ∙ sym (ap (λ b. cond (not b) (e ∷ filter (λ f. not (t == f.0)) es) (filter (λ f. not (t == f.0)) es)) (differs_back e.0 t (tag_passed t same is e.0 at)))

pub removed_elements : (t : ℕ) (es : List (ℕ × Slot)) (s : Slot) → ArePlaced es → lookup (is_at (nat_cmp t)) es ≡ Some s → s.present ≡ true
    → those is_present (set_value (is_at (nat_cmp t)) es (kept_slot s)) ≡ without_tag t (those is_present es)
removed_elements t es s placed h p = present_set t (is_at (nat_cmp t)) (at_is t) es s placed h p

pub removed_slots : (t : ℕ) (es : List (ℕ × Slot)) (s : Slot) (gone : List ℕ) (space more last : ℕ) → AreSlots es gone space last → lookup (is_at (nat_cmp t)) es ≡ Some s → s.present ≡ true → space ≤ more
    → AreSlots (set_value (is_at (nat_cmp t)) es (kept_slot s)) (gone ++ t ∷ []) more last
removed_slots t es s gone space more last a h p wide =
    let same : ℕ → Bool = is_at (nat_cmp t) in
    let long = length_set t same (at_is t) es (kept_slot s) in
    let fewer = number_set t same (at_is t) es s h p in
    let noted_one = length-append gone (t ∷ []) in
    let number = a.number in
    let room = a.room in
    record {
      placed = placed_set t same (at_is t) es s a.placed h;
      below = all_set t same (at_is t) (λ n. n ≤ last) es (kept_slot s) a.below;
      noted = noted_set t same (at_is t) gone es s a.placed a.noted h;
      gone_below = all_push (λ n. n ≤ last) gone t a.gone_below (tag_below t same (at_is t) last es s a.below h);
      number = omega arith;
      room = omega arith;
    }

pub removed_kept : (t : ℕ) (es : List (ℕ × Slot)) (s : Slot) → ArePlaced es → lookup (is_at (nat_cmp t)) es ≡ Some s → s.present ≡ true
    → (n : ℕ) → of_tag (those is_kept (set_value (is_at (nat_cmp t)) es (kept_slot s))) n ≡ cond (n == t) (of_tag (those is_present es) t) (of_tag (those is_kept es) n)
removed_kept t es s placed h p n =
    found is_kept n (set_value (is_at (nat_cmp t)) es (kept_slot s)) (placed_set t (is_at (nat_cmp t)) (at_is t) es s placed h)
    ∙ ap (passed is_kept) (lookup-set_value (eq_by_cmp_equiv nat_cmp_total) (is_at (nat_cmp t)) (λ x y k. ap (λ m. is_at (nat_cmp m) y) (sym (tag_found t (is_at (nat_cmp t)) (at_is t) x k))) n (kept_slot s) es (subst IsSome (sym h) refl))
    ∙ ap (λ b. passed is_kept (cond b (Some (kept_slot s)) (lookup (is_at (nat_cmp n)) es))) (at_is t n)
    ∙ by (n == t)
  where
    by : (b : Bool) → passed is_kept (cond b (Some (kept_slot s)) (lookup (is_at (nat_cmp n)) es)) ≡ cond b (of_tag (those is_present es) t) (of_tag (those is_kept es) n)
    by true = sym (found is_present t es placed ∙ ap (passed is_present) h ∙ ap (λ b. cond b (Some s.element) None) p)
    by false = sym (found is_kept n es placed)

-- where an element is present there is space to note its tag
pub has_room : (t : ℕ) (es : List (ℕ × Slot)) (s : Slot) (gone : List ℕ) (space last : ℕ) → AreSlots es gone space last → lookup (is_at (nat_cmp t)) es ≡ Some s → s.present ≡ true → length gone < space
has_room t es s gone space last a h p =
    let fewer = number_set t (is_at (nat_cmp t)) (at_is t) es s h p in
    let number = a.number in
    let room = a.room in
    omega arith

-- ---- forgetting

placed_filter : (p : ℕ × Slot → Bool) (es : List (ℕ × Slot)) → ArePlaced es → ArePlaced (filter p es)
placed_filter p [] placed = tt
placed_filter p (e ∷ es) placed = by (p e) (placed_filter p es placed.2)
  where
    by : (b : Bool) → ArePlaced (filter p es) → ArePlaced (cond b (e ∷ filter p es) (filter p es))
    by true ih = (placed.0, all_filter (λ f. e.0 < f.0) p es placed.1, ih)
    by false ih = ih

without_all_is : (ts : List ℕ) (es : List (ℕ × Slot)) → ArePlaced es → without_all ts es ≡ filter (λ e. not (list_any (λ t. t == e.0) ts)) es
without_all_is [] es placed = sym (filter_all (λ e. true) es (all_each (λ (e : ℕ × Slot). true ≡ true) (λ e. refl) es))
without_all_is (t ∷ ts) es placed =
    ap (without_all ts) (remove_is t (is_at (nat_cmp t)) (at_is t) es placed)
    ∙ without_all_is ts (filter (λ e. not (t == e.0)) es) (placed_filter (λ e. not (t == e.0)) es placed)
    ∙ filter_twice (λ e. not (t == e.0)) (λ e. not (list_any (λ g. g == e.0) ts)) (λ e. not (list_any (λ g. g == e.0) (t ∷ ts))) (λ e. by (t == e.0) (list_any (λ g. g == e.0) ts)) es
  where
    by : (b c : Bool) → cond (not b) (not c) false ≡ not (b || c)
    by true c = refl
    by false c = refl

-- what is left once the noted tags are without slots
pub forgotten : (gone : List ℕ) (es : List (ℕ × Slot)) → ArePlaced es → AllByRecursion (IsNoted gone) es → without_all gone es ≡ passing is_present es
forgotten gone es placed noted =
    without_all_is gone es placed
    ∙ filter_same (λ e. not (list_any (λ t. t == e.0) gone)) (λ e. is_present e.1) es
    (all_weaker (IsNoted gone) (λ e. not (list_any (λ t. t == e.0) gone) ≡ is_present e.1) (λ e h. ap not h ∙ not_not e.1.present) es noted)

present_again : (es : List (ℕ × Slot)) → passing is_present (passing is_present es) ≡ passing is_present es
present_again es = filter_all (λ e. is_present e.1) (passing is_present es) (passes (λ e. is_present e.1) es)

none_kept : (es : List (ℕ × Slot)) → passing is_kept (passing is_present es) ≡ []
none_kept es =
    filter_none (λ e. is_kept e.1) (passing is_present es)
    (all_weaker (λ e. is_present e.1 ≡ true) (λ e. is_kept e.1 ≡ false) (λ e h. ap not h) (passing is_present es) (passes (λ e. is_present e.1) es))

pub forgotten_stored : (gone : List ℕ) (es : List (ℕ × Slot)) (last : ℕ) → ArePlaced es → AllByRecursion (IsNoted gone) es → stored_in (without_all gone es) last ≡ record (stored_in es last) { kept = [] }
forgotten_stored gone es last placed noted =
    let left : Stored = record { elements = those is_present es; kept = []; last = last } in
    ap (λ fs. stored_in fs last) (forgotten gone es placed noted)
    ∙ ap (λ fs. record left { elements = elements_of fs; kept = those is_kept (passing is_present es) }) (present_again es)
    ∙ ap (λ fs. record left { kept = elements_of fs }) (none_kept es)

pub forgotten_slots : (gone : List ℕ) (es : List (ℕ × Slot)) (space more last : ℕ) → AreSlots es gone space last → space ≤ more → AreSlots (without_all gone es) [] more last
forgotten_slots gone es space more last a wide =
    subst (λ fs. AreSlots fs [] more last) (sym (forgotten gone es a.placed a.noted)) kept_so
  where
    kept_so : AreSlots (passing is_present es) [] more last
    kept_so =
        let shorter = filter_shorter (λ e. is_present e.1) es in
        let all_there = length_elements (passing is_present es) in
        let again = ap length (ap elements_of (present_again es)) in
        let room = a.room in
        record {
          placed = placed_filter (λ e. is_present e.1) es a.placed;
          below = all_filter (λ e. e.0 ≤ last) (λ e. is_present e.1) es a.below;
          noted = all_weaker (λ e. is_present e.1 ≡ true) (IsNoted []) (λ e h. sym (ap not h)) (passing is_present es) (passes (λ e. is_present e.1) es);
          gone_below = tt;
          number = omega arith;
          room = omega arith;
        }
      where
        length_elements : (fs : List (ℕ × Slot)) → length (elements_of fs) ≡ length fs
        length_elements [] = refl
        length_elements (f ∷ fs) = let ih = length_elements fs in omega arith
