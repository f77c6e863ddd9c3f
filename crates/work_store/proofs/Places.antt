-- What each of the changes of a page and of a chapter leaves: a slot that is marked, one that goes, and one that comes.
use Rattle.std.proofs.Common.{◌≡◌, ℕ, zero, suc, ◌+◌, ◌/◌, ◌%◌, ◌^◌, ◌<◌, ◌≤◌, Bool, true, false, cond, List, [], ◌∷◌, length, get_or, set, Option, Some, None, Result, Ok, Err, refl, ap, sym, ◌∙◌, subst, arith}
use Rattle.std.proofs.lemmas.List.{set-get_or}
use Rattle.std.specs.BTreeMap.{is_at, insert_entry}
use Rattle.std.specs.Map.{lookup, set_value, remove_entry}
use Rattle.std.specs.Option.{is_some}
use Rattle.std.specs.Ordering.{nat_cmp}
use Rattle.std.specs.Result.{OnErr}
use Rattle.work_store.specs.declared.row.Row.{Row}
use Rattle.work_store.specs.declared.slot.Slot.{Slot}
use Rattle.work_store.specs.Rows.{at_place, slot_entries, page_entries, chapter_entries, all_entries, start_of, HoldsAt, IsPage, IsChapter, ArePages, IsMarked}
use Rattle.work_store.proofs.Lists.{at_is, same_tag}
use Rattle.work_store.proofs.Rows.{IsEdit, set_edits, remove_edits, insert_edits, stay_edits}
use Rattle.work_store.proofs.Levels.{page_edited, page_set, page_looked_up, chapter_edited, chapter_set, chapter_looked_up, chapter_page, all_edited, all_set, all_looked_up, all_chapter, part_fewer}

-- what stands at a place that was read
pub place_is : {X : Type 0} (os : List (Option X)) (i : ℕ) (o r : Option X) → i < length os → o ≡ get_or os i o → o ≡ r → get_or os i None ≡ r
place_is [] i o r within read is = absurd (omega arith)
place_is (p ∷ os) zero o r within read is = sym read ∙ is
place_is (p ∷ os) (suc i) o r within read is = place_is os i o r (omega arith) read is

pub set_read : {X : Type 0} (os : List X) (i : ℕ) (o : X) → o ≡ get_or os i o → set os i o ≡ os
set_read os i o read = ap (set os i) read ∙ set-get_or os i o

pub some_of : {X : Type 0} (o : Option X) → true ≡ is_some o → (x : X) × (o ≡ Some x)
some_of None h = absurd (cc)
some_of (Some x) h = (x, refl)

pub none_of : {X : Type 0} (o : Option X) → false ≡ is_some o → o ≡ None
none_of None h = refl
none_of (Some x) h = absurd (cc)

pub on_err : {T E : Type 0} (r : Result T E) (P : Type 0) → P → OnErr r P
on_err (Ok x) P p = tt
on_err (Err e) P p = p

-- ---- entries of one slot

at_self : (t : ℕ) → is_at (nat_cmp t) t ≡ true
at_self t = at_is t t ∙ same_tag t t refl

one_found : (t : ℕ) (s : Slot) → lookup (is_at (nat_cmp t)) ((t, s) ∷ []) ≡ Some s
one_found t s = ap (λ b. cond b (Some s) None) (at_self t)

one_set : (t : ℕ) (s w : Slot) → set_value (is_at (nat_cmp t)) ((t, s) ∷ []) w ≡ (t, w) ∷ []
one_set t s w = ap (λ b. cond b ((t, w) ∷ []) ((t, s) ∷ [])) (at_self t)

one_removed : (t : ℕ) (s : Slot) → remove_entry (is_at (nat_cmp t)) ((t, s) ∷ []) ≡ []
one_removed t s = ap (λ b. cond b [] ((t, s) ∷ [])) (at_self t)

-- a look-up at the place of its tag
pub slot_found : (t : ℕ) (o : Option Slot) → lookup (is_at (nat_cmp t)) (at_place slot_entries t o) ≡ o
slot_found t None = refl
slot_found t (Some s) = one_found t s

same_slot : (x y : Slot) → Some x ≡ Some y → x ≡ y
same_slot x y h = cc

-- ---- where there is no slot

pub none_marked : (tag : ℕ) (es fs : List (ℕ × Slot)) → lookup (is_at (nat_cmp tag)) es ≡ None → IsMarked tag es fs
none_marked tag es fs absent = λ s h. absurd (cc)

pub none_removed : (tag : ℕ) (es : List (ℕ × Slot)) → lookup (is_at (nat_cmp tag)) es ≡ None → es ≡ remove_entry (is_at (nat_cmp tag)) es
none_removed tag [] absent = refl
none_removed tag (e ∷ es) absent = by (is_at (nat_cmp tag) e.0) absent (none_removed tag es)
  where
    by : (b : Bool) → cond b (Some e.1) (lookup (is_at (nat_cmp tag)) es) ≡ None → (lookup (is_at (nat_cmp tag)) es ≡ None → es ≡ remove_entry (is_at (nat_cmp tag)) es) → e ∷ es ≡ cond b es (e ∷ remove_entry (is_at (nat_cmp tag)) es)
    by true h ih = absurd (cc)
    by false h ih = ap (λ fs. e ∷ fs) (ih h)

pub page_absent : (tag : ℕ) (p : Row Slot) → IsPage (start_of 64 tag) p → get_or p.places.items (tag % 64) None ≡ None → lookup (is_at (nat_cmp tag)) (page_entries (start_of 64 tag) p) ≡ None
page_absent tag p h is = page_looked_up tag p h ∙ ap (λ o. lookup (is_at (nat_cmp tag)) (at_place slot_entries tag o)) is

pub chapter_absent : (tag : ℕ) (c : Row (Row Slot)) → IsChapter (start_of 4096 tag) c → get_or c.places.items (tag / 64 % 64) None ≡ None → lookup (is_at (nat_cmp tag)) (chapter_entries (start_of 4096 tag) c) ≡ None
chapter_absent tag c h is = chapter_looked_up tag c h ∙ ap (λ o. lookup (is_at (nat_cmp tag)) (at_place page_entries (start_of 64 tag) o)) is

pub all_absent : (tag : ℕ) (c : Row (Row (Row Slot))) → ArePages c → get_or c.places.items (tag / 4096) None ≡ None → lookup (is_at (nat_cmp tag)) (all_entries c) ≡ None
all_absent tag c h is = all_looked_up tag c h ∙ ap (λ o. lookup (is_at (nat_cmp tag)) (at_place chapter_entries (start_of 4096 tag) o)) is

-- ---- a page

pub page_marked : (tag : ℕ) (p q : Row Slot) (x : Slot) → IsPage (start_of 64 tag) p → tag % 64 < length p.places.items → get_or p.places.items (tag % 64) None ≡ Some x
    → q.places.items ≡ set p.places.items (tag % 64) (Some (record x { present = false })) → q.held ≡ p.held
    → IsPage (start_of 64 tag) q × IsMarked tag (page_entries (start_of 64 tag) p) (page_entries (start_of 64 tag) q)
page_marked tag p q x h within is are held =
    let kept : Slot = record x { present = false } in
    let one : length (at_place slot_entries tag (get_or p.places.items (tag % 64) None)) ≡ 1 = ap (λ o. length (at_place slot_entries tag o)) is in
    let change = sym (ap (λ o. set_value (is_at (nat_cmp tag)) (at_place slot_entries tag o) kept) is ∙ one_set tag x kept) in
    let whole = page_edited tag p q (Some kept) (λ es. set_value (is_at (nat_cmp tag)) es kept) (set_edits tag kept) h within are change in
    let there = page_looked_up tag p h ∙ ap (λ o. lookup (is_at (nat_cmp tag)) (at_place slot_entries tag o)) is ∙ one_found tag x in (
      page_set tag p q (Some kept) h within are (omega arith),
      λ s k. whole ∙ ap (λ (v : Slot). set_value (is_at (nat_cmp tag)) (page_entries (start_of 64 tag) p) (record v { present = false })) (same_slot x s (sym there ∙ k)),
    )

pub page_removed : (tag : ℕ) (p q : Row Slot) (x : Slot) → IsPage (start_of 64 tag) p → tag % 64 < length p.places.items → get_or p.places.items (tag % 64) None ≡ Some x
    → q.places.items ≡ set p.places.items (tag % 64) None → q.held + 1 ≡ p.held
    → IsPage (start_of 64 tag) q × (page_entries (start_of 64 tag) q ≡ remove_entry (is_at (nat_cmp tag)) (page_entries (start_of 64 tag) p))
page_removed tag p q x h within is are held =
    let one : length (at_place slot_entries tag (get_or p.places.items (tag % 64) None)) ≡ 1 = ap (λ o. length (at_place slot_entries tag o)) is in
    let change = sym (ap (λ o. remove_entry (is_at (nat_cmp tag)) (at_place slot_entries tag o)) is ∙ one_removed tag x) in (
      page_set tag p q None h within are (omega arith),
      page_edited tag p q None (remove_entry (is_at (nat_cmp tag))) (remove_edits tag) h within are change,
    )

-- the count of a page with a slot
pub page_some : (tag : ℕ) (p : Row Slot) (x : Slot) → IsPage (start_of 64 tag) p → tag % 64 < length p.places.items → get_or p.places.items (tag % 64) None ≡ Some x → 1 ≤ p.held
page_some tag p x h within is =
    let one : length (at_place slot_entries tag (get_or p.places.items (tag % 64) None)) ≡ 1 = ap (λ o. length (at_place slot_entries tag o)) is in
    let part = part_fewer (λ _ _. Unit {0}) slot_entries 1 (start_of 64 tag) p (tag % 64) tag h.row within (omega arith) in
    omega arith

no_slot : (tag : ℕ) (o : Option Slot) → lookup (is_at (nat_cmp tag)) (at_place slot_entries tag o) ≡ None → o ≡ None
no_slot tag None h = refl
no_slot tag (Some s) h = let there = one_found tag s in absurd (cc)

pub page_added : (tag : ℕ) (p q : Row Slot) (s : Slot) → IsPage (start_of 64 tag) p → lookup (is_at (nat_cmp tag)) (page_entries (start_of 64 tag) p) ≡ None → tag % 64 < length p.places.items
    → q.places.items ≡ set p.places.items (tag % 64) (Some s) → q.held ≡ p.held + 1
    → IsPage (start_of 64 tag) q × (page_entries (start_of 64 tag) q ≡ insert_entry nat_cmp (page_entries (start_of 64 tag) p) tag s)
page_added tag p q s h absent within are held =
    let is : get_or p.places.items (tag % 64) None ≡ None = no_slot tag (get_or p.places.items (tag % 64) None) (sym (page_looked_up tag p h) ∙ absent) in
    let one : length (at_place slot_entries tag (get_or p.places.items (tag % 64) None)) ≡ 0 = ap (λ o. length (at_place slot_entries tag o)) is in
    let change = sym (ap (λ o. insert_entry nat_cmp (at_place slot_entries tag o) tag s) is) in (
      page_set tag p q (Some s) h within are (omega arith),
      page_edited tag p q (Some s) (λ es. insert_entry nat_cmp es tag s) (insert_edits tag s) h within are change,
    )

-- ---- a chapter

-- a page after an edit at a tag, in the place of what was there
pub chapter_changed : (tag : ℕ) (c d : Row (Row Slot)) (x y : Option (Row Slot)) (f : List (ℕ × Slot) → List (ℕ × Slot)) → IsEdit tag f → IsChapter (start_of 4096 tag) c → tag / 64 % 64 < length c.places.items
    → get_or c.places.items (tag / 64 % 64) None ≡ x → d.places.items ≡ set c.places.items (tag / 64 % 64) y → HoldsAt IsPage (start_of 64 tag) y
    → d.held + length (at_place page_entries (start_of 64 tag) x) ≡ c.held + length (at_place page_entries (start_of 64 tag) y) → at_place page_entries (start_of 64 tag) y ≡ f (at_place page_entries (start_of 64 tag) x)
    → IsChapter (start_of 4096 tag) d × (chapter_entries (start_of 4096 tag) d ≡ f (chapter_entries (start_of 4096 tag) c))
chapter_changed tag c d x y f edits h within is are k number e = (
  chapter_set tag c d y h within are k (ap (λ o. d.held + length (at_place page_entries (start_of 64 tag) o)) is ∙ number),
  chapter_edited tag c d y f edits h within are (e ∙ ap (λ o. f (at_place page_entries (start_of 64 tag) o)) (sym is)),
)

pub chapter_marked : (tag : ℕ) (c d : Row (Row Slot)) (p q : Row Slot) → IsChapter (start_of 4096 tag) c → tag / 64 % 64 < length c.places.items
    → get_or c.places.items (tag / 64 % 64) None ≡ Some p → d.places.items ≡ set c.places.items (tag / 64 % 64) (Some q) → d.held ≡ c.held
    → IsPage (start_of 64 tag) p → IsPage (start_of 64 tag) q → q.held ≡ p.held → IsMarked tag (page_entries (start_of 64 tag) p) (page_entries (start_of 64 tag) q)
    → IsChapter (start_of 4096 tag) d × IsMarked tag (chapter_entries (start_of 4096 tag) c) (chapter_entries (start_of 4096 tag) d)
chapter_marked tag c d p q h within is are held hp hq same marked =
    let was = hp.row.counted in
    let now = hq.row.counted in (
      chapter_set tag c d (Some q) h within are hq (ap (λ o. d.held + length (at_place page_entries (start_of 64 tag) o)) is ∙ omega arith),
      λ s k.
          let there = sym (chapter_looked_up tag c h ∙ ap (λ o. lookup (is_at (nat_cmp tag)) (at_place page_entries (start_of 64 tag) o)) is) ∙ k in
          chapter_edited tag c d (Some q) (λ es. set_value (is_at (nat_cmp tag)) es (record s { present = false })) (set_edits tag (record s { present = false })) h within are
          (marked s there ∙ ap (λ o. set_value (is_at (nat_cmp tag)) (at_place page_entries (start_of 64 tag) o) (record s { present = false })) (sym is)),
    )

pub chapter_removed : (tag : ℕ) (c d : Row (Row Slot)) (p q : Row Slot) (y : Option (Row Slot)) → IsChapter (start_of 4096 tag) c → tag / 64 % 64 < length c.places.items
    → get_or c.places.items (tag / 64 % 64) None ≡ Some p → d.places.items ≡ set c.places.items (tag / 64 % 64) y → d.held + p.held ≡ c.held + q.held
    → IsPage (start_of 64 tag) p → IsPage (start_of 64 tag) q → page_entries (start_of 64 tag) q ≡ remove_entry (is_at (nat_cmp tag)) (page_entries (start_of 64 tag) p)
    → HoldsAt IsPage (start_of 64 tag) y → at_place page_entries (start_of 64 tag) y ≡ page_entries (start_of 64 tag) q
    → IsChapter (start_of 4096 tag) d × (chapter_entries (start_of 4096 tag) d ≡ remove_entry (is_at (nat_cmp tag)) (chapter_entries (start_of 4096 tag) c))
chapter_removed tag c d p q y h within is are held hp hq e k same =
    let was = hp.row.counted in
    let now = hq.row.counted in
    let long = ap length same in
    chapter_changed tag c d (Some p) y (remove_entry (is_at (nat_cmp tag))) (remove_edits tag) h within is are k (omega arith) (same ∙ e)

-- a page that counts nothing has no entries
nothing : (es : List (ℕ × Slot)) → length es ≡ 0 → [] ≡ es
nothing [] e = refl
nothing (x ∷ es) e = absurd (omega arith)

pub page_empty : (base : ℕ) (p : Row Slot) → IsPage base p → p.held ≡ 0 → [] ≡ page_entries base p
page_empty base p h none = nothing (page_entries base p) (sym h.row.counted ∙ none)

-- what a page counts is no more than what its chapter does
pub page_fewer : (tag : ℕ) (c : Row (Row Slot)) (p : Row Slot) → IsChapter (start_of 4096 tag) c → tag / 64 % 64 < length c.places.items → get_or c.places.items (tag / 64 % 64) None ≡ Some p → IsPage (start_of 64 tag) p → p.held ≤ c.held
page_fewer tag c p h within is hp =
    let part = part_fewer IsPage page_entries 64 (start_of 4096 tag) c (tag / 64 % 64) (start_of 64 tag) h.row within (omega arith) in
    let here : length (at_place page_entries (start_of 64 tag) (get_or c.places.items (tag / 64 % 64) None)) ≡ length (page_entries (start_of 64 tag) p) = ap (λ o. length (at_place page_entries (start_of 64 tag) o)) is in
    let counted = hp.row.counted in
    omega arith

-- the page at a place of a chapter keeps what a page has to
pub page_there : (tag : ℕ) (c : Row (Row Slot)) (p : Row Slot) → IsChapter (start_of 4096 tag) c → get_or c.places.items (tag / 64 % 64) None ≡ Some p → IsPage (start_of 64 tag) p
page_there tag c p h is = subst (HoldsAt IsPage (start_of 64 tag)) is (chapter_page tag c h)

-- a page with one more slot, or a new page with one, in the place of what was there
pub chapter_added : (tag : ℕ) (c d : Row (Row Slot)) (x : Option (Row Slot)) (q : Row Slot) (s : Slot) → IsChapter (start_of 4096 tag) c → tag / 64 % 64 < length c.places.items
    → get_or c.places.items (tag / 64 % 64) None ≡ x → d.places.items ≡ set c.places.items (tag / 64 % 64) (Some q) → d.held ≡ c.held + 1
    → IsPage (start_of 64 tag) q → length (page_entries (start_of 64 tag) q) ≡ length (at_place page_entries (start_of 64 tag) x) + 1
    → page_entries (start_of 64 tag) q ≡ insert_entry nat_cmp (at_place page_entries (start_of 64 tag) x) tag s
    → IsChapter (start_of 4096 tag) d × (chapter_entries (start_of 4096 tag) d ≡ insert_entry nat_cmp (chapter_entries (start_of 4096 tag) c) tag s)
chapter_added tag c d x q s h within is are held hq more e =
    chapter_changed tag c d x (Some q) (λ es. insert_entry nat_cmp es tag s) (insert_edits tag s) h within is are hq (omega arith) e

-- after a failed addition the page has the entries that it had
pub chapter_stays : (tag : ℕ) (c d : Row (Row Slot)) (p q : Row Slot) → IsChapter (start_of 4096 tag) c → tag / 64 % 64 < length c.places.items
    → get_or c.places.items (tag / 64 % 64) None ≡ Some p → d.places.items ≡ set c.places.items (tag / 64 % 64) (Some q) → d.held ≡ c.held
    → IsPage (start_of 64 tag) q → page_entries (start_of 64 tag) q ≡ page_entries (start_of 64 tag) p
    → IsChapter (start_of 4096 tag) d × (chapter_entries (start_of 4096 tag) d ≡ chapter_entries (start_of 4096 tag) c)
chapter_stays tag c d p q h within is are held hq e =
    let long = ap length e in
    chapter_changed tag c d (Some p) (Some q) (λ es. es) (stay_edits tag) h within is are hq (omega arith) e

pub chapter_empty : (base : ℕ) (c : Row (Row Slot)) → IsChapter base c → c.held ≡ 0 → [] ≡ chapter_entries base c
chapter_empty base c h none = nothing (chapter_entries base c) (sym h.row.counted ∙ none)

-- ---- all chapters

-- a chapter after an edit at a tag, in the place of what was there
pub all_changed : (tag : ℕ) (c d : Row (Row (Row Slot))) (x y : Option (Row (Row Slot))) (f : List (ℕ × Slot) → List (ℕ × Slot)) → IsEdit tag f → ArePages c → tag / 4096 < length c.places.items
    → get_or c.places.items (tag / 4096) None ≡ x → d.places.items ≡ set c.places.items (tag / 4096) y → HoldsAt IsChapter (start_of 4096 tag) y
    → d.held + length (at_place chapter_entries (start_of 4096 tag) x) ≡ c.held + length (at_place chapter_entries (start_of 4096 tag) y) → at_place chapter_entries (start_of 4096 tag) y ≡ f (at_place chapter_entries (start_of 4096 tag) x)
    → d.held < 2 ^ 63 → ArePages d × (all_entries d ≡ f (all_entries c))
all_changed tag c d x y f edits h within is are k number e small = (
  all_set tag c d y h within are k (ap (λ o. d.held + length (at_place chapter_entries (start_of 4096 tag) o)) is ∙ number) small,
  all_edited tag c d y f edits h within are (e ∙ ap (λ o. f (at_place chapter_entries (start_of 4096 tag) o)) (sym is)),
)

pub all_marked : (tag : ℕ) (c d : Row (Row (Row Slot))) (p q : Row (Row Slot)) → ArePages c → tag / 4096 < length c.places.items
    → get_or c.places.items (tag / 4096) None ≡ Some p → d.places.items ≡ set c.places.items (tag / 4096) (Some q) → d.held ≡ c.held
    → IsChapter (start_of 4096 tag) p → IsChapter (start_of 4096 tag) q → q.held ≡ p.held → IsMarked tag (chapter_entries (start_of 4096 tag) p) (chapter_entries (start_of 4096 tag) q)
    → ArePages d × IsMarked tag (all_entries c) (all_entries d)
all_marked tag c d p q h within is are held hp hq same marked =
    let was = hp.row.counted in
    let now = hq.row.counted in
    let small = h.small in (
      all_set tag c d (Some q) h within are hq (ap (λ o. d.held + length (at_place chapter_entries (start_of 4096 tag) o)) is ∙ omega arith) (omega arith),
      λ s k.
          let there = sym (all_looked_up tag c h ∙ ap (λ o. lookup (is_at (nat_cmp tag)) (at_place chapter_entries (start_of 4096 tag) o)) is) ∙ k in
          all_edited tag c d (Some q) (λ es. set_value (is_at (nat_cmp tag)) es (record s { present = false })) (set_edits tag (record s { present = false })) h within are
          (marked s there ∙ ap (λ o. set_value (is_at (nat_cmp tag)) (at_place chapter_entries (start_of 4096 tag) o) (record s { present = false })) (sym is)),
    )

pub all_removed : (tag : ℕ) (c d : Row (Row (Row Slot))) (p q : Row (Row Slot)) (y : Option (Row (Row Slot))) → ArePages c → tag / 4096 < length c.places.items
    → get_or c.places.items (tag / 4096) None ≡ Some p → d.places.items ≡ set c.places.items (tag / 4096) y → d.held + p.held ≡ c.held + q.held
    → IsChapter (start_of 4096 tag) p → IsChapter (start_of 4096 tag) q → chapter_entries (start_of 4096 tag) q ≡ remove_entry (is_at (nat_cmp tag)) (chapter_entries (start_of 4096 tag) p)
    → HoldsAt IsChapter (start_of 4096 tag) y → at_place chapter_entries (start_of 4096 tag) y ≡ chapter_entries (start_of 4096 tag) q
    → d.held ≤ c.held → ArePages d × (all_entries d ≡ remove_entry (is_at (nat_cmp tag)) (all_entries c))
all_removed tag c d p q y h within is are held hp hq e k same fewer =
    let small = h.small in
    let was = hp.row.counted in
    let now = hq.row.counted in
    let long = ap length same in
    all_changed tag c d (Some p) y (remove_entry (is_at (nat_cmp tag))) (remove_edits tag) h within is are k (omega arith) (same ∙ e) (omega arith)

-- what a chapter counts is no more than all do
pub chapter_fewer : (tag : ℕ) (c : Row (Row (Row Slot))) (p : Row (Row Slot)) → ArePages c → tag / 4096 < length c.places.items → get_or c.places.items (tag / 4096) None ≡ Some p → IsChapter (start_of 4096 tag) p → p.held ≤ c.held
chapter_fewer tag c p h within is hp =
    let part = part_fewer IsChapter chapter_entries 4096 0 c (tag / 4096) (start_of 4096 tag) h.row within (omega arith) in
    let here : length (at_place chapter_entries (start_of 4096 tag) (get_or c.places.items (tag / 4096) None)) ≡ length (chapter_entries (start_of 4096 tag) p) = ap (λ o. length (at_place chapter_entries (start_of 4096 tag) o)) is in
    let counted = hp.row.counted in
    omega arith

-- a chapter at its place keeps what a chapter has to
pub chapter_there : (tag : ℕ) (c : Row (Row (Row Slot))) (p : Row (Row Slot)) → ArePages c → get_or c.places.items (tag / 4096) None ≡ Some p → IsChapter (start_of 4096 tag) p
chapter_there tag c p h is = subst (HoldsAt IsChapter (start_of 4096 tag)) is (all_chapter tag c h)

-- a chapter with one more slot, or a new one, in the place of what was there
pub all_added : (tag : ℕ) (c d : Row (Row (Row Slot))) (x : Option (Row (Row Slot))) (q : Row (Row Slot)) (s : Slot) → ArePages c → tag / 4096 < length c.places.items
    → get_or c.places.items (tag / 4096) None ≡ x → d.places.items ≡ set c.places.items (tag / 4096) (Some q) → d.held ≡ c.held + 1
    → IsChapter (start_of 4096 tag) q → length (chapter_entries (start_of 4096 tag) q) ≡ length (at_place chapter_entries (start_of 4096 tag) x) + 1
    → chapter_entries (start_of 4096 tag) q ≡ insert_entry nat_cmp (at_place chapter_entries (start_of 4096 tag) x) tag s
    → d.held < 2 ^ 63 → ArePages d × (all_entries d ≡ insert_entry nat_cmp (all_entries c) tag s)
all_added tag c d x q s h within is are held hq more e small =
    all_changed tag c d x (Some q) (λ es. insert_entry nat_cmp es tag s) (insert_edits tag s) h within is are hq (omega arith) e small

-- after a failed addition the chapter has the entries that it had
pub all_stays : (tag : ℕ) (c d : Row (Row (Row Slot))) (p q : Row (Row Slot)) → ArePages c → tag / 4096 < length c.places.items
    → get_or c.places.items (tag / 4096) None ≡ Some p → d.places.items ≡ set c.places.items (tag / 4096) (Some q) → d.held ≡ c.held
    → IsChapter (start_of 4096 tag) q → chapter_entries (start_of 4096 tag) q ≡ chapter_entries (start_of 4096 tag) p
    → ArePages d × (all_entries d ≡ all_entries c)
all_stays tag c d p q h within is are held hq e =
    let long = ap length e in
    let small = h.small in
    all_changed tag c d (Some p) (Some q) (λ es. es) (stay_edits tag) h within is are hq (omega arith) e (omega arith)
