-- What a change at one place of a page or a chapter comes to.
use Rattle.std.proofs.Common.{◌≡◌, ℕ, ◌+◌, ◌*◌, ◌/◌, ◌%◌, ◌^◌, ◌<◌, ◌≤◌, List, [], ◌∷◌, length, get_or, set, Option, Some, None, ap, sym, ◌∙◌, subst, arith}
use Rattle.std.proofs.lemmas.List.{length-set}
use Rattle.std.specs.BTreeMap.{is_at}
use Rattle.std.specs.List.{AllByRecursion}
use Rattle.std.specs.Map.{lookup}
use Rattle.std.specs.Ordering.{nat_cmp}
use Rattle.work_store.specs.declared.row.Row.{Row}
use Rattle.work_store.specs.declared.slot.Slot.{Slot}
use Rattle.work_store.specs.Rows.{at_place, spread, slot_entries, page_entries, chapter_entries, all_entries, start_of, HoldsAt, HoldsAtEach, IsRow, IsPage, IsChapter, ArePages, IsGrown}
use Rattle.work_store.proofs.Rows.{IsEdit, spread_from, spread_to, edited, looked_up, each_at, each_set, each_grown, spread_grown, number_set}

-- ---- a row

module _ {X : Type 0} (P : ℕ → X → Type 0) (inner : ℕ → X → List (ℕ × Slot)) (w base : ℕ) where
  -- a row whose count fits after a change at one place
  pub row_set : (r q : Row X) (i at : ℕ) (y : Option X) → IsRow P inner w base r → q.places.items ≡ set r.places.items i y → i < length r.places.items → at ≡ base + w * i → HoldsAt P at y
      → q.held + length (at_place inner at (get_or r.places.items i None)) ≡ r.held + length (at_place inner at y) → IsRow P inner w base q
  row_set r q i at y h are within is k number =
      let more = number_set P inner w base i at r.places.items y within is in
      let counted = h.counted in
      let same : length (spread inner w base q.places.items) ≡ length (spread inner w base (set r.places.items i y)) = ap (λ os. length (spread inner w base os)) are in
      record {
        counted = omega arith;
        each = subst (HoldsAtEach P w base) (sym are) (each_set P inner w base i at r.places.items y h.each is k);
      }

  pub row_grown : (r q : Row X) → IsRow P inner w base r → IsGrown r.places.items q.places.items → q.held ≡ r.held → IsRow P inner w base q
  row_grown r q h grown held = record {
    counted = held ∙ h.counted ∙ ap length (sym (spread_grown P inner w base grown.more r.places.items) ∙ ap (spread inner w base) (sym grown.are));
    each = subst (HoldsAtEach P w base) (sym grown.are) (each_grown P inner w base grown.more r.places.items h.each);
  }

  pub entries_grown : (before now : List (Option X)) → IsGrown before now → spread inner w base now ≡ spread inner w base before
  entries_grown before now grown = ap (spread inner w base) grown.are ∙ spread_grown P inner w base grown.more before

  -- what stands at a place is no more than the whole
  pub part_fewer : (r : Row X) (i at : ℕ) → IsRow P inner w base r → i < length r.places.items → at ≡ base + w * i → length (at_place inner at (get_or r.places.items i None)) ≤ r.held
  part_fewer r i at h within is =
      let less = number_set P inner w base i at r.places.items None within is in
      let counted = h.counted in
      omega arith

both : (P Q : ℕ × Slot → Type 0) (es : List (ℕ × Slot)) → AllByRecursion P es → AllByRecursion Q es → AllByRecursion (λ e. P e × Q e) es
both P Q [] a b = tt
both P Q (e ∷ es) a b = ((a.0, b.0), both P Q es a.1 b.1)

-- ---- a page

slot_range : (base : ℕ) (s : Slot) → Unit {0} → AllByRecursion (λ e. (base ≤ e.0) × (e.0 < base + 1)) (slot_entries base s)
slot_range base s h = ((omega arith, omega arith), tt)

pub page_range : (base : ℕ) (p : Row Slot) → IsPage base p → AllByRecursion (λ e. (base ≤ e.0) × (e.0 < base + 64)) (page_entries base p)
page_range base p h =
    let short = h.short in
    both (λ e. base ≤ e.0) (λ e. e.0 < base + 64) (page_entries base p)
    (spread_from (λ _ _. Unit {0}) slot_entries 1 slot_range base p.places.items h.row.each)
    (spread_to (λ _ _. Unit {0}) slot_entries 1 slot_range base p.places.items (base + 64) (omega arith) h.row.each)

-- the entries of a page after an edit at a tag
pub page_edited : (tag : ℕ) (p q : Row Slot) (y : Option Slot) (f : List (ℕ × Slot) → List (ℕ × Slot)) → IsEdit tag f → IsPage (start_of 64 tag) p → tag % 64 < length p.places.items → q.places.items ≡ set p.places.items (tag % 64) y
    → at_place slot_entries tag y ≡ f (at_place slot_entries tag (get_or p.places.items (tag % 64) None)) → page_entries (start_of 64 tag) q ≡ f (page_entries (start_of 64 tag) p)
page_edited tag p q y f edits h within are e =
    ap (spread slot_entries 1 (start_of 64 tag)) are
    ∙ edited (λ _ _. Unit {0}) slot_entries 1 slot_range tag f edits (start_of 64 tag) (tag % 64) tag p.places.items y h.row.each within (omega arith) (omega arith) (omega arith) e

pub page_set : (tag : ℕ) (p q : Row Slot) (y : Option Slot) → IsPage (start_of 64 tag) p → tag % 64 < length p.places.items → q.places.items ≡ set p.places.items (tag % 64) y
    → q.held + length (at_place slot_entries tag (get_or p.places.items (tag % 64) None)) ≡ p.held + length (at_place slot_entries tag y) → IsPage (start_of 64 tag) q
page_set tag p q y h within are number =
    let long = ap length are in
    let same = length-set p.places.items (tag % 64) y in
    let short = h.short in
    record {
      row = row_set (λ _ _. Unit {0}) slot_entries 1 (start_of 64 tag) p q (tag % 64) tag y h.row are within (omega arith) (free y) number;
      short = omega arith;
    }
  where
    free : (o : Option Slot) → HoldsAt (λ _ _. Unit {0}) tag o
    free None = tt
    free (Some s) = tt

-- a look-up of a tag in its page
pub page_looked_up : (tag : ℕ) (p : Row Slot) → IsPage (start_of 64 tag) p → lookup (is_at (nat_cmp tag)) (page_entries (start_of 64 tag) p) ≡ lookup (is_at (nat_cmp tag)) (at_place slot_entries tag (get_or p.places.items (tag % 64) None))
page_looked_up tag p h = looked_up (λ _ _. Unit {0}) slot_entries 1 slot_range tag (start_of 64 tag) (tag % 64) tag p.places.items h.row.each (omega arith) (omega arith) (omega arith)

pub page_grown : (base : ℕ) (p q : Row Slot) → IsPage base p → IsGrown p.places.items q.places.items → q.held ≡ p.held → length q.places.items ≤ 64 → IsPage base q
page_grown base p q h grown held short = record { row = row_grown (λ _ _. Unit {0}) slot_entries 1 base p q h.row grown held; short = short }

-- ---- a chapter

pub chapter_range : (base : ℕ) (c : Row (Row Slot)) → IsChapter base c → AllByRecursion (λ e. (base ≤ e.0) × (e.0 < base + 4096)) (chapter_entries base c)
chapter_range base c h =
    let short = h.short in
    both (λ e. base ≤ e.0) (λ e. e.0 < base + 4096) (chapter_entries base c)
    (spread_from IsPage page_entries 64 page_range base c.places.items h.row.each)
    (spread_to IsPage page_entries 64 page_range base c.places.items (base + 4096) (omega arith) h.row.each)

pub chapter_edited : (tag : ℕ) (c d : Row (Row Slot)) (y : Option (Row Slot)) (f : List (ℕ × Slot) → List (ℕ × Slot)) → IsEdit tag f → IsChapter (start_of 4096 tag) c → tag / 64 % 64 < length c.places.items → d.places.items ≡ set c.places.items (tag / 64 % 64) y
    → at_place page_entries (start_of 64 tag) y ≡ f (at_place page_entries (start_of 64 tag) (get_or c.places.items (tag / 64 % 64) None)) → chapter_entries (start_of 4096 tag) d ≡ f (chapter_entries (start_of 4096 tag) c)
chapter_edited tag c d y f edits h within are e =
    ap (spread page_entries 64 (start_of 4096 tag)) are
    ∙ edited IsPage page_entries 64 page_range tag f edits (start_of 4096 tag) (tag / 64 % 64) (start_of 64 tag) c.places.items y h.row.each within (omega arith) (omega arith) (omega arith) e

pub chapter_set : (tag : ℕ) (c d : Row (Row Slot)) (y : Option (Row Slot)) → IsChapter (start_of 4096 tag) c → tag / 64 % 64 < length c.places.items → d.places.items ≡ set c.places.items (tag / 64 % 64) y → HoldsAt IsPage (start_of 64 tag) y
    → d.held + length (at_place page_entries (start_of 64 tag) (get_or c.places.items (tag / 64 % 64) None)) ≡ c.held + length (at_place page_entries (start_of 64 tag) y) → IsChapter (start_of 4096 tag) d
chapter_set tag c d y h within are k number =
    let long = ap length are in
    let same = length-set c.places.items (tag / 64 % 64) y in
    let short = h.short in
    record {
      row = row_set IsPage page_entries 64 (start_of 4096 tag) c d (tag / 64 % 64) (start_of 64 tag) y h.row are within (omega arith) k number;
      short = omega arith;
    }

pub chapter_looked_up : (tag : ℕ) (c : Row (Row Slot)) → IsChapter (start_of 4096 tag) c
    → lookup (is_at (nat_cmp tag)) (chapter_entries (start_of 4096 tag) c) ≡ lookup (is_at (nat_cmp tag)) (at_place page_entries (start_of 64 tag) (get_or c.places.items (tag / 64 % 64) None))
chapter_looked_up tag c h = looked_up IsPage page_entries 64 page_range tag (start_of 4096 tag) (tag / 64 % 64) (start_of 64 tag) c.places.items h.row.each (omega arith) (omega arith) (omega arith)

pub chapter_page : (tag : ℕ) (c : Row (Row Slot)) → IsChapter (start_of 4096 tag) c → HoldsAt IsPage (start_of 64 tag) (get_or c.places.items (tag / 64 % 64) None)
chapter_page tag c h = each_at IsPage page_entries 64 (start_of 4096 tag) (tag / 64 % 64) (start_of 64 tag) c.places.items h.row.each (omega arith)

pub chapter_grown : (base : ℕ) (c d : Row (Row Slot)) → IsChapter base c → IsGrown c.places.items d.places.items → d.held ≡ c.held → length d.places.items ≤ 64 → IsChapter base d
chapter_grown base c d h grown held short = record { row = row_grown IsPage page_entries 64 base c d h.row grown held; short = short }

pub chapter_same : (base : ℕ) (c d : Row (Row Slot)) → IsChapter base c → d.places.items ≡ c.places.items → d.held ≡ c.held → IsChapter base d × (chapter_entries base d ≡ chapter_entries base c)
chapter_same base c d h are held =
    let long = ap length are in
    let short = h.short in
    let same = ap (spread page_entries 64 base) are in (
      record {
        row = record { counted = held ∙ h.row.counted ∙ ap length (sym same); each = subst (HoldsAtEach IsPage 64 base) (sym are) h.row.each };
        short = omega arith;
      },
      same,
    )

-- ---- all chapters

pub all_edited : (tag : ℕ) (c d : Row (Row (Row Slot))) (y : Option (Row (Row Slot))) (f : List (ℕ × Slot) → List (ℕ × Slot)) → IsEdit tag f → ArePages c → tag / 4096 < length c.places.items → d.places.items ≡ set c.places.items (tag / 4096) y
    → at_place chapter_entries (start_of 4096 tag) y ≡ f (at_place chapter_entries (start_of 4096 tag) (get_or c.places.items (tag / 4096) None)) → all_entries d ≡ f (all_entries c)
all_edited tag c d y f edits h within are e =
    ap (spread chapter_entries 4096 0) are
    ∙ edited IsChapter chapter_entries 4096 chapter_range tag f edits 0 (tag / 4096) (start_of 4096 tag) c.places.items y h.row.each within (omega arith) (omega arith) (omega arith) e

pub all_set : (tag : ℕ) (c d : Row (Row (Row Slot))) (y : Option (Row (Row Slot))) → ArePages c → tag / 4096 < length c.places.items → d.places.items ≡ set c.places.items (tag / 4096) y → HoldsAt IsChapter (start_of 4096 tag) y
    → d.held + length (at_place chapter_entries (start_of 4096 tag) (get_or c.places.items (tag / 4096) None)) ≡ c.held + length (at_place chapter_entries (start_of 4096 tag) y) → d.held < 2 ^ 63 → ArePages d
all_set tag c d y h within are k number small = record {
  row = row_set IsChapter chapter_entries 4096 0 c d (tag / 4096) (start_of 4096 tag) y h.row are within (omega arith) k number;
  small = small;
}

pub all_looked_up : (tag : ℕ) (c : Row (Row (Row Slot))) → ArePages c
    → lookup (is_at (nat_cmp tag)) (all_entries c) ≡ lookup (is_at (nat_cmp tag)) (at_place chapter_entries (start_of 4096 tag) (get_or c.places.items (tag / 4096) None))
all_looked_up tag c h = looked_up IsChapter chapter_entries 4096 chapter_range tag 0 (tag / 4096) (start_of 4096 tag) c.places.items h.row.each (omega arith) (omega arith) (omega arith)

pub all_chapter : (tag : ℕ) (c : Row (Row (Row Slot))) → ArePages c → HoldsAt IsChapter (start_of 4096 tag) (get_or c.places.items (tag / 4096) None)
all_chapter tag c h = each_at IsChapter chapter_entries 4096 0 (tag / 4096) (start_of 4096 tag) c.places.items h.row.each (omega arith)

pub all_grown : (c d : Row (Row (Row Slot))) → ArePages c → IsGrown c.places.items d.places.items → d.held ≡ c.held → ArePages d
all_grown c d h grown held =
    let small = h.small in
    record { row = row_grown IsChapter chapter_entries 4096 0 c d h.row grown held; small = omega arith }

pub all_same : (c d : Row (Row (Row Slot))) → ArePages c → d.places.items ≡ c.places.items → d.held ≡ c.held → ArePages d × (all_entries d ≡ all_entries c)
all_same c d h are held =
    let small = h.small in
    let same = ap (spread chapter_entries 4096 0) are in (
      record {
        row = record { counted = held ∙ h.row.counted ∙ ap length (sym same); each = subst (HoldsAtEach IsChapter 4096 0) (sym are) h.row.each };
        small = omega arith;
      },
      same,
    )
