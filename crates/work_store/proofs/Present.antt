-- The present elements of rows are those of their entries.
use Rattle.std.proofs.Common.{◌≡◌, ℕ, ◌+◌, Bool, true, false, cond, List, [], ◌∷◌, ◌++◌, Option, Some, None, refl, ap, sym, ◌∙◌}
use Rattle.ops_base.specs.declared.elements.Element.{Element}
use Rattle.work_store.specs.declared.row.Row.{Row}
use Rattle.work_store.specs.declared.slot.Slot.{Slot}
use Rattle.work_store.specs.Rows.{spread, standing, elements_by, slot_elements, page_elements, chapter_elements, slot_entries, page_entries, chapter_entries, all_entries}
use Rattle.work_store.specs.Slots.{passing, elements_of, those, is_present}

those_append : (before bs : List (ℕ × Slot)) → those is_present (before ++ bs) ≡ those is_present before ++ those is_present bs
those_append [] bs = refl
those_append (e ∷ before) bs = by (is_present e.1) (those_append before bs)
  where
    by : (b : Bool) → those is_present (before ++ bs) ≡ those is_present before ++ those is_present bs
        → elements_of (cond b (e ∷ passing is_present (before ++ bs)) (passing is_present (before ++ bs))) ≡ elements_of (cond b (e ∷ passing is_present before) (passing is_present before)) ++ those is_present bs
    by true ih = ap (λ xs. e.1.element ∷ xs) ih
    by false ih = ih

row_elements : {X : Type 0} (inner : ℕ → X → List (ℕ × Slot)) (f : X → List Element) → ((base : ℕ) (x : X) → f x ≡ those is_present (inner base x))
    → (w base : ℕ) (os : List (Option X)) → elements_by f (standing os) ≡ those is_present (spread inner w base os)
row_elements inner f same w base [] = refl
row_elements inner f same w base (None ∷ os) = row_elements inner f same w (base + w) os
row_elements inner f same w base (Some x ∷ os) =
    ap (λ xs. xs ++ elements_by f (standing os)) (same base x)
    ∙ ap (λ xs. those is_present (inner base x) ++ xs) (row_elements inner f same w (base + w) os)
    ∙ sym (those_append (inner base x) (spread inner w (base + w) os))

one_element : (base : ℕ) (s : Slot) → slot_elements s ≡ those is_present (slot_entries base s)
one_element base s = by s.present
  where
    by : (b : Bool) → cond b (s.element ∷ []) [] ≡ elements_of (cond b ((base, s) ∷ []) [])
    by true = refl
    by false = refl

in_page : (base : ℕ) (p : Row Slot) → page_elements p ≡ those is_present (page_entries base p)
in_page base p = row_elements slot_entries slot_elements one_element 1 base p.places.items

in_chapter : (base : ℕ) (c : Row (Row Slot)) → chapter_elements c ≡ those is_present (chapter_entries base c)
in_chapter base c = row_elements page_entries page_elements in_page 64 base c.places.items

pub in_all : (c : Row (Row (Row Slot))) → elements_by chapter_elements (standing c.places.items) ≡ those is_present (all_entries c)
in_all c = row_elements chapter_entries chapter_elements in_chapter 4096 0 c.places.items

nothing_first : (xs ys : List Element) → xs ++ ys ≡ [] → xs ≡ []
nothing_first [] ys h = refl
nothing_first (x ∷ xs) ys h = absurd (cc)

-- where no page is left, the pages of the next chapter take their place
pub next_chapter : (slots pages none left all : List Element) (chapters rest : List (Row (Row Slot))) (c : Row (Row Slot)) (places : List (Option (Row Slot)))
    → (slots ++ pages) ++ elements_by chapter_elements chapters ≡ all → slots ++ pages ≡ [] → none ++ left ≡ [] → chapters ≡ c ∷ rest → places ≡ c.places.items
    → (none ++ elements_by page_elements (standing places)) ++ elements_by chapter_elements rest ≡ all
next_chapter slots pages none left all chapters rest c places was empty still first are =
    ap (λ xs. (xs ++ elements_by page_elements (standing places)) ++ elements_by chapter_elements rest) (nothing_first none left still)
    ∙ ap (λ os. elements_by page_elements (standing os) ++ elements_by chapter_elements rest) are
    ∙ sym (ap (elements_by chapter_elements) first)
    ∙ sym (ap (λ xs. xs ++ elements_by chapter_elements chapters) empty)
    ∙ was
