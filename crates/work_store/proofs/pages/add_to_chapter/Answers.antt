use Rattle.std.proofs.Common.{arith, ℕ, refl, ap, sym, ◌∙◌, Some, None, ◌≡◌, ◌<◌, ◌≤◌, ◌+◌, ◌/◌, ◌%◌, length}
use Rattle.std.proofs.lemmas.List.{set-set}
use Rattle.std.specs.BTreeMap.{is_at, insert_entry}
use Rattle.std.specs.Map.{lookup}
use Rattle.std.specs.Ordering.{nat_cmp}
use Rattle.std.specs.Vec.{with_item}
use Rattle.work_store.specs.declared.row.Row.{Row}
use Rattle.work_store.specs.declared.slot.Slot.{Slot}
use Rattle.work_store.specs.Rows.{at_place, start_of, page_entries, chapter_entries, IsPage, IsChapter, IsGrown}
use Rattle.work_store.proofs.Levels.{chapter_grown, chapter_looked_up, chapter_same, entries_grown}
use Rattle.work_store.proofs.Places.{place_is, set_read, on_err, page_there, page_fewer, chapter_added, chapter_stays}
use Rattle.work_store.proofs.pages.add_to_chapter.Goals as goal

-- a chapter to which empty places were added
reached : (tag : ℕ) (c d : Row (Row Slot)) → IsChapter (start_of 4096 tag) c → IsGrown c.places.items d.places.items → d.held ≡ c.held
    → ((n : ℕ) → length c.places.items ≤ n → tag / 64 % 64 < n → length d.places.items ≤ n)
    → IsChapter (start_of 4096 tag) d × (chapter_entries (start_of 4096 tag) d ≡ chapter_entries (start_of 4096 tag) c)
reached tag c d h grown held within = (
  chapter_grown (start_of 4096 tag) c d h grown held (within 64 h.short (omega arith)),
  entries_grown IsPage page_entries 64 (start_of 4096 tag) c.places.items d.places.items grown,
)

pub returns-in_err-reach-clause-chapter : goal.returns-in_err-reach-clause-chapter
returns-in_err-reach-clause-chapter c = (reached c.args.tag c.args.chapter.now c.reach.new.self c.requires.chapter c.reach.ensures.grown c.reach.ensures.held c.reach.ensures.within).0

pub returns-in_err-reach-clause-err : goal.returns-in_err-reach-clause-err
returns-in_err-reach-clause-err c = on_err _ _ (reached c.args.tag c.args.chapter.now c.reach.new.self c.requires.chapter c.reach.ensures.grown c.reach.ensures.held c.reach.ensures.within).1

pub add_to_page-requires-clause-page : goal.add_to_page-requires-clause-page
add_to_page-requires-clause-page c =
    let far = reached c.args.tag c.args.chapter.now c.reach.new.self c.requires.chapter c.reach.ensures.grown c.reach.ensures.held c.reach.ensures.within in
    page_there c.args.tag c.reach.new.self c.in-Some.page far.0 (place_is _ _ _ _ c.in_ok-reach.ensures.ok c.index_mut.ensures.value c.in-Some.is)

pub add_to_page-requires-clause-small : goal.add_to_page-requires-clause-small
add_to_page-requires-clause-small c =
    let far = reached c.args.tag c.args.chapter.now c.reach.new.self c.requires.chapter c.reach.ensures.grown c.reach.ensures.held c.reach.ensures.within in
    let there = place_is _ _ _ _ c.in_ok-reach.ensures.ok c.index_mut.ensures.value c.in-Some.is in
    let fewer = page_fewer c.args.tag c.reach.new.self c.in-Some.page far.0 c.in_ok-reach.ensures.ok there (page_there c.args.tag c.reach.new.self c.in-Some.page far.0 there) in
    let held = c.reach.ensures.held in
    let small = c.requires.small in
    omega arith

pub add_to_page-requires-clause-absent : goal.add_to_page-requires-clause-absent
add_to_page-requires-clause-absent c =
    let far = reached c.args.tag c.args.chapter.now c.reach.new.self c.requires.chapter c.reach.ensures.grown c.reach.ensures.held c.reach.ensures.within in
    let there = place_is _ _ _ _ c.in_ok-reach.ensures.ok c.index_mut.ensures.value c.in-Some.is in
    sym (chapter_looked_up c.args.tag c.reach.new.self far.0 ∙ ap (λ o. lookup (is_at (nat_cmp c.args.tag)) (at_place page_entries (start_of 64 c.args.tag) o)) there)
    ∙ ap (lookup (is_at (nat_cmp c.args.tag))) far.1 ∙ c.requires.absent

pub returns-in_err-add_to_page-in-Some-clause-chapter : goal.returns-in_err-add_to_page-in-Some-clause-chapter
returns-in_err-add_to_page-in-Some-clause-chapter c =
    let far = reached c.args.tag c.args.chapter.now c.reach.new.self c.requires.chapter c.reach.ensures.grown c.reach.ensures.held c.reach.ensures.within in
    let there = place_is _ _ _ _ c.in_ok-reach.ensures.ok c.index_mut.ensures.value c.in-Some.is in
    let page = c.add_to_page.new.page in
    let chapter : Row (Row Slot) = record c.reach.new.self { places = with_item c.reach.new.self.places (c.args.tag / 64 % 64) (Some page) } in
    (chapter_stays c.args.tag c.reach.new.self chapter c.in-Some.page page far.0 c.in_ok-reach.ensures.ok there refl refl c.add_to_page.ensures.page c.in_err-add_to_page-in-Some.ensures.err).0

pub returns-in_err-add_to_page-in-Some-clause-err : goal.returns-in_err-add_to_page-in-Some-clause-err
returns-in_err-add_to_page-in-Some-clause-err c =
    let far = reached c.args.tag c.args.chapter.now c.reach.new.self c.requires.chapter c.reach.ensures.grown c.reach.ensures.held c.reach.ensures.within in
    let there = place_is _ _ _ _ c.in_ok-reach.ensures.ok c.index_mut.ensures.value c.in-Some.is in
    let page = c.add_to_page.new.page in
    let chapter : Row (Row Slot) = record c.reach.new.self { places = with_item c.reach.new.self.places (c.args.tag / 64 % 64) (Some page) } in
    on_err _ _ ((chapter_stays c.args.tag c.reach.new.self chapter c.in-Some.page page far.0 c.in_ok-reach.ensures.ok there refl refl c.add_to_page.ensures.page c.in_err-add_to_page-in-Some.ensures.err).1 ∙ far.1)

-- a page has one slot more
pub returns-in_ok-add_to_page-in-Some : goal.returns-in_ok-add_to_page-in-Some
returns-in_ok-add_to_page-in-Some c =
    let far = reached c.args.tag c.args.chapter.now c.reach.new.self c.requires.chapter c.reach.ensures.grown c.reach.ensures.held c.reach.ensures.within in
    let there = place_is _ _ _ _ c.in_ok-reach.ensures.ok c.index_mut.ensures.value c.in-Some.is in
    let page = c.add_to_page.new.page in
    let chapter : Row (Row Slot) = record { places = with_item c.reach.new.self.places (c.args.tag / 64 % 64) (Some page); held = c.reach.new.self.held + 1 } in
    let made = c.in_ok-add_to_page-in-Some.ensures in
    let was = (page_there c.args.tag c.reach.new.self c.in-Some.page far.0 there).row.counted in
    let now = made.page.row.counted in
    let more = made.held in
    let changed = chapter_added c.args.tag c.reach.new.self chapter (Some c.in-Some.page) page c.args.slot far.0 c.in_ok-reach.ensures.ok there refl refl made.page (omega arith) made.ok in
    record {
      chapter = changed.0;
      ok = changed.1 ∙ ap (λ es. insert_entry nat_cmp es c.args.tag c.args.slot) far.1;
      held = ap (λ n. n + 1) c.reach.ensures.held;
      err = tt;
      err_held = tt;
    }

-- no page could be made
pub returns-in_err-new_page-in-None-clause-chapter : goal.returns-in_err-new_page-in-None-clause-chapter
returns-in_err-new_page-in-None-clause-chapter c =
    let far = reached c.args.tag c.args.chapter.now c.reach.new.self c.requires.chapter c.reach.ensures.grown c.reach.ensures.held c.reach.ensures.within in
    let chapter : Row (Row Slot) = record c.reach.new.self { places = with_item c.reach.new.self.places (c.args.tag / 64 % 64) c.index_mut.result.now } in
    (chapter_same (start_of 4096 c.args.tag) c.reach.new.self chapter far.0 (set_read c.reach.new.self.places.items (c.args.tag / 64 % 64) _ c.index_mut.ensures.value) refl).0

pub returns-in_err-new_page-in-None-clause-err : goal.returns-in_err-new_page-in-None-clause-err
returns-in_err-new_page-in-None-clause-err c =
    let far = reached c.args.tag c.args.chapter.now c.reach.new.self c.requires.chapter c.reach.ensures.grown c.reach.ensures.held c.reach.ensures.within in
    let chapter : Row (Row Slot) = record c.reach.new.self { places = with_item c.reach.new.self.places (c.args.tag / 64 % 64) c.index_mut.result.now } in
    on_err _ _ ((chapter_same (start_of 4096 c.args.tag) c.reach.new.self chapter far.0 (set_read c.reach.new.self.places.items (c.args.tag / 64 % 64) _ c.index_mut.ensures.value) refl).1 ∙ far.1)

-- a new page has one slot
pub returns-in_ok-new_page-in-None : goal.returns-in_ok-new_page-in-None
returns-in_ok-new_page-in-None c =
    let far = reached c.args.tag c.args.chapter.now c.reach.new.self c.requires.chapter c.reach.ensures.grown c.reach.ensures.held c.reach.ensures.within in
    let there = place_is _ _ _ _ c.in_ok-reach.ensures.ok c.index_mut.ensures.value c.in-None.is in
    let page = c.in_ok-new_page-in-None.field-0 in
    let chapter : Row (Row Slot) = record { places = with_item (with_item c.reach.new.self.places (c.args.tag / 64 % 64) c.index_mut.result.now) (c.args.tag / 64 % 64) (Some page); held = c.reach.new.self.held + 1 } in
    let made = c.in_ok-new_page-in-None.ensures in
    let changed = chapter_added c.args.tag c.reach.new.self chapter None page c.args.slot far.0 c.in_ok-reach.ensures.ok there (set-set c.reach.new.self.places.items (c.args.tag / 64 % 64) c.index_mut.result.now (Some page)) refl made.page (ap length made.entries) made.entries in
    record {
      chapter = changed.0;
      ok = changed.1 ∙ ap (λ es. insert_entry nat_cmp es c.args.tag c.args.slot) far.1;
      held = ap (λ n. n + 1) c.reach.ensures.held;
      err = tt;
      err_held = tt;
    }
