use Rattle.std.proofs.Common.{arith, refl, ◌∙◌, ap, Some, None, ◌<◌, ◌-◌, ◌/◌, ◌%◌, length}
use Rattle.std.proofs.lemmas.List.{get_or_past, set-set}
use Rattle.std.specs.Vec.{with_item}
use Rattle.work_store.specs.declared.row.Row.{Row}
use Rattle.work_store.specs.declared.slot.Slot.{Slot}
use Rattle.work_store.specs.Rows.{start_of, spread, page_entries}
use Rattle.work_store.proofs.Places.{place_is, set_read, none_removed, chapter_absent, page_there, page_fewer, page_empty, chapter_removed}
use Rattle.work_store.proofs.pages.remove_from_chapter.Goals as goal

pub returns-then-at-len-clause-entries : goal.returns-then-at-len-clause-entries
returns-then-at-len-clause-entries c =
    none_removed c.args.tag _ (chapter_absent c.args.tag c.args.chapter.now c.requires (get_or_past c.args.chapter.now.places.items (c.args.tag / 64 % 64) None (omega arith)))

pub remove_from_page-requires : goal.remove_from_page-requires
remove_from_page-requires c =
    let within : c.args.tag / 64 % 64 < length c.args.chapter.now.places.items = omega arith in
    page_there c.args.tag c.args.chapter.now c.in-Some.page c.requires (place_is _ _ _ _ within c.index_mut.ensures.value c.in-Some.is)

pub overflow_sub-chapter-in-Some : goal.overflow_sub-chapter-in-Some
overflow_sub-chapter-in-Some c =
    let within : c.args.tag / 64 % 64 < length c.args.chapter.now.places.items = omega arith in
    let there = place_is _ _ _ _ within c.index_mut.ensures.value c.in-Some.is in
    let fewer = page_fewer c.args.tag c.args.chapter.now c.in-Some.page c.requires within there (page_there c.args.tag c.args.chapter.now c.in-Some.page c.requires there) in
    omega arith

pub returns-then-after-eq0 : goal.returns-then-after-eq0
returns-then-after-eq0 c =
    let within : c.args.tag / 64 % 64 < length c.args.chapter.now.places.items = omega arith in
    let there = place_is _ _ _ _ within c.index_mut.ensures.value c.in-Some.is in
    let page = c.in-Some.page in
    let left = c.remove_from_page.new.page in
    let was = page_there c.args.tag c.args.chapter.now page c.requires there in
    let fewer = page_fewer c.args.tag c.args.chapter.now page c.requires within there was in
    let made = c.remove_from_page.ensures in
    let fewer_left = made.fewer in
    let chapter : Row (Row Slot) = record { places = with_item (with_item c.args.chapter.now.places (c.args.tag / 64 % 64) (Some left)) (c.args.tag / 64 % 64) None; held = c.args.chapter.now.held - (page.held - left.held) } in
    let changed =
    chapter_removed c.args.tag c.args.chapter.now chapter page left None c.requires within there (set-set c.args.chapter.now.places.items (c.args.tag / 64 % 64) (Some left) None) (omega arith) was made.page made.entries tt
    (page_empty (start_of 64 c.args.tag) left made.page (omega arith)) in
    record {
      chapter = changed.0;
      fewer = omega arith;
      entries = changed.1;
    }

pub returns-else-after-eq0 : goal.returns-else-after-eq0
returns-else-after-eq0 c =
    let within : c.args.tag / 64 % 64 < length c.args.chapter.now.places.items = omega arith in
    let there = place_is _ _ _ _ within c.index_mut.ensures.value c.in-Some.is in
    let page = c.in-Some.page in
    let left = c.remove_from_page.new.page in
    let was = page_there c.args.tag c.args.chapter.now page c.requires there in
    let fewer = page_fewer c.args.tag c.args.chapter.now page c.requires within there was in
    let made = c.remove_from_page.ensures in
    let fewer_left = made.fewer in
    let chapter : Row (Row Slot) = record { places = with_item c.args.chapter.now.places (c.args.tag / 64 % 64) (Some left); held = c.args.chapter.now.held - (page.held - left.held) } in
    let changed = chapter_removed c.args.tag c.args.chapter.now chapter page left (Some left) c.requires within there refl (omega arith) was made.page made.entries made.page refl in
    record {
      chapter = changed.0;
      fewer = omega arith;
      entries = changed.1;
    }

pub returns-in-None-clause-entries : goal.returns-in-None-clause-entries
returns-in-None-clause-entries c =
    let within : c.args.tag / 64 % 64 < length c.args.chapter.now.places.items = omega arith in
    let none = place_is _ _ _ _ within c.index_mut.ensures.value c.in-None.is in
    ap (spread page_entries 64 (start_of 4096 c.args.tag)) (set_read c.args.chapter.now.places.items (c.args.tag / 64 % 64) _ c.index_mut.ensures.value)
    ∙ none_removed c.args.tag _ (chapter_absent c.args.tag c.args.chapter.now c.requires none)
