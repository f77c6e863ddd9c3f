use Rattle.std.proofs.Common.{arith, refl, Some, None, ◌<◌, ◌/◌, ◌%◌, length}
use Rattle.std.proofs.lemmas.List.{get_or_past}
use Rattle.std.specs.Vec.{with_item}
use Rattle.work_store.specs.declared.row.Row.{Row}
use Rattle.work_store.specs.declared.slot.Slot.{Slot}
use Rattle.work_store.proofs.Places.{place_is, none_marked, chapter_absent, chapter_marked, page_there}
use Rattle.work_store.proofs.pages.mark_in_chapter.Goals as goal

pub returns-then-at-len-clause-entries : goal.returns-then-at-len-clause-entries
returns-then-at-len-clause-entries c =
    none_marked c.args.tag _ _ (chapter_absent c.args.tag c.args.chapter.now c.requires (get_or_past c.args.chapter.now.places.items (c.args.tag / 64 % 64) None (omega arith)))

pub mark_in_page-requires : goal.mark_in_page-requires
mark_in_page-requires c =
    let within : c.args.tag / 64 % 64 < length c.args.chapter.now.places.items = omega arith in
    page_there c.args.tag c.args.chapter.now c.in-Some.page c.requires (place_is _ _ _ _ within c.index_mut.ensures.value c.in-Some.is)

pub returns-in-Some : goal.returns-in-Some
returns-in-Some c =
    let within : c.args.tag / 64 % 64 < length c.args.chapter.now.places.items = omega arith in
    let there = place_is _ _ _ _ within c.index_mut.ensures.value c.in-Some.is in
    let page = c.mark_in_page.new.page in
    let chapter : Row (Row Slot) = record c.args.chapter.now { places = with_item c.args.chapter.now.places (c.args.tag / 64 % 64) (Some page) } in
    let made = c.mark_in_page.ensures in
    let changed = chapter_marked c.args.tag c.args.chapter.now chapter c.in-Some.page page c.requires within there refl refl (page_there c.args.tag c.args.chapter.now c.in-Some.page c.requires there) made.page made.held made.entries in
    record {
      chapter = changed.0;
      held = refl;
      entries = changed.1;
    }

pub returns-in-None-clause-entries : goal.returns-in-None-clause-entries
returns-in-None-clause-entries c =
    let within : c.args.tag / 64 % 64 < length c.args.chapter.now.places.items = omega arith in
    none_marked c.args.tag _ _ (chapter_absent c.args.tag c.args.chapter.now c.requires (place_is _ _ _ _ within c.index_mut.ensures.value c.in-None.is))
