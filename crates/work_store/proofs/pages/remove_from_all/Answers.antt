use Rattle.std.proofs.Common.{arith, refl, ◌∙◌, ap, Some, None, ◌<◌, ◌-◌, ◌/◌, length}
use Rattle.std.proofs.lemmas.List.{get_or_past, set-set}
use Rattle.std.specs.Vec.{with_item}
use Rattle.work_store.specs.declared.row.Row.{Row}
use Rattle.work_store.specs.declared.slot.Slot.{Slot}
use Rattle.work_store.specs.Rows.{start_of, spread, chapter_entries}
use Rattle.work_store.proofs.Places.{place_is, set_read, none_removed, all_absent, chapter_there, chapter_fewer, chapter_empty, all_removed}
use Rattle.work_store.proofs.pages.remove_from_all.Goals as goal

pub returns-then-at-len-clause-entries : goal.returns-then-at-len-clause-entries
returns-then-at-len-clause-entries c =
    none_removed c.args.tag _ (all_absent c.args.tag c.args.chapters.now c.requires (get_or_past c.args.chapters.now.places.items (c.args.tag / 4096) None (omega arith)))

pub remove_from_chapter-requires : goal.remove_from_chapter-requires
remove_from_chapter-requires c =
    let within : c.args.tag / 4096 < length c.args.chapters.now.places.items = omega arith in
    chapter_there c.args.tag c.args.chapters.now c.in-Some.chapter c.requires (place_is _ _ _ _ within c.index_mut.ensures.value c.in-Some.is)

pub overflow_sub-chapters-in-Some : goal.overflow_sub-chapters-in-Some
overflow_sub-chapters-in-Some c =
    let within : c.args.tag / 4096 < length c.args.chapters.now.places.items = omega arith in
    let there = place_is _ _ _ _ within c.index_mut.ensures.value c.in-Some.is in
    let fewer = chapter_fewer c.args.tag c.args.chapters.now c.in-Some.chapter c.requires within there (chapter_there c.args.tag c.args.chapters.now c.in-Some.chapter c.requires there) in
    omega arith

pub returns-then-after-eq0 : goal.returns-then-after-eq0
returns-then-after-eq0 c =
    let within : c.args.tag / 4096 < length c.args.chapters.now.places.items = omega arith in
    let there = place_is _ _ _ _ within c.index_mut.ensures.value c.in-Some.is in
    let chapter = c.in-Some.chapter in
    let left = c.remove_from_chapter.new.chapter in
    let was = chapter_there c.args.tag c.args.chapters.now chapter c.requires there in
    let fewer = chapter_fewer c.args.tag c.args.chapters.now chapter c.requires within there was in
    let made = c.remove_from_chapter.ensures in
    let fewer_left = made.fewer in
    let all : Row (Row (Row Slot)) = record { places = with_item (with_item c.args.chapters.now.places (c.args.tag / 4096) (Some left)) (c.args.tag / 4096) None; held = c.args.chapters.now.held - (chapter.held - left.held) } in
    let changed =
    all_removed c.args.tag c.args.chapters.now all chapter left None c.requires within there (set-set c.args.chapters.now.places.items (c.args.tag / 4096) (Some left) None) (omega arith) was made.chapter made.entries tt
    (chapter_empty (start_of 4096 c.args.tag) left made.chapter (omega arith)) (omega arith) in
    record {
      chapters = changed.0;
      entries = changed.1;
    }

pub returns-else-after-eq0 : goal.returns-else-after-eq0
returns-else-after-eq0 c =
    let within : c.args.tag / 4096 < length c.args.chapters.now.places.items = omega arith in
    let there = place_is _ _ _ _ within c.index_mut.ensures.value c.in-Some.is in
    let chapter = c.in-Some.chapter in
    let left = c.remove_from_chapter.new.chapter in
    let was = chapter_there c.args.tag c.args.chapters.now chapter c.requires there in
    let fewer = chapter_fewer c.args.tag c.args.chapters.now chapter c.requires within there was in
    let made = c.remove_from_chapter.ensures in
    let fewer_left = made.fewer in
    let all : Row (Row (Row Slot)) = record { places = with_item c.args.chapters.now.places (c.args.tag / 4096) (Some left); held = c.args.chapters.now.held - (chapter.held - left.held) } in
    let changed = all_removed c.args.tag c.args.chapters.now all chapter left (Some left) c.requires within there refl (omega arith) was made.chapter made.entries made.chapter refl (omega arith) in
    record {
      chapters = changed.0;
      entries = changed.1;
    }

pub returns-in-None-clause-entries : goal.returns-in-None-clause-entries
returns-in-None-clause-entries c =
    let within : c.args.tag / 4096 < length c.args.chapters.now.places.items = omega arith in
    let none = place_is _ _ _ _ within c.index_mut.ensures.value c.in-None.is in
    ap (spread chapter_entries 4096 0) (set_read c.args.chapters.now.places.items (c.args.tag / 4096) _ c.index_mut.ensures.value)
    ∙ none_removed c.args.tag _ (all_absent c.args.tag c.args.chapters.now c.requires none)
