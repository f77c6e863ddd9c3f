use Rattle.std.proofs.Common.{arith, refl, Some, None, ◌<◌, ◌/◌, length}
use Rattle.std.proofs.lemmas.List.{get_or_past}
use Rattle.std.specs.Vec.{with_item}
use Rattle.work_store.specs.declared.row.Row.{Row}
use Rattle.work_store.specs.declared.slot.Slot.{Slot}
use Rattle.work_store.proofs.Places.{place_is, none_marked, all_absent, all_marked, chapter_there}
use Rattle.work_store.proofs.pages.mark_in_all.Goals as goal

pub returns-then-at-len-clause-entries : goal.returns-then-at-len-clause-entries
returns-then-at-len-clause-entries c =
    none_marked c.args.tag _ _ (all_absent c.args.tag c.args.chapters.now c.requires (get_or_past c.args.chapters.now.places.items (c.args.tag / 4096) None (omega arith)))

pub mark_in_chapter-requires : goal.mark_in_chapter-requires
mark_in_chapter-requires c =
    let within : c.args.tag / 4096 < length c.args.chapters.now.places.items = omega arith in
    chapter_there c.args.tag c.args.chapters.now c.in-Some.chapter c.requires (place_is _ _ _ _ within c.index_mut.ensures.value c.in-Some.is)

pub returns-in-Some : goal.returns-in-Some
returns-in-Some c =
    let within : c.args.tag / 4096 < length c.args.chapters.now.places.items = omega arith in
    let there = place_is _ _ _ _ within c.index_mut.ensures.value c.in-Some.is in
    let chapter = c.mark_in_chapter.new.chapter in
    let all : Row (Row (Row Slot)) = record c.args.chapters.now { places = with_item c.args.chapters.now.places (c.args.tag / 4096) (Some chapter) } in
    let made = c.mark_in_chapter.ensures in
    let changed = all_marked c.args.tag c.args.chapters.now all c.in-Some.chapter chapter c.requires within there refl refl (chapter_there c.args.tag c.args.chapters.now c.in-Some.chapter c.requires there) made.chapter made.held made.entries in
    record {
      chapters = changed.0;
      entries = changed.1;
    }

pub returns-in-None-clause-entries : goal.returns-in-None-clause-entries
returns-in-None-clause-entries c =
    let within : c.args.tag / 4096 < length c.args.chapters.now.places.items = omega arith in
    none_marked c.args.tag _ _ (all_absent c.args.tag c.args.chapters.now c.requires (place_is _ _ _ _ within c.index_mut.ensures.value c.in-None.is))
