use Rattle.std.proofs.Common.{arith, refl, ap, sym, ◌∙◌, Some, None, ◌≡◌, ◌+◌, ◌/◌, length}
use Rattle.std.proofs.lemmas.List.{set-set}
use Rattle.std.specs.BTreeMap.{is_at, insert_entry}
use Rattle.std.specs.Map.{lookup}
use Rattle.std.specs.Ordering.{nat_cmp}
use Rattle.std.specs.Vec.{with_item}
use Rattle.work_store.specs.declared.row.Row.{Row}
use Rattle.work_store.specs.declared.slot.Slot.{Slot}
use Rattle.work_store.specs.Rows.{at_place, start_of, chapter_entries, all_entries, IsChapter, ArePages, IsGrown}
use Rattle.work_store.proofs.Levels.{all_grown, all_looked_up, all_same, entries_grown}
use Rattle.work_store.proofs.Places.{place_is, set_read, on_err, chapter_there, chapter_fewer, all_added, all_stays}
use Rattle.work_store.proofs.pages.add_to_all.Goals as goal

-- the chapters after empty places were added
reached : (c d : Row (Row (Row Slot))) → ArePages c → IsGrown c.places.items d.places.items → d.held ≡ c.held → ArePages d × (all_entries d ≡ all_entries c)
reached c d h grown held = (all_grown c d h grown held, entries_grown IsChapter chapter_entries 4096 0 c.places.items d.places.items grown)

pub returns-in_err-reach-clause-chapters : goal.returns-in_err-reach-clause-chapters
returns-in_err-reach-clause-chapters c = (reached c.args.chapters.now c.reach.new.self c.requires.chapters c.reach.ensures.grown c.reach.ensures.held).0

pub returns-in_err-reach-clause-err : goal.returns-in_err-reach-clause-err
returns-in_err-reach-clause-err c = on_err _ _ (reached c.args.chapters.now c.reach.new.self c.requires.chapters c.reach.ensures.grown c.reach.ensures.held).1

pub add_to_chapter-requires-clause-chapter : goal.add_to_chapter-requires-clause-chapter
add_to_chapter-requires-clause-chapter c =
    let far = reached c.args.chapters.now c.reach.new.self c.requires.chapters c.reach.ensures.grown c.reach.ensures.held in
    chapter_there c.args.tag c.reach.new.self c.in-Some.chapter far.0 (place_is _ _ _ _ c.in_ok-reach.ensures.ok c.index_mut.ensures.value c.in-Some.is)

pub add_to_chapter-requires-clause-small : goal.add_to_chapter-requires-clause-small
add_to_chapter-requires-clause-small c =
    let far = reached c.args.chapters.now c.reach.new.self c.requires.chapters c.reach.ensures.grown c.reach.ensures.held in
    let there = place_is _ _ _ _ c.in_ok-reach.ensures.ok c.index_mut.ensures.value c.in-Some.is in
    let fewer = chapter_fewer c.args.tag c.reach.new.self c.in-Some.chapter far.0 c.in_ok-reach.ensures.ok there (chapter_there c.args.tag c.reach.new.self c.in-Some.chapter far.0 there) in
    let held = c.reach.ensures.held in
    let below = c.if-chapters-ge-MOST_CHAPTERS.false in
    omega arith

pub add_to_chapter-requires-clause-absent : goal.add_to_chapter-requires-clause-absent
add_to_chapter-requires-clause-absent c =
    let far = reached c.args.chapters.now c.reach.new.self c.requires.chapters c.reach.ensures.grown c.reach.ensures.held in
    let there = place_is _ _ _ _ c.in_ok-reach.ensures.ok c.index_mut.ensures.value c.in-Some.is in
    sym (all_looked_up c.args.tag c.reach.new.self far.0 ∙ ap (λ o. lookup (is_at (nat_cmp c.args.tag)) (at_place chapter_entries (start_of 4096 c.args.tag) o)) there)
    ∙ ap (lookup (is_at (nat_cmp c.args.tag))) far.1 ∙ c.requires.absent

pub returns-in_err-add_to_chapter-in-Some-clause-chapters : goal.returns-in_err-add_to_chapter-in-Some-clause-chapters
returns-in_err-add_to_chapter-in-Some-clause-chapters c =
    let far = reached c.args.chapters.now c.reach.new.self c.requires.chapters c.reach.ensures.grown c.reach.ensures.held in
    let there = place_is _ _ _ _ c.in_ok-reach.ensures.ok c.index_mut.ensures.value c.in-Some.is in
    let chapter = c.add_to_chapter.new.chapter in
    let all : Row (Row (Row Slot)) = record c.reach.new.self { places = with_item c.reach.new.self.places (c.args.tag / 4096) (Some chapter) } in
    (all_stays c.args.tag c.reach.new.self all c.in-Some.chapter chapter far.0 c.in_ok-reach.ensures.ok there refl refl c.add_to_chapter.ensures.chapter c.in_err-add_to_chapter-in-Some.ensures.err).0

pub returns-in_err-add_to_chapter-in-Some-clause-err : goal.returns-in_err-add_to_chapter-in-Some-clause-err
returns-in_err-add_to_chapter-in-Some-clause-err c =
    let far = reached c.args.chapters.now c.reach.new.self c.requires.chapters c.reach.ensures.grown c.reach.ensures.held in
    let there = place_is _ _ _ _ c.in_ok-reach.ensures.ok c.index_mut.ensures.value c.in-Some.is in
    let chapter = c.add_to_chapter.new.chapter in
    let all : Row (Row (Row Slot)) = record c.reach.new.self { places = with_item c.reach.new.self.places (c.args.tag / 4096) (Some chapter) } in
    on_err _ _ ((all_stays c.args.tag c.reach.new.self all c.in-Some.chapter chapter far.0 c.in_ok-reach.ensures.ok there refl refl c.add_to_chapter.ensures.chapter c.in_err-add_to_chapter-in-Some.ensures.err).1 ∙ far.1)

-- a page has one slot more
pub returns-in_ok-add_to_chapter-in-Some : goal.returns-in_ok-add_to_chapter-in-Some
returns-in_ok-add_to_chapter-in-Some c =
    let far = reached c.args.chapters.now c.reach.new.self c.requires.chapters c.reach.ensures.grown c.reach.ensures.held in
    let there = place_is _ _ _ _ c.in_ok-reach.ensures.ok c.index_mut.ensures.value c.in-Some.is in
    let chapter = c.add_to_chapter.new.chapter in
    let all : Row (Row (Row Slot)) = record { places = with_item c.reach.new.self.places (c.args.tag / 4096) (Some chapter); held = c.reach.new.self.held + 1 } in
    let made = c.in_ok-add_to_chapter-in-Some.ensures in
    let was = (chapter_there c.args.tag c.reach.new.self c.in-Some.chapter far.0 there).row.counted in
    let now = made.chapter.row.counted in
    let more = made.held in
    let changed = all_added c.args.tag c.reach.new.self all (Some c.in-Some.chapter) chapter c.args.slot far.0 c.in_ok-reach.ensures.ok there refl refl made.chapter (omega arith) made.ok (omega (arith, c.if-chapters-ge-MOST_CHAPTERS.false, c.reach.ensures.held)) in
    record {
      chapters = changed.0;
      ok = changed.1 ∙ ap (λ es. insert_entry nat_cmp es c.args.tag c.args.slot) far.1;
      err = tt;
    }

-- no page could be made
pub returns-in_err-new_chapter-in-None-clause-chapters : goal.returns-in_err-new_chapter-in-None-clause-chapters
returns-in_err-new_chapter-in-None-clause-chapters c =
    let far = reached c.args.chapters.now c.reach.new.self c.requires.chapters c.reach.ensures.grown c.reach.ensures.held in
    let all : Row (Row (Row Slot)) = record c.reach.new.self { places = with_item c.reach.new.self.places (c.args.tag / 4096) c.index_mut.result.now } in
    (all_same c.reach.new.self all far.0 (set_read c.reach.new.self.places.items (c.args.tag / 4096) _ c.index_mut.ensures.value) refl).0

pub returns-in_err-new_chapter-in-None-clause-err : goal.returns-in_err-new_chapter-in-None-clause-err
returns-in_err-new_chapter-in-None-clause-err c =
    let far = reached c.args.chapters.now c.reach.new.self c.requires.chapters c.reach.ensures.grown c.reach.ensures.held in
    let all : Row (Row (Row Slot)) = record c.reach.new.self { places = with_item c.reach.new.self.places (c.args.tag / 4096) c.index_mut.result.now } in
    on_err _ _ ((all_same c.reach.new.self all far.0 (set_read c.reach.new.self.places.items (c.args.tag / 4096) _ c.index_mut.ensures.value) refl).1 ∙ far.1)

-- a new page has one slot
pub returns-in_ok-new_chapter-in-None : goal.returns-in_ok-new_chapter-in-None
returns-in_ok-new_chapter-in-None c =
    let far = reached c.args.chapters.now c.reach.new.self c.requires.chapters c.reach.ensures.grown c.reach.ensures.held in
    let there = place_is _ _ _ _ c.in_ok-reach.ensures.ok c.index_mut.ensures.value c.in-None.is in
    let chapter = c.in_ok-new_chapter-in-None.field-0 in
    let all : Row (Row (Row Slot)) = record { places = with_item (with_item c.reach.new.self.places (c.args.tag / 4096) c.index_mut.result.now) (c.args.tag / 4096) (Some chapter); held = c.reach.new.self.held + 1 } in
    let made = c.in_ok-new_chapter-in-None.ensures in
    let changed = all_added c.args.tag c.reach.new.self all None chapter c.args.slot far.0 c.in_ok-reach.ensures.ok there (set-set c.reach.new.self.places.items (c.args.tag / 4096) c.index_mut.result.now (Some chapter)) refl made.chapter (ap length made.entries) made.entries (omega (arith, c.if-chapters-ge-MOST_CHAPTERS.false, c.reach.ensures.held)) in
    record {
      chapters = changed.0;
      ok = changed.1 ∙ ap (λ es. insert_entry nat_cmp es c.args.tag c.args.slot) far.1;
      err = tt;
    }
