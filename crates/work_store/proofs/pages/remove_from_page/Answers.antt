use Rattle.std.proofs.Common.{arith, refl, None, ◌<◌, ◌-◌, ◌%◌, length}
use Rattle.std.proofs.lemmas.List.{get_or_past}
use Rattle.std.specs.Vec.{with_item}
use Rattle.work_store.specs.declared.row.Row.{Row}
use Rattle.work_store.specs.declared.slot.Slot.{Slot}
use Rattle.work_store.proofs.Places.{place_is, none_of, some_of, none_removed, page_absent, page_some, page_removed}
use Rattle.work_store.proofs.pages.remove_from_page.Goals as goal

pub returns-then-at-len-clause-entries : goal.returns-then-at-len-clause-entries
returns-then-at-len-clause-entries c =
    none_removed c.args.tag _ (page_absent c.args.tag c.args.page.now c.requires (get_or_past c.args.page.now.places.items (c.args.tag % 64) None (omega arith)))

pub overflow_sub-page : goal.overflow_sub-page
overflow_sub-page c =
    let within : c.args.tag % 64 < length c.args.page.now.places.items = omega arith in
    let slot = some_of c.index.result.now c.if-is_some.ensures in
    page_some c.args.tag c.args.page.now slot.0 c.requires within (place_is _ _ _ _ within c.index.ensures slot.1)

pub returns-then-is_some : goal.returns-then-is_some
returns-then-is_some c =
    let within : c.args.tag % 64 < length c.args.page.now.places.items = omega arith in
    let slot = some_of c.index.result.now c.if-is_some.ensures in
    let page : Row Slot = record { places = with_item c.args.page.now.places (c.args.tag % 64) None; held = c.args.page.now.held - 1 } in
    let there = place_is _ _ _ _ within c.index.ensures slot.1 in
    let some = page_some c.args.tag c.args.page.now slot.0 c.requires within there in
    let changed = page_removed c.args.tag c.args.page.now page slot.0 c.requires within there refl (omega arith) in
    record {
      page = changed.0;
      fewer = omega arith;
      entries = changed.1;
    }

pub returns-else-is_some-clause-entries : goal.returns-else-is_some-clause-entries
returns-else-is_some-clause-entries c =
    let within : c.args.tag % 64 < length c.args.page.now.places.items = omega arith in
    none_removed c.args.tag _ (page_absent c.args.tag c.args.page.now c.requires (place_is _ _ _ _ within c.index.ensures (none_of c.index.result.now c.if-is_some.ensures)))
