use Rattle.std.proofs.Common.{arith, refl, Some, None, false, ◌<◌, ◌%◌, length}
use Rattle.std.proofs.lemmas.List.{get_or_past}
use Rattle.std.specs.Vec.{with_item}
use Rattle.work_store.specs.declared.row.Row.{Row}
use Rattle.work_store.specs.declared.slot.Slot.{Slot}
use Rattle.work_store.proofs.Places.{place_is, none_marked, page_absent, page_marked}
use Rattle.work_store.proofs.pages.mark_in_page.Goals as goal

pub returns-then-at-len-clause-entries : goal.returns-then-at-len-clause-entries
returns-then-at-len-clause-entries c =
    none_marked c.args.tag _ _ (page_absent c.args.tag c.args.page.now c.requires (get_or_past c.args.page.now.places.items (c.args.tag % 64) None (omega arith)))

pub returns-in-Some : goal.returns-in-Some
returns-in-Some c =
    let within : c.args.tag % 64 < length c.args.page.now.places.items = omega arith in
    let page : Row Slot = record c.args.page.now { places = with_item c.args.page.now.places (c.args.tag % 64) (Some (record c.in-Some.slot { present = false })) } in
    let changed = page_marked c.args.tag c.args.page.now page c.in-Some.slot c.requires within (place_is _ _ _ _ within c.index_mut.ensures.value c.in-Some.is) refl refl in
    record {
      page = changed.0;
      held = refl;
      entries = changed.1;
    }

pub returns-in-None-clause-entries : goal.returns-in-None-clause-entries
returns-in-None-clause-entries c =
    let within : c.args.tag % 64 < length c.args.page.now.places.items = omega arith in
    none_marked c.args.tag _ _ (page_absent c.args.tag c.args.page.now c.requires (place_is _ _ _ _ within c.index_mut.ensures.value c.in-None.is))
