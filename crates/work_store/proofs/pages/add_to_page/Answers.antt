use Rattle.std.proofs.Common.{arith, refl, ap, ◌∙◌, Some, ◌+◌, ◌%◌}
use Rattle.std.specs.BTreeMap.{is_at, insert_entry}
use Rattle.std.specs.Map.{lookup}
use Rattle.std.specs.Ordering.{nat_cmp}
use Rattle.std.specs.Vec.{with_item}
use Rattle.work_store.specs.declared.row.Row.{Row}
use Rattle.work_store.specs.declared.slot.Slot.{Slot}
use Rattle.work_store.specs.Rows.{start_of, slot_entries, IsPage}
use Rattle.work_store.proofs.Levels.{page_grown, entries_grown}
use Rattle.work_store.proofs.Places.{on_err, page_added}
use Rattle.work_store.proofs.pages.add_to_page.Goals as goal

pub returns-in_err-reach-clause-page : goal.returns-in_err-reach-clause-page
returns-in_err-reach-clause-page c =
    page_grown (start_of 64 c.args.tag) c.args.page.now c.reach.new.self c.requires.page c.reach.ensures.grown c.reach.ensures.held (c.reach.ensures.within 64 c.requires.page.short (omega arith))

pub returns-in_err-reach-clause-err : goal.returns-in_err-reach-clause-err
returns-in_err-reach-clause-err c = on_err _ _ (entries_grown (λ _ _. Unit {0}) slot_entries 1 (start_of 64 c.args.tag) c.args.page.now.places.items c.reach.new.self.places.items c.reach.ensures.grown)

pub returns : goal.returns
returns c =
    let grown = entries_grown (λ _ _. Unit {0}) slot_entries 1 (start_of 64 c.args.tag) c.args.page.now.places.items c.reach.new.self.places.items c.reach.ensures.grown in
    let there : IsPage (start_of 64 c.args.tag) c.reach.new.self = page_grown (start_of 64 c.args.tag) c.args.page.now c.reach.new.self c.requires.page c.reach.ensures.grown c.reach.ensures.held (c.reach.ensures.within 64 c.requires.page.short (omega arith)) in
    let page : Row Slot = record { places = with_item c.reach.new.self.places (c.args.tag % 64) (Some c.args.slot); held = c.reach.new.self.held + 1 } in
    let changed = page_added c.args.tag c.reach.new.self page c.args.slot there (ap (lookup (is_at (nat_cmp c.args.tag))) grown ∙ c.requires.absent) c.in_ok-reach.ensures.ok refl refl in
    record {
      page = changed.0;
      ok = changed.1 ∙ ap (λ es. insert_entry nat_cmp es c.args.tag c.args.slot) grown;
      held = ap (λ n. n + 1) c.reach.ensures.held;
      err = tt;
      err_held = tt;
    }
