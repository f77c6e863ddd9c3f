use Rattle.std.proofs.Common.{ap, sym, ◌∙◌, get_or, None, ◌%◌}
use Rattle.std.specs.BTreeMap.{is_at}
use Rattle.std.specs.Map.{lookup}
use Rattle.std.specs.Ordering.{nat_cmp}
use Rattle.work_store.specs.Rows.{at_place, start_of, page_entries, chapter_entries}
use Rattle.work_store.proofs.Levels.{page_looked_up, chapter_looked_up, all_looked_up}
use Rattle.work_store.proofs.Places.{all_absent, chapter_absent, chapter_there, page_there, slot_found}
use Rattle.work_store.proofs.pages.Pages.get.Goals as goal

pub returns-in_err-chapter : goal.returns-in_err-chapter
returns-in_err-chapter c =
    rw c.from_residual.ensures
    (sym (ap (lookup (is_at (nat_cmp c.args.tag))) (sym c.self.view_is) ∙ all_absent c.args.tag c.self.inside.chapters c.self.invariant (sym c.in_err-chapter.ensures)))

pub returns-in_err-page : goal.returns-in_err-page
returns-in_err-page c =
    let all = c.self.inside.chapters in
    let chapter = c.in_ok-chapter.chapter.now in
    let there = sym c.in_ok-chapter.ensures in
    let in_chapter = all_looked_up c.args.tag all c.self.invariant ∙ ap (λ o. lookup (is_at (nat_cmp c.args.tag)) (at_place chapter_entries (start_of 4096 c.args.tag) o)) there in
    let none = chapter_absent c.args.tag chapter (chapter_there c.args.tag all chapter c.self.invariant there) (sym c.in_err-page.ensures) in
    rw c.from_residual-in_err-page.ensures (sym (ap (lookup (is_at (nat_cmp c.args.tag))) (sym c.self.view_is) ∙ in_chapter ∙ none))

pub returns : goal.returns
returns c =
    let all = c.self.inside.chapters in
    let chapter = c.in_ok-chapter.chapter.now in
    let page = c.in_ok-page.page.now in
    let there = sym c.in_ok-chapter.ensures in
    let page_is = sym c.in_ok-page.ensures in
    let is_chapter = chapter_there c.args.tag all chapter c.self.invariant there in
    let in_chapter = all_looked_up c.args.tag all c.self.invariant ∙ ap (λ o. lookup (is_at (nat_cmp c.args.tag)) (at_place chapter_entries (start_of 4096 c.args.tag) o)) there in
    let in_page = chapter_looked_up c.args.tag chapter is_chapter ∙ ap (λ o. lookup (is_at (nat_cmp c.args.tag)) (at_place page_entries (start_of 64 c.args.tag) o)) page_is in
    let in_place = page_looked_up c.args.tag page (page_there c.args.tag chapter page is_chapter page_is) ∙ slot_found c.args.tag (get_or page.places.items (c.args.tag % 64) None) in
    c.get-3.ensures ∙ sym (ap (lookup (is_at (nat_cmp c.args.tag))) (sym c.self.view_is) ∙ in_chapter ∙ in_page ∙ in_place)
