-- The new state is that of the changed program over the same working memory.
use Rattle.std.proofs.Common.{◌<◌, List, ap, sym, ◌∙◌, subst}
use Rattle.std.specs.Prelude.{All}
use Rattle.ops_base.specs.Feeding.{fed_again}
use Rattle.ops_base.specs.Instances.{IsInOrder}
use Rattle.ops_base.specs.WorkingMemory.{tags_of}
use Rattle.ops_base.specs.declared.elements.Element.{Element}
use Rattle.ops_base.specs.declared.rules.Inst.{Inst}
use Rattle.work_store.specs.Stored.{Stored}
use Rattle.conflict_index.specs.Indexed.{Indexed, fired_of}
use Rattle.live_rules.specs.Moves.{insts_moved}
use Rattle.live_rules.proofs.Placed.{placed, moved_in_order, feeds, came_all, came_of, same_found, marks_again, course_again, ok_so}
use Rattle.live_rules.proofs.renewing.remake.Goals as goal

pub made_over-requires-clause-lawful : goal.made_over-requires-clause-lawful
made_over-requires-clause-lawful g c =
    let x = g.B.M.Matcher.stored c.args.state.matcher in
    let fed = c.as_slice.ensures.value ∙ c.in_ok-changes.ensures ∙ ap (λ (w : Stored). fed_again c.len.result w.elements c.last_tag-last.result) c.store.ensures ∙ ap (fed_again c.len.result x.elements) c.last_tag-last.ensures.last in
    (feeds c.len.result x.elements x.last c.as_slice.result.now fed c.last_tag-last.ensures.kept c.last_tag-last.ensures.above).lawful

pub with_marks-requires-clause-come : goal.with_marks-requires-clause-come
with_marks-requires-clause-come g c =
    let x = g.B.M.Matcher.stored c.args.state.matcher in
    let now = c.in_ok-matcher.field-0.matcher in
    let rules = c.args.program.now.rules in
    let fed = c.as_slice.ensures.value ∙ c.in_ok-changes.ensures ∙ ap (λ (w : Stored). fed_again c.len.result w.elements c.last_tag-last.result) c.store.ensures ∙ ap (fed_again c.len.result x.elements) c.last_tag-last.ensures.last in
    let f = feeds c.len.result x.elements x.last c.as_slice.result.now fed c.last_tag-last.ensures.kept c.last_tag-last.ensures.above in
    let settled = c.in_ok-matcher.ensures.settled in
    came_of rules x.elements c.as_slice-2.result.now
    (came_all rules x.elements (g.B.M.Matcher.stored now).elements (g.B.M.Matcher.found now) c.in_ok-matcher.field-0.come.items c.as_slice-2.result.now (c.in_ok-matcher.ensures.elements ∙ f.elements)
    c.last_tag-last.ensures.kept.0 (c.store-store.ensures.set rules c.in_ok-matcher.ensures.stands) settled.come_is settled.come_in_order c.as_slice-2.ensures.value)

pub with_marks-requires-clause-marks_in_order : goal.with_marks-requires-clause-marks_in_order
with_marks-requires-clause-marks_in_order g c =
    let P : List Inst → Type 0 = IsInOrder in
    subst P (sym (c.as_slice-3.ensures.value ∙ c.in_ok-marks-2.ensures))
    (moved_in_order c.args.moved.now c.requires.from.old c.args.program.now.rules (placed c.requires.from.leads) c.in_ok-marks.field-0.items c.in_ok-marks.ensures.in_order)

pub adopt-requires-clause-same : goal.adopt-requires-clause-same
adopt-requires-clause-same g c =
    same_found (g.B.M.Matcher.found c.in_ok-matcher.field-0.matcher) c.in_ok-matcher.field-0.come.items c.as_slice-2.result.now _ c.in_ok-index.ensures.insts c.as_slice-2.ensures.value c.in_ok-matcher.ensures.settled.come_is

pub adopt-requires-clause-above : goal.adopt-requires-clause-above
adopt-requires-clause-above g c =
    let x = g.B.M.Matcher.stored c.args.state.matcher in
    let fed = c.as_slice.ensures.value ∙ c.in_ok-changes.ensures ∙ ap (λ (w : Stored). fed_again c.len.result w.elements c.last_tag-last.result) c.store.ensures ∙ ap (fed_again c.len.result x.elements) c.last_tag-last.ensures.last in
    let f = feeds c.len.result x.elements x.last c.as_slice.result.now fed c.last_tag-last.ensures.kept c.last_tag-last.ensures.above in
    let P : List Element → Type 0 = λ wm. All (λ t. 0 < t) (tags_of wm) in
    subst P (sym (c.in_ok-matcher.ensures.elements ∙ f.elements)) c.last_tag-last.ensures.above

pub returns-clause-course : goal.returns-clause-course
returns-clause-course g c =
    let x = g.B.M.Matcher.stored c.args.state.matcher in
    let k = c.args.state in
    let now = c.in_ok-matcher.field-0.matcher in
    let old = c.requires.from.old in
    let rules = c.args.program.now.rules in
    let places = c.args.moved.now in
    let fed = c.as_slice.ensures.value ∙ c.in_ok-changes.ensures ∙ ap (λ (w : Stored). fed_again c.len.result w.elements c.last_tag-last.result) c.store.ensures ∙ ap (fed_again c.len.result x.elements) c.last_tag-last.ensures.last in
    let f = feeds c.len.result x.elements x.last c.as_slice.result.now fed c.last_tag-last.ensures.kept c.last_tag-last.ensures.above in
    let settled = c.in_ok-matcher.ensures.settled in
    let rising = c.last_tag-last.ensures.kept.0 in
    let came = came_all rules x.elements (g.B.M.Matcher.stored now).elements (g.B.M.Matcher.found now) c.in_ok-matcher.field-0.come.items c.as_slice-2.result.now (c.in_ok-matcher.ensures.elements ∙ f.elements) rising
    (c.store-store.ensures.set rules c.in_ok-matcher.ensures.stands) settled.come_is settled.come_in_order c.as_slice-2.ensures.value in
    let had = c.in_ok-marks.ensures.marks ∙ ap (λ (w : Indexed). fired_of w.members) c.index-2.ensures.index in
    let moved = c.as_slice-3.ensures.value ∙ c.in_ok-marks-2.ensures ∙ ap (insts_moved places) had in
    let P : List Inst → Type 0 = IsInOrder in
    let fired = marks_again places old rules (placed c.requires.from.leads) x.elements rising k.index.members (subst P had c.in_ok-marks.ensures.in_order) (c.index.ensures.set old c.requires.from.stands)
    c.as_slice-2.result.now c.as_slice-3.result.now (fired_of c.in_ok-index.index.members) came moved c.in_ok-index.ensures.marks in
    let strategy = c.in_ok-index.ensures.strategy ∙ c.strategy-strategy.ensures.strategy ∙ ap (λ (w : Indexed). w.strategy) c.index.ensures.index in
    ok_so _ _ c.adopt.result
    (λ s is. course_again g.B.M.Matcher.stored places k s now c.in_ok-index.index c.firings-firings.result is (c.in_ok-matcher.ensures.elements ∙ f.elements) (c.in_ok-matcher.ensures.last ∙ f.tag) strategy c.firings-firings.ensures fired)
    c.adopt.ensures
