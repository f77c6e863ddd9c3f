use Rattle.std.proofs.Common.{[], ap, ◌∙◌}
use Rattle.ops_base.specs.ConflictSet.{conflict_set}
use Rattle.ops_base.specs.Refraction.{still_fired}
use Rattle.ops_base.specs.WorkingMemory.{done, last_after}
use Rattle.cycle.specs.Standing.{Standing}
use Rattle.cycle.specs.States.{Held, state_course}
use Rattle.live_rules.proofs.Placed.{came_all, came_of, ok_so, same_found}
use Rattle.back_trail.proofs.remade.Remade.into_state.Goals as goal

pub with_marks-requires-clause-come : goal.with_marks-requires-clause-come
with_marks-requires-clause-come g c =
    let now = c.in_ok-matcher.field-0.matcher in
    let rules = c.args.program.now.rules in
    let settled = c.in_ok-matcher.ensures.settled in
    let elements = c.in_ok-matcher.ensures.elements ∙ ap (λ cs. done [] cs) c.as_slice.ensures.value in
    came_of rules (done [] c.self.inside.changes.items) c.as_slice-2.result.now
    (came_all rules (done [] c.self.inside.changes.items) (g.B.M.Matcher.stored now).elements (g.B.M.Matcher.found now) c.in_ok-matcher.field-0.come.items c.as_slice-2.result.now elements
    c.self.invariant.sound.well.0 (c.store-store.ensures.set rules c.in_ok-matcher.ensures.stands) settled.come_is settled.come_in_order c.as_slice-2.ensures.value)

pub adopt-requires-clause-same : goal.adopt-requires-clause-same
adopt-requires-clause-same g c =
    same_found (g.B.M.Matcher.found c.in_ok-matcher.field-0.matcher) c.in_ok-matcher.field-0.come.items c.as_slice-2.result.now _ c.in_ok-index.ensures.insts c.as_slice-2.ensures.value c.in_ok-matcher.ensures.settled.come_is

pub returns-clause-course : goal.returns-clause-course
returns-clause-course g c =
    let now = c.in_ok-matcher.field-0.matcher in
    let rules = c.args.program.now.rules in
    let all = c.self.inside.changes.items in
    let settled = c.in_ok-matcher.ensures.settled in
    let elements = c.in_ok-matcher.ensures.elements ∙ ap (λ cs. done [] cs) c.as_slice.ensures.value in
    let last = c.in_ok-matcher.ensures.last ∙ ap (λ cs. last_after 0 cs) c.as_slice.ensures.value in
    let came = came_all rules (done [] all) (g.B.M.Matcher.stored now).elements (g.B.M.Matcher.found now) c.in_ok-matcher.field-0.come.items c.as_slice-2.result.now elements
    c.self.invariant.sound.well.0 (c.store-store.ensures.set rules c.in_ok-matcher.ensures.stands) settled.come_is settled.come_in_order c.as_slice-2.ensures.value in
    let marks = c.as_slice-3.ensures.value ∙ c.in_ok-marks.ensures.insts in
    let fired = c.in_ok-index.ensures.marks ∙ ap (λ is. still_fired is c.as_slice-3.result.now) came ∙ ap (λ ms. still_fired (conflict_set rules (done [] all)) ms) marks in
    let wms = elements ∙ ap (λ (s : Standing). s.wm) c.self.view_is in
    let lasts = last ∙ ap (λ (s : Standing). s.last) c.self.view_is in
    let fireds = fired ∙ ap (λ (s : Standing). still_fired (conflict_set rules s.wm) s.fired) c.self.view_is in
    ok_so _ _ c.adopt.result
    (λ s is names coming.
    ap (λ (h : Held _). state_course g.B.M.Matcher.stored h names coming) is
    ∙ (λ i. record { wm = wms i; strategy = c.in_ok-index.ensures.strategy i; fired = fireds i; firings = c.args.firings; last = lasts i; names = names; coming = coming }))
    c.adopt.ensures
