-- All that the state found stays, and what the new production matches comes.
use Rattle.std.proofs.Common.{take, suc}
use Rattle.live_rules.proofs.Grown.{grows, grown_members, grown_gone, grown_come, grown_keeps, grown_part, grown_apart, grown_same, grown_kept, grown_marks, keeps_apart, course_grown, is_of}
use Rattle.live_rules.proofs.Placed.{ok_so}
use Rattle.live_rules.proofs.growing.grow.Goals as goal

pub apply-requires-clause-members : goal.apply-requires-clause-members
apply-requires-clause-members g c =
    grown_members _ _ _ _ _ _ _ _
    (grows g.B.M.Matcher.stored g.B.M.Matcher.found g.B.M.Matcher.stands_for c.args.number c.args.program.now.rules c.args.state c.apart-matcher.result.0 c.in_ok-matcher.field-0.matcher c.apart-matcher.result.1
    c.in_ok-matcher.field-0.gone.items c.in_ok-matcher.field-0.come.items c.as_slice.result.now c.as_slice-2.result.now c.requires.before c.apart-matcher.ensures.matcher c.apart-matcher.ensures.index c.apart-matcher.ensures.agree c.in_ok-matcher.ensures.stands c.store-store.ensures.set
    c.in_ok-matcher.ensures.elements c.in_ok-matcher.ensures.settled c.as_slice.ensures.value c.as_slice-2.ensures.value)

pub apply-requires-clause-gone : goal.apply-requires-clause-gone
apply-requires-clause-gone g c =
    grown_gone _ _ _ _ _ _ _ _
    (grows g.B.M.Matcher.stored g.B.M.Matcher.found g.B.M.Matcher.stands_for c.args.number c.args.program.now.rules c.args.state c.apart-matcher.result.0 c.in_ok-matcher.field-0.matcher c.apart-matcher.result.1
    c.in_ok-matcher.field-0.gone.items c.in_ok-matcher.field-0.come.items c.as_slice.result.now c.as_slice-2.result.now c.requires.before c.apart-matcher.ensures.matcher c.apart-matcher.ensures.index c.apart-matcher.ensures.agree c.in_ok-matcher.ensures.stands c.store-store.ensures.set
    c.in_ok-matcher.ensures.elements c.in_ok-matcher.ensures.settled c.as_slice.ensures.value c.as_slice-2.ensures.value)

pub apply-requires-clause-come : goal.apply-requires-clause-come
apply-requires-clause-come g c =
    grown_come _ _ _ _ _ _ _ _
    (grows g.B.M.Matcher.stored g.B.M.Matcher.found g.B.M.Matcher.stands_for c.args.number c.args.program.now.rules c.args.state c.apart-matcher.result.0 c.in_ok-matcher.field-0.matcher c.apart-matcher.result.1
    c.in_ok-matcher.field-0.gone.items c.in_ok-matcher.field-0.come.items c.as_slice.result.now c.as_slice-2.result.now c.requires.before c.apart-matcher.ensures.matcher c.apart-matcher.ensures.index c.apart-matcher.ensures.agree c.in_ok-matcher.ensures.stands c.store-store.ensures.set
    c.in_ok-matcher.ensures.elements c.in_ok-matcher.ensures.settled c.as_slice.ensures.value c.as_slice-2.ensures.value)

pub apply-requires-clause-part : goal.apply-requires-clause-part
apply-requires-clause-part g c =
    grown_part _ _ _ _ _ _ _ _
    (grows g.B.M.Matcher.stored g.B.M.Matcher.found g.B.M.Matcher.stands_for c.args.number c.args.program.now.rules c.args.state c.apart-matcher.result.0 c.in_ok-matcher.field-0.matcher c.apart-matcher.result.1
    c.in_ok-matcher.field-0.gone.items c.in_ok-matcher.field-0.come.items c.as_slice.result.now c.as_slice-2.result.now c.requires.before c.apart-matcher.ensures.matcher c.apart-matcher.ensures.index c.apart-matcher.ensures.agree c.in_ok-matcher.ensures.stands c.store-store.ensures.set
    c.in_ok-matcher.ensures.elements c.in_ok-matcher.ensures.settled c.as_slice.ensures.value c.as_slice-2.ensures.value)

pub apply-requires-clause-apart : goal.apply-requires-clause-apart
apply-requires-clause-apart g c =
    grown_apart _ _ _ _ _ _ _ _
    (grows g.B.M.Matcher.stored g.B.M.Matcher.found g.B.M.Matcher.stands_for c.args.number c.args.program.now.rules c.args.state c.apart-matcher.result.0 c.in_ok-matcher.field-0.matcher c.apart-matcher.result.1
    c.in_ok-matcher.field-0.gone.items c.in_ok-matcher.field-0.come.items c.as_slice.result.now c.as_slice-2.result.now c.requires.before c.apart-matcher.ensures.matcher c.apart-matcher.ensures.index c.apart-matcher.ensures.agree c.in_ok-matcher.ensures.stands c.store-store.ensures.set
    c.in_ok-matcher.ensures.elements c.in_ok-matcher.ensures.settled c.as_slice.ensures.value c.as_slice-2.ensures.value)

pub apply-requires-clause-specificities : goal.apply-requires-clause-specificities
apply-requires-clause-specificities g c =
    grown_keeps _ _ _ _ _ _ _ _
    (grows g.B.M.Matcher.stored g.B.M.Matcher.found g.B.M.Matcher.stands_for c.args.number c.args.program.now.rules c.args.state c.apart-matcher.result.0 c.in_ok-matcher.field-0.matcher c.apart-matcher.result.1
    c.in_ok-matcher.field-0.gone.items c.in_ok-matcher.field-0.come.items c.as_slice.result.now c.as_slice-2.result.now c.requires.before c.apart-matcher.ensures.matcher c.apart-matcher.ensures.index c.apart-matcher.ensures.agree c.in_ok-matcher.ensures.stands c.store-store.ensures.set
    c.in_ok-matcher.ensures.elements c.in_ok-matcher.ensures.settled c.as_slice.ensures.value c.as_slice-2.ensures.value)
    (keeps_apart (take c.args.number c.args.program.now.rules) c.apart-matcher.result.1 c.args.state.index c.apart-matcher.ensures.index c.requires.before.specificities)

pub adopt-requires-clause-same : goal.adopt-requires-clause-same
adopt-requires-clause-same g c =
    grown_same _ _ _ _ _ _ _ c.apart-matcher.result.1 c.apply.new.self
    (grows g.B.M.Matcher.stored g.B.M.Matcher.found g.B.M.Matcher.stands_for c.args.number c.args.program.now.rules c.args.state c.apart-matcher.result.0 c.in_ok-matcher.field-0.matcher c.apart-matcher.result.1
    c.in_ok-matcher.field-0.gone.items c.in_ok-matcher.field-0.come.items c.as_slice.result.now c.as_slice-2.result.now c.requires.before c.apart-matcher.ensures.matcher c.apart-matcher.ensures.index c.apart-matcher.ensures.agree c.in_ok-matcher.ensures.stands c.store-store.ensures.set
    c.in_ok-matcher.ensures.elements c.in_ok-matcher.ensures.settled c.as_slice.ensures.value c.as_slice-2.ensures.value)
    c.in_ok-apply.ensures.ok

pub returns-clause-course : goal.returns-clause-course
returns-clause-course g c =
    let marks = grown_marks _ _ _ _ _ _ _ c.apart-matcher.result.1 c.apply.new.self
    (grows g.B.M.Matcher.stored g.B.M.Matcher.found g.B.M.Matcher.stands_for c.args.number c.args.program.now.rules c.args.state c.apart-matcher.result.0 c.in_ok-matcher.field-0.matcher c.apart-matcher.result.1
    c.in_ok-matcher.field-0.gone.items c.in_ok-matcher.field-0.come.items c.as_slice.result.now c.as_slice-2.result.now c.requires.before c.apart-matcher.ensures.matcher c.apart-matcher.ensures.index c.apart-matcher.ensures.agree c.in_ok-matcher.ensures.stands c.store-store.ensures.set
    c.in_ok-matcher.ensures.elements c.in_ok-matcher.ensures.settled c.as_slice.ensures.value c.as_slice-2.ensures.value)
    c.in_ok-apply.ensures.ok in
    ok_so _ _ c.adopt.result
    (λ s is. course_grown g.B.M.Matcher.stored c.args.state s c.apart-matcher.result.0 c.in_ok-matcher.field-0.matcher c.apart-matcher.result.1 c.apply.new.self c.apart-matcher.result.2 is c.apart-matcher.ensures.matcher c.apart-matcher.ensures.index c.apart-matcher.ensures.firings
    c.in_ok-matcher.ensures.elements c.in_ok-matcher.ensures.last c.in_ok-apply.ensures.ok.strategy marks)
    c.adopt.ensures

pub returns-clause-after : goal.returns-clause-after
returns-clause-after g c =
    let keeps = grown_kept _ _ _ _ _ _ _ c.apart-matcher.result.1 c.apply.new.self
    (grows g.B.M.Matcher.stored g.B.M.Matcher.found g.B.M.Matcher.stands_for c.args.number c.args.program.now.rules c.args.state c.apart-matcher.result.0 c.in_ok-matcher.field-0.matcher c.apart-matcher.result.1
    c.in_ok-matcher.field-0.gone.items c.in_ok-matcher.field-0.come.items c.as_slice.result.now c.as_slice-2.result.now c.requires.before c.apart-matcher.ensures.matcher c.apart-matcher.ensures.index c.apart-matcher.ensures.agree c.in_ok-matcher.ensures.stands c.store-store.ensures.set
    c.in_ok-matcher.ensures.elements c.in_ok-matcher.ensures.settled c.as_slice.ensures.value c.as_slice-2.ensures.value)
    c.in_ok-apply.ensures.ok c.in_ok-apply.ensures.kept in
    ok_so _ _ c.adopt.result
    (λ s is. is_of g.B.M.Matcher.stands_for (take (suc c.args.number) c.args.program.now.rules) s c.in_ok-matcher.field-0.matcher c.apply.new.self c.apart-matcher.result.2 is c.in_ok-matcher.ensures.stands keeps)
    c.adopt.ensures
