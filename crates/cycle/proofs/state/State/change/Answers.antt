use Rattle.cycle.proofs.Above.{phase_above}
use Rattle.cycle.proofs.Phases.{members_of, specificities, gone_of, come_of, is_part, is_apart, again, phase_done}
use Rattle.cycle.proofs.state.State.change.Goals as goal

pub apply-requires-clause-members : goal.apply-requires-clause-members
apply-requires-clause-members g c =
    rw c.as_mut.ensures.value (
    members_of g.M.Matcher.stored g.M.Matcher.found g.M.Matcher.stands_for c.self.inside.matcher c.self.inside.index.value c.self.inside.firings c.self.invariant c.args.self c.self.view_is c.args.program.now.rules c.requires.stands)

pub apply-requires-clause-specificities : goal.apply-requires-clause-specificities
apply-requires-clause-specificities g c =
    rw c.as_mut.ensures.value (
    specificities g.M.Matcher.stored g.M.Matcher.found g.M.Matcher.stands_for c.self.inside.matcher c.self.inside.index.value c.self.inside.firings c.self.invariant c.args.self c.self.view_is c.args.program.now.rules c.requires.stands c.requires.specificities)

pub apply-requires-clause-gone : goal.apply-requires-clause-gone
apply-requires-clause-gone g c =
    gone_of g.M.Matcher.stored g.M.Matcher.found g.M.Matcher.stands_for c.self.inside.matcher c.self.inside.index.value c.self.inside.firings c.self.invariant c.args.self c.self.view_is c.args.program.now.rules c.requires.stands
    c.in_ok-matcher.field-0.matcher c.in_ok-matcher.field-0.gone.items c.in_ok-matcher.field-0.come.items c.as_slice.result.now c.as_slice-2.result.now c.in_ok-matcher.ensures.settled c.as_slice.ensures.value c.as_slice-2.ensures.value
    c.last_of-last.ensures.kept c.last_of-last.ensures.set c.in_ok-matcher.ensures.stands

pub apply-requires-clause-come : goal.apply-requires-clause-come
apply-requires-clause-come g c =
    come_of g.M.Matcher.stored g.M.Matcher.found g.M.Matcher.stands_for c.self.inside.matcher c.self.inside.index.value c.self.inside.firings c.self.invariant c.args.self c.self.view_is c.args.program.now.rules c.requires.stands
    c.in_ok-matcher.field-0.matcher c.in_ok-matcher.field-0.gone.items c.in_ok-matcher.field-0.come.items c.as_slice.result.now c.as_slice-2.result.now c.in_ok-matcher.ensures.settled c.as_slice.ensures.value c.as_slice-2.ensures.value
    c.last_of-last.ensures.kept c.last_of-last.ensures.set c.in_ok-matcher.ensures.stands

pub apply-requires-clause-part : goal.apply-requires-clause-part
apply-requires-clause-part g c =
    rw c.as_mut.ensures.value (
    is_part g.M.Matcher.stored g.M.Matcher.found g.M.Matcher.stands_for c.self.inside.matcher c.self.inside.index.value c.self.inside.firings c.self.invariant c.args.self c.self.view_is c.args.program.now.rules c.requires.stands
    c.in_ok-matcher.field-0.matcher c.in_ok-matcher.field-0.gone.items c.in_ok-matcher.field-0.come.items c.as_slice.result.now c.as_slice-2.result.now c.in_ok-matcher.ensures.settled c.as_slice.ensures.value c.as_slice-2.ensures.value
    c.last_of-last.ensures.kept c.last_of-last.ensures.set c.in_ok-matcher.ensures.stands)

pub apply-requires-clause-apart : goal.apply-requires-clause-apart
apply-requires-clause-apart g c =
    rw c.as_mut.ensures.value (
    is_apart g.M.Matcher.stored g.M.Matcher.found g.M.Matcher.stands_for c.self.inside.matcher c.self.inside.index.value c.self.inside.firings c.self.invariant c.args.self c.self.view_is c.args.program.now.rules c.requires.stands
    c.in_ok-matcher.field-0.matcher c.in_ok-matcher.field-0.gone.items c.in_ok-matcher.field-0.come.items c.as_slice.result.now c.as_slice-2.result.now c.in_ok-matcher.ensures.settled c.as_slice.ensures.value c.as_slice-2.ensures.value
    c.last_of-last.ensures.kept c.last_of-last.ensures.set c.in_ok-matcher.ensures.stands)

pub of-requires-clause-same : goal.of-requires-clause-same
of-requires-clause-same g c =
    again g.M.Matcher.stored g.M.Matcher.found g.M.Matcher.stands_for c.self.inside.matcher c.self.inside.index.value c.self.inside.firings c.self.invariant c.args.self c.self.view_is c.args.program.now.rules c.requires.stands
    c.in_ok-matcher.field-0.matcher c.in_ok-matcher.field-0.gone.items c.in_ok-matcher.field-0.come.items c.as_slice.result.now c.as_slice-2.result.now c.in_ok-matcher.ensures.settled c.as_slice.ensures.value c.as_slice-2.ensures.value
    c.last_of-last.ensures.kept c.last_of-last.ensures.set c.in_ok-matcher.ensures.stands c.apply.new.self (rw c.as_mut.ensures.value at c.in_ok-apply.ensures.ok)

pub of-requires-clause-above : goal.of-requires-clause-above
of-requires-clause-above g c =
    phase_above g.M.Matcher.stored (record { matcher = c.self.inside.matcher; index = c.self.inside.index.value; firings = c.self.inside.firings }) c.args.self c.self.view_is c.self.invariant.above c.args.changes.now
    c.requires.lawful (g.M.Matcher.stored c.in_ok-matcher.field-0.matcher).elements c.in_ok-matcher.ensures.elements

pub returns-clause-course : goal.returns-clause-course
returns-clause-course g c = λ names coming.
    phase_done g.M.Matcher.stored g.M.Matcher.found g.M.Matcher.stands_for c.self.inside.matcher c.self.inside.index.value c.self.inside.firings c.self.invariant c.args.self c.self.view_is c.args.program.now.rules c.requires.stands
    c.in_ok-matcher.field-0.matcher c.in_ok-matcher.field-0.gone.items c.in_ok-matcher.field-0.come.items c.as_slice.result.now c.as_slice-2.result.now c.in_ok-matcher.ensures.settled c.as_slice.ensures.value c.as_slice-2.ensures.value
    c.last_of-last.ensures.kept c.last_of-last.ensures.set c.in_ok-matcher.ensures.stands c.apply.new.self (rw c.as_mut.ensures.value at c.in_ok-apply.ensures.ok)
    c.args.changes.now c.in_ok-matcher.ensures.elements c.in_ok-matcher.ensures.last c.of.result c.of.ensures names coming
