use Rattle.std.proofs.Common.{◌∙◌, List, ap, subst, sym}
use Rattle.conflict_index.specs.Indexed.{fired_of}
use Rattle.ops_base.specs.declared.rules.Inst.{Inst}
use Rattle.cycle.specs.Standing.{AreGone, without_gone}
use Rattle.cycle.specs.States.{Held}
use Rattle.std.proofs.lemmas.Result.{err_from_is_err_and}
use Rattle.act_phase.specs.Outcomes.{setting_of}
use Rattle.cycle.proofs.Above.{phase_above}
use Rattle.cycle.proofs.Firings.{good_short, over_same, seen_good, told_good}
use Rattle.cycle.proofs.Phases.{members_of, specificities, gone_of, come_of, is_part, is_apart, again, phase_done}
use Rattle.cycle.proofs.Standings.{marks_left}
use Rattle.cycle.proofs.state.State.act_out.Goals as goal

pub acted_by-requires-clause-tags : goal.acted_by-requires-clause-tags
acted_by-requires-clause-tags g c = rw (ap (λ (h : Held _). g.M.Matcher.stored h.matcher) c.self.view_is) c.requires.tags

pub acted_by-requires-clause-above : goal.acted_by-requires-clause-above
acted_by-requires-clause-above g c = c.self.invariant.above

pub apply-requires-clause-members : goal.apply-requires-clause-members
apply-requires-clause-members g c =
    rw c.as_mut.ensures.value (
    members_of g.M.Matcher.stored g.M.Matcher.found g.M.Matcher.stands_for c.self.inside.matcher c.self.inside.index.value c.self.inside.firings c.self.invariant c.args.self c.self.view_is c.args.program.now.rules c.requires.stands)

pub apply-requires-clause-specificities : goal.apply-requires-clause-specificities
apply-requires-clause-specificities g c =
    rw c.as_mut.ensures.value (
    specificities g.M.Matcher.stored g.M.Matcher.found g.M.Matcher.stands_for c.self.inside.matcher c.self.inside.index.value c.self.inside.firings c.self.invariant c.args.self c.self.view_is c.args.program.now.rules c.requires.stands c.requires.specificities)

pub apply-requires-clause-gone : goal.apply-requires-clause-gone
apply-requires-clause-gone g c =
    gone_of g.M.Matcher.stored g.M.Matcher.found g.M.Matcher.stands_for c.self.inside.matcher c.self.inside.index.value c.self.inside.firings c.self.invariant c.args.self c.self.view_is c.args.program.now.rules c.requires.stands
    c.in_ok-acted.settled.matcher c.in_ok-acted.settled.gone.items c.in_ok-acted.settled.come.items c.as_slice.result.now c.as_slice-2.result.now c.in_ok-acted.ensures.settled c.as_slice.ensures.value c.as_slice-2.ensures.value
    c.last_of-last.ensures.kept c.last_of-last.ensures.set c.in_ok-acted.ensures.stands

pub apply-requires-clause-come : goal.apply-requires-clause-come
apply-requires-clause-come g c =
    come_of g.M.Matcher.stored g.M.Matcher.found g.M.Matcher.stands_for c.self.inside.matcher c.self.inside.index.value c.self.inside.firings c.self.invariant c.args.self c.self.view_is c.args.program.now.rules c.requires.stands
    c.in_ok-acted.settled.matcher c.in_ok-acted.settled.gone.items c.in_ok-acted.settled.come.items c.as_slice.result.now c.as_slice-2.result.now c.in_ok-acted.ensures.settled c.as_slice.ensures.value c.as_slice-2.ensures.value
    c.last_of-last.ensures.kept c.last_of-last.ensures.set c.in_ok-acted.ensures.stands

pub apply-requires-clause-part : goal.apply-requires-clause-part
apply-requires-clause-part g c =
    rw c.as_mut.ensures.value (
    is_part g.M.Matcher.stored g.M.Matcher.found g.M.Matcher.stands_for c.self.inside.matcher c.self.inside.index.value c.self.inside.firings c.self.invariant c.args.self c.self.view_is c.args.program.now.rules c.requires.stands
    c.in_ok-acted.settled.matcher c.in_ok-acted.settled.gone.items c.in_ok-acted.settled.come.items c.as_slice.result.now c.as_slice-2.result.now c.in_ok-acted.ensures.settled c.as_slice.ensures.value c.as_slice-2.ensures.value
    c.last_of-last.ensures.kept c.last_of-last.ensures.set c.in_ok-acted.ensures.stands)

pub apply-requires-clause-apart : goal.apply-requires-clause-apart
apply-requires-clause-apart g c =
    rw c.as_mut.ensures.value (
    is_apart g.M.Matcher.stored g.M.Matcher.found g.M.Matcher.stands_for c.self.inside.matcher c.self.inside.index.value c.self.inside.firings c.self.invariant c.args.self c.self.view_is c.args.program.now.rules c.requires.stands
    c.in_ok-acted.settled.matcher c.in_ok-acted.settled.gone.items c.in_ok-acted.settled.come.items c.as_slice.result.now c.as_slice-2.result.now c.in_ok-acted.ensures.settled c.as_slice.ensures.value c.as_slice-2.ensures.value
    c.last_of-last.ensures.kept c.last_of-last.ensures.set c.in_ok-acted.ensures.stands)

pub of-requires-clause-same : goal.of-requires-clause-same
of-requires-clause-same g c =
    again g.M.Matcher.stored g.M.Matcher.found g.M.Matcher.stands_for c.self.inside.matcher c.self.inside.index.value c.self.inside.firings c.self.invariant c.args.self c.self.view_is c.args.program.now.rules c.requires.stands
    c.in_ok-acted.settled.matcher c.in_ok-acted.settled.gone.items c.in_ok-acted.settled.come.items c.as_slice.result.now c.as_slice-2.result.now c.in_ok-acted.ensures.settled c.as_slice.ensures.value c.as_slice-2.ensures.value
    c.last_of-last.ensures.kept c.last_of-last.ensures.set c.in_ok-acted.ensures.stands c.apply.new.self (rw c.as_mut.ensures.value at c.in_ok-apply.ensures.ok)

pub of-requires-clause-above : goal.of-requires-clause-above
of-requires-clause-above g c =
    phase_above g.M.Matcher.stored (record { matcher = c.self.inside.matcher; index = c.self.inside.index.value; firings = c.self.inside.firings }) c.args.self c.self.view_is c.self.invariant.above c.in_ok-acted.acted.changes
    (rw (ap (λ (h : Held _). g.M.Matcher.stored h.matcher) c.self.view_is) at c.in_ok-acted.ensures.lawful) (g.M.Matcher.stored c.in_ok-acted.settled.matcher).elements c.in_ok-acted.ensures.elements

pub returns-clause-course : goal.returns-clause-course
returns-clause-course g c = λ names coming.
    phase_done g.M.Matcher.stored g.M.Matcher.found g.M.Matcher.stands_for c.self.inside.matcher c.self.inside.index.value c.self.inside.firings c.self.invariant c.args.self c.self.view_is c.args.program.now.rules c.requires.stands
    c.in_ok-acted.settled.matcher c.in_ok-acted.settled.gone.items c.in_ok-acted.settled.come.items c.as_slice.result.now c.as_slice-2.result.now c.in_ok-acted.ensures.settled c.as_slice.ensures.value c.as_slice-2.ensures.value
    c.last_of-last.ensures.kept c.last_of-last.ensures.set c.in_ok-acted.ensures.stands c.apply.new.self (rw c.as_mut.ensures.value at c.in_ok-apply.ensures.ok)
    c.in_ok-acted.acted.changes c.in_ok-acted.ensures.elements c.in_ok-acted.ensures.last c.of.result c.of.ensures names coming

pub returns-clause-marks : goal.returns-clause-marks
returns-clause-marks g c =
    let had = fired_of c.args.self.index.members in
    ap (λ (h : Held _). fired_of h.index.members) c.of.ensures
    ∙ marks_left (record { matcher = c.self.inside.matcher; index = c.self.inside.index.value; firings = c.self.inside.firings }) c.args.self c.self.view_is c.self.invariant.in_order
    c.args.program.now.rules c.as_slice.result.now c.as_slice-2.result.now c.apply.new.self (rw c.as_mut.ensures.value at c.in_ok-apply.ensures.ok)
    ∙ ap (λ gone. without_gone gone had) (c.as_slice.ensures.value ∙ sym c.from_vec.ensures)

pub returns-in_err-apply-clause-acts : goal.returns-in_err-apply-clause-acts
returns-in_err-apply-clause-acts g c =
    let same = ap (λ (h : Held _). g.M.Matcher.stored h.matcher) c.self.view_is in
    let p = err_from_is_err_and c.from_residual-in_err-apply.result c.from_residual-in_err-apply.ensures.1 in
    rw (p.1, p.2)
    (good_short (λ r. r.1) c.in_ok-acted.acted c.in_ok-acted.ensures.reads
    (over_same (setting_of c.args.program.now c.args.watch) c.args.out.now.column c.args.inst.now c.args.names.now (g.M.Matcher.stored c.self.inside.matcher) (g.M.Matcher.stored c.args.self.matcher) same (told_good (λ r. r.0) c.in_ok-acted.ensures.acts)))

pub returns-clause-acts : goal.returns-clause-acts
returns-clause-acts g c =
    let same = ap (λ (h : Held _). g.M.Matcher.stored h.matcher) c.self.view_is in
    seen_good (λ r. r.1)
    (over_same (setting_of c.args.program.now c.args.watch) c.args.out.now.column c.args.inst.now c.args.names.now (g.M.Matcher.stored c.self.inside.matcher) (g.M.Matcher.stored c.args.self.matcher) same (told_good (λ r. r.0) c.in_ok-acted.ensures.acts))

pub returns-clause-gone : goal.returns-clause-gone
returns-clause-gone g c =
    let found = g.M.Matcher.found in
    let s = c.in_ok-acted.ensures.settled in
    let was = ap (λ (h : Held _). found h.matcher) c.self.view_is in
    let is = ap (λ (h : Held _). found h.matcher) c.of.ensures in
    let P : List Inst → Type 0 = λ l. AreGone (found c.args.self.matcher) (found c.of.result.matcher) l in
    let Q : List Inst → Type 0 = λ l. AreGone (found c.args.self.matcher) l c.in_ok-acted.settled.gone.items in
    let R : List Inst → Type 0 = λ l. AreGone l (found c.in_ok-acted.settled.matcher) c.in_ok-acted.settled.gone.items in
    subst P (sym c.from_vec.ensures) (subst Q (sym is) (subst R was (record { are = s.gone_is; in_order = s.gone_in_order })))
