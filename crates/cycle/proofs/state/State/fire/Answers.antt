use Rattle.std.proofs.Common.{◌+◌, ◌∙◌, ap, refl, subst, sym, List, Ok, Err}
use Rattle.std.proofs.lemmas.Result.{err_from_is_err_and}
use Rattle.ops_base.specs.ConflictSet.{conflict_set}
use Rattle.ops_base.specs.declared.rules.Inst.{Inst}
use Rattle.ops_meaning.specs.Running.{Course}
use Rattle.act_phase.specs.Asking.{right_side_asks}
use Rattle.act_phase.specs.Outcomes.{setting_of}
use Rattle.conflict_index.specs.Indexed.{Member, KeepsSpecificities}
use Rattle.work_store.specs.Stored.{Stored}
use Rattle.cycle.specs.Standing.{AreGone}
use Rattle.cycle.specs.States.{Held, no_names, no_input, state_course}
use Rattle.cycle.proofs.HeldAfter.{nothing_left, held_after}
use Rattle.cycle.proofs.Marks.{some_copied, next_member, marked_specificities}
use Rattle.cycle.proofs.Standings.{leaves}
use Rattle.cycle.proofs.Firings.{same_next, fires_not, fires_unseen, behind_line, fires_badly, fires, told_bad, told_good}
use Rattle.cycle.proofs.state.State.fire.Goals as goal

pub copy_of-requires : goal.copy_of-requires
copy_of-requires g c =
    some_copied c.next.result _ (c.next.ensures.dominant c.args.program.now.rules no_names no_input c.requires.stands c.requires.specificities) c.requires.next

pub returns-in_err-inst-clause-performs : goal.returns-in_err-inst-clause-performs
returns-in_err-inst-clause-performs g c = λ i is.
    let p = err_from_is_err_and c.from_residual.result c.from_residual.ensures.1 in
    rw (p.1, p.2) (fires_not g.M.Matcher.stored (setting_of c.args.program.now c.args.watch) i c.args.self c.args.names.now c.requires.whole)

pub returns-in_err-put_trace-clause-performs : goal.returns-in_err-put_trace-clause-performs
returns-in_err-put_trace-clause-performs g c = λ i is.
    let same = same_next _ _ c.in_ok-inst.inst i (c.next.ensures.dominant c.args.program.now.rules no_names no_input c.requires.stands c.requires.specificities) c.in_ok-inst.ensures is in
    let p = err_from_is_err_and c.from_residual-in_err-put_trace.result c.from_residual-in_err-put_trace.ensures.1 in
    let next = ap (λ n. n + 1) c.firings-firing.ensures in
    rw (p.1, p.2)
    (fires_unseen g.M.Matcher.stored (setting_of c.args.program.now c.args.watch) i c.args.self c.args.names.now (c.firings-firing.result + 1) c.in_ok-inst.inst next same
    c.in_err-put_trace.field-0.0 c.in_err-put_trace.ensures.refused c.in_err-put_trace.ensures.puts)

pub mark-requires-clause-member : goal.mark-requires-clause-member
mark-requires-clause-member g c = next_member c.args.self.index.members c.next.result c.in_ok-inst.inst c.next.ensures.waiting c.in_ok-inst.ensures

pub act_out-requires-clause-specificities : goal.act_out-requires-clause-specificities
act_out-requires-clause-specificities g c =
    let P : List Member → Type 0 = KeepsSpecificities c.args.program.now.rules in
    subst P (sym (ap (λ h. h.index.members) c.mark.ensures.marked)) (marked_specificities c.args.program.now.rules c.in_ok-inst.inst c.args.self.index.members c.requires.specificities)

pub returns-in_err-state-clause-performs : goal.returns-in_err-state-clause-performs
returns-in_err-state-clause-performs g c = λ i is.
    let same = same_next _ _ c.in_ok-inst.inst i (c.next.ensures.dominant c.args.program.now.rules no_names no_input c.requires.stands c.requires.specificities) c.in_ok-inst.ensures is in
    let held = ap (λ (k : Held _). g.M.Matcher.stored k.matcher) c.mark.ensures.marked in
    let p = err_from_is_err_and c.from_residual-in_err-state.result c.from_residual-in_err-state.ensures.1 in
    let next = ap (λ n. n + 1) c.firings-firing.ensures in
    rw (p.1, p.2)
    (behind_line g.M.Matcher.stored (setting_of c.args.program.now c.args.watch) i c.args.self c.args.names.now (c.firings-firing.result + 1) c.in_ok-inst.inst next same (Err c.in_err-state.field-0.0) c.in_ok-put_trace.ensures.puts
    (fires_badly g.M.Matcher.stored (setting_of c.args.program.now c.args.watch) c.put_trace.new.out.column i c.args.self c.args.names.now (g.M.Matcher.stored c.mark.new.self.matcher) held c.in_ok-inst.inst same
    (g.M.Matcher.stored c.mark.new.self.matcher).last (ap (λ (x : Stored). x.last) held) c.act_out.new.names c.in_err-state.field-0.0 (told_bad (λ r. r.1) c.in_err-state.ensures.acts)))

pub returns-clause-performs : goal.returns-clause-performs
returns-clause-performs g c = λ i is.
    let same = same_next _ _ c.in_ok-inst.inst i (c.next.ensures.dominant c.args.program.now.rules no_names no_input c.requires.stands c.requires.specificities) c.in_ok-inst.ensures is in
    let held = ap (λ (k : Held _). g.M.Matcher.stored k.matcher) c.mark.ensures.marked in
    let next = ap (λ n. n + 1) c.firings-firing.ensures in
    behind_line g.M.Matcher.stored (setting_of c.args.program.now c.args.watch) i c.args.self c.args.names.now (c.firings-firing.result + 1) c.in_ok-inst.inst next same (Ok _) c.in_ok-put_trace.ensures.puts
    (fires g.M.Matcher.stored (setting_of c.args.program.now c.args.watch) c.put_trace.new.out.column i c.args.self c.args.names.now (g.M.Matcher.stored c.mark.new.self.matcher) held c.in_ok-inst.inst same
    (g.M.Matcher.stored c.mark.new.self.matcher).last (ap (λ (x : Stored). x.last) held) c.act_out.new.names c.in_ok-state.acted c.in_ok-state.ensures.reads (told_good (λ r. r.1) c.in_ok-state.ensures.acts)
    _ c.last_tag-last.ensures.kept (next_member c.args.self.index.members c.next.result c.in_ok-inst.inst c.next.ensures.waiting c.in_ok-inst.ensures)
    c.mark.new.self c.mark.ensures.marked c.in_ok-state.acted.changes refl (λ z. state_course g.M.Matcher.stored c.in_ok-state.state c.act_out.new.names z) (λ z. c.in_ok-state.ensures.course c.act_out.new.names z)
    (λ z. refl))

pub returns-in_err-state-clause-untouched : goal.returns-in_err-state-clause-untouched
returns-in_err-state-clause-untouched g c = λ i is none.
    let same = same_next _ _ c.in_ok-inst.inst i (c.next.ensures.dominant c.args.program.now.rules no_names no_input c.requires.stands c.requires.specificities) c.in_ok-inst.ensures is in
    c.in_err-state.ensures.untouched (ap (λ (j : Inst). right_side_asks c.args.program.now.rules j.rule) same ∙ none)

pub returns-clause-untouched : goal.returns-clause-untouched
returns-clause-untouched g c = λ i is none.
    let same = same_next _ _ c.in_ok-inst.inst i (c.next.ensures.dominant c.args.program.now.rules no_names no_input c.requires.stands c.requires.specificities) c.in_ok-inst.ensures is in
    c.in_ok-state.ensures.untouched (ap (λ (j : Inst). right_side_asks c.args.program.now.rules j.rule) same ∙ none)

pub returns-in_err-inst-clause-held : goal.returns-in_err-inst-clause-held
returns-in_err-inst-clause-held g c = λ h e. (h, e, nothing_left _ _ c.from_residual.result c.from_residual.ensures.1)

pub returns-in_err-put_trace-clause-held : goal.returns-in_err-put_trace-clause-held
returns-in_err-put_trace-clause-held g c = λ h e. (h, e, nothing_left _ _ c.from_residual-in_err-put_trace.result c.from_residual-in_err-put_trace.ensures.1)

pub returns-in_err-state-clause-held : goal.returns-in_err-state-clause-held
returns-in_err-state-clause-held g c = λ h e.
    let same = ap (λ (k : Held _). g.M.Matcher.stored k.matcher) c.mark.ensures.marked in
    let held = c.in_err-state.ensures.held h (rw same e) in
    (held.0, rw same at held.1, nothing_left _ _ c.from_residual-in_err-state.result c.from_residual-in_err-state.ensures.1)

pub returns-clause-held : goal.returns-clause-held
returns-clause-held g c = λ h e.
    let same = ap (λ (k : Held _). g.M.Matcher.stored k.matcher) c.mark.ensures.marked in
    let held = c.in_ok-state.ensures.held h (rw same e) in
    let is = ap (λ (m : Course). m.wm) (c.in_ok-state.ensures.course c.act_out.new.names no_input) in
    (held.0, rw same at held.1, (held_after c.act_out.new.names _ _ c.in_ok-state.acted.changes held.1 held.2.0 is, held.2.1))

pub returns-clause-inst : goal.returns-clause-inst
returns-clause-inst g c =
    sym (c.next.ensures.dominant c.args.program.now.rules no_names no_input c.requires.stands c.requires.specificities) ∙ c.in_ok-inst.ensures

pub returns-clause-lawful : goal.returns-clause-lawful
returns-clause-lawful g c =
    let same = ap (λ (k : Held _). g.M.Matcher.stored k.matcher) c.mark.ensures.marked in
    rw same at c.in_ok-state.ensures.lawful

pub returns-clause-leaves : goal.returns-clause-leaves
returns-clause-leaves g c =
    leaves g.M.Matcher.stored c.args.self c.mark.new.self c.in_ok-state.state c.in_ok-inst.inst c.in_ok-state.acted.halted c.in_ok-state.acted.built c.in_ok-state.acted.changes c.in_ok-state.gone
    c.in_ok-state.acted.changes refl (conflict_set c.args.program.now.rules) c.mark.ensures.marked c.mark.ensures.marks (λ names coming. c.in_ok-state.ensures.course names coming) c.in_ok-state.ensures.marks

pub returns-clause-gone : goal.returns-clause-gone
returns-clause-gone g c =
    let found = g.M.Matcher.found in
    let P : List Inst → Type 0 = λ l. AreGone l (found c.in_ok-state.state.matcher) c.in_ok-state.gone in
    subst P (ap (λ (k : Held _). found k.matcher) c.mark.ensures.marked) c.in_ok-state.ensures.gone
