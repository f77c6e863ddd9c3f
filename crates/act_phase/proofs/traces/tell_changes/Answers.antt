use Rattle.std.proofs.Common.{[], nat_le, refl, ap, sym, ◌∙◌, length}
use Rattle.std.proofs.lemmas.Option.{slice_get_read}
use Rattle.std.proofs.lemmas.Result.{err_from_is_err_and}
use Rattle.ops_io.specs.declared.stop.Stop.TheVariants as stop
use Rattle.ops_io.proofs.PortLemmas.{put_nothing, underway_step, underway_stop}
use Rattle.act_phase.proofs.Told.{all_traced, lines_since, line_here}
use Rattle.act_phase.proofs.traces.tell_changes.Goals as goal

pub loop-place-init : goal.loop-place-init
loop-place-init g c = record { sofar = []; split = refl; put = put_nothing _ c.requires.whole }

pub tell_change-requires-clause-there : goal.tell_change-requires-clause-there
tell_change-requires-clause-there g c =
    slice_get_read c.args.doing.now.working.changes (length c.args.doing.now.working.changes) c.loop-place.place c.index-changes-place.result refl
    (rw c.changes-changes.ensures at c.loop-place-test.true) (rw c.changes-changes.ensures at c.index-changes-place.is)

pub returns-in_err-tell_change-clause-puts : goal.returns-in_err-tell_change-clause-puts
returns-in_err-tell_change-clause-puts g c =
    let p = err_from_is_err_and c.from_residual.result c.from_residual.ensures.1 in
    let l = c.loop-place in
    let working = c.args.doing.now.working in
    rw (p.1, all_traced c.args.doing.now.setting.watch c.args.out.now.column (lines_since c.args.names.now c.args.doing.now.setting.classes c.args.since working) (ap (nat_le 2) (sym c.watch.ensures) ∙ sym c.traces_elements.ensures ∙ c.if-not-traces_elements.false))
    (underway_stop stop.Write _ _ _ _ _ _ _ l.invariant
    (line_here c.args.names.now c.args.doing.now.setting.classes working.start working.changes l.place l.out.column _ c.index-changes-place.result
    (rw c.changes-changes.ensures at c.loop-place-test.true) (rw c.changes-changes.ensures at c.index-changes-place.is) refl)
    c.in_err-tell_change.ensures.puts)

pub loop-place-preserved : goal.loop-place-preserved
loop-place-preserved g c =
    let l = c.loop-place in
    let working = c.args.doing.now.working in
    underway_step _ _ _ _ _ _ _ l.invariant
    (line_here c.args.names.now c.args.doing.now.setting.classes working.start working.changes l.place l.out.column c.tell_change.new.out.column c.index-changes-place.result
    (rw c.changes-changes.ensures at c.loop-place-test.true) (rw c.changes-changes.ensures at c.index-changes-place.is) c.in_ok-tell_change.ensures.puts.column)
    c.in_ok-tell_change.ensures.puts
