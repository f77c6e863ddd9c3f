use Rattle.std.proofs.Common.{[], refl, ap, sym, ◌∙◌, length}
use Rattle.ops_base.specs.declared.actions.Action.TheVariants as action
use Rattle.ops_meaning.specs.Effects.{writes}
use Rattle.act_phase.specs.Asking.{action_asks}
use Rattle.act_phase.specs.State.{doing_of}
use Rattle.act_phase.specs.declared.outcome.ActionError.TheVariants as mishap
use Rattle.act_phase.proofs.Deeds.{still_all, still_short}
use Rattle.act_phase.proofs.ItemLemmas.{bytes_put, bytes_refused}
use Rattle.act_phase.proofs.Steps.{action_quiet, same_action}
use Rattle.act_phase.proofs.Told.{removal_told}
use Rattle.act_phase.proofs.right_side.act_one.Goals as goal

pub returns-in_err-remove-in-Remove-clause-does : goal.returns-in_err-remove-in-Remove-clause-does
returns-in_err-remove-in-Remove-clause-does g c = still_short _ mishap.OutOfMemory c.from_residual.ensures.1 refl refl (still_all _ _ c.requires.whole)

pub returns-in_err-tell_changes-in-Remove-clause-does : goal.returns-in_err-tell_changes-in-Remove-clause-does
returns-in_err-tell_changes-in-Remove-clause-does g c =
    bytes_refused _ _
    (removal_told c.args.doing.now.setting c.args.doing.now c.remove.new.doing _ c.args.action.now (length c.changes-since.result.now) c.in-Remove.cells c.as_slice.result.now c.requires.whole c.in-Remove.is c.as_slice.ensures
    c.in_ok-remove-in-Remove.ensures.does c.in_ok-remove-in-Remove.ensures.goes_on (ap length c.changes-since.ensures))
    _ _ c.from_residual-in_err-tell_changes-in-Remove.ensures.1 (rw c.remove.ensures.setting at c.in_err-tell_changes-in-Remove.ensures.puts)

pub returns-in_ok-tell_changes-in-Remove-clause-does : goal.returns-in_ok-tell_changes-in-Remove-clause-does
returns-in_ok-tell_changes-in-Remove-clause-does g c =
    bytes_put _ _
    (removal_told c.args.doing.now.setting c.args.doing.now c.remove.new.doing _ c.args.action.now (length c.changes-since.result.now) c.in-Remove.cells c.as_slice.result.now c.requires.whole c.in-Remove.is c.as_slice.ensures
    c.in_ok-remove-in-Remove.ensures.does c.in_ok-remove-in-Remove.ensures.goes_on (ap length c.changes-since.ensures))
    _ _ (rw c.remove.ensures.setting at c.in_ok-tell_changes-in-Remove.ensures.puts)

pub returns-in_err-bind_cell-in-Cbind-clause-does : goal.returns-in_err-bind_cell-in-Cbind-clause-does
returns-in_err-bind_cell-in-Cbind-clause-does g c = still_short _ mishap.OutOfMemory c.from_residual-in_err-bind_cell-in-Cbind.ensures.1 refl refl (still_all _ _ c.requires.whole)

pub returns-in_ok-bind_cell-in-Cbind-clause-does : goal.returns-in_ok-bind_cell-in-Cbind-clause-does
returns-in_ok-bind_cell-in-Cbind-clause-does g c =
    action_quiet _ c.args.doing.now.setting c.args.action.now (action.Cbind c.in-Cbind.cell) c.args.doing.now c.bind_cell.new.self _ c.requires.whole c.in-Cbind.is
    (λ names d. ap (λ s. writes [] s) (sym (c.in_ok-bind_cell-in-Cbind.ensures.does names d)))

pub returns-in-Halt-clause-does : goal.returns-in-Halt-clause-does
returns-in-Halt-clause-does g c =
    action_quiet _ c.args.doing.now.setting c.args.action.now action.Halt c.args.doing.now c.halt.new.self _ c.requires.whole c.in-Halt.is
    (λ names d. ap (λ s. writes [] (doing_of s names d)) (sym c.halt.ensures))

pub returns-in_err-build-in-Build-clause-does : goal.returns-in_err-build-in-Build-clause-does
returns-in_err-build-in-Build-clause-does g c = still_short _ mishap.OutOfMemory c.from_residual-in_err-build-in-Build.ensures.1 refl refl (still_all _ _ c.requires.whole)

pub returns-in_ok-build-in-Build-clause-does : goal.returns-in_ok-build-in-Build-clause-does
returns-in_ok-build-in-Build-clause-does g c =
    let is = c.in-Build.is ∙ ap (action.Build c.in-Build.template) (sym c.as_slice-in-Build.ensures) in
    action_quiet _ c.args.doing.now.setting c.args.action.now (action.Build c.in-Build.template c.as_slice-in-Build.result.now) c.args.doing.now c.build.new.self _ c.requires.whole is
    (λ names d. ap (λ s. writes [] s) (sym (c.in_ok-build-in-Build.ensures.does names d)))

pub returns-in-Make : goal.returns-in-Make
returns-in-Make g c =
    let is = c.in-Make.is ∙ ap (action.Make c.in-Make.class) (sym c.as_slice-puts.ensures) in
    record {
      does = same_action c.args.doing.now.setting c.args.doing.now c.args.action.now (action.Make c.in-Make.class c.as_slice-puts.result.now) is c.make_and_tell.ensures.does;
      written = c.make_and_tell.ensures.written;
      untouched = λ none. c.make_and_tell.ensures.untouched (ap action_asks (sym is) ∙ none);
      setting = c.make_and_tell.ensures.setting;
    }

pub returns-in-Modify : goal.returns-in-Modify
returns-in-Modify g c =
    let is = c.in-Modify.is ∙ ap (action.Modify c.in-Modify.cell) (sym c.as_slice-puts-in-Modify.ensures) in
    record {
      does = same_action c.args.doing.now.setting c.args.doing.now c.args.action.now (action.Modify c.in-Modify.cell c.as_slice-puts-in-Modify.result.now) is c.modify_and_tell.ensures.does;
      written = c.modify_and_tell.ensures.written;
      untouched = λ none. c.modify_and_tell.ensures.untouched (ap action_asks (sym is) ∙ none);
      setting = c.modify_and_tell.ensures.setting;
    }

pub returns-in-Write : goal.returns-in-Write
returns-in-Write g c =
    let is = c.in-Write.is ∙ ap action.Write (sym c.as_slice-items.ensures) in
    record {
      does = same_action c.args.doing.now.setting c.args.doing.now c.args.action.now (action.Write c.as_slice-items.result.now) is c.put_items.ensures.does;
      written = c.put_items.ensures.written;
      untouched = λ none. c.put_items.ensures.untouched (ap action_asks (sym is) ∙ none);
      setting = refl;
    }

pub returns-in-Bind : goal.returns-in-Bind
returns-in-Bind g c = record {
  does = same_action c.args.doing.now.setting c.args.doing.now c.args.action.now (action.Bind c.in-Bind.variable c.in-Bind.term) c.in-Bind.is c.bind.ensures.does;
  written = c.bind.ensures.written;
  untouched = λ none. c.bind.ensures.untouched (ap action_asks (sym c.in-Bind.is) ∙ none);
  setting = c.bind.ensures.setting;
}
