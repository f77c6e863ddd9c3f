use Rattle.std.proofs.Common.{◌∙◌, ap, sym, []}
use Rattle.std.proofs.lemmas.Result.{err_from_is_err_and}
use Rattle.ops_base.specs.declared.endings.Ending.{Ending}
use Rattle.ops_meaning.specs.Effects.{Effect, writes, of_ending}
use Rattle.ops_meaning.specs.Running.{Session as Meant, command_done}
use Rattle.ops_meaning.proofs.InletLemmas.{performs_apart}
use Rattle.act_phase.specs.Asking.{command_asks}
use Rattle.act_phase.specs.Outcomes.{setting_of}
use Rattle.session.specs.Trailing.{meant_with}
use Rattle.session.proofs.Asks.{added_quiet, excised_quiet}
use Rattle.session.proofs.Plain.{named_above}
use Rattle.session.proofs.Seen.{does_silently, runs_short}
use Rattle.session.proofs.commands.do_command.Goals as goal

pub returns-in_err-add_late-in-Add-clause-performs : goal.returns-in_err-add_late-in-Add-clause-performs
returns-in_err-add_late-in-Add-clause-performs g c =
    let p = err_from_is_err_and c.from_residual.result c.from_residual.ensures.1 in
    rw p.1 (runs_short _ of_ending p.0 _ _ _ (ap of_ending p.2) c.requires.whole)

pub returns-in_ok-add_late-in-Add-clause-performs : goal.returns-in_ok-add_late-in-Add-clause-performs
returns-in_ok-add_late-in-Add-clause-performs g c =
    does_silently _ of_ending c.in_ok-add_late-in-Add.field-0 _ _ _ c.requires.whole
    (λ z. let k = meant_with g.B.M.Matcher.stored c.args.live.now.program.rules c.args.undoable c.args.names.now z in
    ap (λ x. command_done (setting_of c.args.live.now.program 0) c.args.context.now.limit c.args.out.now.column x k) c.in-Add.is
    ∙ ap (λ (m : Meant). let e : Effect Ending Meant = writes [] m in e) (sym (c.in_ok-add_late-in-Add.ensures.meant c.args.names.now z)))

pub returns-in_ok-add_late-in-Add-clause-quiet : goal.returns-in_ok-add_late-in-Add-clause-quiet
returns-in_ok-add_late-in-Add-clause-quiet g c = λ none built quiet.
    added_quiet g.B.M.Matcher.stored g.B.M.Matcher.stands_for c.args.live.now.program c.add_late.new.live.program c.args.undoable c.in-Add.rule c.in_ok-add_late-in-Add.field-0 c.in_ok-add_late-in-Add.ensures.meant c.args.names.now none
    (sym (ap command_asks c.in-Add.is) ∙ quiet)

pub returns-in_ok-add_late-in-Add-clause-named : goal.returns-in_ok-add_late-in-Add-clause-named
returns-in_ok-add_late-in-Add-clause-named g c = λ least some h. c.in_ok-add_late-in-Add.ensures.named least c.args.names.now h

pub returns-in-Excise-clause-performs : goal.returns-in-Excise-clause-performs
returns-in-Excise-clause-performs g c =
    performs_apart _ of_ending c.excise_late.result _ _ _ _
    (λ z. rw c.in-Excise.is (rw (sym c.as_slice.ensures) (c.excise_late.ensures.does.performs z)))

pub returns-in-Excise-clause-quiet : goal.returns-in-Excise-clause-quiet
returns-in-Excise-clause-quiet g c =
    excised_quiet g.B.M.Matcher.stored g.B.M.Matcher.stands_for c.args.live.now.program c.excise_late.new.live.program c.args.undoable _ _ c.args.names.now _ c.excise_late.result _ _ c.excise_late.ensures.does

pub returns-in-Excise-clause-named : goal.returns-in-Excise-clause-named
returns-in-Excise-clause-named g c = named_above c.args.names.now c.args.undoable.trail c.excise_late.result c.excise_late.ensures.does.named

pub returns-in-Run-clause-performs : goal.returns-in-Run-clause-performs
returns-in-Run-clause-performs g c = rw c.in-Run.is c.run_from.ensures.performs

pub returns-in_default-clause-performs : goal.returns-in_default-clause-performs
returns-in_default-clause-performs g c =
    performs_apart _ of_ending c.do_unchanging-done.result _ _ _ _ (λ z. c.do_unchanging-done.ensures.performs z)
