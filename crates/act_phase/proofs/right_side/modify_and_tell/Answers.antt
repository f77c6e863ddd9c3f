use Rattle.std.proofs.Common.{ap, length}
use Rattle.act_phase.proofs.ItemLemmas.{bytes_put, bytes_refused}
use Rattle.act_phase.proofs.Told.{still_told, never_told}
use Rattle.act_phase.proofs.right_side.modify_and_tell.Goals as goal

pub returns-in_err-modify-clause-does : goal.returns-in_err-modify-clause-does
returns-in_err-modify-clause-does g c =
    never_told c.args.doing.now.setting c.args.doing.now c.modify.new.doing c.requires.whole _ _ c.from_residual.ensures.1
    c.in_err-modify.ensures.does

pub returns-in_err-tell_changes-clause-does : goal.returns-in_err-tell_changes-clause-does
returns-in_err-tell_changes-clause-does g c =
    bytes_refused _ _
    (still_told c.args.doing.now.setting c.args.doing.now c.modify.new.doing c.requires.whole (length c.changes-since.result.now)
    c.in_ok-modify.ensures.does c.in_ok-modify.ensures.goes_on (ap length c.changes-since.ensures))
    _ _ c.from_residual-in_err-tell_changes.ensures.1 (rw c.modify.ensures.setting at c.in_err-tell_changes.ensures.puts)

pub returns-clause-does : goal.returns-clause-does
returns-clause-does g c =
    bytes_put _ _
    (still_told c.args.doing.now.setting c.args.doing.now c.modify.new.doing c.requires.whole (length c.changes-since.result.now)
    c.in_ok-modify.ensures.does c.in_ok-modify.ensures.goes_on (ap length c.changes-since.ensures))
    _ _ (rw c.modify.ensures.setting at c.in_ok-tell_changes.ensures.puts)
