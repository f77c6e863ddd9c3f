use Rattle.std.proofs.lemmas.Result.{err_from_is_err_and}
use Rattle.ops_base.specs.WorkingMemory.{shown}
use Rattle.ops_meaning.specs.Running.{matches_told}
use Rattle.session.proofs.Lines.{lines_step, lines_stop}
use Rattle.session.proofs.PartialLines.{names_here}
use Rattle.session.proofs.partials.put_of_names.Goals as goal

pub returns-in_err-put_of_name : goal.returns-in_err-put_of_name
returns-in_err-put_of_name g c =
    let p = err_from_is_err_and c.from_residual.result c.from_residual.ensures.1 in
    rw (p.1, p.2)
    (lines_stop _ _ _ _ _ _ _ c.loop-name.invariant (names_here (matches_told c.args.names.now c.args.program.now.rules (shown c.args.wm.now)) c.args.given.now c.loop-name.name-index _ c.loop-name-test.true) c.in_err-put_of_name.ensures)

pub loop-name-preserved : goal.loop-name-preserved
loop-name-preserved g c =
    lines_step _ _ _ _ _ _ _ c.loop-name.invariant (names_here (matches_told c.args.names.now c.args.program.now.rules (shown c.args.wm.now)) c.args.given.now c.loop-name.name-index _ c.loop-name-test.true) c.in_ok-put_of_name.ensures
