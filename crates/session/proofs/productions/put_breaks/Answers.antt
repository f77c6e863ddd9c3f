use Rattle.std.proofs.lemmas.Result.{err_from_is_err_and}
use Rattle.ops_meaning.specs.Running.{break_lines}
use Rattle.session.proofs.Lines.{lines_step, lines_stop}
use Rattle.session.proofs.ProductionLemmas.{breaks_here}
use Rattle.session.proofs.productions.put_breaks.Goals as goal

pub returns-in_err-put_break : goal.returns-in_err-put_break
returns-in_err-put_break g c =
    let p = err_from_is_err_and c.from_residual.result c.from_residual.ensures.1 in
    rw p.1
    (lines_stop _ _ _ (break_lines c.args.names.now c.args.breaks.now 0 c.args.program.now.rules) _ _ _ c.loop-number.invariant
    (breaks_here c.args.names.now c.args.breaks.now c.as_slice-rules.result.now c.loop-number.number c.index-rules-number.result c.has_break.result c.index-rules-number.result c.loop-number-test.true c.has_break.ensures c.index-rules-number.is)
    c.in_err-put_break.ensures)

pub loop-number-preserved : goal.loop-number-preserved
loop-number-preserved g c =
    lines_step _ _ _ (break_lines c.args.names.now c.args.breaks.now 0 c.args.program.now.rules) _ _ _ c.loop-number.invariant
    (breaks_here c.args.names.now c.args.breaks.now c.as_slice-rules.result.now c.loop-number.number c.index-rules-number.result c.has_break.result c.index-rules-number.result c.loop-number-test.true c.has_break.ensures c.index-rules-number.is)
    c.in_ok-put_break.ensures
