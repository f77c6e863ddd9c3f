use Rattle.std.proofs.Common.{not, is_some}
use Rattle.std.proofs.lemmas.Result.{err_from_is_err_and}
use Rattle.ops_meaning.specs.Layout.{unknown_line}
use Rattle.ops_meaning.specs.Running.{rule_named}
use Rattle.session.proofs.Lines.{tested_step, tested_stop}
use Rattle.session.proofs.productions.put_unknown.Goals as goal

pub returns-in_err-put_where_unknown : goal.returns-in_err-put_where_unknown
returns-in_err-put_where_unknown g c =
    let p = err_from_is_err_and c.from_residual.result c.from_residual.ensures.1 in
    rw p.1
    (tested_stop (unknown_line c.args.names.now) (λ name. not (is_some (rule_named c.args.program.now.rules name))) c.args.given.now c.loop-name.name-index _ c.loop-name-test.true _ _ _ c.loop-name.invariant c.in_err-put_where_unknown.ensures)

pub loop-name-preserved : goal.loop-name-preserved
loop-name-preserved g c =
    tested_step (unknown_line c.args.names.now) (λ name. not (is_some (rule_named c.args.program.now.rules name))) c.args.given.now c.loop-name.name-index _ c.loop-name-test.true _ _ _ c.loop-name.invariant c.in_ok-put_where_unknown.ensures
