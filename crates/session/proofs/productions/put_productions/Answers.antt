use Rattle.std.proofs.Common.{refl}
use Rattle.std.proofs.lemmas.Result.{err_from_is_err_and}
use Rattle.ops_meaning.specs.Running.{production_line}
use Rattle.act_phase.specs.Outcomes.{setting_of}
use Rattle.session.proofs.Lines.{item_step, item_stop}
use Rattle.session.proofs.productions.put_productions.Goals as goal

pub returns-in_err-put_production : goal.returns-in_err-put_production
returns-in_err-put_production g c =
    let p = err_from_is_err_and c.from_residual.result c.from_residual.ensures.1 in
    rw p.1
    (item_stop (production_line (setting_of c.args.program.now 0) c.args.names.now) c.args.given.now c.loop-name.name-index _ _ c.loop-name-test.true refl _ _ _ c.loop-name.invariant c.in_err-put_production.ensures)

pub loop-name-preserved : goal.loop-name-preserved
loop-name-preserved g c =
    item_step (production_line (setting_of c.args.program.now 0) c.args.names.now) c.args.given.now c.loop-name.name-index _ _ c.loop-name-test.true refl _ _ _ c.loop-name.invariant c.in_ok-put_production.ensures
