use Rattle.std.proofs.Common.{ap, ◌∙◌}
use Rattle.ops_meaning.specs.Acting.{bound}
use Rattle.act_phase.specs.State.{doing_of}
use Rattle.act_phase.proofs.Steps.{then_done, then_short, then_fails}
use Rattle.act_phase.proofs.right_side.bind.Goals as goal

pub returns-in_err-values-clause-does : goal.returns-in_err-values-clause-does
returns-in_err-values-clause-does g c = then_fails _ _ c.requires.whole _ _ c.in_err-values.ensures.does c.from_residual.ensures.1

pub returns-in_err-bind-clause-does : goal.returns-in_err-bind-clause-does
returns-in_err-bind-clause-does g c = then_short _ _ c.requires.whole _ _ c.in_ok-values.ensures.does c.from_residual-in_err-bind.ensures.1

pub returns-clause-does : goal.returns-clause-does
returns-clause-does g c =
    then_done _ _ c.requires.whole _ _ c.in_ok-values.ensures.does
    (λ d. c.in_ok-bind.ensures.does _ d ∙ ap (λ v. bound (doing_of c.args.doing.now c.evaluate.new.names d) c.args.variable v) c.first-value.ensures)
