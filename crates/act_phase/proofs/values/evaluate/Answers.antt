use Rattle.act_phase.proofs.Deeds.{does_nothing}
use Rattle.act_phase.proofs.Evaluating.{constant_is, variable_is, one_is, rest_is, fresh_is, fresh_ok, fresh_err, compute_ok, compute_err, accept_ok, accept_err}
use Rattle.act_phase.proofs.values.evaluate.Goals as goal

pub returns-in-Constant-clause-does : goal.returns-in-Constant-clause-does
returns-in-Constant-clause-does g c = does_nothing _ _ _ c.requires.whole (constant_is c.args.doing.now.setting.classes c.args.doing.now c.args.term.now c.in-Constant.value c.args.names.now c.in-Constant.is)

pub returns-in-Variable-clause-does : goal.returns-in-Variable-clause-does
returns-in-Variable-clause-does g c = does_nothing _ _ _ c.requires.whole (variable_is c.args.doing.now.setting.classes c.args.doing.now c.args.term.now c.in-Variable.variable c.value_in.result c.args.names.now c.in-Variable.is c.value_in.ensures)

pub returns-in-One-clause-does : goal.returns-in-One-clause-does
returns-in-One-clause-does g c =
    does_nothing _ _ _ c.requires.whole
    (one_is c.args.doing.now.setting.classes c.args.doing.now c.args.term.now c.in-One.cell c.in-One.at _ c.field.result c.args.names.now c.in-One.is c.element.ensures c.field.ensures)

pub returns-in-Rest-clause-does : goal.returns-in-Rest-clause-does
returns-in-Rest-clause-does g c = does_nothing _ _ _ c.requires.whole (rest_is c.args.doing.now.setting.classes c.args.doing.now c.args.term.now c.in-Rest.cell c.row.result.now c.args.names.now c.in-Rest.is c.row.ensures)

pub returns-in_ok-expression_value-in-Compute-clause-does : goal.returns-in_ok-expression_value-in-Compute-clause-does
returns-in_ok-expression_value-in-Compute-clause-does g c =
    compute_ok c.args.doing.now.setting.classes c.args.doing.now c.args.term.now c.in-Compute.expr c.in-Compute.is _ c.requires.whole c.in_ok-expression_value-in-Compute.field-0 c.in_ok-expression_value-in-Compute.ensures

pub returns-in_err-expression_value-in-Compute-clause-does : goal.returns-in_err-expression_value-in-Compute-clause-does
returns-in_err-expression_value-in-Compute-clause-does g c =
    compute_err c.args.doing.now.setting.classes c.args.doing.now c.args.term.now c.in-Compute.expr c.in-Compute.is _ c.requires.whole _ _ c.in_err-expression_value-in-Compute.field-0.0 c.from_residual.ensures.1 c.in_err-expression_value-in-Compute.ensures

pub returns-in_ok-fresh-in-Fresh-clause-does : goal.returns-in_ok-fresh-in-Fresh-clause-does
returns-in_ok-fresh-in-Fresh-clause-does g c =
    fresh_ok _ _ _ _ c.in_ok-fresh-in-Fresh.ensures.names c.requires.whole
    (fresh_is c.args.doing.now.setting.classes c.args.doing.now c.args.term.now c.in_ok-fresh-in-Fresh.field-0 c.args.names.now _ c.in-Fresh.is c.in_ok-fresh-in-Fresh.ensures.symbol c.in_ok-fresh-in-Fresh.ensures.names)

pub returns-in_err-fresh-in-Fresh-clause-does : goal.returns-in_err-fresh-in-Fresh-clause-does
returns-in_err-fresh-in-Fresh-clause-does g c = fresh_err _ _ _ _ c.from_residual-in_err-fresh-in-Fresh.ensures.1 c.in_err-fresh-in-Fresh.ensures.err c.requires.whole

pub returns-in_ok-accept-in-Accept-clause-does : goal.returns-in_ok-accept-in-Accept-clause-does
returns-in_ok-accept-in-Accept-clause-does g c =
    accept_ok c.args.doing.now.setting.classes c.args.doing.now c.args.term.now c.in-Accept.is c.requires.whole c.in_ok-accept-in-Accept.field-0 _ c.in_ok-accept-in-Accept.ensures.does

pub returns-in_err-accept-in-Accept-clause-does : goal.returns-in_err-accept-in-Accept-clause-does
returns-in_err-accept-in-Accept-clause-does g c =
    accept_err c.args.doing.now.setting.classes c.args.doing.now c.args.term.now c.in-Accept.is c.requires.whole _ _ c.in_err-accept-in-Accept.field-0.0 _ c.from_residual-in_err-accept-in-Accept.ensures.1 c.in_err-accept-in-Accept.ensures.does
