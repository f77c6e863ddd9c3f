use Rattle.std.proofs.Common.{◌∙◌}
use Rattle.test_table.proofs.Walking.{goes_on}
use Rattle.test_table.proofs.passes.Goals as goal

pub returns-clause-goes_on : goal.returns-clause-goes_on
returns-clause-goes_on c = λ e bindings is_field is_bound.
    c.passed.ensures ∙ goes_on c.args.test.now c.args.field c.args.bound e bindings is_field is_bound
