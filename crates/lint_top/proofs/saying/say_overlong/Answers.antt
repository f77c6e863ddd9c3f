use Rattle.std.proofs.lemmas.Result.{err_from_is_err_and}
use Rattle.lint_top.specs.Whole.{overlong}
use Rattle.lint_top.proofs.Deliveries.{untold}
use Rattle.lint_top.proofs.saying.say_overlong.Goals as goal

pub returns-in_err-line : goal.returns-in_err-line
returns-in_err-line g c =
    let p = err_from_is_err_and c.from_residual.result c.from_residual.ensures.1 in
    rw (p.1, p.2) (record { delivers = untold (overlong c.args.name.now) _ _ })
