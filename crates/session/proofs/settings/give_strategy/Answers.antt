use Rattle.std.proofs.lemmas.Result.{err_from_is_err_and}
use Rattle.session.proofs.Deeds.{does_short}
use Rattle.session.proofs.settings.give_strategy.Goals as goal

pub returns-in_err-set_strategy-in-Some : goal.returns-in_err-set_strategy-in-Some
returns-in_err-set_strategy-in-Some g c = λ rules names under.
    let p = err_from_is_err_and c.from_residual.result c.from_residual.ensures.1 in
    rw p.1 (does_short g.M.Matcher.stored g.M.Matcher.stands_for rules names c.args.session _ p.0 _ p.2 c.requires.whole)
