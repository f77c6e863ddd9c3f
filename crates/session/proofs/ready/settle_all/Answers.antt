use Rattle.std.proofs.Common.{◌∙◌}
use Rattle.session.proofs.ready.settle_all.Goals as goal

pub returns-clause-meant : goal.returns-clause-meant
returns-clause-meant g c = λ n z. c.in_ok-session-2.ensures.meant n z ∙ c.in_ok-session.ensures.meant n z
