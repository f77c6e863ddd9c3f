use Rattle.std.proofs.Common.{sym, ap, ◌∙◌}
use Rattle.net_base.specs.declared.normal.NormalCondition.{NormalCondition}
use Rattle.net_base.specs.Normal.{alpha_tests, normal_tests}
use Rattle.net_base.proofs.AlphaAlone.{alpha_alone}
use Rattle.alpha_net.proofs.alpha.alpha_part.Goals as goal

pub returns-clause-anywhere : goal.returns-clause-anywhere
returns-clause-anywhere c = λ place binders below.
    c.in_ok-tests.ensures
    ∙ (ap (alpha_tests 0) c.as_slice.ensures
    ∙ (ap (λ (n : NormalCondition). alpha_tests 0 n.tests) c.in_ok-normal.ensures.normal
    ∙ (ap (λ bs. alpha_tests 0 (normal_tests 0 c.args.condition.now.tests bs)) c.new-binders.ensures.items
    ∙ sym (alpha_alone place c.args.condition.now.tests binders below))))
