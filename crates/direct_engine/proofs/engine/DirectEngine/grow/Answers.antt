use Rattle.std.proofs.Common.{◌≡◌, suc, take, ap, ◌∙◌, add-one}
use Rattle.std.proofs.lemmas.Result.{IfOk-weaker}
use Rattle.direct_engine.proofs.engine.DirectEngine.grow.Goals as goal

pub returns-clause-stands : goal.returns-clause-stands
returns-clause-stands c =
    let rules = c.args.program.now.rules in
    let first : c.in_ok-program.program.rules ≡ take (suc c.args.number) rules =
    c.in_ok-program.ensures ∙ ap (λ n. take n rules) (add-one c.args.number) in
    IfOk-weaker c.settled.result (λ s. s.matcher.rules ≡ c.in_ok-program.program.rules) (λ s. s.matcher.rules ≡ take (suc c.args.number) rules) (λ s same. same ∙ first) c.settled.ensures.rules
