use Rattle.std.proofs.Common.{◌∙◌}
use Rattle.std.proofs.lemmas.Result.{IfOk-weaker}
use Rattle.ops_words.proofs.arguments.words_after_name.Goals as goal

pub returns : goal.returns
returns g c =
    IfOk-weaker c.collect.result _ _
    (λ v runs. let got = runs tt in
    let all = c.skip.ensures.runs got.0 got.0.seen got.1 in
    (all.0, all.1, (all.2.0 ∙ got.2), (got.3.0 ∙ all.2.2)))
    c.collect.ensures.runs
