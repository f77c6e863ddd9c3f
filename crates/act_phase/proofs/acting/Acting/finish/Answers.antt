use Rattle.std.proofs.Common.{ap, ◌∙◌}
use Rattle.ops_meaning.specs.Acting.{left_by}
use Rattle.act_phase.specs.State.{Between, doing_of}
use Rattle.act_phase.proofs.acting.Acting.finish.Goals as goal

pub returns-clause-left : goal.returns-clause-left
returns-clause-left c = λ names coming.
    c.finish.ensures.left names coming ∙ ap (λ (b : Between). left_by (doing_of b.state names coming)) c.self.view_is
