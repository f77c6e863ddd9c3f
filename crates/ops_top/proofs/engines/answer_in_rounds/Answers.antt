use mir.Syntax.{of_param}
use denote.Exit.{unseen}
use denote.Param.Send.{Quiet-if}
use Rattle.ops_top.proofs.Crossing.{rounds_send}
use Rattle.ops_top.proofs.engines.answer_in_rounds.Goals as goal

pub answer_by-requires-send-M : goal.answer_by-requires-send-M
answer_by-requires-send-M g c κs within =
    let s = rounds_send _ c.type_bounds.send-G in record { owned = s.owned; leaving = λ k. Quiet-if (k (of_param 1)) unseen unseen (λ x w. tt) (λ x w. tt) }
