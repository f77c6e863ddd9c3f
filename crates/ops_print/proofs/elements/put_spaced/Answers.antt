use Rattle.std.proofs.Common.{[], ◌∷◌}
use Rattle.ops_io.proofs.PortLemmas.{puts_then, puts_refused}
use Rattle.ops_print.proofs.elements.put_spaced.Goals as goal

pub returns-in_err-put-clause-puts : goal.returns-in_err-put-clause-puts
returns-in_err-put-clause-puts g c = puts_refused _ _ _ _ (32 ∷ []) _ c.from_residual.ensures.1 c.in_err-put.ensures.puts

pub returns-clause-puts : goal.returns-clause-puts
returns-clause-puts g c = puts_then _ _ _ _ (32 ∷ []) _ c.in_ok-put.ensures.puts c.put_shown.ensures.puts
