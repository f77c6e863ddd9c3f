use Rattle.std.proofs.Common.{◌∷◌, [], arith}
use Rattle.ops_io.proofs.PortLemmas.{puts_then, puts_refused}
use Rattle.ops_print.proofs.Split.{tab_further}
use Rattle.ops_print.proofs.values.put_tab.Goals as goal

pub returns-in_err-put-clause-puts : goal.returns-in_err-put-clause-puts
returns-in_err-put-clause-puts g c =
    rw (tab_further c.args.n c.args.out.now.column (omega arith)) (puts_refused _ _ _ _ (10 ∷ []) _ c.from_residual.ensures.1 c.in_err-put.ensures.puts)

pub returns-then-n-column-clause-puts : goal.returns-then-n-column-clause-puts
returns-then-n-column-clause-puts g c =
    rw (tab_further c.args.n c.args.out.now.column (omega arith)) (puts_then _ _ _ _ (10 ∷ []) _ c.in_ok-put.ensures.puts (rw c.saturating_sub.ensures at c.put_spaces.ensures.puts))
