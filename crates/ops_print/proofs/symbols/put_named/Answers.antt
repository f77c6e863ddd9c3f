use Rattle.std.proofs.Common.{append_assoc}
use Rattle.ops_io.proofs.PortLemmas.{puts_then, puts_refused}
use Rattle.ops_print.proofs.symbols.put_named.Goals as goal

pub returns-in_err-put-clause-puts : goal.returns-in_err-put-clause-puts
returns-in_err-put-clause-puts g c =
    rw (append_assoc)
    (puts_refused _ _ _ _ _ _ c.from_residual.ensures.1 c.in_err-put.ensures.puts)

pub returns-in_err-put_symbol-clause-puts : goal.returns-in_err-put_symbol-clause-puts
returns-in_err-put_symbol-clause-puts g c =
    rw (append_assoc)
    (puts_then _ _ _ _ _ _ c.in_ok-put.ensures.puts (puts_refused _ _ _ _ _ _ c.from_residual-in_err-put_symbol.ensures.1 c.in_err-put_symbol.ensures.puts))

pub returns-clause-puts : goal.returns-clause-puts
returns-clause-puts g c =
    rw (append_assoc)
    (puts_then _ _ _ _ _ _ c.in_ok-put.ensures.puts (puts_then _ _ _ _ _ _ c.in_ok-put_symbol.ensures.puts c.put-2.ensures.puts))
