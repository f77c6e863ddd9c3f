use Rattle.ops_io.proofs.PortLemmas.{puts_then, puts_refused}
use Rattle.ops_print.proofs.instances.put_inst_line.Goals as goal

pub returns-in_err-fresh_line-clause-puts : goal.returns-in_err-fresh_line-clause-puts
returns-in_err-fresh_line-clause-puts g c =
    puts_refused _ _ _ _ _ _ c.from_residual.ensures.1 c.in_err-fresh_line.ensures.puts

pub returns-in_err-put_inst-clause-puts : goal.returns-in_err-put_inst-clause-puts
returns-in_err-put_inst-clause-puts g c =
    puts_then _ _ _ _ _ _ c.in_ok-fresh_line.ensures.puts (puts_refused _ _ _ _ _ _ c.from_residual-in_err-put_inst.ensures.1 c.in_err-put_inst.ensures.puts)

pub returns-clause-puts : goal.returns-clause-puts
returns-clause-puts g c =
    puts_then _ _ _ _ _ _ c.in_ok-fresh_line.ensures.puts (puts_then _ _ _ _ _ _ c.in_ok-put_inst.ensures.puts c.put.ensures.puts)
