use Rattle.ops_io.proofs.PortLemmas.{puts_then, puts_refused}
use Rattle.act_phase.proofs.items.put_led.Goals as goal

pub returns-in_err-put_lead-clause-puts : goal.returns-in_err-put_lead-clause-puts
returns-in_err-put_lead-clause-puts g c =
    puts_refused _ _ _ _ _ _ c.from_residual.ensures.1 (rw (c.length_for.ensures c.args.out.now.column) at c.in_err-put_lead.ensures.puts)

pub returns-clause-puts : goal.returns-clause-puts
returns-clause-puts g c =
    puts_then _ _ _ _ _ _ (rw (c.length_for.ensures c.args.out.now.column) at c.in_ok-put_lead.ensures.puts) c.put_value.ensures.puts
