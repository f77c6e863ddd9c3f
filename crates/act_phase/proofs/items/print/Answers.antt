use Rattle.ops_print.specs.Leads.{lead_of}
use Rattle.act_phase.proofs.ItemLemmas.{bytes_put, bytes_refused, value_found, value_failed}
use Rattle.act_phase.proofs.items.print.Goals as goal

pub returns-in_err-values-clause-does : goal.returns-in_err-values-clause-does
returns-in_err-values-clause-does g c =
    value_failed c.args.doing.now.setting.classes c.args.doing.now c.args.term.now (lead_of c.args.lead) c.requires.whole _ _ c.in_err-values.field-0.0 c.from_residual.ensures.1 c.in_err-values.ensures.does

pub returns-in_err-put_values-clause-does : goal.returns-in_err-put_values-clause-does
returns-in_err-put_values-clause-does g c =
    bytes_refused _ _
    (value_found c.args.doing.now.setting.classes c.args.doing.now c.args.term.now (lead_of c.args.lead) c.requires.whole c.in_ok-values.values c.as_slice.result.now c.as_slice.ensures c.in_ok-values.ensures.does)
    _ _ c.from_residual-in_err-put_values.ensures.1 c.in_err-put_values.ensures.puts

pub returns-clause-does : goal.returns-clause-does
returns-clause-does g c =
    bytes_put _ _
    (value_found c.args.doing.now.setting.classes c.args.doing.now c.args.term.now (lead_of c.args.lead) c.requires.whole c.in_ok-values.values c.as_slice.result.now c.as_slice.ensures c.in_ok-values.ensures.does)
    _ _ c.in_ok-put_values.ensures.puts
