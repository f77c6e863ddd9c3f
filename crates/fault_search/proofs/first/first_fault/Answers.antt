use Rattle.fault_search.proofs.Refused.{no_fault, the_fault, within}
use Rattle.fault_search.proofs.first.first_fault.Goals as goal

pub returns-in-Ok-clause-fault : goal.returns-in-Ok-clause-fault
returns-in-Ok-clause-fault c = no_fault c.args.text.now c.in_ok-copy.copy.items c.in_ok-copy.ensures.items _ c.in-Ok.ensures.ok

pub returns-in-Err-At-clause-fault : goal.returns-in-Err-At-clause-fault
returns-in-Err-At-clause-fault c =
    the_fault c.args.text.now c.in_ok-copy.copy.items c.in_ok-copy.ensures.items c.in-Err-At.fault c.in-Err-At.line c.in-Err-At.column c.byte_at-at.result
    (rw c.in-Err-At.field-0-is at c.in-Err-At.ensures.fault) c.byte_at-at.ensures

pub returns-in-Err-At-clause-within : goal.returns-in-Err-At-clause-within
returns-in-Err-At-clause-within c =
    within c.args.text.now c.in_ok-copy.copy.items c.in_ok-copy.ensures.items c.in-Err-At.fault c.in-Err-At.line c.in-Err-At.column c.byte_at-at.result
    (rw c.in-Err-At.field-0-is at c.in-Err-At.ensures.fault) c.byte_at-at.ensures
