use Rattle.std.proofs.Common.{ap, ◌∙◌}
use Rattle.std.specs.Prelude.{slice_get}
use Rattle.run_laws.proofs.Excisions.{beside_found, excised_is, excised_order, filter_beside, numbered, session_apart}
use Rattle.run_laws.proofs.laws.excise_takes_out_what_it_names.Goals as goal

pub returns-clause-excised : goal.returns-clause-excised
returns-clause-excised c = excised_is

pub returns-clause-numbers : goal.returns-clause-numbers
returns-clause-numbers c = λ goes k n m e.
    (ap (λ rs. slice_get rs m) (filter_beside goes k.rules) ∙ beside_found goes k.rules k.rules n m e, beside_found goes k.rules k.breaks n m e)

pub returns-clause-apart : goal.returns-clause-apart
returns-clause-apart c = session_apart

pub returns-clause-order : goal.returns-clause-order
returns-clause-order c = excised_order

pub returns-clause-numbered : goal.returns-clause-numbered
returns-clause-numbered c = numbered
