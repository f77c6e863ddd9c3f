use Rattle.std.proofs.Common.{◌++◌, ◌∷◌, [], false, ap, ◌∙◌}
use Rattle.std.specs.Prelude.{option_map, unwrap_or}
use Rattle.ops_meaning.specs.Running.{taken_out, trail_emptied}
use Rattle.run_laws.specs.Standing.{stands_in}
use Rattle.run_laws.proofs.Marks.{added_marked, firing_marked, session_marked}
use Rattle.run_laws.proofs.Orders.{added_order, replaced, replaced_order, taken_order}
use Rattle.run_laws.proofs.Standings.{stands_with, stands_without}
use Rattle.run_laws.proofs.laws.others_stand_as_before.Goals as goal

pub returns-clause-taken : goal.returns-clause-taken
returns-clause-taken c = λ n k. stands_without n k.rules k.course.wm k.course.fired

pub returns-clause-added : goal.returns-clause-added
returns-clause-added c = λ r k absent fired.
    ap (λ o. stands_in (let left = unwrap_or (option_map (λ n. taken_out n k) o) k in record (trail_emptied left) { rules = left.rules ++ r ∷ []; breaks = left.breaks ++ false ∷ [] })) absent
    ∙ stands_with k.rules r k.course.wm k.course.fired fired

pub returns-clause-taken_order : goal.returns-clause-taken_order
returns-clause-taken_order c = taken_order

pub returns-clause-added_order : goal.returns-clause-added_order
returns-clause-added_order c = added_order

pub returns-clause-replaced : goal.returns-clause-replaced
returns-clause-replaced c = replaced

pub returns-clause-replaced_order : goal.returns-clause-replaced_order
returns-clause-replaced_order c = replaced_order

pub returns-clause-marks : goal.returns-clause-marks
returns-clause-marks c = session_marked

pub returns-clause-marks_fired : goal.returns-clause-marks_fired
returns-clause-marks_fired c = firing_marked

pub returns-clause-marks_added : goal.returns-clause-marks_added
returns-clause-marks_added c = added_marked
