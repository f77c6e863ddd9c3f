-- Either nothing is done, or nothing is left.
use Rattle.std.proofs.Common.{length, ap}
use Rattle.serial_engine.proofs.PhaseLemmas.{none_is_done}
use Rattle.team_phase.proofs.phases.make_room.Goals as goal

pub returns-clause-done : goal.returns-clause-done
returns-clause-done g c = ap length (none_is_done c.work_off.new.world c.in_ok-work_off.ensures.quiet)

pub returns-then-not-is_room_needed-clause-carries : goal.returns-then-not-is_room_needed-clause-carries
returns-then-not-is_room_needed-clause-carries g c = λ wm changes on. on
