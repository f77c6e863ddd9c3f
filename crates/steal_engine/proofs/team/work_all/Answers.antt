use Rattle.std.proofs.Common.{rules}
use denote.Param.Send.{IsSync, sendable}
use Rattle.steal_engine.proofs.seats.Seat.TheSendSync as SeatCrosses
use Rattle.steal_engine.proofs.seats.Worked.TheSendSync as WorkedCrosses
use Rattle.net_base.proofs.tasks.Task.TheSendSync as TaskCrosses
use Rattle.steal_engine.proofs.Crossing.{pass_send, work_sync}
use Rattle.steal_engine.proofs.team.work_all.Goals as goal

pub map_vec-requires-send-J : goal.map_vec-requires-send-J
map_vec-requires-send-J g c κs within = search (SeatCrosses.the_send, TaskCrosses.the_send, pass_send, sendable) depth 60

pub map_vec-requires-send-X : goal.map_vec-requires-send-X
map_vec-requires-send-X g c κs within = search (WorkedCrosses.the_send, TaskCrosses.the_send, pass_send, sendable) depth 60

pub map_vec-requires-sync-F : goal.map_vec-requires-sync-F
map_vec-requires-sync-F g c κs within =
    let z : IsSync g.row.R = search rules in let y : IsSync g.row.G = search rules in search (work_sync g.row.R g.row.G z y, sendable)
