-- Passes go to the workers' threads, which share the rest.
use Rattle.std.proofs.Common.{rules}
use denote.Param.Send.{IsSync, sendable}
use Rattle.free_engine.proofs.Crossing.{pass_send, work_sync}
use Rattle.free_engine.proofs.team.work_all.Goals as goal

pub map_vec-requires-send-J : goal.map_vec-requires-send-J
map_vec-requires-send-J g c κs within = search (pass_send, sendable) depth 20

pub map_vec-requires-send-X : goal.map_vec-requires-send-X
map_vec-requires-send-X g c κs within = search (pass_send, sendable) depth 40

pub map_vec-requires-sync-F : goal.map_vec-requires-sync-F
map_vec-requires-sync-F g c κs within =
    let z : IsSync g.row.R = search rules in let y : IsSync g.row.G = search rules in search (work_sync g.row.R g.row.G z y, sendable)
