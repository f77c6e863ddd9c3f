-- The engines over a network may go to another thread, if their gate may.
use denote.RattleType.{RattleType}
use denote.Struct.Field.{row_field}
use denote.Param.Send.{IsSend, sendable, view_send}
use denote.Param.SendFields.{as_row_send, declared_send}
use Rattle.std.proofs.Crossing.{crosses}
use Rattle.net_base.proofs.net.Net.TheSendSync as NetCrosses
use Rattle.net_base.proofs.tasks.Task.TheSendSync as TaskCrosses
use Rattle.work_store.proofs.store.Store.TheSendSync as StoreCrosses
use Rattle.step_core.specs.contracts.world.World as World
use Rattle.serial_engine.proofs.Crossing.{line_send}
use Rattle.serial_engine.specs.contracts.engine.Parts as SerialParts
use Rattle.serial_engine.specs.contracts.engine.SerialEngine as SerialEngine
use Rattle.serial_engine.specs.contracts.engine.SerialEngine.TheInside as SerialInside
use Rattle.rounds_engine.specs.contracts.engine.Parts as RoundsParts
use Rattle.rounds_engine.specs.contracts.engine.RoundsEngine as RoundsEngine
use Rattle.rounds_engine.specs.contracts.engine.RoundsEngine.TheInside as RoundsInside
use Rattle.free_engine.specs.contracts.engine.Parts as FreeParts
use Rattle.free_engine.specs.contracts.engine.FreeEngine as FreeEngine
use Rattle.free_engine.specs.contracts.engine.FreeEngine.TheInside as FreeInside
use Rattle.steal_engine.specs.contracts.engine.Parts as StealParts
use Rattle.steal_engine.specs.contracts.engine.StealEngine as StealEngine
use Rattle.steal_engine.specs.contracts.engine.StealEngine.TheInside as StealInside

world_send : IsSend World.the_row
world_send = search (line_send, TaskCrosses.the_send, sendable, crosses) depth 80 fits 20000

-- ---- Serial

serial_parts_send : (G : RattleType) → IsSend G → IsSend (SerialParts.the_row G)
serial_parts_send G s = declared_send (SerialParts.the_type G) (NetCrosses.the_send, (StoreCrosses.the_send, (world_send, (as_row_send (row_field G) s, tt))))

pub serial_send : (G : RattleType) → IsSend G → IsSend (SerialEngine.the_row G)
serial_send G s =
    view_send _ _ _ _ _ (declared_send (SerialInside.the_type G) (search (serial_parts_send G s, sendable, crosses) depth 80 fits 20000, tt))

-- ---- Rounds

rounds_parts_send : (G : RattleType) → IsSend G → IsSend (RoundsParts.the_row G)
rounds_parts_send G s = declared_send (RoundsParts.the_type G) (NetCrosses.the_send, (StoreCrosses.the_send, (world_send, (as_row_send (row_field G) s, (search (sendable, crosses) depth 40, tt)))))

pub rounds_send : (G : RattleType) → IsSend G → IsSend (RoundsEngine.the_row G)
rounds_send G s =
    view_send _ _ _ _ _ (declared_send (RoundsInside.the_type G) (search (rounds_parts_send G s, sendable, crosses) depth 80 fits 20000, tt))

-- ---- Free

free_parts_send : (G : RattleType) → IsSend G → IsSend (FreeParts.the_row G)
free_parts_send G s = declared_send (FreeParts.the_type G) (NetCrosses.the_send, (StoreCrosses.the_send, (world_send, (as_row_send (row_field G) s, (search (sendable, crosses) depth 40, tt)))))

pub free_send : (G : RattleType) → IsSend G → IsSend (FreeEngine.the_row G)
free_send G s =
    view_send _ _ _ _ _ (declared_send (FreeInside.the_type G) (search (free_parts_send G s, sendable, crosses) depth 80 fits 20000, tt))

-- ---- Steal

steal_parts_send : (G : RattleType) → IsSend G → IsSend (StealParts.the_row G)
steal_parts_send G s = declared_send (StealParts.the_type G) (NetCrosses.the_send, (StoreCrosses.the_send, (world_send, (as_row_send (row_field G) s, (search (sendable, crosses) depth 40, tt)))))

pub steal_send : (G : RattleType) → IsSend G → IsSend (StealEngine.the_row G)
steal_send G s =
    view_send _ _ _ _ _ (declared_send (StealInside.the_type G) (search (steal_parts_send G s, sendable, crosses) depth 80 fits 20000, tt))
