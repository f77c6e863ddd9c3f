-- The contracts' view of an engine, and what holds of it between two settles.
use Rattle.std.specs.Prelude.{◌≤◌, ◌^◌, ℕ}
use Rattle.work_store.specs.Stored.{Stored}
use Rattle.net_base.specs.declared.net.Net.{Net}
use Rattle.step_core.specs.declared.world.World.{World}
use Rattle.serial_engine.specs.Engines.{IsAtRest}
use Rattle.team_phase.specs.declared.phases.Sharing.{Sharing}

-- its network, its store, its lines with what is pending, and how phases are shared
pub record Engine : Type 0 where
  pub net : Net
  pub store : Stored
  pub world : World
  pub sharing : Sharing

-- It is at rest. There is at least one worker, and there are not too many.
pub record CanSettle (net : Net) (s : Stored) (w : World) (workers : ℕ) : Type 0 where
  pub rest : IsAtRest net s w
  pub some : 1 ≤ workers
  pub few : workers ≤ 2 ^ 32
