-- The contracts' view of an engine of rounds, and what holds of it between two settles.
use Rattle.std.specs.Prelude.{◌≤◌, length}
use Rattle.work_store.specs.Stored.{Stored}
use Rattle.net_base.specs.declared.net.Net.{Net}
use Rattle.step_core.specs.declared.world.World.{World}
use Rattle.serial_engine.specs.Engines.{IsAtRest}
use Rattle.rounds_engine.specs.declared.phases.Sharing.{Sharing}

-- its network, its store, its lines with the pending tasks, and how the lines are shared
pub record Engine : Type 0 where
  pub net : Net
  pub store : Stored
  pub world : World
  pub sharing : Sharing

-- The engine is at rest, and there is at least one line for each shard.
pub record IsAtRestInShards (net : Net) (s : Stored) (w : World) (sharing : Sharing) : Type 0 where
  pub rest : IsAtRest net s w
  pub some : 1 ≤ sharing.shards
  pub few : sharing.shards ≤ length w.lines.items
