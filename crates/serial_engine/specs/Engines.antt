-- The contracts' view of an engine, and what holds of it between two settles.
use Rattle.std.specs.Prelude.{◌≡◌, length, map}
use Rattle.std.specs.List.{All}
use Rattle.work_store.specs.Stored.{Stored, held_of}
use Rattle.net_base.specs.declared.net.Net.{Net}
use Rattle.activation.specs.Acting.{IsCounted}
use Rattle.step_core.specs.declared.world.World.{World}
use Rattle.step_core.specs.Phases.{HoldJust, now, sums_over}
use Rattle.step_core.specs.Worlds.{AreNumbered, placed, seen}

-- its network, its store, and its lines with the pending tasks
pub record Engine : Type 0 where
  pub net : Net
  pub store : Stored
  pub world : World

-- Nothing is pending, and the lines hold exactly the tokens over the store.
pub record IsAtRest (net : Net) (s : Stored) (w : World) : Type 0 where
  pub quiet : w.counter ≡ 0
  pub numbered : AreNumbered w.lines.items
  pub counted : All (IsCounted net.nodes s) w.lines.items
  pub holds : HoldJust (placed (held_of s) net.nodes (length w.lines.items)) (sums_over s.elements net.alphas net.nodes) (map now (map seen w.lines.items))
