-- A task that is performed and finished at once.
use Rattle.std.specs.Prelude.{◌≡◌, ◌-◌, ◌++◌, ◌∷◌, [], ℕ, List, All, length, slice_get, take, Some}
use Rattle.work_store.specs.Stored.{Stored}
use Rattle.net_base.specs.declared.nodes.Node.{Node}
use Rattle.net_base.specs.declared.nodes.Alpha.{Alpha}
use Rattle.net_base.specs.declared.tasks.Task.{Task}
use Rattle.net_base.specs.Tokens.{Elements}
use Rattle.token_line.specs.Held.{Agrees}
use Rattle.token_line.specs.Lawful.{IsChildOf}
use Rattle.step_core.specs.declared.world.World.{World}
use Rattle.step_core.specs.Machine.{Activate, Finish, Run}
use Rattle.step_core.specs.Worlds.{placed, world_of}

-- all but the last
abbrev pub but_last : {X : Type 0} → List X → List X
but_last xs = take (length xs - 1) xs

-- the last task in flight
abbrev pub IsLast : World → Task → Type 0
IsLast w x = slice_get w.flight.items (length w.flight.items - 1) ≡ Some x

-- The task at that place was performed, and its entry, the last one that was done, was finished. Its children came
-- after the tasks that were left in flight. Entries that were done before are still to be finished.
pub record IsWorked (alphas : List Alpha) (nodes : List Node) (s : Stored) (old : World) (i : ℕ) (left : List Task) (new : World) : Type 0 where
  pub steps : (elements : Elements) → Agrees s elements
      → Run elements alphas nodes (placed elements nodes (length old.lines.items)) (world_of old) (Activate i ∷ Finish (length old.done.items) ∷ []) (world_of new)
  pub task : Task
  pub was : slice_get old.flight.items i ≡ Some task
  pub children : List Task
  pub below : All (IsChildOf nodes task.node) children
  pub flight : new.flight.items ≡ left ++ children
  pub done : new.done.items ≡ old.done.items
