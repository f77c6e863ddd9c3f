-- What a team is given, and what comes back.
use Rattle.std.specs.Prelude.{◌≡◌, ◌≤◌, ◌^◌, List, length, map, Result, IfOk}
use Rattle.work_store.specs.Stored.{Stored}
use Rattle.net_base.specs.declared.nodes.Node.{Node}
use Rattle.net_base.specs.declared.nodes.Alpha.{Alpha}
use Rattle.step_core.specs.declared.world.Parts.{Parts}
use Rattle.step_core.specs.Worlds.{AreNumbered, ArePartsReady}
use Rattle.serial_engine.specs.Carrying.{CarriesOn}
use Rattle.team_phase.specs.declared.help.Load.{Load}

-- there is at least one worker, and not too many; there is at least one line, and the lines are numbered; each task
-- fits
pub record MayShare (nodes : List Node) (s : Stored) (l : Load) : Type 0 where
  pub some : 1 ≤ l.workers
  pub few : l.workers ≤ 2 ^ 32
  pub lines : 1 ≤ length l.parts.lines.items
  pub numbered : AreNumbered l.parts.lines.items
  pub ready : ArePartsReady nodes s l.parts

-- Each phase that was in progress in the lines and the tasks in flight of `old` is in progress in those of `new`,
-- whose tasks fit. The lines have their numbers.
pub record HasShared (alphas : List Alpha) (nodes : List Node) (s : Stored) (old new : Parts) : Type 0 where
  pub carries : CarriesOn alphas nodes s old.lines.items old.flight.items new.lines.items new.flight.items
  pub ready : ArePartsReady nodes s new
  pub numbers : map (λ l. l.number) new.lines.items ≡ map (λ l. l.number) old.lines.items
  pub some : 1 ≤ length new.lines.items

-- a call with this precondition may be made with anything that may be shared
abbrev pub CanHelp : List Node → Stored → (Load → Type 0) → Type 0
CanHelp nodes s pre = (l : Load) → MayShare nodes s l → pre l

-- what comes back from a call with this postcondition
abbrev pub Helps : {E : Type 0} → List Alpha → List Node → Stored → (Load → Result Parts E → Type 0) → Type 0
Helps alphas nodes s post = (l : Load) (r : Result Parts _) → MayShare nodes s l → post l r → IfOk r (HasShared alphas nodes s l.parts)
