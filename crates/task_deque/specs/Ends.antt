-- What the ends of a deque know.
use Rattle.std.specs.Prelude.{◌≡◌, Bool, true, false, List}
use Rattle.std.specs.declared.alloc.Global.{Global}
use Rattle.atomic_blocks.specs.Lent.{RowsId}
use Rattle.crossbeam_deque.specs.Handles.{stealer_deque, worker_deque, worker_view, view}
use Rattle.net_base.specs.declared.tasks.Task.{Task}
use Rattle.task_deque.specs.declared.handles.OwnEnd.{OwnEnd}
use Rattle.task_deque.specs.declared.handles.ThiefEnd.{ThiefEnd}

module _ {J : Type 0} where
  abbrev pub pushed : OwnEnd J → List Task
  pushed e = (worker_view e.worker).pushed

  abbrev pub popped : OwnEnd J → List Task
  popped e = (worker_view e.worker).popped

  -- what was stolen, if the thief's end is back
  abbrev pub stolen : OwnEnd J → List Task
  stolen e = (worker_view e.worker).stolen

  abbrev pub thief_stolen : ThiefEnd J → List Task
  thief_stolen e = (view e.pass).stolen

  -- no thief has its end
  abbrev pub IsWhole : OwnEnd J → Type 0
  IsWhole e = (worker_view e.worker).steals ≡ true

  abbrev pub IsLent : OwnEnd J → Type 0
  IsLent e = (worker_view e.worker).steals ≡ false

  -- the identity of the deque
  abbrev pub of : OwnEnd J → RowsId × Global
  of e = worker_deque e.worker

  abbrev pub thief_of : ThiefEnd J → RowsId × Global
  thief_of e = stealer_deque e.stealer

  -- the identity of the deque, and whether its thief's end is back
  abbrev pub own_of : OwnEnd J → (RowsId × Global) × Bool
  own_of e = (worker_deque e.worker, (worker_view e.worker).steals)
