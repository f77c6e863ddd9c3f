-- What becomes of a phase in progress if tasks that wait, and their children, are performed in any order, and some
-- are left.
use Rattle.std.specs.Prelude.{◌≡◌, ℕ, List, ◌++◌, map, slice_get, Some}
use Rattle.ops_base.specs.declared.elements.Element.{Element}
use Rattle.ops_base.specs.declared.elements.Change.{Change}
use Rattle.net_base.specs.declared.nodes.Node.{Node}
use Rattle.net_base.specs.declared.nodes.Alpha.{Alpha}
use Rattle.net_base.specs.declared.tasks.Task.{Task}
use Rattle.net_base.specs.Tokens.{Elements}
use Rattle.step_core.specs.Machine.{Placing, Seen}
use Rattle.step_core.specs.Phases.{tasks_of, children_of, before, entries_of, AreSame}
use Rattle.step_core.specs.Rounds.{IsKept, IsUnderWay}

-- The lines after some of the tasks that were waiting, and of their children, were performed. They began the phase as
-- before, and each keeps its phase lawful. The entries' tasks that were added, together with the tasks left, are
-- those that were waiting together with the entries' children that were added.
pub record AreDrained (elements : Elements) (nodes : List Node) (line : Placing) (old new : List Seen) (waiting left : List Task) : Type 0 where
  pub begins : map before new ≡ map before old
  pub phases : (i : ℕ) (l : Seen) → slice_get new i ≡ Some l → IsKept elements nodes line i old i l
  pub tasks : AreSame ((tasks_of (entries_of new) ++ left) ++ children_of (entries_of old)) (tasks_of (entries_of old) ++ (waiting ++ children_of (entries_of new)))

-- then the phase is still in progress, and what is left is waiting
abbrev pub RestLaw : Type 0
RestLaw =
    (elements : Elements) (alphas : List Alpha) (nodes : List Node) (line : Placing) (wm : List Element) (changes : List Change) (old new : List Seen) (waiting left : List Task)
    → IsUnderWay elements alphas nodes line wm changes old waiting → AreDrained elements nodes line old new waiting left
    → IsUnderWay elements alphas nodes line wm changes new left
