-- What carries a phase on from one world to another, and what feeds it.
use Rattle.std.specs.Prelude.{◌++◌, List, length, map}
use Rattle.ops_base.specs.declared.elements.Element.{Element}
use Rattle.ops_base.specs.declared.elements.Change.{Change}
use Rattle.work_store.specs.Stored.{Stored, held_of}
use Rattle.net_base.specs.declared.nodes.Node.{Node}
use Rattle.net_base.specs.declared.nodes.Alpha.{Alpha}
use Rattle.net_base.specs.declared.tasks.Task.{Task}
use Rattle.token_line.specs.declared.line.Line.{Line}
use Rattle.step_core.specs.Rounds.{IsUnderWay}
use Rattle.step_core.specs.Worlds.{placed, seen}

-- Each phase that is in progress in the lines `old`, with the tasks that were waiting, is in progress in the lines
-- `new`, with the tasks that are waiting now, whatever its changes and the working memory before it. Tasks are placed
-- among as many lines as there are.
abbrev pub CarriesOn : List Alpha → List Node → Stored → (lines : List Line) → List Task → List Line → List Task → Type 0
CarriesOn alphas nodes s old waiting new waiting' =
    (wm : List Element) (changes : List Change)
    → IsUnderWay (held_of s) alphas nodes (placed (held_of s) nodes (length old)) wm changes (map seen old) waiting
    → IsUnderWay (held_of s) alphas nodes (placed (held_of s) nodes (length old)) wm changes (map seen new) waiting'

-- The same if these changes are fed meanwhile, after those of the phase so far.
abbrev pub FeedsOn : List Alpha → List Node → Stored → (lines : List Line) → List Task → List Change → List Line → List Task → Type 0
FeedsOn alphas nodes s old waiting fed new waiting' =
    (wm : List Element) (changes : List Change)
    → IsUnderWay (held_of s) alphas nodes (placed (held_of s) nodes (length old)) wm changes (map seen old) waiting
    → IsUnderWay (held_of s) alphas nodes (placed (held_of s) nodes (length old)) wm (changes ++ fed) (map seen new) waiting'
