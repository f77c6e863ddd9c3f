-- A network to which nodes were appended, over lines that hold the tokens from before: which tasks are due then, and
-- the laws of how they lead to rest.
use Rattle.std.specs.Prelude.{◌≡◌, ◌<◌, ℕ, List, [], ◌++◌, pos, length, map, slice_get, nat_le, Option, Some, None, All, if◌then◌else◌}
use Rattle.ops_base.specs.declared.elements.Element.{Element}
use Rattle.ops_base.specs.declared.rules.Inst.{Inst}
use Rattle.ops_base.specs.WorkingMemory.{HasRisingTags}
use Rattle.work_store.specs.Settling.{IsSettled}
use Rattle.work_store.specs.Stored.{Stored, held_of}
use Rattle.net_base.specs.declared.nodes.Node.{Node}
use Rattle.net_base.specs.declared.nodes.Alpha.{Alpha}
use Rattle.net_base.specs.declared.tasks.Side.{Side}
use Rattle.net_base.specs.declared.tasks.Task.{Task}
use Rattle.net_base.specs.Sound.{IsSound}
use Rattle.net_base.specs.Tokens.{Elements, Tokens, given, memory_gives}
use Rattle.token_line.specs.declared.line.Line.{Line}
use Rattle.token_line.specs.Bags.{signs}
use Rattle.token_line.specs.Lawful.{giver_in}
use Rattle.activation.specs.Acting.{IsCounted}
use Rattle.step_core.specs.Machine.{Placing, KeepsOneLine, Seen, World, Step, Run, changes_of}
use Rattle.step_core.specs.Phases.{total, HoldJust, sums_over, now, before}
use Rattle.step_core.specs.Laws.{NamesWm, IsBalanced, AreEmpty, NoClear}
use Rattle.step_core.specs.Found.{found_over}
use Rattle.step_core.specs.Settling.{IsGathered, HaveOwnLines}
use Rattle.step_core.specs.Worlds.{placed, seen}
use Rattle.grow_net.specs.Behind.{StandApart}

-- ---- what is due

-- what one side of a node gets from the root and from working memory, if no node has any output
abbrev pub outside : List Element → List Alpha → Option Node → Side → Tokens
outside wm alphas None s t = 0
outside wm alphas (Some x) s t = given (giver_in (Some x) s) (memory_gives wm (slice_get alphas x.alpha)) (λ p u. 0) t

-- The tasks bring each node from `first` on exactly what the root and working memory give it, each token once, and
-- bring nothing to the other nodes.
abbrev pub AreDue : List Element → List Alpha → List Node → ℕ → List Task → Type 0
AreDue wm alphas nodes first tasks =
    (n : ℕ) (s : Side) (t : List ℕ) → signs n s t tasks ≡ pos (if nat_le first n then outside wm alphas (slice_get nodes n) s t else 0)

-- ---- the laws

-- Lines at rest over a network have no token of a node that is appended to it. So their counts and the places of their
-- tokens are right for the larger network, too.
abbrev pub MoreNodesLaw : Type 0
MoreNodesLaw =
    (alphas : List Alpha) (nodes chain : List Node) (wm : List Element) (s : Stored) (ls : List Line) → IsSound alphas nodes
    → AreEmpty (map seen ls) → All (IsCounted nodes s) ls
    → HoldJust (placed (held_of s) nodes (length ls)) (sums_over wm alphas nodes) (map now (map seen ls))
    → All (IsCounted (nodes ++ chain) s) ls × HoldJust (placed (held_of s) (nodes ++ chain) (length ls)) (sums_over wm alphas nodes) (map now (map seen ls))

-- The tokens of the network, together with the tasks that are due at the appended nodes, are balanced for the larger
-- network, if working memory has given what the larger network has over it.
abbrev pub DueLaw : Type 0
DueLaw =
    (elements : Elements) (alphas more : List Alpha) (nodes chain : List Node) (wm : List Element) (tasks : List Task) → IsSound alphas nodes
    → StandApart nodes chain → NamesWm elements wm → AreDue wm (alphas ++ more) (nodes ++ chain) (length nodes) tasks
    → IsBalanced elements (nodes ++ chain) (sums_over wm (alphas ++ more) (nodes ++ chain)) (sums_over wm alphas nodes) tasks

-- Lines without entries hold the tokens of the network, and the tasks that are due at the appended nodes are pending.
pub record IsGrowing (line : Placing) (wm : List Element) (alphas more : List Alpha) (nodes chain : List Node) (w : World) : Type 0 where
  pub due : AreDue wm (alphas ++ more) (nodes ++ chain) (length nodes) w.flight
  pub done : w.done ≡ []
  pub counter : w.counter ≡ length w.flight
  pub empty : AreEmpty w.lines
  pub holds : HoldJust line (sums_over wm alphas nodes) (map now w.lines)

-- The lines hold exactly the tokens of the larger network over working memory, no token that a task moved is on two of
-- them, and what is gathered from them is what the larger network finds and the smaller one did not.
pub record HaveGrown (line : Placing) (wm : List Element) (alphas more : List Alpha) (nodes chain : List Node) (ls : List Seen) : Type 0 where
  pub holds : HoldJust line (sums_over wm (alphas ++ more) (nodes ++ chain)) (map now ls)
  pub own_lines : HaveOwnLines ls
  pub settled : (come gone : List Inst) → IsGathered (nodes ++ chain) (total (map before ls)) (total (map now ls)) come gone
      → IsSettled (found_over alphas nodes wm) (found_over (alphas ++ more) (nodes ++ chain) wm) gone come

-- The tasks that were due and the tasks that they create may be done in any order: once no task is pending, the lines
-- have grown. No step feeds a change or clears the lines.
abbrev pub GrowthLaw : Type 0
GrowthLaw =
    (elements : Elements) (alphas more : List Alpha) (nodes chain : List Node) (line : Placing) (wm : List Element) (ss : List Step) (w w' : World)
    → IsSound alphas nodes → IsSound (alphas ++ more) (nodes ++ chain) → StandApart nodes chain
    → KeepsOneLine elements (nodes ++ chain) line → ((n : ℕ) (s : Side) (t : List ℕ) → line n s t < length w.lines)
    → HasRisingTags wm → NamesWm elements wm → IsGrowing line wm alphas more nodes chain w
    → NoClear ss → changes_of ss ≡ [] → Run elements (alphas ++ more) (nodes ++ chain) line w ss w' → w'.counter ≡ 0
    → HaveGrown line wm alphas more nodes chain w'.lines
