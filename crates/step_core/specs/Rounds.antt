-- A phase in progress, whatever part of it has been done; and what a shard, which is a run of consecutive lines, does
-- of it in a round.
use Rattle.std.specs.Prelude.{◌≡◌, ◌<◌, ℕ, ◌+◌, List, [], ◌∷◌, ◌++◌, length, map, slice_get, Some}
use Rattle.ops_base.specs.declared.elements.Element.{Element}
use Rattle.ops_base.specs.declared.elements.Change.{Change}
use Rattle.net_base.specs.declared.nodes.Node.{Node}
use Rattle.net_base.specs.declared.nodes.Alpha.{Alpha}
use Rattle.net_base.specs.declared.tasks.Side.{Side}
use Rattle.net_base.specs.declared.tasks.Task.{Task}
use Rattle.net_base.specs.Tokens.{Elements}
use Rattle.token_line.specs.declared.line.Entry.{Entry}
use Rattle.token_line.specs.Lawful.{IsLawful}
use Rattle.step_core.specs.Machine.{Placing, Run, Seen, Step, World, add_entry, changes_of, fed_by_all, place_of, sums_at}
use Rattle.step_core.specs.Laws.{AreEmpty, NoClear}
use Rattle.step_core.specs.Phases.{AreSame, HoldJust, IsBundle, IsPhase, before, children_of, entries_of, now, sums_over, tasks_of}

-- ---- a phase in progress

-- As in a bundle, except for the tasks that are waiting. At the start, the lines held exactly the tokens over wm.
-- Each line's phase is lawful. The tasks of all entries, together with those that are waiting, are those that the
-- changes feed together with the children of all entries.
pub record IsUnderWay (elements : Elements) (alphas : List Alpha) (nodes : List Node) (line : Placing) (wm : List Element) (changes : List Change) (ls : List Seen) (waiting : List Task) : Type 0 where
  pub start : HoldJust line (sums_over wm alphas nodes) (map before ls)
  pub phases : (i : ℕ) (l : Seen) → slice_get ls i ≡ Some l → IsPhase elements nodes line i l
  pub tasks : AreSame (tasks_of (entries_of ls) ++ waiting) (fed_by_all elements alphas nodes changes ++ children_of (entries_of ls))

-- lines without entries that hold exactly the tokens over working memory begin a phase
abbrev pub BeginLaw : Type 0
BeginLaw =
    (elements : Elements) (alphas : List Alpha) (nodes : List Node) (line : Placing) (wm : List Element) (ls : List Seen)
    → AreEmpty ls → HoldJust line (sums_over wm alphas nodes) (map now ls)
    → IsUnderWay elements alphas nodes line wm [] ls []

-- steps that clear no line carry it on: a waiting task is in flight, or is a child of an entry that is not finished
abbrev pub StepsLaw : Type 0
StepsLaw =
    (elements : Elements) (alphas : List Alpha) (nodes : List Node) (line : Placing) (wm : List Element) (changes : List Change) (ss : List Step) (w w' : World)
    → ((n : ℕ) (s : Side) (t : List ℕ) → line n s t < length w.lines) → NoClear ss → Run elements alphas nodes line w ss w'
    → IsUnderWay elements alphas nodes line wm changes w.lines (w.flight ++ children_of w.done)
    → IsUnderWay elements alphas nodes line wm (changes ++ changes_of ss) w'.lines (w'.flight ++ children_of w'.done)

-- if no task is waiting any longer, the lines are a bundle
abbrev pub EndLaw : Type 0
EndLaw =
    (elements : Elements) (alphas : List Alpha) (nodes : List Node) (line : Placing) (wm : List Element) (changes : List Change) (ls : List Seen)
    → IsUnderWay elements alphas nodes line wm changes ls [] → IsBundle elements alphas nodes line wm changes ls

-- ---- a shard in a round

-- line k of a shard is as it was, except for entries that keep its phase lawful; its number among all lines is i
pub record IsKept (elements : Elements) (nodes : List Node) (line : Placing) (i : ℕ) (old : List Seen) (k : ℕ) (l : Seen) : Type 0 where
  pub was : Seen
  pub at : slice_get old k ≡ Some was
  pub phase : IsPhase elements nodes line i was → IsPhase elements nodes line i l

-- The lines of a shard, whose first line has the number `first` among all lines, performed the tasks `todo`, whose
-- children are `made`. They began the phase as before, and each keeps its phase lawful.
pub record HaveDone (elements : Elements) (nodes : List Node) (line : Placing) (first : ℕ) (old new : List Seen) (todo made : List Task) : Type 0 where
  pub count : length new ≡ length old
  pub begins : map before new ≡ map before old
  pub phases : (k : ℕ) (l : Seen) → slice_get new k ≡ Some l → IsKept elements nodes line (first + k) old k l
  pub tasks : AreSame (tasks_of (entries_of new)) (tasks_of (entries_of old) ++ todo)
  pub children : AreSame (children_of (entries_of new)) (children_of (entries_of old) ++ made)

-- a shard that does nothing
abbrev pub NoneLaw : Type 0
NoneLaw = (elements : Elements) (nodes : List Node) (line : Placing) (first : ℕ) (ls : List Seen) → HaveDone elements nodes line first ls ls [] []

-- one more task, on line k of the shard
abbrev pub OneLaw : Type 0
OneLaw =
    (elements : Elements) (nodes : List Node) (line : Placing) (first : ℕ) (old mid : List Seen) (todo made : List Task) (k : ℕ) (e : Entry)
    → HaveDone elements nodes line first old mid todo made → k < length mid → place_of line e.task ≡ first + k → IsLawful elements nodes (sums_at k mid) e
    → HaveDone elements nodes line first old (add_entry k e mid) (todo ++ e.task ∷ []) (made ++ e.children)

-- two adjacent shards form one shard
abbrev pub ShardLaw : Type 0
ShardLaw =
    (elements : Elements) (nodes : List Node) (line : Placing) (first : ℕ) (xs xs' ys ys' : List Seen) (a b c d : List Task)
    → HaveDone elements nodes line first xs xs' a b → HaveDone elements nodes line (first + length xs) ys ys' c d
    → HaveDone elements nodes line first (xs ++ ys) (xs' ++ ys') (a ++ c) (b ++ d)

-- a round of all lines carries a phase on: the tasks that were performed, in any order, no longer wait, and their
-- children wait from now on
abbrev pub RoundLaw : Type 0
RoundLaw =
    (elements : Elements) (alphas : List Alpha) (nodes : List Node) (line : Placing) (wm : List Element) (changes : List Change) (old new : List Seen) (waiting todo made rest : List Task)
    → IsUnderWay elements alphas nodes line wm changes old waiting → AreSame waiting (todo ++ rest) → HaveDone elements nodes line 0 old new todo made
    → IsUnderWay elements alphas nodes line wm changes new (made ++ rest)
