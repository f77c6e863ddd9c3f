-- The laws of every list of steps, and of every bundle.
use Rattle.std.specs.Prelude.{◌≡◌, ◌≤◌, ◌<◌, ◌^◌, ◌↔◌, ◌⊎◌, ℕ, ◌+◌, List, [], ◌∷◌, ◌++◌, pos, ◌+ℤ◌, length, map, slice_get, Some, All, Contains}
use Rattle.ops_base.specs.declared.elements.Element.{Element}
use Rattle.ops_base.specs.declared.elements.Change.{Change}
use Rattle.ops_base.specs.declared.elements.Change.TheVariants.{Add}
use Rattle.ops_base.specs.declared.rules.Rule.{Rule}
use Rattle.ops_base.specs.WorkingMemory.{tags_of, done, Lawful}
use Rattle.ops_base.specs.Instances.{IsInst}
use Rattle.net_base.specs.declared.nodes.Kind.TheVariants.{Terminal}
use Rattle.net_base.specs.declared.nodes.Node.{Node}
use Rattle.net_base.specs.declared.nodes.Alpha.{Alpha}
use Rattle.net_base.specs.declared.net.Net.{Net}
use Rattle.net_base.specs.declared.tasks.Side.{Side}
use Rattle.net_base.specs.declared.tasks.Side.TheVariants.{Left}
use Rattle.net_base.specs.declared.tasks.Task.{Task}
use Rattle.net_base.specs.Sound.{IsSound}
use Rattle.net_base.specs.Network.{IsWm, NetOf}
use Rattle.net_base.specs.Tokens.{Elements, Giver, Nothing, Root, Memory, Out, root_gives, left_tokens, right_tokens}
use Rattle.token_line.specs.declared.line.Entry.{Entry}
use Rattle.token_line.specs.Bags.{Bag, signs}
use Rattle.token_line.specs.Lawful.{giver_of, out_at, IsLawful}
use Rattle.step_core.specs.Machine.{Placing, place_of, KeepsOneLine, Seen, with_entry, fed_by_all, World, Step, Feed, Activate, Finish, Clear, Run, changes_of, start}
use Rattle.step_core.specs.Phases.{total, HoldJust, sums_over, tasks_of, children_of, now, entries_of, AreSame, IsPhase, IsBundle}

-- ---- what tags refer to

-- the tag of each element of working memory refers to that element
abbrev pub NamesWm : Elements → List Element → Type 0
NamesWm elements wm = (e : Element) → Contains wm e → elements e.tag ≡ Some e

-- a tag that was added refers to the element that was added
abbrev pub NamesAdded : Elements → List Change → Type 0
NamesAdded elements changes = (e : Element) → Contains changes (Add e) → elements e.tag ≡ Some e

-- ---- balance

-- what a giver has put out to a side over these sums; `memory` is what the changes have put out
abbrev pub put_out : Elements → List Node → Bag → Bag → Giver → Bag
put_out elements nodes memory b Nothing n s t = pos 0
put_out elements nodes memory b Root n s t = pos (root_gives t)
put_out elements nodes memory b Memory n s t = memory n s t
put_out elements nodes memory b (Out p) n s t = pos (out_at elements nodes b p t)

-- each sum, together with the signs of the pending tasks, is what the giver of its side has put out
abbrev pub IsBalanced : Elements → List Node → Bag → Bag → List Task → Type 0
IsBalanced elements nodes memory b pending =
    (n : ℕ) (s : Side) (t : List ℕ) → b n s t +ℤ signs n s t pending ≡ put_out elements nodes memory b (giver_of nodes n s) n s t

-- ---- premises

-- the network is sound, tokens that go together have the same line, and there are this many lines
pub record IsPlaced (elements : Elements) (alphas : List Alpha) (nodes : List Node) (line : Placing) (lines : ℕ) : Type 0 where
  pub sound : IsSound alphas nodes
  pub one_line : KeepsOneLine elements nodes line
  pub below : (n : ℕ) (s : Side) (t : List ℕ) → line n s t < lines

-- no line has an entry
abbrev pub AreEmpty : List Seen → Type 0
AreEmpty ls = (i : ℕ) (l : Seen) → slice_get ls i ≡ Some l → l.entries ≡ []

-- no step clears the lines
abbrev pub NoClear : List Step → Type 0
NoClear [] = Unit {0}
NoClear (Feed change ∷ ss) = NoClear ss
NoClear (Activate i ∷ ss) = NoClear ss
NoClear (Finish j ∷ ss) = NoClear ss
NoClear (Clear ∷ ss) = ⊥

-- ---- the laws of all lists of steps

-- nothing is pending, no line has an entry, and the lines hold exactly these sums
pub record IsAtRest (line : Placing) (b : Bag) (w : World) : Type 0 where
  pub counter : w.counter ≡ 0
  pub flight : w.flight ≡ []
  pub done : w.done ≡ []
  pub empty : AreEmpty w.lines
  pub holds : HoldJust line b (map now w.lines)

-- the start is at rest over an empty working memory
abbrev pub StartLaw : Type 0
StartLaw =
    (elements : Elements) (alphas : List Alpha) (nodes : List Node) (line : Placing) (lines : ℕ)
    → IsPlaced elements alphas nodes line lines → IsAtRest line (sums_over [] alphas nodes) (start nodes line lines)

-- the counter is the number of tasks in flight plus the number of entries that are done
abbrev pub CounterLaw : Type 0
CounterLaw =
    (elements : Elements) (alphas : List Alpha) (nodes : List Node) (line : Placing) (lines : ℕ) (ss : List Step) (w : World)
    → Run elements alphas nodes line (start nodes line lines) ss w → w.counter ≡ length w.flight + length w.done

-- the sums that arrived, together with the pending tasks, are what the givers have put out
abbrev pub BalanceLaw : Type 0
BalanceLaw =
    (elements : Elements) (alphas : List Alpha) (nodes : List Node) (line : Placing) (lines : ℕ) (ss : List Step) (w : World)
    → IsPlaced elements alphas nodes line lines → Run elements alphas nodes line (start nodes line lines) ss w
    → IsBalanced elements nodes (λ n s t. signs n s t (fed_by_all elements alphas nodes (changes_of ss))) (total (map now w.lines)) (w.flight ++ children_of w.done)

-- if the changes are lawful from an empty working memory and the counter is 0, the lines hold exactly the tokens over
-- working memory
abbrev pub ZeroLaw : Type 0
ZeroLaw =
    (elements : Elements) (alphas : List Alpha) (nodes : List Node) (line : Placing) (lines : ℕ) (ss : List Step) (w : World) (last : ℕ)
    → IsPlaced elements alphas nodes line lines → Run elements alphas nodes line (start nodes line lines) ss w
    → Lawful [] last (changes_of ss) → NamesAdded elements (changes_of ss) → w.counter ≡ 0
    → HoldJust line (sums_over (done [] (changes_of ss)) alphas nodes) (map now w.lines)

-- ---- the tokens over working memory

-- each token occurs at most once at a side of a node
abbrev pub OnceLaw : Type 0
OnceLaw = (wm : List Element) (alphas : List Alpha) (nodes : List Node) → IsSound alphas nodes → (n : ℕ) (t : List ℕ) → (left_tokens wm alphas nodes n t ≤ 1) × (right_tokens wm alphas nodes n t ≤ 1)

-- at the terminal of each rule, these lines hold its instantiations, each once, and no other token
abbrev pub HoldInsts : Net → List Rule → List Element → List Bag → Type 0
HoldInsts net rules wm bags =
    (n k : ℕ) (x : Node) → slice_get net.nodes n ≡ Some x → x.kind ≡ Terminal k → (t : List ℕ)
    → ((total bags n Left t ≡ pos 1) ↔ IsInst rules wm (record { rule = k; tags = t })) × ((total bags n Left t ≡ pos 1) ⊎ (total bags n Left t ≡ pos 0))

-- if the network is that of the rules, lines that hold exactly the tokens over working memory hold the instantiations
abbrev pub TerminalLaw : Type 0
TerminalLaw =
    (net : Net) (rules : List Rule) (line : Placing) (wm : List Element) (bags : List Bag)
    → NetOf net rules → IsWm wm → HoldJust line (sums_over wm net.alphas net.nodes) bags → HoldInsts net rules wm bags

-- the tags that are added fit in 64 bits
abbrev pub AreSmall : List Change → Type 0
AreSmall changes = (e : Element) → Contains changes (Add e) → e.tag < 2 ^ 64

-- therefore the terminals hold the conflict set whenever the counter is 0
abbrev pub InstLaw : Type 0
InstLaw =
    (net : Net) (rules : List Rule) (elements : Elements) (line : Placing) (lines : ℕ) (ss : List Step) (w : World) (last : ℕ)
    → NetOf net rules → IsPlaced elements net.alphas net.nodes line lines → Run elements net.alphas net.nodes line (start net.nodes line lines) ss w
    → Lawful [] last (changes_of ss) → NamesAdded elements (changes_of ss) → AreSmall (changes_of ss) → w.counter ≡ 0
    → HoldInsts net rules (done [] (changes_of ss)) (map now w.lines)

-- ---- the laws of phases

-- The entries of the lines are those that are finished together with those that are done. Their tasks, together with
-- the tasks in flight, are those that were fed together with the children of the finished entries.
pub record IsTallied (fed : List Task) (finished : List Entry) (w : World) : Type 0 where
  pub entries : AreSame (entries_of w.lines) (finished ++ w.done)
  pub tasks : AreSame (tasks_of (entries_of w.lines) ++ w.flight) (fed ++ children_of finished)

-- since the lines had no entries and the counter was 0
abbrev pub TaskLaw : Type 0
TaskLaw =
    (elements : Elements) (alphas : List Alpha) (nodes : List Node) (line : Placing) (lines : ℕ) (earlier phase : List Step) (w w' : World)
    → IsPlaced elements alphas nodes line lines
    → Run elements alphas nodes line (start nodes line lines) earlier w → w.counter ≡ 0 → AreEmpty w.lines
    → NoClear phase → Run elements alphas nodes line w phase w'
    → (finished : List Entry) × IsTallied (fed_by_all elements alphas nodes (changes_of phase)) finished w'

-- an entry that is lawful over a line's sums, and whose task belongs to that line, can be appended to the line's
-- phase
abbrev pub EntryLaw : Type 0
EntryLaw =
    (elements : Elements) (nodes : List Node) (line : Placing) (i : ℕ) (l : Seen) (e : Entry)
    → IsPhase elements nodes line i l → place_of line e.task ≡ i → IsLawful elements nodes l.sums e → IsPhase elements nodes line i (with_entry l e)

-- the steps from one moment with the counter at 0 to another make a bundle of the changes that they feed
abbrev pub PhaseLaw : Type 0
PhaseLaw =
    (elements : Elements) (alphas : List Alpha) (nodes : List Node) (line : Placing) (lines : ℕ) (earlier phase : List Step) (w w' : World) (last : ℕ)
    → IsPlaced elements alphas nodes line lines
    → Run elements alphas nodes line (start nodes line lines) earlier w → w.counter ≡ 0 → AreEmpty w.lines
    → Lawful [] last (changes_of earlier) → NamesAdded elements (changes_of earlier)
    → NoClear phase → Run elements alphas nodes line w phase w' → w'.counter ≡ 0
    → IsBundle elements alphas nodes line (done [] (changes_of earlier)) (changes_of phase) w'.lines

-- the same from any world at rest, however it was reached
abbrev pub SettleLaw : Type 0
SettleLaw =
    (elements : Elements) (alphas : List Alpha) (nodes : List Node) (line : Placing) (wm : List Element) (phase : List Step) (w w' : World)
    → ((n : ℕ) (s : Side) (t : List ℕ) → line n s t < length w.lines) → IsAtRest line (sums_over wm alphas nodes) w
    → NoClear phase → Run elements alphas nodes line w phase w' → w'.counter ≡ 0
    → IsBundle elements alphas nodes line wm (changes_of phase) w'.lines

-- at the end of each bundle of lawful changes, the lines hold exactly the tokens over the working memory that results
-- from the changes
abbrev pub BundleLaw : Type 0
BundleLaw =
    (elements : Elements) (alphas : List Alpha) (nodes : List Node) (line : Placing) (wm : List Element) (last : ℕ) (changes : List Change) (ls : List Seen)
    → IsSound alphas nodes → KeepsOneLine elements nodes line
    → All (λ tag. tag ≤ last) (tags_of wm) → NamesWm elements wm → Lawful wm last changes → NamesAdded elements changes
    → IsBundle elements alphas nodes line wm changes ls
    → HoldJust line (sums_over (done wm changes) alphas nodes) (map now ls)
