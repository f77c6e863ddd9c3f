-- The laws of a settle: what a network finds over a working memory, and what a phase from one working memory to the
-- next leaves and changes.
use Rattle.std.specs.Prelude.{◌≡◌, ◌≢◌, ◌≤◌, ◌<◌, ◌↔◌, ℕ, List, [], length, map, pos, slice_get, Some, Contains, All}
use Rattle.ops_base.specs.declared.elements.Element.{Element}
use Rattle.ops_base.specs.declared.elements.Change.{Change}
use Rattle.ops_base.specs.declared.rules.Rule.{Rule}
use Rattle.ops_base.specs.declared.rules.Inst.{Inst}
use Rattle.ops_base.specs.Instances.{IsConflictSet, IsInOrder}
use Rattle.ops_base.specs.WorkingMemory.{HasRisingTags, Lawful, done, tags_of}
use Rattle.work_store.specs.Stored.{HoldsAlso, IsStored, Stored, added_by, held_of, of_tag}
use Rattle.work_store.specs.Settling.{IsSettled}
use Rattle.net_base.specs.declared.nodes.Kind.TheVariants.{Terminal}
use Rattle.net_base.specs.declared.nodes.Node.{Node}
use Rattle.net_base.specs.declared.nodes.Alpha.{Alpha}
use Rattle.net_base.specs.declared.net.Net.{Net}
use Rattle.net_base.specs.declared.tasks.Side.{Side}
use Rattle.net_base.specs.declared.tasks.Side.TheVariants.{Left}
use Rattle.net_base.specs.declared.tasks.Task.{Task}
use Rattle.net_base.specs.Network.{IsWm, NetOf}
use Rattle.net_base.specs.Sound.{IsSound}
use Rattle.net_base.specs.Tokens.{Elements, left_tokens}
use Rattle.token_line.specs.declared.line.Entry.{Entry}
use Rattle.token_line.specs.declared.line.Line.{Line}
use Rattle.token_line.specs.Bags.{Bag, standing}
use Rattle.token_line.specs.Lawful.{IsChildOf}
use Rattle.activation.specs.Acting.{IsCounted}
use Rattle.step_core.specs.Feeding.{IsKnown}
use Rattle.step_core.specs.Found.{found_over}
use Rattle.step_core.specs.Laws.{IsPlaced, NamesAdded, NamesWm}
use Rattle.step_core.specs.Machine.{Seen, with_entry}
use Rattle.step_core.specs.Phases.{HoldJust, IsBundle, before, now, sums_over, tasks_of, total}
use Rattle.step_core.specs.Worlds.{placed, seen}

-- ---- what a network finds

-- the token of the instantiation is at the terminal of its rule
pub record IsFound (alphas : List Alpha) (nodes : List Node) (wm : List Element) (i : Inst) : Type 0 where
  pub n : ℕ
  pub node : Node
  pub at : slice_get nodes n ≡ Some node
  pub kind : node.kind ≡ Terminal i.rule
  pub stands : left_tokens wm alphas nodes n i.tags ≡ 1

-- the instantiations found are exactly these, in the order of rule and tags
abbrev pub FoundLaw : Type 0
FoundLaw =
    (alphas : List Alpha) (nodes : List Node) (wm : List Element) → IsSound alphas nodes → HasRisingTags wm
    → ((i : Inst) → Contains (found_over alphas nodes wm) i ↔ IsFound alphas nodes wm i) × IsInOrder (found_over alphas nodes wm)

-- if the network is that of the rules, they are the conflict set of the rules
abbrev pub FoundSetLaw : Type 0
FoundSetLaw = (net : Net) (rules : List Rule) (wm : List Element) → NetOf net rules → IsWm wm → IsConflictSet rules wm (found_over net.alphas net.nodes wm)

-- over an empty working memory nothing is found
abbrev pub FoundNoneLaw : Type 0
FoundNoneLaw = (alphas : List Alpha) (nodes : List Node) → IsSound alphas nodes → found_over alphas nodes [] ≡ []

-- ---- lines

-- `line_number` gives a valid placing
abbrev pub PlacedLaw : Type 0
PlacedLaw = (elements : Elements) (alphas : List Alpha) (nodes : List Node) (lines : ℕ) → IsSound alphas nodes → 1 ≤ lines → IsPlaced elements alphas nodes (placed elements nodes lines) lines

-- a child's node comes after the node that feeds it
abbrev pub ChildLaw : Type 0
ChildLaw = (alphas : List Alpha) (nodes : List Node) (p : ℕ) (x : Task) → IsSound alphas nodes → IsChildOf nodes p x → (p < x.node) × (x.node < length nodes)

-- one more entry does not change the sums at the start of the phase
abbrev pub EntryStartLaw : Type 0
EntryStartLaw = (l : Seen) (e : Entry) (n : ℕ) (s : Side) (t : List ℕ) → before (with_entry l e) n s t ≡ before l n s t

-- the store holds the elements of working memory
abbrev pub HoldsWm : List Element → Stored → Type 0
HoldsWm wm s = (tag : ℕ) (e : Element) → of_tag wm tag ≡ Some e → held_of s tag ≡ Some e

-- if lines hold exactly the tokens over working memory by one store that holds it, they are counted and placed by any
-- other store that holds it
abbrev pub RestLaw : Type 0
RestLaw =
    (alphas : List Alpha) (nodes : List Node) (wm : List Element) (s s' : Stored) (ls : List Line) → IsSound alphas nodes → 1 ≤ length ls
    → HoldsWm wm s → HoldsWm wm s' → All (IsCounted nodes s) ls
    → HoldJust (placed (held_of s) nodes (length ls)) (sums_over wm alphas nodes) (map now (map seen ls))
    → All (IsCounted nodes s') ls × HoldJust (placed (held_of s') nodes (length ls)) (sums_over wm alphas nodes) (map now (map seen ls))

-- ---- stores

-- the store s' holds everything that a phase of these changes to the store s looks up
pub record HoldsPhase (s s' : Stored) (changes : List Change) : Type 0 where
  pub low : All (λ tag. tag ≤ s.last) (tags_of s.elements)
  pub holds : HoldsWm s.elements s'
  pub names : NamesWm (held_of s') s.elements
  pub known : All (IsKnown s') changes
  pub added : NamesAdded (held_of s') changes

-- this is so for a store that dropped what it had kept and then did lawful changes
abbrev pub StoreLaw : Type 0
StoreLaw =
    (s s' : Stored) (changes : List Change) → IsStored s → Lawful s.elements s.last changes → HoldsAlso (record s { kept = [] }) s' (added_by changes)
    → HoldsPhase s s' changes

-- ---- what changed

-- the token of the instantiation is present at the terminal of its rule, over these sums
pub record Stands (nodes : List Node) (b : Bag) (i : Inst) : Type 0 where
  pub n : ℕ
  pub node : Node
  pub at : slice_get nodes n ≡ Some node
  pub kind : node.kind ≡ Terminal i.rule
  pub some : 0 < standing (b n Left i.tags)

-- what is present now and was not before, and what was present before and is not now, in the order of rule and tags
pub record IsGathered (nodes : List Node) (before now : Bag) (come gone : List Inst) : Type 0 where
  pub come_is : (i : Inst) → Contains come i ↔ (Stands nodes now i × ¬ Stands nodes before i)
  pub gone_is : (i : Inst) → Contains gone i ↔ (Stands nodes before i × ¬ Stands nodes now i)
  pub come_in_order : IsInOrder come
  pub gone_in_order : IsInOrder gone

-- no other line has a token that a task of this line inserted or deleted
abbrev pub HaveOwnLines : List Seen → Type 0
HaveOwnLines ls =
    (i j : ℕ) (l m : Seen) → slice_get ls i ≡ Some l → slice_get ls j ≡ Some m → j ≢ i
    → (x : Task) → Contains (tasks_of l.entries) x → m.sums x.node x.side x.token ≡ pos 0

-- At the end of a phase, the lines hold exactly the tokens over the store that has done the changes, no token of a
-- task is on two lines, and what is gathered from them describes how what is found has changed.
pub record HasSettled (alphas : List Alpha) (nodes : List Node) (s s' : Stored) (lines : ℕ) (ls : List Seen) : Type 0 where
  pub holds : HoldJust (placed (held_of s') nodes lines) (sums_over s'.elements alphas nodes) (map now ls)
  pub own_lines : HaveOwnLines ls
  pub settled : (come gone : List Inst) → IsGathered nodes (total (map before ls)) (total (map now ls)) come gone
      → IsSettled (found_over alphas nodes s.elements) (found_over alphas nodes s'.elements) gone come

-- this is so if the lines are a bundle of lawful changes, with the store that has done them
abbrev pub SettledLaw : Type 0
SettledLaw =
    (alphas : List Alpha) (nodes : List Node) (s s' : Stored) (changes : List Change) (lines : ℕ) (ls : List Seen) → IsSound alphas nodes → 1 ≤ lines
    → HasRisingTags s.elements → HasRisingTags s'.elements → Lawful s.elements s.last changes → s'.elements ≡ done s.elements changes → HoldsPhase s s' changes
    → IsBundle (held_of s') alphas nodes (placed (held_of s') nodes lines) s.elements changes ls
    → HasSettled alphas nodes s s' lines ls
