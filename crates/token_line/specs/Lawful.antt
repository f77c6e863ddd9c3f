-- The output of a node over the sums of its tokens, and tasks whose children follow the change of that output.
use Rattle.std.specs.Prelude.{◌≡◌, ℕ, ◌^◌, pos, ◌+ℤ◌, List, slice_get, Option, Some, None, All}
use Rattle.net_base.specs.declared.nodes.Node.{Node}
use Rattle.net_base.specs.declared.tasks.Side.{Side}
use Rattle.net_base.specs.declared.tasks.Side.TheVariants.{Left, Right}
use Rattle.net_base.specs.declared.tasks.Task.{Task}
use Rattle.net_base.specs.Tokens.{Elements, Tokens, Giver, Nothing, Out, left_giver, right_giver, out_of}
use Rattle.token_line.specs.Bags.{Bag, signs, after, standing_at}
use Rattle.token_line.specs.declared.line.Entry.{Entry}

-- what feeds one side of a node
abbrev pub giver_in : Option Node → Side → Giver
giver_in None s = Nothing
giver_in (Some node) Left = left_giver node
giver_in (Some node) Right = right_giver node

abbrev pub giver_of : List Node → ℕ → Side → Giver
giver_of nodes n s = giver_in (slice_get nodes n) s

-- the output of a node, given the tokens at its sides; all tags are below 2 ^ 64
abbrev pub out_in : Elements → Option Node → Tokens → Tokens → Tokens
out_in elements None left right t = 0
out_in elements (Some node) left right t = out_of (2 ^ 64) elements node.kind node.joins left right t

-- the same over these sums
abbrev pub out_at : Elements → List Node → Bag → ℕ → Tokens
out_at elements nodes b n t = out_in elements (slice_get nodes n) (standing_at b n Left) (standing_at b n Right) t

-- a task for a side that this node feeds
abbrev pub IsChildOf : List Node → ℕ → Task → Type 0
IsChildOf nodes p x = giver_of nodes x.node x.side ≡ Out p

-- The children of an entry go to the sides that its node feeds. Over these sums, each side gets the node's output
-- after the task has arrived, less its output before.
pub record IsLawful (elements : Elements) (nodes : List Node) (b : Bag) (e : Entry) : Type 0 where
  pub below : All (IsChildOf nodes e.task.node) e.children
  pub change : (n : ℕ) (s : Side) (t : List ℕ) → giver_of nodes n s ≡ Out e.task.node
      → signs n s t e.children +ℤ pos (out_at elements nodes b e.task.node t) ≡ pos (out_at elements nodes (after b e.task) e.task.node t)
