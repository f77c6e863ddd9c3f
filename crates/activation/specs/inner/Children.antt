-- The tasks for the children of a node, made from the node's output.
use Rattle.std.specs.Prelude.{◌≡◌, ℕ, Bool, List, [], ◌++◌, length, map, replicate, take, Option, Some, None}
use Rattle.std.specs.List.{flat_map}
use Rattle.net_base.specs.declared.nodes.Node.{Node}
use Rattle.net_base.specs.declared.tasks.Side.{Side}
use Rattle.net_base.specs.declared.tasks.Side.TheVariants.{Left, Right}
use Rattle.net_base.specs.declared.tasks.Task.{Task}
use Rattle.activation.specs.inner.Putting.{Put}

-- the tasks that were there are still there, before any new ones
abbrev pub Grows : List Task → List Task → Type 0
Grows old new = take (length old) new ≡ old

-- a side of a node that receives tokens
abbrev pub Target : Type 0
Target = Side × ℕ

abbrev pub targets_of : List ℕ → List ℕ → List Target
targets_of left right = map (λ n. (Left, n)) left ++ map (λ n. (Right, n)) right

-- the sides that a node feeds: the left ones of its children, and the right ones of its groups
abbrev pub targets : Node → List Target
targets x = targets_of x.children x.rights

-- the token arrives at a side of a node, or leaves it
abbrev pub child : Bool → List ℕ → Target → Task
child plus t c = record { node = c.1; side = c.0; plus = plus; token = t }

-- the token, as many times as it is put out, for each of these sides
abbrev pub to_each : List Target → Bool → Put → List Task
to_each below plus p = flat_map (λ c. replicate p.times (child plus p.token c)) below

-- everything that is put out, for each of these sides
abbrev pub children_of : List Target → Bool → List Put → List Task
children_of below plus puts = flat_map (to_each below plus) puts

-- the same for the sides that this node feeds
abbrev pub children_at : Option Node → Bool → List Put → List Task
children_at None plus puts = []
children_at (Some x) plus puts = children_of (targets x) plus puts
