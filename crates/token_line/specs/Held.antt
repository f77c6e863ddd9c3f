-- Which tasks and tokens fit a network and a store.
use Rattle.std.specs.Prelude.{◌≡◌, ◌<◌, ◌==◌, ◌+◌, ℕ, Bool, true, false, List, length, slice_get, Some, IsSome, All}
use Rattle.work_store.specs.Stored.{Stored, held_of}
use Rattle.ops_base.specs.declared.elements.Element.{Element}
use Rattle.net_base.specs.declared.nodes.Kind.{Kind}
use Rattle.net_base.specs.declared.nodes.Kind.TheVariants.{Join, Negated, Group, Terminal}
use Rattle.net_base.specs.declared.nodes.Node.{Node}
use Rattle.net_base.specs.declared.tasks.Side.{Side}
use Rattle.net_base.specs.declared.tasks.Side.TheVariants.{Left, Right}
use Rattle.net_base.specs.declared.tasks.Task.{Task}
use Rattle.net_base.specs.Tokens.{Elements}
use Rattle.net_base.specs.Sound.{left_width}

-- for every tag that the store holds, this choice of elements has the store's element
abbrev pub Agrees : Stored → Elements → Type 0
Agrees s elements = (tag : ℕ) (e : Element) → held_of s tag ≡ Some e → elements tag ≡ Some e

-- a right token is one element; at a group it also has the tags of its members; at a terminal there is none
abbrev pub is_right_wide : Kind → List ℕ → Bool
is_right_wide Join t = length t == 1
is_right_wide Negated t = length t == 1
is_right_wide (Group giver width members) t = length t == width + members
is_right_wide (Terminal rule) t = false

-- the token has as many tags as the tokens of that side of the node
abbrev pub is_wide : List Node → Node → Side → List ℕ → Bool
is_wide nodes node Left t = length t == left_width nodes node.parent
is_wide nodes node Right t = is_right_wide node.kind t

-- A token of one side of a node, all of whose elements the store holds. Each field has at most one proof, so a type
-- can keep this as its invariant.
pub record Fits (nodes : List Node) (s : Stored) (n : ℕ) (side : Side) (t : List ℕ) : Type 0 where
  pub within : n < length nodes
  pub width : (node : Node) → slice_get nodes n ≡ Some node → is_wide nodes node side t ≡ true
  pub held : All (λ tag. IsSome (held_of s tag)) t

abbrev pub TaskFits : List Node → Stored → Task → Type 0
TaskFits nodes s x = Fits nodes s x.node x.side x.token
