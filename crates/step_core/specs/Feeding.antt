-- What must hold of a change that is fed, and the nodes that take its element.
use Rattle.std.specs.Prelude.{◌≡◌, ◌≢◌, ℕ, Bool, true, List, [], ◌∷◌, slice_get, Some, IsSome, AllPairs, Contains, if◌then◌else◌}
use Rattle.ops_base.specs.declared.elements.Element.{Element}
use Rattle.work_store.specs.Stored.{Stored, held_of}
use Rattle.ops_base.specs.declared.elements.Change.{Change}
use Rattle.ops_base.specs.declared.elements.Change.TheVariants.{Add, Remove}
use Rattle.net_base.specs.declared.nodes.Node.{Node}
use Rattle.net_base.specs.declared.nodes.Alpha.{Alpha}
use Rattle.net_base.specs.declared.tasks.Side.TheVariants.{Right}
use Rattle.net_base.specs.declared.tasks.Task.{Task}
use Rattle.net_base.specs.Feeds.{takers_of}
use Rattle.step_core.specs.Machine.{is_fed, passes_in}

-- the store holds the element that is added, or some element under the tag that is removed
abbrev pub IsKnown : Stored → Change → Type 0
IsKnown s (Add e) = held_of s e.tag ≡ Some e
IsKnown s (Remove tag) = IsSome (held_of s tag)

-- the task of an element that arrives at a node or leaves it
abbrev pub right_task : Bool → ℕ → ℕ → Task
right_task plus tag n = record { node = n; side = Right; plus = plus; token = tag ∷ [] }

-- the node of this number takes the element
pub record IsTaker (alphas : List Alpha) (nodes : List Node) (e : Element) (n : ℕ) : Type 0 where
  pub node : Node
  pub at : slice_get nodes n ≡ Some node
  pub fed : is_fed alphas (Some e) node ≡ true

-- the numbers of the nodes that take the element, each once
pub record AreTakers (alphas : List Alpha) (nodes : List Node) (e : Element) (ns : List ℕ) : Type 0 where
  pub each : (n : ℕ) → IsTaker alphas nodes e n → Contains ns n
  pub only : (n : ℕ) → Contains ns n → IsTaker alphas nodes e n
  pub once : AllPairs (λ n m. n ≢ m) ns

-- what an alpha adds to these numbers
abbrev pub taken_by : List Alpha → List Node → Element → ℕ → List ℕ
taken_by alphas nodes e n = if passes_in (slice_get alphas n) (Some e) then takers_of nodes n else []
