-- How nodes get the groups whose giver they are.
use Rattle.std.specs.Prelude.{◌≡◌, ◌<◌, ◌≢◌, ℕ, List, [], ◌∷◌, ◌++◌, length, slice_get, Option, Some, None}
use Rattle.net_base.specs.declared.nodes.Kind.{Kind}
use Rattle.net_base.specs.declared.nodes.Kind.TheVariants.{Group}
use Rattle.net_base.specs.declared.nodes.Node.{Node}
use Rattle.net_base.specs.Sound.{rights_below}

abbrev pub giver_of : Kind → Option ℕ
giver_of (Group giver width members) = Some giver
giver_of _ = None

-- the givers come before their groups
abbrev pub AreGiversBefore : List Node → Type 0
AreGiversBefore nodes = (n g : ℕ) (x : Node) → slice_get nodes n ≡ Some x → giver_of x.kind ≡ Some g → g < n

abbrev pub AreRightless : List Node → Type 0
AreRightless nodes = (n : ℕ) (x : Node) → slice_get nodes n ≡ Some x → x.rights ≡ []

-- each node has its groups with numbers below the bound, and is otherwise as before
pub record AreGiven (old new : List Node) (bound : ℕ) : Type 0 where
  pub count : length new ≡ length old
  pub each : (k : ℕ) (x : Node) → slice_get old k ≡ Some x → slice_get new k ≡ Some (record x { rights = rights_below old bound k })

-- n is one more group of the node p
pub record AddsRight (old new : List Node) (p n : ℕ) : Type 0 where
  pub count : length new ≡ length old
  pub here : (x : Node) → slice_get old p ≡ Some x → slice_get new p ≡ Some (record x { rights = x.rights ++ n ∷ [] })
  pub others : (k : ℕ) → k ≢ p → slice_get new k ≡ slice_get old k
