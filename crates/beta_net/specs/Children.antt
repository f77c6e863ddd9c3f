-- How nodes get their children.
use Rattle.std.specs.Prelude.{◌≡◌, ◌<◌, ◌≢◌, ℕ, List, [], ◌∷◌, ◌++◌, length, slice_get, Some}
use Rattle.net_base.specs.declared.nodes.Node.{Node}
use Rattle.net_base.specs.Sound.{children_below}

-- the parents come before their children
abbrev pub AreOrdered : List Node → Type 0
AreOrdered nodes = (n p : ℕ) (x : Node) → slice_get nodes n ≡ Some x → x.parent ≡ Some p → p < n

abbrev pub AreBare : List Node → Type 0
AreBare nodes = (n : ℕ) (x : Node) → slice_get nodes n ≡ Some x → x.children ≡ []

-- each node has its children with numbers below the bound, and is otherwise as before
pub record AreFilled (old new : List Node) (bound : ℕ) : Type 0 where
  pub count : length new ≡ length old
  pub each : (k : ℕ) (x : Node) → slice_get old k ≡ Some x → slice_get new k ≡ Some (record x { children = children_below old bound k })

-- n is one more child of the node p
pub record AddsChild (old new : List Node) (p n : ℕ) : Type 0 where
  pub count : length new ≡ length old
  pub here : (x : Node) → slice_get old p ≡ Some x → slice_get new p ≡ Some (record x { children = x.children ++ n ∷ [] })
  pub others : (k : ℕ) → k ≢ p → slice_get new k ≡ slice_get old k
