-- What it means that a network is the network of rules.
use Rattle.std.specs.Prelude.{◌≡◌, ◌<◌, ◌≤◌, ◌^◌, ◌↔◌, ℕ, List, length, slice_get, Some, All}
use Rattle.ops_base.specs.declared.elements.Element.{Element}
use Rattle.ops_base.specs.declared.rules.Rule.{Rule}
use Rattle.ops_base.specs.WorkingMemory.{HasRisingTags}
use Rattle.ops_base.specs.Instances.{IsInst}
use Rattle.net_base.specs.declared.nodes.Kind.TheVariants.{Terminal}
use Rattle.net_base.specs.declared.nodes.Node.{Node}
use Rattle.net_base.specs.declared.net.Net.{Net}
use Rattle.net_base.specs.Tokens.{tokens}

-- a working memory: the tags are strictly ascending, and fit in 64 bits
pub record IsWm (wm : List Element) : Type 0 where
  pub rising : HasRisingTags wm
  pub small : All (λ e. e.tag < 2 ^ 64) wm

-- node n is the terminal of rule k: over every working memory its tokens are the instantiations of the rule, each once
pub record IsTerminalOf (net : Net) (rules : List Rule) (k n : ℕ) : Type 0 where
  pub node : Node
  pub at : slice_get net.nodes n ≡ Some node
  pub kind : node.kind ≡ Terminal k
  pub meaning : (wm : List Element) → IsWm wm → (tags : List ℕ)
      → (tokens wm net.alphas net.nodes n tags ≡ 1) ↔ IsInst rules wm (record { rule = k; tags = tags })
  pub once : (wm : List Element) (tags : List ℕ) → tokens wm net.alphas net.nodes n tags ≤ 1

-- the network of these rules: each has exactly one terminal, and there is no other
pub record NetOf (net : Net) (rules : List Rule) : Type 0 where
  pub each : (k : ℕ) → k < length rules → (n : ℕ) × IsTerminalOf net rules k n
  pub only : (n k : ℕ) (x : Node) → slice_get net.nodes n ≡ Some x → x.kind ≡ Terminal k → k < length rules
  pub one : (n m k : ℕ) (x y : Node) → slice_get net.nodes n ≡ Some x → slice_get net.nodes m ≡ Some y → x.kind ≡ Terminal k → y.kind ≡ Terminal k → n ≡ m
