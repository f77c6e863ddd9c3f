-- A network appended to another one: its nodes under higher numbers, and the alphas that the other one lacks.
use Rattle.std.specs.Prelude.{◌≡◌, ◌<◌, ◌≤◌, ◌+◌, ◌^◌, ℕ, List, ◌++◌, map, length, slice_get, unwrap_or, Some, option_map, All, Contains, if◌then◌else◌}
use Rattle.ops_base.specs.declared.rules.Rule.{Rule}
use Rattle.net_base.specs.declared.nodes.Kind.{Kind}
use Rattle.net_base.specs.declared.nodes.Kind.TheVariants.{Join, Negated, Group, Terminal}
use Rattle.net_base.specs.declared.nodes.Node.{Node}
use Rattle.net_base.specs.declared.nodes.Alpha.{Alpha}
use Rattle.net_base.specs.declared.net.Net.{Net}
use Rattle.net_base.specs.Sound.{takes_elements}
use Rattle.net_base.specs.Tokens.{Out, left_giver, right_giver}
use Rattle.net_base.specs.Network.{NetOf}

-- ---- what a caller sees

-- the terminals are those of productions with numbers below the bound
abbrev pub HasRulesBelow : List Node → ℕ → Type 0
HasRulesBelow nodes bound = (n k : ℕ) (x : Node) → slice_get nodes n ≡ Some x → x.kind ≡ Terminal k → k < bound

-- A node of `more` is fed by a node of `more`, by the root, or by working memory, but by no node of `nodes`, which
-- all come before those of `more`.
pub record StandApart (nodes more : List Node) : Type 0 where
  pub left : (n p : ℕ) (x : Node) → slice_get more n ≡ Some x → left_giver x ≡ Out p → length nodes ≤ p
  pub right : (n p : ℕ) (x : Node) → slice_get more n ≡ Some x → right_giver x ≡ Out p → length nodes ≤ p

-- a network with these alphas and nodes appended to its own
pub record IsGrown (old grown : Net) (alphas : List Alpha) (nodes : List Node) : Type 0 where
  pub alphas_are : grown.alphas ≡ old.alphas ++ alphas
  pub nodes_are : grown.nodes ≡ old.nodes ++ nodes

-- The network with these appended to its own is the network of its productions followed by those added, whatever
-- these are.
abbrev pub IsOfAll : Net → ℕ → Net → List Alpha → List Node → Type 0
IsOfAll net count added alphas nodes =
    (grown : Net) (rules more : List Rule) → IsGrown net grown alphas nodes → length rules ≡ count → NetOf net rules → NetOf added more → NetOf grown (rules ++ more)

-- no alpha is in both lists
abbrev pub HaveNoneInCommon : List Alpha → List Alpha → Type 0
HaveNoneInCommon known more = (a : Alpha) → Contains more a → Contains known a → ⊥

-- ---- how a node is renumbered to follow others

-- a kind, renumbered so that its node follows this many nodes, and its production follows this many productions
abbrev pub kind_behind : ℕ → ℕ → Kind → Kind
kind_behind nodes rules Join = Join
kind_behind nodes rules Negated = Negated
kind_behind nodes rules (Group giver width members) = Group (nodes + giver) width members
kind_behind nodes rules (Terminal rule) = Terminal (rules + rule)

abbrev pub alpha_behind : List ℕ → Node → ℕ
alpha_behind places x = if takes_elements x.kind then unwrap_or (slice_get places x.alpha) 0 else 0

-- a node, renumbered to follow this many nodes, with its alpha at its place among the alphas
abbrev pub node_behind : ℕ → ℕ → List ℕ → Node → Node
node_behind nodes rules places x = record {
  kind = kind_behind nodes rules x.kind;
  parent = option_map (λ p. nodes + p) x.parent;
  class = x.class;
  alpha = alpha_behind places x;
  joins = x.joins;
  children = map (λ c. nodes + c) x.children;
  rights = map (λ c. nodes + c) x.rights;
  depth = x.depth;
}

abbrev pub kind_has_room : ℕ → ℕ → Kind → Type 0
kind_has_room nodes rules Join = Unit {0}
kind_has_room nodes rules Negated = Unit {0}
kind_has_room nodes rules (Group giver width members) = nodes + giver < 2 ^ 64
kind_has_room nodes rules (Terminal rule) = rules + rule < 2 ^ 64

-- the numbers of a node that follows this many others fit in 64 bits
pub record HasRoom (nodes rules : ℕ) (x : Node) : Type 0 where
  pub kind : kind_has_room nodes rules x.kind
  pub parent : (p : ℕ) → x.parent ≡ Some p → nodes + p < 2 ^ 64
  pub children : All (λ c. nodes + c < 2 ^ 64) x.children
  pub rights : All (λ c. nodes + c < 2 ^ 64) x.rights

-- each alpha has its place among these, in order
pub record ArePlaces (alphas added : List Alpha) (places : List ℕ) : Type 0 where
  pub count : length places ≡ length added
  pub each : (n p : ℕ) → slice_get places n ≡ Some p → slice_get alphas p ≡ slice_get added n

-- This alpha is at that place, among those that are known or those added after them. What was added before stays, and
-- none of the added ones is known.
pub record AddsPlace (known old new : List Alpha) (a : Alpha) (p : ℕ) : Type 0 where
  pub rest : List Alpha
  pub grown : new ≡ old ++ rest
  pub at : slice_get (known ++ new) p ≡ Some a
  pub fresh : HaveNoneInCommon known old → HaveNoneInCommon known new
