-- The invariants of every network.
use Rattle.std.specs.Prelude.{◌≡◌, ◌<◌, ◌≤◌, ◌&&◌, ℕ, zero, suc, ◌+◌, Bool, true, false, List, [], ◌∷◌, ◌++◌, length, slice_get, Option, Some, None, ◌==◌, if◌then◌else◌, All}
use Rattle.net_base.specs.declared.nodes.Kind.{Kind}
use Rattle.net_base.specs.declared.nodes.Kind.TheVariants.{Join, Negated, Group, Terminal}
use Rattle.net_base.specs.declared.nodes.Node.{Node}
use Rattle.net_base.specs.declared.nodes.Alpha.{Alpha}

-- ---- parents and children

abbrev pub is_parent : Option ℕ → ℕ → Bool
is_parent None n = false
is_parent (Some p) n = p == n

abbrev pub child_if : Option Node → ℕ → ℕ → List ℕ
child_if None n i = []
child_if (Some x) n i = if is_parent x.parent n then i ∷ [] else []

-- the nodes with numbers below the bound that name n as parent, in order
abbrev pub children_below : List Node → ℕ → ℕ → List ℕ
children_below nodes zero n = []
children_below nodes (suc i) n = children_below nodes i n ++ child_if (slice_get nodes i) n i

-- the children of each node are exactly the nodes that name it as parent, each once
abbrev pub HasChildren : List Node → Type 0
HasChildren nodes = (n : ℕ) (x : Node) → slice_get nodes n ≡ Some x → x.children ≡ children_below nodes (length nodes) n

-- the group has n as its giver
abbrev pub is_giver : Kind → ℕ → Bool
is_giver (Group giver width members) n = giver == n
is_giver _ n = false

abbrev pub right_if : Option Node → ℕ → ℕ → List ℕ
right_if None n i = []
right_if (Some x) n i = if is_giver x.kind n then i ∷ [] else []

-- the groups with numbers below the bound that have n as their giver, in order
abbrev pub rights_below : List Node → ℕ → ℕ → List ℕ
rights_below nodes zero n = []
rights_below nodes (suc i) n = rights_below nodes i n ++ right_if (slice_get nodes i) n i

-- the `rights` of each node are exactly the groups that name it as giver, each once
abbrev pub HasRights : List Node → Type 0
HasRights nodes = (n : ℕ) (x : Node) → slice_get nodes n ≡ Some x → x.rights ≡ rights_below nodes (length nodes) n

abbrev pub depth_of : Option Node → ℕ
depth_of None = 0
depth_of (Some x) = x.depth

abbrev pub depth_above : List Node → Option ℕ → ℕ
depth_above nodes None = 0
depth_above nodes (Some p) = depth_of (slice_get nodes p)

-- ---- the lengths of tokens

-- how many tags a node adds to a left token
abbrev pub added_tags : Kind → ℕ
added_tags Join = 1
added_tags Negated = 0
added_tags (Group giver width members) = 0
added_tags (Terminal rule) = 0

abbrev pub width_above : (ℕ → ℕ) → Option ℕ → ℕ
width_above widths None = 0
width_above widths (Some p) = widths p

abbrev pub width_of_node : (ℕ → ℕ) → Option Node → ℕ
width_of_node widths None = 0
width_of_node widths (Some x) = width_above widths x.parent + added_tags x.kind

-- for each node whose number is below the bound
abbrev pub width_below : ℕ → List Node → ℕ → ℕ
width_below zero nodes n = 0
width_below (suc k) nodes n = width_of_node (width_below k nodes) (slice_get nodes n)

-- the number of tags of the tokens that a node puts out
abbrev pub width : List Node → ℕ → ℕ
width nodes n = width_below (suc n) nodes n

-- the number of tags of the left tokens below this parent
abbrev pub left_width : List Node → Option ℕ → ℕ
left_width nodes parent = width_above (width nodes) parent

-- ---- kinds

abbrev pub is_join : Kind → Bool
is_join Join = true
is_join Negated = false
is_join (Group giver width members) = false
is_join (Terminal rule) = false

-- it lets a left token pass while no right token goes with it
abbrev pub is_negated : Kind → Bool
is_negated Join = false
is_negated Negated = true
is_negated (Group giver width members) = true
is_negated (Terminal rule) = false

abbrev pub is_terminal : Kind → Bool
is_terminal Join = false
is_terminal Negated = false
is_terminal (Group giver width members) = false
is_terminal (Terminal rule) = true

-- its right tokens are elements
abbrev pub takes_elements : Kind → Bool
takes_elements Join = true
takes_elements Negated = true
takes_elements (Group giver width members) = false
takes_elements (Terminal rule) = false

-- ---- groups

abbrev pub up_parent : (ℕ → Bool) → Option ℕ → Bool
up_parent go None = false
up_parent go (Some p) = go p

abbrev pub up_node : (ℕ → Bool) → Option Node → Bool
up_node go None = false
up_node go (Some x) = is_join x.kind && up_parent go x.parent

-- going up this many joins from node n leads to this parent
abbrev pub goes_up : List Node → ℕ → Option ℕ → ℕ → Bool
goes_up nodes zero parent n = is_parent parent n
goes_up nodes (suc k) parent n = up_node (goes_up nodes k parent) (slice_get nodes n)

-- The giver comes before the group n, and the group's parent is reached from it by going up as many joins as there
-- are members.
pub record IsGroup (nodes : List Node) (n : ℕ) (x : Node) (giver width members : ℕ) : Type 0 where
  pub before : giver < n
  pub wide : width ≡ left_width nodes x.parent
  pub two : 2 ≤ members
  pub down : goes_up nodes members x.parent giver ≡ true

-- the node that determines the depth: the giver of a group, otherwise the parent
abbrev pub deepest : Kind → Option ℕ → Option ℕ
deepest (Group giver width members) parent = Some giver
deepest _ parent = parent

-- ---- sound

-- A terminal and a group have no tests. Their class and alpha are 0 and are not used; 0 may also be the number of an
-- existing alpha.
pub record IsBare (x : Node) : Type 0 where
  pub joins : length x.joins ≡ 0
  pub class : x.class ≡ 0
  pub alpha : x.alpha ≡ 0

-- Node n is well-formed. The node of a condition or a member names an alpha, which has its class, and its tests look
-- at places in its left tokens. The depth of a group is one more than that of its giver.
pub record IsSoundAt (alphas : List Alpha) (nodes : List Node) (n : ℕ) (x : Node) : Type 0 where
  pub parent : (p : ℕ) → x.parent ≡ Some p → p < n
  pub root : x.parent ≡ None → is_join x.kind ≡ true
  pub depth : x.depth ≡ depth_above nodes (deepest x.kind x.parent) + 1
  pub alpha : takes_elements x.kind ≡ true → x.alpha < length alphas
  pub class : takes_elements x.kind ≡ true → (a : Alpha) → slice_get alphas x.alpha ≡ Some a → a.class ≡ x.class
  pub places : All (λ j. j.place < left_width nodes x.parent) x.joins
  pub bare : takes_elements x.kind ≡ false → IsBare x
  pub terminal : is_terminal x.kind ≡ true → (length x.children ≡ 0) × (length x.rights ≡ 0)
  pub group : (giver width members : ℕ) → x.kind ≡ Group giver width members → IsGroup nodes n x giver width members

-- Each node is well-formed, and no two terminals have the same rule.
pub record IsSound (alphas : List Alpha) (nodes : List Node) : Type 0 where
  pub each : (n : ℕ) (x : Node) → slice_get nodes n ≡ Some x → IsSoundAt alphas nodes n x
  pub children : HasChildren nodes
  pub rights : HasRights nodes
  pub one : (n m k : ℕ) (x y : Node) → slice_get nodes n ≡ Some x → slice_get nodes m ≡ Some y → x.kind ≡ Terminal k → y.kind ≡ Terminal k → n ≡ m
