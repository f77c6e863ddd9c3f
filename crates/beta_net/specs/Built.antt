-- The links of all rules, and the alphas and nodes that follow from them.
use Rattle.std.specs.Prelude.{◌≡◌, ◌+◌, ℕ, List, [], ◌++◌, map, length, slice_get, Option, Some, unwrap_or, if◌then◌else◌, ◌⊎◌}
use Rattle.ops_base.specs.declared.conditions.Test.{Test}
use Rattle.ops_base.specs.declared.rules.Rule.{Rule}
use Rattle.net_base.specs.declared.nodes.Kind.{Kind}
use Rattle.net_base.specs.declared.nodes.Kind.TheVariants.{Join, Negated, Group, Terminal}
use Rattle.net_base.specs.declared.nodes.Node.{Node}
use Rattle.net_base.specs.declared.nodes.Alpha.{Alpha}
use Rattle.net_base.specs.declared.normal.NormalCondition.{NormalCondition}
use Rattle.net_base.specs.declared.normal.NormalPart.{NormalPart}
use Rattle.net_base.specs.declared.normal.NormalPart.TheVariants as part
use Rattle.net_base.specs.Normal.{alpha_tests, join_tests}
use Rattle.net_base.specs.Shape.{IsPath}
use Rattle.net_base.specs.Sound.{HasChildren, HasRights}
use Rattle.beta_net.specs.declared.links.Link.{Link}
use Rattle.beta_net.specs.declared.paths.End.{End}
use Rattle.beta_net.specs.declared.alphas.Alphas.{Alphas}
use Rattle.beta_net.specs.Codes.{alpha_code}
use Rattle.beta_net.specs.Linked.{path_to, AreLinks, IsEndOf}
use Rattle.beta_net.specs.Children.{AreBare}
use Rattle.beta_net.specs.Rights.{AreRightless}

-- ---- links of rules

-- the rules that have an end have it where their parts end
abbrev pub HaveEnds : List Link → List End → List Rule → Type 0
HaveEnds links ends rules = (k : ℕ) (r : Rule) (e : End) → slice_get rules k ≡ Some r → slice_get ends k ≡ Some e → IsEndOf links r.conditions e

abbrev pub ArePaths : List Link → List Rule → Type 0
ArePaths links rules = (m : ℕ) (l : Link) → slice_get links m ≡ Some l → IsPath rules (path_to links l.parent) l.part

-- each rule has its end, and each link is a path of a rule
pub record AreBuilt (links : List Link) (ends : List End) (rules : List Rule) : Type 0 where
  pub linked : AreLinks links
  pub count : length ends ≡ length rules
  pub ended : HaveEnds links ends rules
  pub paths : ArePaths links rules

-- ---- alphas

abbrev pub IsAlpha : ℕ → List Test → Alpha → Type 0
IsAlpha class tests a = (a.class ≡ class) × (a.tests ≡ tests)

-- alpha n has this class and these tests
pub record HasAlpha (alphas : List Alpha) (class : ℕ) (tests : List Test) (n : ℕ) : Type 0 where
  pub alpha : Alpha
  pub at : slice_get alphas n ≡ Some alpha
  pub is : IsAlpha class tests alpha

abbrev pub IsNewAlpha : List Alpha → ℕ → List Test → Type 0
IsNewAlpha alphas class tests = (n : ℕ) → HasAlpha alphas class tests n → ⊥

-- no two alphas have the same class and the same tests
abbrev pub AreDistinct : List Alpha → Type 0
AreDistinct alphas = (n m : ℕ) (a b : Alpha) → slice_get alphas n ≡ Some a → slice_get alphas m ≡ Some b → IsAlpha a.class a.tests b → n ≡ m

abbrev pub code_of_alpha : Alpha → ℕ
code_of_alpha a = alpha_code a.class a.tests

pub record AreAlphas (s : Alphas) : Type 0 where
  pub distinct : AreDistinct s.list.items
  pub codes : s.chains ≡ map code_of_alpha s.list.items

-- alpha n has this class and these tests, and all alphas that were there stay
pub record AddsAlpha (old new : Alphas) (class : ℕ) (tests : List Test) (n : ℕ) : Type 0 where
  pub more : List Alpha
  pub grown : new.list.items ≡ old.list.items ++ more
  pub has : HasAlpha new.list.items class tests n
  pub only : (m : ℕ) (a : Alpha) → slice_get new.list.items m ≡ Some a → (slice_get old.list.items m ≡ Some a) ⊎ IsAlpha class tests a
  pub alphas : AreAlphas new

-- ---- nodes

abbrev pub kind_of : NormalCondition → Kind
kind_of c = if c.negated then Negated else Join

-- the alpha of a link's condition
pub record IsAlphaOf (l : Link) (a : Alpha) : Type 0 where
  pub condition : NormalCondition
  pub part_is : l.part ≡ part.One condition
  pub is : IsAlpha condition.class (alpha_tests l.place condition.tests) a

-- the node of a condition after this many positive ones
pub record IsConditionNode (alphas : List Alpha) (place : ℕ) (c : NormalCondition) (x : Node) : Type 0 where
  pub kind : x.kind ≡ kind_of c
  pub class : x.class ≡ c.class
  pub alpha : HasAlpha alphas c.class (alpha_tests place c.tests) x.alpha
  pub joins : x.joins ≡ join_tests place c.tests

-- the node of a group after this many positive conditions, with its last member
pub record IsGroupNode (place : ℕ) (above : Option ℕ) (cs : List NormalCondition) (x : Node) : Type 0 where
  pub kind : x.kind ≡ Group (unwrap_or above 0) place (length cs)
  pub class : x.class ≡ 0
  pub alpha : x.alpha ≡ 0
  pub joins : x.joins ≡ []

abbrev pub IsPartNode : List Alpha → ℕ → Option ℕ → NormalPart → Node → Type 0
IsPartNode alphas place above (part.One c) x = IsConditionNode alphas place c x
IsPartNode alphas place above (part.Group cs) x = IsGroupNode place above cs x

-- the node of a link
pub record IsNodeOf (alphas : List Alpha) (l : Link) (x : Node) : Type 0 where
  pub parent : x.parent ≡ l.parent
  pub depth : x.depth ≡ l.depth
  pub part : IsPartNode alphas l.place l.above l.part x

-- the terminal of rule k
pub record IsTerminalNode (k : ℕ) (e : End) (x : Node) : Type 0 where
  pub kind : x.kind ≡ Terminal k
  pub parent : x.parent ≡ e.parent
  pub class : x.class ≡ 0
  pub alpha : x.alpha ≡ 0
  pub joins : x.joins ≡ []
  pub depth : x.depth ≡ e.depth

-- a node of a link, and all alphas that were there stay
pub record AddsNode (old new : Alphas) (l : Link) (x : Node) : Type 0 where
  pub more : List Alpha
  pub grown : new.list.items ≡ old.list.items ++ more
  pub node : IsNodeOf new.list.items l x
  pub childless : x.children ≡ []
  pub rightless : x.rights ≡ []
  pub only : (m : ℕ) (a : Alpha) → slice_get new.list.items m ≡ Some a → (slice_get old.list.items m ≡ Some a) ⊎ IsAlphaOf l a
  pub alphas : AreAlphas new

-- the first nodes are those of the links
abbrev pub AreNodes : List Link → List Alpha → List Node → Type 0
AreNodes links alphas nodes = (n : ℕ) (x : Node) → slice_get nodes n ≡ Some x → (l : Link) × (slice_get links n ≡ Some l) × IsNodeOf alphas l x

-- each alpha is that of a link
abbrev pub AreUsed : List Link → List Alpha → Type 0
AreUsed links alphas = (m : ℕ) (a : Alpha) → slice_get alphas m ≡ Some a → (n : ℕ) × (l : Link) × (slice_get links n ≡ Some l) × IsAlphaOf l a

-- the node of a link or, after those of all links, the terminal of a rule
abbrev pub IsNodeAt : List Link → List End → List Alpha → ℕ → Node → Type 0
IsNodeAt links ends alphas n x =
    ((l : Link) × (slice_get links n ≡ Some l) × IsNodeOf alphas l x)
    ⊎ ((k : ℕ) × (e : End) × (n ≡ length links + k) × (slice_get ends k ≡ Some e) × IsTerminalNode k e x)

-- after the nodes that were there, a terminal for each of the first ends
pub record AddsTerminals (old new : List Node) (ends : List End) (bound : ℕ) : Type 0 where
  pub count : length new ≡ length old + bound
  pub each : (n : ℕ) (x : Node) → slice_get new n ≡ Some x
      → (slice_get old n ≡ Some x) ⊎ ((k : ℕ) × (e : End) × (n ≡ length old + k) × (slice_get ends k ≡ Some e) × IsTerminalNode k e x)
  pub bare : AreBare old → AreBare new
  pub rightless : AreRightless old → AreRightless new

-- a node for each link and for each end
pub record IsDraft (links : List Link) (ends : List End) (alphas : List Alpha) (nodes : List Node) : Type 0 where
  pub each : (n : ℕ) (x : Node) → slice_get nodes n ≡ Some x → IsNodeAt links ends alphas n x
  pub count : length nodes ≡ length links + length ends
  pub distinct : AreDistinct alphas
  pub used : AreUsed links alphas

-- the alphas and nodes of the network of these rules
pub record IsCompiled (rules : List Rule) (alphas : List Alpha) (nodes : List Node) : Type 0 where
  pub links : List Link
  pub ends : List End
  pub built : AreBuilt links ends rules
  pub draft : IsDraft links ends alphas nodes
  pub children : HasChildren nodes
  pub rights : HasRights nodes
