-- The size of the network of rules.
use Rattle.std.specs.Prelude.{◌≡◌, ◌<◌, ℕ, suc, List, [], ◌∷◌, ◌++◌, map, length, count_by, Bool, true, false, if◌then◌else◌, slice_get, Some, Contains, AllPairs, ◌≢◌, ◌⊎◌}
use Rattle.ops_base.specs.declared.conditions.Test.{Test}
use Rattle.ops_base.specs.declared.rules.Rule.{Rule}
use Rattle.net_base.specs.declared.nodes.Node.{Node}
use Rattle.net_base.specs.declared.nodes.Alpha.{Alpha}
use Rattle.net_base.specs.declared.normal.NormalCondition.{NormalCondition}
use Rattle.net_base.specs.declared.normal.NormalPart.{NormalPart}
use Rattle.net_base.specs.declared.normal.NormalPart.TheVariants.{One, Group}
use Rattle.net_base.specs.declared.counts.Counts.{Counts}
use Rattle.net_base.specs.Normal.{alpha_tests, normal_parts}
use Rattle.net_base.specs.Sound.{is_join, is_negated, is_terminal}

-- exactly this many things have the property: a list of this length contains each once
pub record HasCount (X : Type 0) (Is : X → Type 0) (n : ℕ) : Type 0 where
  pub all : List X
  pub count : length all ≡ n
  pub apart : AllPairs (λ x y. x ≢ y) all
  pub sound : (x : X) → Contains all x → Is x
  pub complete : (x : X) → Is x → Contains all x

-- the normal parts of a rule
abbrev pub normal_form : Rule → List NormalPart
normal_form r = normal_parts 0 r.conditions []

-- a part comes right after the parts `before` in a list
abbrev pub StandsIn : List NormalPart → List NormalPart → NormalPart → Type 0
StandsIn all before p = (rest : List NormalPart) × (all ≡ before ++ p ∷ rest)

-- members as parts
abbrev pub as_parts : List NormalCondition → List NormalPart
as_parts cs = map One cs

-- a member of a group in a list comes after the parts before the group and the members before it
pub record IsMemberIn (all before : List NormalPart) (p : NormalPart) : Type 0 where
  pub outer : List NormalPart
  pub front : List NormalCondition
  pub member : NormalCondition
  pub behind : List NormalCondition
  pub group : StandsIn all outer (Group (front ++ member ∷ behind))
  pub before_is : before ≡ outer ++ as_parts front
  pub part_is : p ≡ One member

abbrev pub IsIn : List NormalPart → List NormalPart → NormalPart → Type 0
IsIn all before p = StandsIn all before p ⊎ IsMemberIn all before p

-- `before` and p are a path of a rule: of one of its parts, or of a member of one of its groups
abbrev pub IsPath : List Rule → List NormalPart → NormalPart → Type 0
IsPath rules before p = (k : ℕ) × (r : Rule) × (slice_get rules k ≡ Some r) × IsIn (normal_form r) before p

-- a negated condition or a group
abbrev pub is_negative : NormalPart → Bool
is_negative (One c) = c.negated
is_negative (Group cs) = true

-- a path, given by the parts before its last part and by the last part, which has this sign
abbrev pub IsPathOfSign : List Rule → Bool → List NormalPart × NormalPart → Type 0
IsPathOfSign rules negative p = IsPath rules p.0 p.1 × (is_negative p.1 ≡ negative)

-- how many of the parts are positive conditions
abbrev pub positives : List NormalPart → ℕ
positives [] = 0
positives (One c ∷ ps) = if c.negated then positives ps else suc (positives ps)
positives (Group cs ∷ ps) = positives ps

-- a class and the alpha tests of some condition of that class
abbrev pub IsAlphaList : List Rule → ℕ × List Test → Type 0
IsAlphaList rules a =
    (before : List NormalPart) × (c : NormalCondition) × IsPath rules before (One c) × (a.0 ≡ c.class) × (a.1 ≡ alpha_tests (positives before) c.tests)

-- the distinct pairs of a class and a list of alpha tests, the distinct paths that end in a positive condition and
-- those that end in a negated one or a group, and the rules
pub record IsShape (rules : List Rule) (counts : Counts) : Type 0 where
  pub alpha : HasCount (ℕ × List Test) (IsAlphaList rules) counts.alpha
  pub join : HasCount (List NormalPart × NormalPart) (IsPathOfSign rules false) counts.join
  pub negated : HasCount (List NormalPart × NormalPart) (IsPathOfSign rules true) counts.negated
  pub terminal : HasCount ℕ (λ k. k < length rules) counts.terminal

-- the numbers of alphas and of nodes of each kind
abbrev pub counts_of : List Alpha → List Node → Counts
counts_of alphas nodes = record {
  alpha = length alphas;
  join = count_by (λ x. is_join x.kind) nodes;
  negated = count_by (λ x. is_negated x.kind) nodes;
  terminal = count_by (λ x. is_terminal x.kind) nodes;
}
