-- A chain of nodes as steps: of a condition, given by its sign, its alpha and its join tests, or of a group, given by the
-- number of tags before it and its members.
use Rattle.std.proofs.Common.{◌<◌, ◌≡◌, ℕ, suc, ◌+◌, ◌*◌, Bool, true, false, cond, List, [], ◌∷◌, ◌++◌, map, length, ◌==◌, slice_get, Option, Some, None}
use Rattle.ops_base.specs.declared.elements.Element.{Element}
use Rattle.net_base.specs.declared.nodes.JoinTest.{JoinTest}
use Rattle.net_base.specs.declared.nodes.Kind.{Kind}
use Rattle.net_base.specs.declared.nodes.Kind.TheVariants as kind
use Rattle.net_base.specs.declared.nodes.Node.{Node}
use Rattle.net_base.specs.declared.nodes.Alpha.{Alpha}
use Rattle.net_base.specs.declared.normal.NormalCondition.{NormalCondition}
use Rattle.net_base.specs.declared.normal.NormalPart.{NormalPart}
use Rattle.net_base.specs.declared.normal.NormalPart.TheVariants.{One, Group}
use Rattle.net_base.specs.Normal.{alpha_tests, join_tests}
use Rattle.net_base.specs.Tokens.{Elements, Tokens, joins_hold, covers, count_from, count_with, out_of_join, out_of_negated, memory_gives, root_gives}

-- the alpha and the join tests of a condition
pub record Single : Type 0 where
  pub alpha : Option Alpha
  pub tests : List JoinTest

-- a condition, negated where the first says so, or a group
pub data Step : Type 0 where
  Alone : Bool → Single → Step
  Many : ℕ → List Single → Step

-- the tokens of the last of several joins
abbrev pub walk_members : Elements → List Element → List Single → Tokens → Tokens
walk_members el wm [] left t = left t
walk_members el wm (s ∷ ss) left t = walk_members el wm ss (λ u. out_of_join s.tests el left (memory_gives wm s.alpha) u) t

-- no token of the members has the token as its first tags
abbrev pub none_covers : ℕ → Elements → List Element → ℕ → List Single → Tokens → List ℕ → Bool
none_covers tags el wm width ss left t = count_from tags (width + length ss) (covers width t) (λ r. walk_members el wm ss left r) [] == 0

abbrev pub out_of_step : ℕ → Elements → List Element → Step → Tokens → Tokens
out_of_step tags el wm (Alone negated s) left t =
    cond negated (out_of_negated tags kind.Negated s.tests el left (memory_gives wm s.alpha) t) (out_of_join s.tests el left (memory_gives wm s.alpha) t)
out_of_step tags el wm (Many width ss) left t = cond (none_covers tags el wm width ss left t) (left t) 0

-- the tokens after all steps, one step after another
abbrev pub walk : ℕ → Elements → List Element → List Step → Tokens → Tokens
walk tags el wm [] left t = left t
walk tags el wm (s ∷ ss) left t = walk tags el wm ss (λ u. out_of_step tags el wm s left u) t

-- no right token of a tag below the bound joins
abbrev pub none_joins : ℕ → Elements → List Element → Single → List ℕ → Bool
none_joins tags el wm s t = count_with tags kind.Negated s.tests el t (memory_gives wm s.alpha) == 0

-- a positive step over the tags that are left, where `go` tells how the rest goes on
abbrev pub take_one : Elements → List Element → Single → (List ℕ → Tokens) → List ℕ → Tokens
take_one el wm s go t [] = 0
take_one el wm s go t (x ∷ xs) = cond (joins_hold s.tests el t x) (memory_gives wm s.alpha (x ∷ []) * go (t ++ x ∷ []) xs) 0

-- the members in their order over the tags that are left
abbrev pub takes : Elements → List Element → List Single → List ℕ → Tokens
takes el wm [] t xs = root_gives xs
takes el wm (s ∷ ss) t xs = take_one el wm s (λ u ys. takes el wm ss u ys) t xs

-- the members take no tags below the bound
abbrev pub none_takes : ℕ → Elements → List Element → List Single → List ℕ → Bool
none_takes tags el wm ss t = count_from tags (length ss) (λ v. true) (λ v. takes el wm ss t v) [] == 0

-- the steps in their order over the tags that are left, after those that were taken
abbrev pub matches : ℕ → Elements → List Element → List Step → List ℕ → Tokens
matches tags el wm [] t xs = root_gives xs
matches tags el wm (Alone negated s ∷ ss) t xs =
    cond negated (cond (none_joins tags el wm s t) (matches tags el wm ss t xs) 0)
    (take_one el wm s (λ u ys. matches tags el wm ss u ys) t xs)
matches tags el wm (Many width ms ∷ ss) t xs = cond (none_takes tags el wm ms t) (matches tags el wm ss t xs) 0

-- ---- the steps of normal parts

-- a normal condition after this many positive ones
abbrev pub single_of : ℕ → NormalCondition → Single
single_of place c = record {
  alpha = Some (record { class = c.class; tests = alpha_tests place c.tests });
  tests = join_tests place c.tests;
}

abbrev pub singles_of : ℕ → List NormalCondition → List Single
singles_of place [] = []
singles_of place (c ∷ cs) = single_of place c ∷ singles_of (suc place) cs

abbrev pub steps_of : ℕ → List NormalPart → List Step
steps_of place [] = []
steps_of place (One c ∷ ps) = Alone c.negated (single_of place c) ∷ cond c.negated (steps_of place ps) (steps_of (suc place) ps)
steps_of place (Group cs ∷ ps) = Many place (singles_of place cs) ∷ steps_of place ps

-- ---- the steps of nodes

-- the steps above a node, where `steps` has those of each node
abbrev pub steps_above : (ℕ → List Step) → Option ℕ → List Step
steps_above steps None = []
steps_above steps (Some p) = steps p

abbrev pub single_at : List Alpha → Node → Single
single_at alphas node = record { alpha = slice_get alphas node.alpha; tests = node.joins }

abbrev pub joined : Single → Step
joined s = Alone false s

-- the giver of the group n has the steps above the group and those of the members
pub record IsGroupStep (steps : ℕ → List Step) (n : ℕ) (node : Node) (giver width members : ℕ) : Type 0 where
  pub before : giver < n
  pub singles : List Single
  pub count : members ≡ length singles
  pub down : steps giver ≡ steps_above steps node.parent ++ map joined singles
  pub is : steps n ≡ steps_above steps node.parent ++ Many width singles ∷ []

abbrev pub IsStepOf : List Alpha → (ℕ → List Step) → ℕ → Node → Kind → Type 0
IsStepOf alphas steps n node kind.Join = steps n ≡ steps_above steps node.parent ++ Alone false (single_at alphas node) ∷ []
IsStepOf alphas steps n node kind.Negated = steps n ≡ steps_above steps node.parent ++ Alone true (single_at alphas node) ∷ []
IsStepOf alphas steps n node (kind.Group giver width members) = IsGroupStep steps n node giver width members
IsStepOf alphas steps n node (kind.Terminal rule) = steps n ≡ steps_above steps node.parent

-- `steps` has the steps from the root down to each node below the bound
abbrev pub AreSteps : List Alpha → List Node → ℕ → (ℕ → List Step) → Type 0
AreSteps alphas nodes bound steps = (n : ℕ) (node : Node) → n < bound → slice_get nodes n ≡ Some node → IsStepOf alphas steps n node node.kind

-- each parent comes before its children
abbrev pub IsOrdered : List Node → Type 0
IsOrdered nodes = (n : ℕ) (node : Node) (p : ℕ) → slice_get nodes n ≡ Some node → node.parent ≡ Some p → (p < n) × (q : Node) × (slice_get nodes p ≡ Some q)
