-- Partial matches: the tags that meet the first parts of a left side.
use Rattle.std.specs.Prelude.{ℕ, ◌<◌, List, [], length, AllPairs, Contains, take, slice_get}
use Rattle.std.specs.Option.{option_map_or}
use Rattle.ops_base.specs.declared.conditions.Part.{Part}
use Rattle.ops_base.specs.declared.elements.Element.{Element}
use Rattle.ops_base.specs.declared.rules.Rule.{Rule}
use Rattle.ops_base.specs.Instances.{Meets, TagsBefore}

-- the parts of a rule's left side
abbrev pub parts_of : List Rule → ℕ → List Part
parts_of rules rule = option_map_or (λ r. r.conditions) (slice_get rules rule) []

-- the rule is there, and the tags meet its first k parts
abbrev pub IsPartialMatch : List Rule → List Element → ℕ → ℕ → List ℕ → Type 0
IsPartialMatch rules wm rule k tags = (rule < length rules) × Meets wm (take k (parts_of rules rule)) [] tags

-- all partial matches up to the k-th part, in the order of their tags, each once
pub record AreUpTo (rules : List Rule) (wm : List Element) (rule k : ℕ) (found : List (List ℕ)) : Type 0 where
  pub sound : (tags : List ℕ) → Contains found tags → IsPartialMatch rules wm rule k tags
  pub complete : (tags : List ℕ) → IsPartialMatch rules wm rule k tags → Contains found tags
  pub in_order : AllPairs TagsBefore found
