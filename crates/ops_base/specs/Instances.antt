-- What an instantiation is and what the conflict set is, apart from how they are found.
use Rattle.std.specs.Prelude.{◌≡◌, ℕ, ◌<◌, List, [], ◌∷◌, length, ◌⊎◌, All, AllPairs, Contains, Some, None, slice_get}
use Rattle.std.specs.Bool.{MatchBool}
use Rattle.std.specs.declared.cmp.Ordering.{Ordering}
use Rattle.std.specs.Ordering.{nat_cmp, ordering_then}
use Rattle.std.specs.Cmp.Lexicographic.{slice_cmp}
use Rattle.ops_base.specs.declared.elements.Element.{Element}
use Rattle.ops_base.specs.declared.conditions.Condition.{Condition}
use Rattle.ops_base.specs.declared.conditions.Part.{Part}
use Rattle.ops_base.specs.declared.conditions.Part.TheVariants.{One, Group}
use Rattle.ops_base.specs.declared.rules.Rule.{Rule}
use Rattle.ops_base.specs.declared.rules.Inst.{Inst}
use Rattle.ops_base.specs.declared.matching.Binding.{Binding}
use Rattle.ops_base.specs.Matching.{match_of}

-- There are elements of working memory, one for each condition, the same one allowed twice, of which each meets its
-- condition under the bindings that those before it left.
abbrev pub Extends : List Element → List Condition → List Binding → Type 0
Extends wm [] bindings = Unit {0}
Extends wm (c ∷ cs) bindings = (e : Element) × (next : List Binding) × Contains wm e × (match_of c e bindings ≡ Some next) × Extends wm cs next

-- Walking the parts from these bindings, the tags name an element of working memory for each positive condition, which
-- it meets, no element of working memory meets a negated one, and no elements extend the bindings by the conditions of a
-- group. At the end no tag is left.
abbrev pub Meets : List Element → List Part → List Binding → List ℕ → Type 0
Meets wm [] bindings tags = tags ≡ []
Meets wm (One c ∷ ps) bindings tags =
    MatchBool c.negated
    (((e : Element) → Contains wm e → match_of c e bindings ≡ None) × Meets wm ps bindings tags)
    ((e : Element) × (next : List Binding) × (rest : List ℕ) × Contains wm e × (match_of c e bindings ≡ Some next) × (tags ≡ e.tag ∷ rest) × Meets wm ps next rest)
Meets wm (Group cs ∷ ps) bindings tags = (Extends wm cs bindings → ⊥) × Meets wm ps bindings tags

-- a rule with tags that meet its conditions
abbrev pub IsInst : List Rule → List Element → Inst → Type 0
IsInst rules wm i = (r : Rule) × (slice_get rules i.rule ≡ Some r) × Meets wm r.conditions [] i.tags

-- the tags at the first difference are smaller, or there are fewer
abbrev pub TagsBefore : List ℕ → List ℕ → Type 0
TagsBefore xs [] = ⊥
TagsBefore [] (y ∷ ys) = Unit {0}
TagsBefore (x ∷ xs) (y ∷ ys) = (x < y) ⊎ ((x ≡ y) × TagsBefore xs ys)

-- by rule, then by tags
abbrev pub Before : Inst → Inst → Type 0
Before i j = (i.rule < j.rule) ⊎ ((i.rule ≡ j.rule) × TagsBefore i.tags j.tags)

-- how two instantiations stand in that order
abbrev pub by_rule_and_tags : Inst → Inst → Ordering
by_rule_and_tags i j = ordering_then (nat_cmp i.rule j.rule) (slice_cmp nat_cmp i.tags j.tags)

-- each is before all that follow it, so each is there once
abbrev pub IsInOrder : List Inst → Type 0
IsInOrder set = AllPairs Before set

-- The conflict set: all instantiations, in the order of rule and then tags, each once.
pub record IsConflictSet (rules : List Rule) (wm : List Element) (set : List Inst) : Type 0 where
  pub sound : (i : Inst) → Contains set i → IsInst rules wm i
  pub complete : (i : Inst) → IsInst rules wm i → Contains set i
  pub in_order : IsInOrder set

-- each is of one of these rules
abbrev pub AreOf : List Rule → List Inst → Type 0
AreOf rules insts = All (λ i. i.rule < length rules) insts
