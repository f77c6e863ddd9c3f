-- Why a rule does not fire.
use Rattle.std.specs.Prelude.{◌≡◌, ℕ, zero, suc, ◌+◌, ◌-◌, ◌==◌, ◌<◌, ◌≤◌, if◌then◌else◌, List, [], ◌∷◌, map, length, take, AllPairs, Contains}
use Rattle.ops_base.specs.declared.direct.Partial.{Partial}
use Rattle.ops_base.specs.declared.elements.Element.{Element}
use Rattle.ops_base.specs.declared.rules.Inst.{Inst}
use Rattle.ops_base.specs.declared.rules.Rule.{Rule}
use Rattle.ops_base.specs.declared.conditions.Part.{Part}
use Rattle.ops_base.specs.ConflictSet.{matches_of}
use Rattle.ops_base.specs.Instances.{IsInst, IsInOrder}
use Rattle.why.specs.declared.explaining.BoundInst.{BoundInst}
use Rattle.why.specs.declared.explaining.Why.{Why}
use Rattle.why.specs.declared.explaining.Why.TheVariants.{Found, Missing}
use Rattle.why.specs.Partials.{parts_of, IsPartialMatch}
use Rattle.why.specs.Bindings.{Binds, values_in}

-- an instantiation of this rule
abbrev pub IsInstOf : List Rule → List Element → ℕ → Inst → Type 0
IsInstOf rules wm rule i = (i.rule ≡ rule) × IsInst rules wm i

-- what a match of the rule's parts says of it
abbrev pub bound_inst : ℕ → Partial → BoundInst
bound_inst rule p = record { inst = record { rule = rule; tags = p.tags }; values = values_in p.bindings }

abbrev pub insts_in : List BoundInst → List Inst
insts_in found = map (λ b. b.inst) found

-- all instantiations of the rule, of which there are some, in order, each once and with what it binds
pub record AreBoundInsts (rules : List Rule) (wm : List Element) (rule : ℕ) (found : List BoundInst) : Type 0 where
  pub some : 0 < length found
  pub sound : (i : Inst) → Contains (insts_in found) i → IsInstOf rules wm rule i
  pub complete : (i : Inst) → IsInstOf rules wm rule i → Contains (insts_in found) i
  pub in_order : IsInOrder (insts_in found)
  pub bound : (b : BoundInst) → Contains found b → Binds rules wm b.inst b.values

-- No tags meet the parts up to this place, which is counted from 1. Some meet the parts up to each place before it. So
-- nothing is an instantiation.
pub record IsMissing (rules : List Rule) (wm : List Element) (rule place : ℕ) : Type 0 where
  pub first : 1 ≤ place
  pub last : place ≤ length (parts_of rules rule)
  pub none : (tags : List ℕ) → IsPartialMatch rules wm rule place tags → ⊥
  pub before : (k : ℕ) → k < place → (tags : List ℕ) × IsPartialMatch rules wm rule k tags
  pub no_inst : (i : Inst) → IsInstOf rules wm rule i → ⊥

abbrev pub Explains : List Rule → List Element → ℕ → Why → Type 0
Explains rules wm rule (Found found) = AreBoundInsts rules wm rule found
Explains rules wm rule (Missing place) = IsMissing rules wm rule place

-- ---- the same, as it can be computed

-- the first place, from this one on, up to which nothing meets the parts, where this many come after it
abbrev pub place_from : List Element → List Part → ℕ → ℕ → ℕ
place_from wm parts place zero = place
place_from wm parts place (suc left) =
    if length (matches_of wm (take place parts)) == 0 then place else place_from wm parts (place + 1) left

abbrev pub missing_place : List Element → List Part → ℕ
missing_place wm parts = place_from wm parts 1 (length parts - 1)

abbrev pub explained : ℕ → ℕ → List Partial → Why
explained rule place [] = Missing place
explained rule place (p ∷ ps) = Found (map (bound_inst rule) (p ∷ ps))

-- the one explanation of a rule
abbrev pub explanation : List Rule → List Element → ℕ → Why
explanation rules wm rule =
    let parts = parts_of rules rule in explained rule (missing_place wm parts) (matches_of wm parts)
