-- Instantiations, by the parts of their rule.
use Rattle.std.proofs.Common.{◌≡◌, ℕ, zero, suc, ◌<◌, List, [], ◌∷◌, length, take, true, Some, refl, ap, sym, ◌∙◌, subst, arith}
use Rattle.std.specs.Prelude.{slice_get, ◌↔◌}
use Rattle.std.specs.Option.{option_map_or}
use Rattle.std.proofs.lemmas.Option.{slice_get_within}
use Rattle.ops_base.specs.declared.conditions.Part.{Part}
use Rattle.ops_base.specs.declared.elements.Element.{Element}
use Rattle.ops_base.specs.declared.matching.Binding.{Binding}
use Rattle.ops_base.specs.declared.rules.Inst.{Inst}
use Rattle.ops_base.specs.declared.rules.Rule.{Rule}
use Rattle.ops_base.specs.declared.values.Value.{Value}
use Rattle.ops_base.specs.Instances.{Meets, IsInst}
use Rattle.ops_base.specs.WorkingMemory.{HasRisingTags}
use Rattle.ops_base.proofs.InOrder.{tags_in_order}
use Rattle.why.specs.Bindings.{MeetsWith, Binds, values_in}
use Rattle.why.specs.Partials.{parts_of, IsPartialMatch}
use Rattle.why.proofs.Walks.{meets_with-meets, meets-meets_with}
use Rattle.why.specs.Checking.{agrees}
use Rattle.why.proofs.Once.{binds_once}
use Rattle.why.proofs.Agreement.{agrees-leads, leads-agrees}

rule_there : (rules : List Rule) (n : ℕ) → n < length rules → (r : Rule) × (slice_get rules n ≡ Some r)
rule_there [] n h = absurd (omega arith)
rule_there (r ∷ rs) zero h = (r, refl)
rule_there (r ∷ rs) (suc n) h = rule_there rs n (omega arith)

parts_are : (rules : List Rule) (n : ℕ) (r : Rule) → slice_get rules n ≡ Some r → parts_of rules n ≡ r.conditions
parts_are rules n r e = ap (λ o. option_map_or (λ (w : Rule). w.conditions) o []) e

-- tags that meet the parts of a rule that is there are an instantiation
pub inst-from_parts : (rules : List Rule) (wm : List Element) (i : Inst) → i.rule < length rules → Meets wm (parts_of rules i.rule) [] i.tags → IsInst rules wm i
inst-from_parts rules wm i there meets =
    let r = rule_there rules i.rule there in
    let P : List Part → Type 0 = λ w. Meets wm w [] i.tags in
    (r.0, r.1, subst P (parts_are rules i.rule r.0 r.1) meets)

pub inst-there : (rules : List Rule) (wm : List Element) (i : Inst) → IsInst rules wm i → i.rule < length rules
inst-there rules wm i is = slice_get_within rules i.rule is.0 is.1

pub inst-meets : (rules : List Rule) (wm : List Element) (i : Inst) → IsInst rules wm i → Meets wm (parts_of rules i.rule) [] i.tags
inst-meets rules wm i is =
    let P : List Part → Type 0 = λ w. Meets wm w [] i.tags in subst P (sym (parts_are rules i.rule is.0 is.1)) is.2

pub take-all : (ps : List Part) → take (length ps) ps ≡ ps
take-all [] = refl
take-all (p ∷ ps) = ap (λ w. p ∷ w) (take-all ps)

-- a partial match after all parts is an instantiation
pub whole : (rules : List Rule) (wm : List Element) (i : Inst) → IsPartialMatch rules wm i.rule (length (parts_of rules i.rule)) i.tags ↔ IsInst rules wm i
whole rules wm i =
    let P : List Part → Type 0 = λ w. Meets wm w [] i.tags in (
      λ is. inst-from_parts rules wm i is.0 (subst P (take-all (parts_of rules i.rule)) is.1),
      λ is. (inst-there rules wm i is, subst P (sym (take-all (parts_of rules i.rule))) (inst-meets rules wm i is)),
    )

-- each instantiation binds, and nothing else does
pub binds : (rules : List Rule) (wm : List Element) (i : Inst) → IsInst rules wm i ↔ ((values : List Value) × Binds rules wm i values)
binds rules wm i = (
  λ is. (let r = meets-meets_with wm (parts_of rules i.rule) [] i.tags (inst-meets rules wm i is) in
      (values_in r.0, (inst-there rules wm i is, r.0, r.1, refl))),
  λ b. inst-from_parts rules wm i b.1.0 (meets_with-meets wm (parts_of rules i.rule) [] i.tags b.1.1 b.1.2),
)

-- an instantiation binds one list of values
pub once : (rules : List Rule) (wm : List Element) (i : Inst) (values other : List Value) → HasRisingTags wm → Binds rules wm i values → Binds rules wm i other → other ≡ values
once rules wm i values other rising a b =
    b.3 ∙ ap values_in (binds_once wm (tags_in_order wm rising) (parts_of rules i.rule) [] i.tags a.1 b.1 a.2 b.2) ∙ sym a.3

-- The test over the parts of a rule that is there holds exactly where this is an instantiation that binds these values.
pub checked : (rules : List Rule) (wm : List Element) (i : Inst) (bound : List Value) (r : Rule) → HasRisingTags wm → slice_get rules i.rule ≡ Some r → (agrees wm r.conditions [] i.tags bound ≡ true) ↔ (IsInst rules wm i × Binds rules wm i bound)
checked rules wm i bound r rising there =
    let parts : parts_of rules i.rule ≡ r.conditions = parts_are rules i.rule r there in
    let P : List Part → Type 0 = λ w. (final : List Binding) × MeetsWith wm w [] i.tags final × (bound ≡ values_in final) in (
      λ h. (let led = subst P (sym parts) (agrees-leads wm r.conditions [] i.tags bound h) in
          let b : Binds rules wm i bound = (slice_get_within rules i.rule r there, led.0, led.1, led.2) in
          ((binds rules wm i).1 (bound, b), b)),
      λ both. (let b = both.1 in
          let led = subst P parts (b.1, b.2, b.3) in
          leads-agrees wm (tags_in_order wm rising) r.conditions [] i.tags bound led.0 led.2 led.1),
    )
