-- What an instantiation binds.
use Rattle.std.specs.Prelude.{◌≡◌, ℕ, ◌<◌, List, [], ◌∷◌, length, map, Contains, Some, None}
use Rattle.std.specs.Bool.{MatchBool}
use Rattle.ops_base.specs.declared.conditions.Part.{Part}
use Rattle.ops_base.specs.declared.conditions.Part.TheVariants.{One, Group}
use Rattle.ops_base.specs.declared.elements.Element.{Element}
use Rattle.ops_base.specs.declared.matching.Binding.{Binding}
use Rattle.ops_base.specs.declared.rules.Inst.{Inst}
use Rattle.ops_base.specs.declared.rules.Rule.{Rule}
use Rattle.ops_base.specs.declared.values.Value.{Value}
use Rattle.ops_base.specs.Instances.{Extends}
use Rattle.ops_base.specs.Matching.{match_of}
use Rattle.why.specs.Partials.{parts_of}

-- The walk of `Meets`, with the bindings that it ends with. A negated condition and a group leave none.
abbrev pub MeetsWith : List Element → List Part → List Binding → List ℕ → List Binding → Type 0
MeetsWith wm [] bindings tags final = (tags ≡ []) × (final ≡ bindings)
MeetsWith wm (One c ∷ ps) bindings tags final =
    MatchBool c.negated
    (((e : Element) → Contains wm e → match_of c e bindings ≡ None) × MeetsWith wm ps bindings tags final)
    ((e : Element) × (next : List Binding) × (rest : List ℕ) × Contains wm e × (match_of c e bindings ≡ Some next) × (tags ≡ e.tag ∷ rest) × MeetsWith wm ps next rest final)
MeetsWith wm (Group cs ∷ ps) bindings tags final = (Extends wm cs bindings → ⊥) × MeetsWith wm ps bindings tags final

abbrev pub values_in : List Binding → List Value
values_in bindings = map (λ b. b.value) bindings

-- The tags meet the conditions of the rule, and these are the values that the walk over them put at variables, in text
-- order.
abbrev pub Binds : List Rule → List Element → Inst → List Value → Type 0
Binds rules wm i values =
    (i.rule < length rules) × (final : List Binding) × MeetsWith wm (parts_of rules i.rule) [] i.tags final × (values ≡ values_in final)
