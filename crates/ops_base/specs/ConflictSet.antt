-- The conflict set as a list that can be computed: partial matches, grown condition by condition.
use Rattle.std.specs.Prelude.{ℕ, ◌+◌, List, [], ◌∷◌, ◌++◌, map, not, is_some, if◌then◌else◌, Bool, true, false, Option, Some, None}
use Rattle.std.specs.List.{flat_map, list_any}
use Rattle.std.specs.Option.{option_map_or}
use Rattle.ops_base.specs.declared.elements.Element.{Element}
use Rattle.ops_base.specs.declared.conditions.Condition.{Condition}
use Rattle.ops_base.specs.declared.conditions.Part.{Part}
use Rattle.ops_base.specs.declared.conditions.Part.TheVariants.{One, Group}
use Rattle.ops_base.specs.declared.rules.Rule.{Rule}
use Rattle.ops_base.specs.declared.rules.Inst.{Inst}
use Rattle.ops_base.specs.declared.matching.Binding.{Binding}
use Rattle.ops_base.specs.declared.direct.Partial.{Partial}
use Rattle.ops_base.specs.Matching.{match_of}

abbrev pub lengthened : Partial → ℕ → Option (List Binding) → List Partial
lengthened p tag None = []
lengthened p tag (Some b) = record { tags = p.tags ++ tag ∷ []; bindings = b } ∷ []

-- the partial match with one element more, where that meets the condition
abbrev pub extended : Condition → Partial → Element → List Partial
extended c p e = lengthened p e.tag (match_of c e p.bindings)

-- some element meets the condition
abbrev pub some_meets : List Element → Condition → List Binding → Bool
some_meets wm c bindings = list_any (λ e. is_some (match_of c e bindings)) wm

-- what one partial match gives at one condition
abbrev pub at_condition : List Element → Condition → Partial → List Partial
at_condition wm c p =
    if c.negated then (if not (some_meets wm c p.bindings) then p ∷ [] else []) else flat_map (extended c p) wm

-- some elements extend the bindings by these conditions
abbrev pub some_extend : List Element → List Condition → List Binding → Bool
some_extend wm [] bindings = true
some_extend wm (c ∷ cs) bindings = list_any (λ e. option_map_or (λ b. some_extend wm cs b) (match_of c e bindings) false) wm

-- what one partial match gives at one part
abbrev pub at_part : List Element → Part → Partial → List Partial
at_part wm (One c) p = at_condition wm c p
at_part wm (Group cs) p = if not (some_extend wm cs p.bindings) then p ∷ [] else []

abbrev pub walk : List Element → List Part → List Partial → List Partial
walk wm [] ps = ps
walk wm (part ∷ parts) ps = walk wm parts (flat_map (at_part wm part) ps)

abbrev pub empty_partial : Partial
empty_partial = record { tags = []; bindings = [] }

-- the whole matches of these parts
abbrev pub matches_of : List Element → List Part → List Partial
matches_of wm parts = walk wm parts (empty_partial ∷ [])

abbrev pub insts_of : ℕ → List Partial → List Inst
insts_of n ps = map (λ p. record { rule = n; tags = p.tags }) ps

-- the instantiations of these rules, the first of which has number n
abbrev pub insts_from : ℕ → List Rule → List Element → List Inst
insts_from n [] wm = []
insts_from n (r ∷ rs) wm = insts_of n (matches_of wm r.conditions) ++ insts_from (n + 1) rs wm

abbrev pub conflict_set : List Rule → List Element → List Inst
conflict_set rules wm = insts_from 0 rules wm
