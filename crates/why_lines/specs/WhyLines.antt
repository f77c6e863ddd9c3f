-- The lines that explain the productions in force.
use Rattle.std.specs.Prelude.{ℕ, ◌+◌, ◌-◌, List, [], ◌∷◌, ◌++◌, map, Bool, true, false, ◌&&◌, is_some, nat_le, if◌then◌else◌, slice_get, unwrap_or, codes, decimal}
use Rattle.std.specs.List.{flat_map}
use Rattle.ops_base.specs.declared.conditions.Part.{Part}
use Rattle.ops_base.specs.declared.conditions.Part.TheVariants.{One, Group}
use Rattle.ops_base.specs.declared.conditions.Test.{Test}
use Rattle.ops_base.specs.declared.elements.Class.{Class}
use Rattle.ops_base.specs.declared.elements.Element.{Element}
use Rattle.ops_base.specs.declared.rules.Rule.{Rule}
use Rattle.ops_base.specs.declared.values.Sym.{Sym}
use Rattle.ops_base.specs.declared.values.Value.{Value}
use Rattle.ops_base.specs.Names.{Spellings}
use Rattle.ops_base.specs.Valid.{class_of}
use Rattle.ops_base.specs.WorkingMemory.{scalar_count}
use Rattle.ops_meaning.specs.Layout.{symbol_text, shown_value, inst_text, rule_name}
use Rattle.why.specs.declared.explaining.BoundInst.{BoundInst}
use Rattle.why.specs.declared.explaining.Why.{Why}
use Rattle.why.specs.declared.explaining.Why.TheVariants.{Found, Missing}
use Rattle.why.specs.Checking.{variable_of}
use Rattle.why.specs.Explaining.{explanation}
use Rattle.why.specs.Partials.{parts_of}
use Rattle.why_lines.specs.declared.spots.Spot.{Spot}

-- ---- the origin of the values that an instantiation binds

-- the fields whose values the tests of a condition bind to variables, in text order
abbrev pub fields_bound : List Test → List ℕ
fields_bound [] = []
fields_bound (t ∷ ts) = (if is_some (variable_of t) then t.field ∷ [] else []) ++ fields_bound ts

-- The spots of a part at this place. A negated condition and a group have none.
abbrev pub spots_at : ℕ → Part → List Spot
spots_at place (One c) =
    if c.negated then [] else map (λ f. record { place = place; class = c.class; field = f }) (fields_bound c.tests)
spots_at place (Group cs) = []

-- the spots of these parts, the first of which is at this place
abbrev pub spots_from : ℕ → List Part → List Spot
spots_from place [] = []
spots_from place (p ∷ ps) = spots_at place p ++ spots_from (place + 1) ps

-- the spots of a rule: places are counted from 1
abbrev pub spots_of : List Rule → ℕ → List Spot
spots_of rules rule = spots_from 1 (parts_of rules rule)

-- ---- the text of a binding

abbrev pub attribute_of : Class → ℕ → Sym
attribute_of c f = unwrap_or (slice_get c.attrs f) (record { 0 = 0 })

-- an attribute is given by its name; a place of the vector attribute by the name, a slash and the place, counted from 1
abbrev pub field_text : Spellings → Class → ℕ → List ℕ
field_text names c f =
    if c.vector && nat_le (scalar_count c) f
    then symbol_text names (attribute_of c (scalar_count c)) ++ codes "/" ++ decimal ((f - scalar_count c) + 1)
    else symbol_text names (attribute_of c f)

-- K ^ATTR VALUE, after a space
abbrev pub binding_text : Spellings → List Class → Spot → Value → List ℕ
binding_text names classes s v =
    codes " " ++ decimal s.place ++ codes " ^" ++ field_text names (class_of classes s.class) s.field ++ codes " " ++ shown_value names v

abbrev pub parting : Bool → List ℕ
parting first = if first then [] else codes ";"

-- these bindings, separated by `;`
abbrev pub bindings_text : Spellings → List Class → Bool → List Spot → List Value → List ℕ
bindings_text names classes first [] values = []
bindings_text names classes first (s ∷ spots) [] = []
bindings_text names classes first (s ∷ spots) (v ∷ values) =
    parting first ++ binding_text names classes s v ++ bindings_text names classes false spots values

-- ---- the lines

-- why NAME TAG TAG: K ^ATTR VALUE; K ^ATTR VALUE
abbrev pub found_line : Spellings → List Class → List Rule → List Spot → BoundInst → List ℕ
found_line names classes rules spots b =
    codes "why " ++ inst_text names rules b.inst ++ codes ":" ++ bindings_text names classes true spots b.values

-- why NAME: condition K
abbrev pub missing_line : Spellings → Sym → ℕ → List ℕ
missing_line names name place = codes "why " ++ symbol_text names name ++ codes ": condition " ++ decimal place

-- a line for each instantiation of a rule, in their order, or one line for what is missing
abbrev pub rule_lines : Spellings → List Class → List Rule → ℕ → Why → List (List ℕ)
rule_lines names classes rules rule (Found found) = map (found_line names classes rules (spots_of rules rule)) found
rule_lines names classes rules rule (Missing place) = missing_line names (rule_name rules rule) place ∷ []

-- the lines for this many rules, the first of which has this number
abbrev pub lines_from : Spellings → List Class → List Rule → List Element → ℕ → List Rule → List (List ℕ)
lines_from names classes rules wm rule [] = []
lines_from names classes rules wm rule (r ∷ rs) =
    rule_lines names classes rules rule (explanation rules wm rule) ++ lines_from names classes rules wm (rule + 1) rs

-- the lines for all rules, in their order
abbrev pub why_lines : Spellings → List Class → List Rule → List Element → List (List ℕ)
why_lines names classes rules wm = lines_from names classes rules wm 0 rules

-- lines, each with its LF
abbrev pub text_of : List (List ℕ) → List ℕ
text_of lines = flat_map (λ l. l ++ 10 ∷ []) lines
