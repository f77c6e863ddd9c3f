-- An instantiation and what it binds, tested with no list of bindings at hand.
use Rattle.std.specs.Prelude.{ℕ, List, [], ◌∷◌, ◌++◌, ◌==◌, ◌&&◌, not, Bool, true, false, if◌then◌else◌, Option, Some, None}
use Rattle.std.specs.List.{find, flat_map}
use Rattle.std.specs.Option.{option_map_or}
use Rattle.ops_base.specs.declared.conditions.Operand.{Operand}
use Rattle.ops_base.specs.declared.conditions.Operand.TheVariants.{Variable}
use Rattle.ops_base.specs.declared.conditions.Part.{Part}
use Rattle.ops_base.specs.declared.conditions.Part.TheVariants.{One, Group}
use Rattle.ops_base.specs.declared.conditions.Test.{Test}
use Rattle.ops_base.specs.declared.elements.Element.{Element}
use Rattle.ops_base.specs.declared.matching.Binding.{Binding}
use Rattle.ops_base.specs.declared.values.Value.{Value}
use Rattle.ops_base.specs.ConflictSet.{some_meets, some_extend}
use Rattle.ops_base.specs.Matching.{bound_to, match_of}
use Rattle.ops_base.specs.Values.{are_same}
use Rattle.ops_base.specs.WorkingMemory.{field_of}
use Rattle.why.specs.declared.known.Known.{Known, Nothing, Met'}
use Rattle.why.specs.Bindings.{values_in}

-- the variable that a test binds, none where it does not bind
abbrev pub variable_in : Operand → Option ℕ
variable_in (Variable v) = Some v
variable_in _ = None

abbrev pub variable_of : Test → Option ℕ
variable_of t = if t.binds then variable_in t.operand else None

-- what a test puts at a variable at an element
abbrev pub put_by : Element → Test → List Binding
put_by e t = option_map_or (λ v. record { variable = v; value = field_of e t.field } ∷ []) (variable_of t) []

-- what all of these do, in text order
abbrev pub put_at : List Test → Element → List Binding
put_at ts e = flat_map (put_by e) ts

-- the bindings that the conditions so far leave
abbrev pub bindings_in : Known → List Binding
bindings_in Nothing = []
bindings_in (Met' p before tests element) = bindings_in before ++ put_at tests.now element.now

-- what follows these values at the start of a list, none where it does not start so
abbrev pub rest_after : List Value → List Value → Option (List Value)
rest_after [] bound = Some bound
rest_after (v ∷ vs) [] = None
rest_after (v ∷ vs) (b ∷ bound) = if are_same b v then rest_after vs bound else None

abbrev pub is_none_left : Option (List Value) → Bool
is_none_left None = false
is_none_left (Some []) = true
is_none_left (Some (b ∷ bound)) = false

-- the first element of this tag
abbrev pub with_tag : List Element → ℕ → Option Element
with_tag wm tag = find (λ e. e.tag == tag) wm

-- Whether the tags meet these parts from these bindings, and the values at the end are these. The tags say which element
-- to take, so nothing is searched for.
abbrev pub agrees : List Element → List Part → List Binding → List ℕ → List Value → Bool
agrees wm [] bindings [] bound = is_none_left (rest_after (values_in bindings) bound)
agrees wm [] bindings (tag ∷ tags) bound = false
agrees wm (Group cs ∷ ps) bindings tags bound = not (some_extend wm cs bindings) && agrees wm ps bindings tags bound
agrees wm (One c ∷ ps) bindings [] bound =
    if c.negated then not (some_meets wm c bindings) && agrees wm ps bindings [] bound else false
agrees wm (One c ∷ ps) bindings (tag ∷ tags) bound =
    if c.negated then not (some_meets wm c bindings) && agrees wm ps bindings (tag ∷ tags) bound
    else option_map_or (λ e. option_map_or (λ next. agrees wm ps next tags bound) (match_of c e bindings) false) (with_tag wm tag) false
