-- What it means that a field's value passes one test.
use Rattle.std.specs.Prelude.{◌≡◌, List, Bool, true, false, if◌then◌else◌, Option}
use Rattle.std.specs.List.{list_any}
use Rattle.ops_base.specs.declared.values.Value.{Value}
use Rattle.ops_base.specs.declared.values.Pred.{Pred}
use Rattle.ops_base.specs.declared.conditions.Operand.{Operand}
use Rattle.ops_base.specs.declared.conditions.Operand.TheVariants.{Constant, OneOf, Variable}
use Rattle.ops_base.specs.declared.conditions.Test.{Test}
use Rattle.ops_base.specs.declared.matching.Binding.{Binding}
use Rattle.ops_base.specs.Values.{are_same, holds_of}
use Rattle.ops_base.specs.Matching.{value_of, holds_against}

abbrev pub is_variable : Operand → Bool
is_variable (Constant c) = false
is_variable (OneOf cs) = false
is_variable (Variable v) = true

-- the test compares with the value that a variable is bound to
abbrev pub compares_with_variable : Test → Bool
compares_with_variable t = if t.binds then false else is_variable t.operand

-- the result of testing a value against an operand whose variable is bound to `bound`
abbrev pub operand_passes : Pred → Value → Operand → Option Value → Bool
operand_passes pred a (Constant c) bound = holds_of pred a c
operand_passes pred a (OneOf cs) bound = list_any (λ c. are_same a c) cs
operand_passes pred a (Variable v) bound = holds_against pred a bound

-- a test that binds passes for every value
abbrev pub passes_of : Test → Value → Option Value → Bool
passes_of t a bound = if t.binds then true else operand_passes t.pred a t.operand bound

-- `bound` is the value in the bindings of the operand's variable, if the operand is one
abbrev pub IsBoundIn : List Binding → Operand → Option Value → Type 0
IsBoundIn bindings (Constant c) bound = Unit {0}
IsBoundIn bindings (OneOf cs) bound = Unit {0}
IsBoundIn bindings (Variable v) bound = bound ≡ value_of bindings v
