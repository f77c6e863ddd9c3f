-- What it means that an element meets a condition.
use Rattle.std.specs.Prelude.{ℕ, List, [], ◌∷◌, ◌++◌, fold, Bool, false, ◌==◌, if◌then◌else◌, Option, Some, None, option_and_then}
use Rattle.std.specs.List.{list_any}
use Rattle.ops_base.specs.declared.values.Value.{Value}
use Rattle.ops_base.specs.declared.values.Pred.{Pred}
use Rattle.ops_base.specs.declared.conditions.Operand.{Operand}
use Rattle.ops_base.specs.declared.conditions.Operand.TheVariants.{Constant, OneOf, Variable}
use Rattle.ops_base.specs.declared.conditions.Test.{Test}
use Rattle.ops_base.specs.declared.conditions.Condition.{Condition}
use Rattle.ops_base.specs.declared.elements.Element.{Element}
use Rattle.ops_base.specs.declared.matching.Binding.{Binding}
use Rattle.ops_base.specs.Values.{are_same, holds_of}
use Rattle.ops_base.specs.WorkingMemory.{field_of}

-- what was put at a variable last
abbrev pub value_of : List Binding → ℕ → Option Value
value_of bindings v = fold (λ found b. if b.variable == v then Some b.value else found) None bindings

-- the predicate holds against what a variable is bound to
abbrev pub holds_against : Pred → Value → Option Value → Bool
holds_against pred a None = false
holds_against pred a (Some b) = holds_of pred a b

-- the test that an operand makes of a value
abbrev pub operand_holds : Pred → Value → Operand → List Binding → Bool
operand_holds pred a (Constant c) bindings = holds_of pred a c
operand_holds pred a (OneOf cs) bindings = list_any (λ c. are_same a c) cs
operand_holds pred a (Variable v) bindings = holds_against pred a (value_of bindings v)

-- the bindings with the value put at the operand's variable
abbrev pub bound_to : List Binding → Operand → Value → List Binding
bound_to bindings (Constant c) a = bindings
bound_to bindings (OneOf cs) a = bindings
bound_to bindings (Variable v) a = bindings ++ record { variable = v; value = a } ∷ []

-- the bindings after one test, none where it does not hold
abbrev pub after_test : Test → Element → List Binding → Option (List Binding)
after_test t e bindings =
    if t.binds then Some (bound_to bindings t.operand (field_of e t.field))
    else if operand_holds t.pred (field_of e t.field) t.operand bindings then Some bindings else None

abbrev pub after_tests : List Test → Element → List Binding → Option (List Binding)
after_tests [] e bindings = Some bindings
after_tests (t ∷ ts) e bindings = option_and_then (λ b. after_tests ts e b) (after_test t e bindings)

-- the bindings with which the element meets the condition, none where it does not
abbrev pub match_of : Condition → Element → List Binding → Option (List Binding)
match_of c e bindings = if e.class == c.class then after_tests c.tests e bindings else None
