-- The walk of a condition's tests goes on where the test passes.
use Rattle.std.proofs.Common.{◌≡◌, List, Bool, true, false, Option, Some, None, is_some, if◌then◌else◌, refl, ap, ◌∙◌}
use Rattle.ops_base.specs.declared.values.Value.{Value}
use Rattle.ops_base.specs.declared.values.Pred.{Pred}
use Rattle.ops_base.specs.declared.conditions.Operand.{Operand}
use Rattle.ops_base.specs.declared.conditions.Operand.TheVariants.{Constant, OneOf, Variable}
use Rattle.ops_base.specs.declared.conditions.Test.{Test}
use Rattle.ops_base.specs.declared.elements.Element.{Element}
use Rattle.ops_base.specs.declared.matching.Binding.{Binding}
use Rattle.ops_base.specs.WorkingMemory.{field_of}
use Rattle.ops_base.specs.Matching.{holds_against, operand_holds, bound_to, after_test}
use Rattle.test_table.specs.Passing.{operand_passes, passes_of, IsBoundIn}

operand_alike : (pred : Pred) (a : Value) (o : Operand) (bound : Option Value) (bindings : List Binding)
    → IsBoundIn bindings o bound → operand_passes pred a o bound ≡ operand_holds pred a o bindings
operand_alike pred a (Constant c) bound bindings is = refl
operand_alike pred a (OneOf cs) bound bindings is = refl
operand_alike pred a (Variable v) bound bindings is = ap (holds_against pred a) is

goes_on_at : (binds p q : Bool) (more same : List Binding) → p ≡ q
    → (if binds then true else p) ≡ is_some (if binds then Some more else if q then Some same else None)
goes_on_at true p q more same e = refl
goes_on_at false p true more same e = e
goes_on_at false p false more same e = e

pub goes_on : (t : Test) (a : Value) (bound : Option Value) (e : Element) (bindings : List Binding)
    → a ≡ field_of e t.field → IsBoundIn bindings t.operand bound
    → passes_of t a bound ≡ is_some (after_test t e bindings)
goes_on t a bound e bindings is_field is_bound =
    let alike =
    operand_alike t.pred a t.operand bound bindings is_bound
    ∙ ap (λ (f : Value). operand_holds t.pred f t.operand bindings) is_field in
    goes_on_at t.binds _ _ (bound_to bindings t.operand (field_of e t.field)) bindings alike
