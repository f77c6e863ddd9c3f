-- Conditions that no element can meet: two tests of constants on one attribute together let no value pass.
use Rattle.std.specs.Prelude.{◌≡◌, List, None, Bool, true, false, not, ◌==◌, ◌&&◌, ◌||◌, ℤ, pos, ◌+ℤ◌, int_le, int_lt}
use Rattle.std.specs.List.{list_any}
use Rattle.ops_base.specs.declared.values.Value.{Value}
use Rattle.ops_base.specs.declared.values.Value.TheVariants.{Symbol, Whole}
use Rattle.ops_base.specs.declared.values.Pred.{Pred}
use Rattle.ops_base.specs.declared.values.Pred.TheVariants.{Eq, Lt, Le, Gt, Ge, SameKind}
use Rattle.ops_base.specs.declared.conditions.Operand.{Operand}
use Rattle.ops_base.specs.declared.conditions.Operand.TheVariants.{Constant, OneOf, Variable}
use Rattle.ops_base.specs.declared.conditions.Test.{Test}
use Rattle.ops_base.specs.declared.conditions.Condition.{Condition}
use Rattle.ops_base.specs.declared.elements.Element.{Element}
use Rattle.ops_base.specs.declared.matching.Binding.{Binding}
use Rattle.ops_base.specs.Values.{are_same, holds_of}
use Rattle.ops_base.specs.Matching.{match_of}

-- the value passes the test; a test of a variable passes every value that passes with some binding, which is all
-- values
abbrev pub passes_by : Pred → Operand → Value → Bool
passes_by p (Constant c) v = holds_of p v c
passes_by p (OneOf cs) v = list_any (λ c. are_same v c) cs
passes_by p (Variable x) v = true

-- ---- two tests with a predicate and a constant

abbrev pub is_whole : Value → Bool
is_whole (Whole n) = true
is_whole (Symbol s) = false

-- it holds only between numbers
abbrev pub is_order : Pred → Bool
is_order Lt = true
is_order Le = true
is_order Gt = true
is_order Ge = true
is_order _ = false

-- no number is above the first and below the second, according to these predicates
abbrev pub are_crossed : Pred → ℤ → Pred → ℤ → Bool
are_crossed Gt n Lt m = int_le m (n +ℤ pos 1)
are_crossed Gt n Le m = int_le m n
are_crossed Ge n Lt m = int_le m n
are_crossed Ge n Le m = int_lt m n
are_crossed _ n _ m = false

abbrev pub are_crossed_values : Pred → Value → Pred → Value → Bool
are_crossed_values p (Whole n) q (Whole m) = are_crossed p n q m
are_crossed_values p _ q _ = false

-- an order holds only between numbers; the same kind as a symbol holds only of symbols
abbrev pub are_of_two_kinds : Pred → Value → Pred → Value → Bool
are_of_two_kinds SameKind v SameKind w = is_whole v && not (is_whole w)
are_of_two_kinds p v SameKind w = is_order p && not (is_whole w)
are_of_two_kinds p v q w = false

abbrev pub exclude_constants : Pred → Value → Pred → Value → Bool
exclude_constants Eq v q w = not (holds_of q v w)
exclude_constants p v q w = (is_order p && not (is_whole v)) || are_crossed_values p v q w || are_of_two_kinds p v q w

-- ---- two tests of one attribute

-- no value passes both, as can be seen from the first of them
abbrev pub exclude_by : Pred → Operand → Pred → Operand → Bool
exclude_by p (Constant v) q (Constant w) = exclude_constants p v q w
exclude_by p (Constant v) q (OneOf ws) = false
exclude_by p (OneOf vs) q o = not (list_any (passes_by q o) vs)
exclude_by p _ q _ = false

-- a test that binds passes every value
abbrev pub exclude : Test → Test → Bool
exclude t u = not t.binds && not u.binds && (t.field == u.field) && exclude_by t.pred t.operand u.pred u.operand

-- two of its tests together, or one alone, let no value pass
abbrev pub is_unmet : Condition → Bool
is_unmet c = list_any (λ t. list_any (exclude t) c.tests) c.tests

-- ---- the law

-- no element meets such a condition, whatever the bindings
abbrev pub NoElementMeets : Type 0
NoElementMeets = (c : Condition) (e : Element) (bindings : List Binding) → is_unmet c ≡ true → match_of c e bindings ≡ None
