-- Values and what a predicate holds of.
use Rattle.std.specs.Prelude.{Bool, true, false, not, ◌==◌, ℤ, int_lt, int_le}
use Rattle.std.specs.Ordering.{int_eq}
use Rattle.ops_base.specs.declared.values.Value.{Value}
use Rattle.ops_base.specs.declared.values.Value.TheVariants.{Symbol, Whole}
use Rattle.ops_base.specs.declared.values.Pred.{Pred}
use Rattle.ops_base.specs.declared.values.Pred.TheVariants.{Eq, Ne, Lt, Le, Gt, Ge, SameKind}

-- what an attribute without a value holds
abbrev pub nil : Value
nil = Symbol (record { 0 = 0 })

-- the two are the same value; a symbol never equals a number
abbrev pub are_same : Value → Value → Bool
are_same (Symbol a) (Symbol b) = a.0 == b.0
are_same (Symbol a) (Whole y) = false
are_same (Whole x) (Symbol b) = false
are_same (Whole x) (Whole y) = int_eq x y

-- both are numbers, and the order holds
abbrev pub are_ordered : (ℤ → ℤ → Bool) → Value → Value → Bool
are_ordered order (Whole x) (Whole y) = order x y
are_ordered order (Whole x) (Symbol b) = false
are_ordered order (Symbol a) b = false

-- both are numbers, or both are symbols
abbrev pub are_of_one_kind : Value → Value → Bool
are_of_one_kind (Symbol a) (Symbol b) = true
are_of_one_kind (Symbol a) (Whole y) = false
are_of_one_kind (Whole x) (Symbol b) = false
are_of_one_kind (Whole x) (Whole y) = true

-- the predicate holds of a field's value and an operand's value
abbrev pub holds_of : Pred → Value → Value → Bool
holds_of Eq a b = are_same a b
holds_of Ne a b = not (are_same a b)
holds_of Lt a b = are_ordered int_lt a b
holds_of Le a b = are_ordered int_le a b
holds_of Gt a b = are_ordered int_lt b a
holds_of Ge a b = are_ordered int_le b a
holds_of SameKind a b = are_of_one_kind a b
