-- Codes by which conditions, groups and alphas are looked up. The only requirement is that equal ones have the same
-- code.
use Rattle.std.specs.Prelude.{ℕ, ◌+◌, ◌*◌, ◌%◌, ◌^◌, List, [], ◌∷◌, Option, Some, None, if◌then◌else◌}
use Rattle.std.specs.Int.{cast_unsigned, w128}
use Rattle.ops_base.specs.declared.values.Value.{Value}
use Rattle.ops_base.specs.declared.values.Value.TheVariants.{Symbol, Whole}
use Rattle.ops_base.specs.declared.conditions.Operand.{Operand}
use Rattle.ops_base.specs.declared.conditions.Operand.TheVariants as operand
use Rattle.ops_base.specs.declared.conditions.Test.{Test}
use Rattle.net_base.specs.declared.normal.NormalOperand.{NormalOperand}
use Rattle.net_base.specs.declared.normal.NormalOperand.TheVariants as normal
use Rattle.net_base.specs.declared.normal.NormalTest.{NormalTest}
use Rattle.net_base.specs.declared.normal.NormalCondition.{NormalCondition}
use Rattle.net_base.specs.declared.normal.NormalPart.{NormalPart}
use Rattle.net_base.specs.declared.normal.NormalPart.TheVariants.{One, Group}
use Rattle.net_base.specs.Counting.{pred_number}

unfoldable pub mixed : ℕ → ℕ → ℕ
mixed code x = ((code * 6364136223846793005) % 2 ^ 64 + x) % 2 ^ 64

abbrev pub value_code : ℕ → Value → ℕ
value_code code (Symbol s) = mixed (mixed code 1) s.0
value_code code (Whole n) = mixed (mixed code 2) (cast_unsigned w128 n % 2 ^ 64)

abbrev pub values_code : ℕ → List Value → ℕ
values_code code [] = code
values_code code (v ∷ vs) = values_code (value_code code v) vs

abbrev pub operand_code : ℕ → Operand → ℕ
operand_code code (operand.Constant v) = value_code (mixed code 3) v
operand_code code (operand.OneOf vs) = values_code (mixed code 4) vs
operand_code code (operand.Variable v) = mixed (mixed code 5) v

abbrev pub normal_operand_code : ℕ → NormalOperand → ℕ
normal_operand_code code (normal.Constant v) = value_code (mixed code 3) v
normal_operand_code code (normal.OneOf vs) = values_code (mixed code 4) vs
normal_operand_code code (normal.Bound o) = mixed (mixed (mixed code 5) o.place) o.field

abbrev pub tests_code : ℕ → List Test → ℕ
tests_code code [] = code
tests_code code (t ∷ ts) = tests_code (operand_code (mixed (mixed code t.field) (pred_number t.pred)) t.operand) ts

abbrev pub normal_tests_code : ℕ → List NormalTest → ℕ
normal_tests_code code [] = code
normal_tests_code code (t ∷ ts) = normal_tests_code (normal_operand_code (mixed (mixed code t.field) (pred_number t.pred)) t.operand) ts

abbrev pub parent_code : Option ℕ → ℕ
parent_code None = 1
parent_code (Some p) = mixed 2 p

abbrev pub condition_code : ℕ → NormalCondition → ℕ
condition_code code c = normal_tests_code (mixed (mixed code (if c.negated then 1 else 0)) c.class) c.tests

abbrev pub members_code : ℕ → List NormalCondition → ℕ
members_code code [] = code
members_code code (c ∷ cs) = members_code (condition_code code c) cs

abbrev pub part_code : Option ℕ → NormalPart → ℕ
part_code parent (One c) = condition_code (mixed (parent_code parent) 6) c
part_code parent (Group cs) = members_code (mixed (parent_code parent) 7) cs

abbrev pub alpha_code : ℕ → List Test → ℕ
alpha_code class tests = tests_code (mixed 1 class) tests
