-- What `compute` gives.
use Rattle.std.specs.Prelude.{ℕ, ◌==◌, Bool, false, if◌then◌else◌, ℤ, pos, negsuc, ◌+ℤ◌, ◌-ℤ◌, ◌*ℤ◌, int_div, int_rem, Result, Ok, Err}
use Rattle.ops_base.specs.declared.values.Value.{Value}
use Rattle.ops_base.specs.declared.values.Value.TheVariants as value
use Rattle.ops_base.specs.declared.expression.Op.{Op}
use Rattle.ops_base.specs.declared.expression.Op.TheVariants as op
use Rattle.ops_base.specs.declared.endings.ActKind.{ActKind}
use Rattle.ops_base.specs.declared.endings.ActKind.TheVariants as act_fault
use Rattle.ops_base.specs.Expression.{Formula, fold_formula}
use Rattle.ops_tokens.specs.Numbers.{is_in_range}

-- a number, or the fault that ends the computing
abbrev pub Computed : Type 0
Computed = Result Value ActKind

-- the exact result, where it has 128 bits
abbrev pub in_range : ℤ → Computed
in_range z = if is_in_range z then Ok (value.Whole z) else Err act_fault.Overflow

abbrev pub is_zero : ℤ → Bool
is_zero (pos n) = n == 0
is_zero (negsuc n) = false

abbrev pub with_divisor : ℤ → Computed → Computed
with_divisor b result = if is_zero b then Err act_fault.ZeroDivisor else result

-- A quotient is truncated towards zero, and a remainder has the sign of the dividend: so one by -1 is 0.
abbrev pub operated : Op → ℤ → ℤ → Computed
operated op.Add a b = in_range (a +ℤ b)
operated op.Sub a b = in_range (a -ℤ b)
operated op.Mul a b = in_range (a *ℤ b)
operated op.Div a b = with_divisor b (in_range (int_div a b))
operated op.Rem a b = with_divisor b (Ok (value.Whole (int_rem a b)))

-- An operation of two operands, of which the right one was computed first. Both must be numbers once it is reached.
abbrev pub applied : Op → Computed → Computed → Computed
applied o left (Err k) = Err k
applied o (Err k) (Ok b) = Err k
applied o (Ok (value.Symbol s)) (Ok b) = Err act_fault.NotNumber
applied o (Ok (value.Whole a)) (Ok (value.Symbol s)) = Err act_fault.NotNumber
applied o (Ok (value.Whole a)) (Ok (value.Whole b)) = operated o a b

-- What a formula gives, where the variables have these values. A variable alone gives its value, also a symbol.
abbrev pub computed : (ℕ → Value) → Formula → Computed
computed valued f = fold_formula (λ n. Ok (value.Whole n)) (λ v. Ok (valued v)) applied f
