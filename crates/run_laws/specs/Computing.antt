-- The results of small formulas.
use Rattle.std.specs.Prelude.{◌≡◌, ℕ, zero, suc, ℤ, pos, ◌-ℤ◌, Ok, Err}
use Rattle.ops_base.specs.declared.endings.ActKind.TheVariants.{Overflow, ZeroDivisor}
use Rattle.ops_base.specs.declared.expression.Op.TheVariants.{Add, Sub, Mul, Div, Rem}
use Rattle.ops_base.specs.declared.values.Value.{Value}
use Rattle.ops_base.specs.declared.values.Value.TheVariants.{Whole}
use Rattle.ops_base.specs.Expression.{Formula, number, variable, apply}
use Rattle.ops_base.specs.Values.{nil}
use Rattle.ops_meaning.specs.Computing.{Computed, computed}

-- the first variable is 7, and every other one is `nil`
abbrev pub valued : ℕ → Value
valued zero = Whole (pos 7)
valued (suc v) = nil

abbrev pub Gives : Formula → Computed → Type 0
Gives f result = computed valued f ≡ result

abbrev pub minus : ℕ → ℤ
minus n = pos 0 -ℤ pos n

-- this number; below, the same number negated
abbrev pub whole : ℕ → Formula
whole n = number (pos n)

abbrev pub below : ℕ → Formula
below n = number (minus n)

-- Sums, differences and products are exact, or they are too large. The largest number is
-- 170141183460469231731687303715884105727.
abbrev pub SumsAre : Type 0
SumsAre =
    Gives (apply Add (whole 3) (whole 4)) (Ok (Whole (pos 7)))
    × Gives (apply Add (whole 170141183460469231731687303715884105726) (whole 1)) (Ok (Whole (pos 170141183460469231731687303715884105727)))
    × Gives (apply Add (whole 170141183460469231731687303715884105727) (whole 1)) (Err Overflow)
    × Gives (apply Sub (whole 3) (whole 4)) (Ok (Whole (minus 1)))
    × Gives (apply Sub (below 170141183460469231731687303715884105727) (whole 1)) (Ok (Whole (minus 170141183460469231731687303715884105728)))
    × Gives (apply Sub (below 170141183460469231731687303715884105728) (whole 1)) (Err Overflow)
    × Gives (apply Mul (below 3) (whole 4)) (Ok (Whole (minus 12)))
    × Gives (apply Mul (whole 9223372036854775807) (whole 9223372036854775807)) (Ok (Whole (pos 85070591730234615847396907784232501249)))
    × Gives (apply Mul (below 9223372036854775808) (whole 18446744073709551616)) (Ok (Whole (minus 170141183460469231731687303715884105728)))
    × Gives (apply Mul (whole 9223372036854775808) (whole 18446744073709551616)) (Err Overflow)

-- A quotient is truncated towards zero, and a remainder has the sign of the dividend.
abbrev pub QuotientsAre : Type 0
QuotientsAre =
    Gives (apply Div (below 7) (whole 2)) (Ok (Whole (minus 3)))
    × Gives (apply Div (whole 1) (whole 0)) (Err ZeroDivisor)
    × Gives (apply Div (below 9223372036854775808) (below 1)) (Ok (Whole (pos 9223372036854775808)))
    × Gives (apply Div (below 170141183460469231731687303715884105728) (below 1)) (Err Overflow)
    × Gives (apply Rem (below 7) (whole 2)) (Ok (Whole (minus 1)))
    × Gives (apply Rem (whole 7) (below 2)) (Ok (Whole (pos 1)))
    × Gives (apply Rem (whole 1) (whole 0)) (Err ZeroDivisor)
    × Gives (apply Rem (below 170141183460469231731687303715884105728) (below 1)) (Ok (Whole (pos 0)))

-- The right operand is computed first. A variable alone has its value as the result, even if that is a symbol.
abbrev pub OperandsAre : Type 0
OperandsAre =
    Gives (apply Mul (whole 2) (apply Add (whole 3) (variable 0))) (Ok (Whole (pos 20)))
    × Gives (variable 1) (Ok nil)
    × Gives (apply Add (variable 1) (apply Div (whole 1) (whole 0))) (Err ZeroDivisor)
