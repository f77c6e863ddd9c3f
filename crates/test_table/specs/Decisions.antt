-- The result of each way of comparing two values of the same kind.
use Rattle.std.specs.Prelude.{Bool, true, false, not, ◌==◌, ℤ, int_lt, int_le}
use Rattle.std.specs.Ordering.{int_eq}
use Rattle.ops_base.specs.declared.values.Sym.{Sym}
use Rattle.test_table.specs.declared.decisions.OfSymbols.{OfSymbols}
use Rattle.test_table.specs.declared.decisions.OfSymbols.TheVariants as symbols
use Rattle.test_table.specs.declared.decisions.OfNumbers.{OfNumbers}
use Rattle.test_table.specs.declared.decisions.OfNumbers.TheVariants as numbers

-- the result for the field's symbol and the operand's symbol
abbrev pub symbols_decide : OfSymbols → Sym → Sym → Bool
symbols_decide symbols.Never a b = false
symbols_decide symbols.Always a b = true
symbols_decide symbols.Equality a b = a.0 == b.0
symbols_decide symbols.Inequality a b = not (a.0 == b.0)

-- the result for the field's number and the operand's number
abbrev pub numbers_decide : OfNumbers → ℤ → ℤ → Bool
numbers_decide numbers.Always x y = true
numbers_decide numbers.Equality x y = int_eq x y
numbers_decide numbers.Inequality x y = not (int_eq x y)
numbers_decide numbers.Less x y = int_lt x y
numbers_decide numbers.AtMost x y = int_le x y
numbers_decide numbers.Greater x y = int_lt y x
numbers_decide numbers.AtLeast x y = int_le y x
