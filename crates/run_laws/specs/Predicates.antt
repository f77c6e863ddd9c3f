-- For which values each predicate holds.
use Rattle.std.specs.Prelude.{◌≡◌, Bool, true, false, pos, ◌-ℤ◌}
use Rattle.ops_base.specs.declared.values.Pred.{Pred}
use Rattle.ops_base.specs.declared.values.Pred.TheVariants.{Eq, Ne, Lt, Le, Gt, Ge, SameKind}
use Rattle.ops_base.specs.declared.values.Value.{Value}
use Rattle.ops_base.specs.declared.values.Value.TheVariants.{Symbol, Whole}
use Rattle.ops_base.specs.Values.{holds_of}

-- two symbols, and two numbers, the first of which is smaller
abbrev pub red : Value
red = Symbol (record { 0 = 4 })

abbrev pub green : Value
green = Symbol (record { 0 = 5 })

abbrev pub low : Value
low = Whole (pos 0 -ℤ pos 10)

abbrev pub high : Value
high = Whole (pos 9)

-- Whether a predicate holds of a symbol and itself, and of two symbols.
abbrev pub OfSymbols : Pred → (same others : Bool) → Type 0
OfSymbols p same others = (holds_of p red red ≡ same) × (holds_of p red green ≡ others) × (holds_of p green red ≡ others)

-- Whether it holds of a number and itself, of a smaller and a greater one, and of a greater and a smaller one.
abbrev pub OfNumbers : Pred → (same rising falling : Bool) → Type 0
OfNumbers p same rising falling = (holds_of p high high ≡ same) × (holds_of p low high ≡ rising) × (holds_of p high low ≡ falling)

-- Whether it holds of a symbol and a number, in either order.
abbrev pub OfBoth : Pred → Bool → Type 0
OfBoth p says = (holds_of p red high ≡ says) × (holds_of p high red ≡ says)

-- A symbol equals only itself, and never a number.
abbrev pub EqualityHolds : Type 0
EqualityHolds =
    (OfSymbols Eq true false × OfNumbers Eq true false false × OfBoth Eq false)
    × OfSymbols Ne false true × OfNumbers Ne false true true × OfBoth Ne true

-- Only numbers have an order.
abbrev pub OrderHolds : Type 0
OrderHolds =
    (OfSymbols Lt false false × OfNumbers Lt false true false × OfBoth Lt false)
    × (OfSymbols Le false false × OfNumbers Le true true false × OfBoth Le false)
    × (OfSymbols Gt false false × OfNumbers Gt false false true × OfBoth Gt false)
    × OfSymbols Ge false false × OfNumbers Ge true false true × OfBoth Ge false

-- Symbols are of one kind, and numbers are of another.
abbrev pub KindHolds : Type 0
KindHolds = OfSymbols SameKind true true × OfNumbers SameKind true true true × OfBoth SameKind false
