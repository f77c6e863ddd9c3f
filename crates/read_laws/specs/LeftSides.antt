-- The meaning of left sides.
use Rattle.std.specs.Prelude.{◌≡◌, ℕ, pos, negsuc, Bool, true, false, List, [], ◌∷◌, ◌++◌, codes}
use Rattle.ops_base.specs.declared.conditions.Condition.{Condition}
use Rattle.ops_base.specs.declared.conditions.Operand.{Operand}
use Rattle.ops_base.specs.declared.conditions.Operand.TheVariants.{Constant, OneOf, Variable}
use Rattle.ops_base.specs.declared.conditions.Part.{Part}
use Rattle.ops_base.specs.declared.conditions.Part.TheVariants.{One, Group}
use Rattle.ops_base.specs.declared.conditions.Test.{Test}
use Rattle.ops_base.specs.declared.values.Pred.{Pred}
use Rattle.ops_base.specs.declared.values.Pred.TheVariants.{Eq, Ne, Lt, Le, Gt, Ge, SameKind}
use Rattle.ops_base.specs.declared.values.Value.TheVariants.{Symbol, Whole}
use Rattle.read_laws.specs.Texts.{Text, parts_of}

-- one condition, which is not negated, with one test of the first attribute
abbrev pub tested : Pred → Operand → Bool → List Part
tested pred operand binds = One (record { class = 0; negated = false; tests = record { field = 0; pred = pred; operand = operand; binds = binds } ∷ [] }) ∷ []

-- the operator compares with a number as this predicate does
abbrev pub Means : Text → Pred → Type 0
Means operator pred = parts_of (codes "(a ^x " ++ operator ++ codes " 7)") ≡ tested pred (Constant (Whole (pos 7))) false

-- a missing operator means =
abbrev pub OperatorsMean : Type 0
OperatorsMean =
    Means [] Eq × Means (codes "=") Eq × Means (codes "<>") Ne × Means (codes "<") Lt × Means (codes "<=") Le
    × Means (codes ">") Gt × Means (codes ">=") Ge × Means (codes "<=>") SameKind

abbrev pub bare : ℕ → Bool → Condition
bare class negated = record { class = class; negated = negated; tests = [] }

-- a test of a field against the first variable
abbrev pub at : ℕ → Bool → Test
at field binds = record { field = field; pred = Eq; operand = Variable 0; binds = binds }

-- A negative number, a disjunction, a symbol, an operator that is taken literally (the twelfth word of the text that
-- becomes a symbol), and a variable, which is bound at its first occurrence and compared at the second.
abbrev pub OperandsMean : Type 0
OperandsMean =
    (parts_of (codes "(a ^x -2)") ≡ tested Eq (Constant (Whole (negsuc 1))) false)
    × (parts_of (codes "(a ^x << 1 2 >>)") ≡ tested Eq (OneOf (Whole (pos 1) ∷ Whole (pos 2) ∷ [])) false)
    × (parts_of (codes "(a ^x nil)") ≡ tested Eq (Constant (Symbol (record { 0 = 0 }))) false)
    × (parts_of (codes "(a ^x // <)") ≡ tested Eq (Constant (Symbol (record { 0 = 12 }))) false)
    × (parts_of (codes "(a ^x <n> ^y <n>)") ≡ One (record { class = 0; negated = false; tests = at 0 true ∷ at 1 false ∷ [] }) ∷ [])

-- the first class and the second, a negated condition and a group
abbrev pub PartsMean : Type 0
PartsMean =
    (parts_of (codes "(a)") ≡ One (bare 0 false) ∷ [])
    × (parts_of (codes "(l)") ≡ One (bare 1 false) ∷ [])
    × (parts_of (codes "(a)-(l)") ≡ One (bare 0 false) ∷ One (bare 1 true) ∷ [])
    × (parts_of (codes "(a)-{(a)(l)}") ≡ One (bare 0 false) ∷ Group (bare 0 false ∷ bare 1 false ∷ []) ∷ [])
