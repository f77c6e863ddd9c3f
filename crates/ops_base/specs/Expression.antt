-- What an expression says, as a tree, and the steps that it is stored as.
use Rattle.std.specs.Prelude.{Bool, true, ◌&&◌, ℕ, ℤ, pos, List, [], ◌∷◌, ◌++◌}
use Rattle.ops_base.specs.declared.expression.Op.{Op}
use Rattle.ops_base.specs.declared.expression.Step.{Step}
use Rattle.ops_base.specs.declared.expression.Step.TheVariants.{Number, Variable, Apply}

-- a number, a variable, or an operation on what two formulas give
pub data Formula : Type 0 where
  number : (n : ℤ) → Formula
  variable : (v : ℕ) → Formula
  apply : (op : Op) → (left right : Formula) → Formula

-- the steps of the right operand, those of the left one, and the operation
abbrev pub steps_of : Formula → List Step
steps_of (number n) = Number n ∷ []
steps_of (variable v) = Variable v ∷ []
steps_of (apply op left right) = steps_of right ++ (steps_of left ++ Apply op ∷ [])

-- whether each variable in it passes the test
abbrev pub all_variables : (ℕ → Bool) → Formula → Bool
all_variables passes (number n) = true
all_variables passes (variable v) = passes v
all_variables passes (apply op left right) = all_variables passes right && all_variables passes left

-- whether a step passes, as each does that is no variable
abbrev pub step_passes : (ℕ → Bool) → Step → Bool
step_passes passes (Number n) = true
step_passes passes (Variable v) = passes v
step_passes passes (Apply op) = true

-- what a tree gives, from what numbers, variables and operations give
abbrev pub fold_formula : {R : Type 0} → (ℤ → R) → (ℕ → R) → (Op → R → R → R) → Formula → R
fold_formula num var app (number n) = num n
fold_formula num var app (variable v) = var v
fold_formula num var app (apply op left right) = app op (fold_formula num var app left) (fold_formula num var app right)

-- an operation on the two on top of a stack, the left operand above the right one
abbrev pub operate : {R : Type 0} → (R → R → R) → List R → List R
operate f (left ∷ (right ∷ stack)) = f left right ∷ stack
operate f stack = stack

-- what one step makes of a stack
abbrev pub after_step : {R : Type 0} → (ℤ → R) → (ℕ → R) → (Op → R → R → R) → Step → List R → List R
after_step num var app (Number n) stack = num n ∷ stack
after_step num var app (Variable v) stack = var v ∷ stack
after_step num var app (Apply op) stack = operate (app op) stack

-- what the steps make of a stack, one after another
abbrev pub run : {R : Type 0} → (ℤ → R) → (ℕ → R) → (Op → R → R → R) → List Step → List R → List R
run num var app [] stack = stack
run num var app (s ∷ steps) stack = run num var app steps (after_step num var app s stack)

-- the formula on top of a stack
abbrev pub top : List Formula → Formula
top [] = number (pos 0)
top (f ∷ stack) = f

-- the formula whose steps these are
abbrev pub formula_from : List Step → Formula
formula_from steps = top (run number variable apply steps [])
