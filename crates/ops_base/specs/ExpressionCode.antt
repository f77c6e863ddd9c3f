-- How a formula is stored, by which one is told from another: as its steps, from which a loop with a stack makes it again.
use Rattle.std.specs.Prelude.{◌≡◌, ℕ, zero, suc, ℤ, List, [], ◌∷◌, ◌++◌, ◌⊎◌, refl}
use Rattle.std.specs.Coded.{Coded, code_by, coded_ℕ, coded_ℤ, coded_list, coded⊎}
use Rattle.std.proofs.Common.{inl, inr, ap, ◌∙◌, sym, append_assoc}
use Rattle.std.proofs.lemmas.List.{append-nil}
use Rattle.ops_base.specs.declared.expression.Op.{Op}
use Rattle.ops_base.specs.declared.expression.Op.TheVariants.{Add, Sub, Mul, Div, Rem}
use Rattle.ops_base.specs.declared.expression.Step.{Step}
use Rattle.ops_base.specs.declared.expression.Step.TheVariants.{Number, Variable, Apply}
use Rattle.ops_base.specs.Expression.{Formula, number, variable, apply, steps_of, fold_formula, run, top, formula_from}

module _ {R : Type 0} (num : ℤ → R) (var : ℕ → R) (app : Op → R → R → R) where
  -- the steps of a formula put its value on top of the stack
  pub run-steps_of : (f : Formula) (steps : List Step) (stack : List R) → run num var app (steps_of f ++ steps) stack ≡ run num var app steps (fold_formula num var app f ∷ stack)
  run-steps_of (number n) steps stack = refl
  run-steps_of (variable v) steps stack = refl
  run-steps_of (apply op left right) steps stack =
      ap (λ s. run num var app s stack) (append_assoc (steps_of right) (steps_of left ++ Apply op ∷ []) steps)
      ∙ run-steps_of right ((steps_of left ++ Apply op ∷ []) ++ steps) stack
      ∙ ap (λ s. run num var app s (fold_formula num var app right ∷ stack)) (append_assoc (steps_of left) (Apply op ∷ []) steps)
      ∙ run-steps_of left (Apply op ∷ steps) (fold_formula num var app right ∷ stack)

  -- the steps of a formula alone leave its value alone
  pub run-steps_of_all : (f : Formula) → run num var app (steps_of f) [] ≡ fold_formula num var app f ∷ []
  run-steps_of_all f = ap (λ s. run num var app s []) (sym (append-nil (steps_of f))) ∙ run-steps_of f [] []

-- a tree is built from its own parts
pub fold_formula-itself : (f : Formula) → fold_formula number variable apply f ≡ f
fold_formula-itself (number n) = refl
fold_formula-itself (variable v) = refl
fold_formula-itself (apply op left right) =
    ap (λ l. apply op l (fold_formula number variable apply right)) (fold_formula-itself left)
    ∙ ap (λ r. apply op left r) (fold_formula-itself right)

-- the steps of a formula build it
pub formula_from-steps_of : (f : Formula) → formula_from (steps_of f) ≡ f
formula_from-steps_of f = ap top (run-steps_of_all number variable apply f) ∙ fold_formula-itself f

abbrev number_of : Op → ℕ
number_of Add = 0
number_of Sub = 1
number_of Mul = 2
number_of Div = 3
number_of Rem = 4

abbrev op_from : ℕ → Op
op_from zero = Add
op_from (suc zero) = Sub
op_from (suc (suc zero)) = Mul
op_from (suc (suc (suc zero))) = Div
op_from (suc (suc (suc (suc n)))) = Rem

pub op_from-number_of : (op : Op) → op_from (number_of op) ≡ op
op_from-number_of Add = refl
op_from-number_of Sub = refl
op_from-number_of Mul = refl
op_from-number_of Div = refl
op_from-number_of Rem = refl

abbrev op_code : Coded Op
op_code = code_by ℕ coded_ℕ number_of op_from op_from-number_of

abbrev parts : Step → ℤ ⊎ (ℕ ⊎ Op)
parts (Number n) = inl n
parts (Variable v) = inr (inl v)
parts (Apply op) = inr (inr op)

abbrev step_from : ℤ ⊎ (ℕ ⊎ Op) → Step
step_from (inl n) = Number n
step_from (inr (inl v)) = Variable v
step_from (inr (inr op)) = Apply op

pub step_from-parts : (s : Step) → step_from (parts s) ≡ s
step_from-parts (Number n) = refl
step_from-parts (Variable v) = refl
step_from-parts (Apply op) = refl

abbrev step_code : Coded Step
step_code = code_by (ℤ ⊎ (ℕ ⊎ Op)) (coded⊎ coded_ℤ (coded⊎ coded_ℕ op_code)) parts step_from step_from-parts

abbrev pub formula_code : Coded Formula
formula_code = code_by (List Step) (coded_list step_code) steps_of formula_from formula_from-steps_of
