-- What a loop over the steps of a formula may cite.
use Rattle.std.proofs.Common.{◌≡◌, ℕ, Bool, true, false, List, [], ◌∷◌, ◌++◌, refl, ap, ◌∙◌, sym, append_assoc}
use Rattle.std.specs.Prelude.{◌&&◌}
use Rattle.std.specs.List.{list_all}
use Rattle.std.proofs.lemmas.List.Folds.{list_all-append}
use Rattle.ops_base.specs.declared.expression.Op.{Op}
use Rattle.ops_base.specs.declared.expression.Step.{Step}
use Rattle.ops_base.specs.declared.expression.Step.TheVariants.{Apply}
use Rattle.ops_base.specs.Expression.{Formula, number, variable, apply, steps_of, all_variables, step_passes, formula_from}
pub use Rattle.ops_base.specs.ExpressionCode.{run-steps_of, run-steps_of_all, formula_from-steps_of}

and_true : (b : Bool) → (b && true) ≡ b
and_true true = refl
and_true false = refl

-- each variable passes where each step does
pub list_all-steps_of : (passes : ℕ → Bool) (f : Formula) → list_all (step_passes passes) (steps_of f) ≡ all_variables passes f
list_all-steps_of passes (number n) = refl
list_all-steps_of passes (variable v) = and_true (passes v)
list_all-steps_of passes (apply op left right) =
    list_all-append (step_passes passes) (steps_of right) (steps_of left ++ Apply op ∷ [])
    ∙ ap (λ b. b && list_all (step_passes passes) (steps_of left ++ Apply op ∷ [])) (list_all-steps_of passes right)
    ∙ ap (λ b. all_variables passes right && b) (list_all-append (step_passes passes) (steps_of left) (Apply op ∷ []) ∙ and_true _ ∙ list_all-steps_of passes left)

-- the steps of two operands and an operation are those of the whole
pub steps_of-joined : (op : Op) (ls rs : List Step) → steps_of (formula_from ls) ≡ ls → steps_of (formula_from rs) ≡ rs → steps_of (apply op (formula_from ls) (formula_from rs)) ≡ (rs ++ ls) ++ Apply op ∷ []
steps_of-joined op ls rs left right =
    ap (λ r. r ++ (steps_of (formula_from ls) ++ Apply op ∷ [])) right
    ∙ ap (λ l. rs ++ (l ++ Apply op ∷ [])) left
    ∙ sym (append_assoc rs ls (Apply op ∷ []))

-- and build the whole
pub formula_from-joined : (op : Op) (ls rs steps : List Step) → steps_of (formula_from ls) ≡ ls → steps_of (formula_from rs) ≡ rs → steps ≡ (rs ++ ls) ++ Apply op ∷ [] → formula_from steps ≡ apply op (formula_from ls) (formula_from rs)
formula_from-joined op ls rs steps left right is =
    ap formula_from (is ∙ sym (steps_of-joined op ls rs left right))
    ∙ formula_from-steps_of (apply op (formula_from ls) (formula_from rs))
