-- A loop over the steps of an expression comes to what the expression gives.
use Rattle.std.proofs.Common.{◌≡◌, ℕ, List, [], ◌∷◌, reverse, Ok, ap, sym, ◌∙◌}
use Rattle.std.proofs.lemmas.List.{reverse-reverse}
use Rattle.ops_base.specs.declared.expression.Step.{Step}
use Rattle.ops_base.specs.declared.values.Value.{Value}
use Rattle.ops_base.specs.declared.values.Value.TheVariants as value
use Rattle.ops_base.specs.Expression.{Formula, steps_of, run}
use Rattle.ops_base.specs.ExpressionCode.{run-steps_of_all}
use Rattle.ops_meaning.specs.Computing.{Computed, applied, computed}

-- what is left of the steps, from these operands on, leaves what the whole gives
abbrev pub ComesTo : (ℕ → Value) → Formula → List Step → List Computed → Type 0
ComesTo valued f steps operands = run (λ n. Ok (value.Whole n)) (λ v. Ok (valued v)) applied steps (reverse operands) ≡ computed valued f ∷ []

-- all steps, from none
pub comes_first : (valued : ℕ → Value) (f : Formula) (steps : List Step) → steps ≡ steps_of f → ComesTo valued f steps []
comes_first valued f steps is =
    ap (λ s. run (λ n. Ok (value.Whole n)) (λ v. Ok (valued v)) applied s []) is
    ∙ run-steps_of_all (λ n. Ok (value.Whole n)) (λ v. Ok (valued v)) applied f

-- no step is left: one operand is
pub comes_last : (valued : ℕ → Value) (f : Formula) (operands : List Computed) → ComesTo valued f [] operands → operands ≡ computed valued f ∷ []
comes_last valued f operands is = sym (reverse-reverse operands) ∙ ap reverse is
