-- `==` on steps is equality.
use denote.Enum.Bare.{same_true, true_same}
use Rattle.std.proofs.Common.{◌≡◌, ap}
use Rattle.std.specs.Bool.{Decides}
use Rattle.std.proofs.lemmas.Bool.Decides.{Decides-eqb, Decides-int_eq}
use Rattle.ops_base.specs.declared.expression.Step.{Step}
use Rattle.ops_base.specs.declared.expression.Step.TheVariants.{Number, Variable, Apply}
use Rattle.ops_base.specs.contracts.expression.Op.{the_type}
use Rattle.ops_base.specs.contracts.expression.StepPartialEq.TheImpl.{eq-value}

pub Decides-step_eq : (a b : Step) → Decides (eq-value.it a b) (a ≡ b)
Decides-step_eq (Number a) (Number b) = (λ e. ap Number ((Decides-int_eq a b).0 e), λ e. (Decides-int_eq a b).1 (cc))
Decides-step_eq (Number a) (Variable b) = (λ e. cc, λ e. cc)
Decides-step_eq (Number a) (Apply b) = (λ e. cc, λ e. cc)
Decides-step_eq (Variable a) (Number b) = (λ e. cc, λ e. cc)
Decides-step_eq (Variable a) (Variable b) = (λ e. ap Variable ((Decides-eqb a b).0 e), λ e. (Decides-eqb a b).1 (cc))
Decides-step_eq (Variable a) (Apply b) = (λ e. cc, λ e. cc)
Decides-step_eq (Apply a) (Number b) = (λ e. cc, λ e. cc)
Decides-step_eq (Apply a) (Variable b) = (λ e. cc, λ e. cc)
Decides-step_eq (Apply a) (Apply b) = (λ e. ap Apply (same_true the_type tt a b e), λ e. true_same the_type a b (cc))
