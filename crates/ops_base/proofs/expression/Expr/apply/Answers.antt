use Rattle.std.proofs.Common.{[], ◌∷◌, ◌++◌, ap, ◌∙◌, sym}
use Rattle.ops_base.specs.declared.expression.Step.TheVariants.{Apply}
use Rattle.ops_base.specs.Expression.{steps_of}
use Rattle.ops_base.proofs.Formulas.{steps_of-joined, formula_from-joined}
use Rattle.ops_base.proofs.expression.Expr.apply.Goals as goal

pub invariant_of-result : goal.invariant_of-result
invariant_of-result c =
    let grown = c.in_ok-extend_from_slice.ensures.items ∙ ap (λ ls. c.right.inside.steps.items ++ ls) c.as_slice.ensures.value in
    let whole = c.in_ok-push.ensures.items ∙ ap (λ ws. ws ++ Apply c.args.op ∷ []) grown in
    ap steps_of (formula_from-joined c.args.op _ _ _ c.left.invariant c.right.invariant whole)
    ∙ steps_of-joined c.args.op _ _ c.left.invariant c.right.invariant
    ∙ sym whole

pub returns : goal.returns
returns c =
    let grown = c.in_ok-extend_from_slice.ensures.items ∙ ap (λ ls. c.right.inside.steps.items ++ ls) c.as_slice.ensures.value in
    let whole = c.in_ok-push.ensures.items ∙ ap (λ ws. ws ++ Apply c.args.op ∷ []) grown in
    rw (← c.left.view_is, ← c.right.view_is)
    (formula_from-joined c.args.op _ _ _ c.left.invariant c.right.invariant whole)
