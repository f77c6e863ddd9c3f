use Rattle.std.proofs.Common.{ap, ◌∙◌, sym}
use Rattle.std.proofs.lemmas.Slice.Eq.{slice_eq-Decides}
use Rattle.ops_base.specs.Expression.{steps_of, formula_from}
use Rattle.ops_base.proofs.Steps.{Decides-step_eq}
use Rattle.ops_base.proofs.expression.Expr.equals.Goals as goal

pub returns : goal.returns
returns c =
    let same = slice_eq-Decides Decides-step_eq _ _ c.eq.result c.eq.ensures in
    let mine = c.as_slice.ensures.value in
    let other = c.as_slice-2.ensures.value in (
      λ is. sym c.self.view_is ∙ ap formula_from (sym mine ∙ same.0 is ∙ other) ∙ c.other.view_is,
      λ e. same.1 (mine ∙ sym c.self.invariant ∙ ap steps_of (c.self.view_is ∙ e ∙ sym c.other.view_is) ∙ c.other.invariant ∙ sym other),
    )
