-- A line more.
use Rattle.std.proofs.Common.{List, [], ◌∷◌, ◌++◌, ap, ◌∙◌, sym, map}
use Rattle.std.proofs.lemmas.List.{map-append}
use Rattle.token_line.specs.declared.line.Line.{Line}
use Rattle.steal_engine.specs.Opened.{line_in}
use Rattle.steal_engine.proofs.rows.lines_of.Goals as goal

pub loop-row-preserved : goal.loop-row-preserved
loop-row-preserved c =
    let ys = c.loop-row.yielded in
    let x = c.in-Some.row in
    c.in_ok-push.ensures.items ∙ (ap (λ (l : List Line). l ++ c.into_inner-cell.result.line ∷ []) c.loop-row.invariant
    ∙ (ap (λ (b : _). map line_in ys ++ b.line ∷ []) c.into_inner-cell.ensures ∙ sym (map-append line_in ys (x ∷ []))))
