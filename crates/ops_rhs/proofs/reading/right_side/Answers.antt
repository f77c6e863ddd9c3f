use Rattle.std.proofs.Common.{◌++◌, ◌∙◌, ap, refl}
use Rattle.ops_rhs.proofs.Borders.{right_side_is}
use Rattle.ops_rhs.proofs.reading.right_side.Goals as goal

pub returns-clause-ok : goal.returns-clause-ok
returns-clause-ok c =
    right_side_is c.args.classes.now c.args.sight c.args.words.now _ c.new-right.result c.read_actions.new.self c.in_ok-place.place c.in_ok-with_further.field-0 c.new-none.ensures refl c.new-right.ensures refl c.as_slice.ensures c.as_slice-2.ensures c.in_ok-place.ensures.cut c.in_ok-place.ensures.closing
    (c.in_ok-with_further.ensures ∙ ap (λ xs. c.args.sight.cells ++ xs) c.deref.ensures.value)
