use Rattle.std.proofs.Common.{◌∷◌, ◌++◌, ◌∙◌, sym, drop}
use Rattle.std.proofs.lemmas.Result.{err_from_is_err_and}
use Rattle.ops_grammar.specs.Grammar.{goes, after, Cells, cell}
use Rattle.ops_forms.proofs.Ways.{cells_first}
use Rattle.ops_forms.proofs.Walks.{fails_as_among, fails_under_among}
use Rattle.ops_rhs.specs.Taking.{seen, IsAround}
use Rattle.ops_rhs.proofs.right.Right.remove_cells.Goals as goal

pub returns-in_err-rest-clause-reads : goal.returns-in_err-rest-clause-reads
returns-in_err-rest-clause-reads c =
    let w = c.in_ok-word.word in
    let rest = drop c.in_ok-word.after c.args.words.now in
    let p = err_from_is_err_and c.from_residual-in_err-rest.result c.from_residual-in_err-rest.ensures.1 in
    rw (p.1, p.2) (fails_as_among (IsAround c.args.around.now) _ _
    (λ more ws s i. c.cells.invariant.same more ws s i ∙ cells_first (drop c.cells.rest c.args.words.now) rest more w ws (seen s c.cells.self) c.in_ok-word.ensures.0 (sym c.is_right.ensures ∙ c.if-is_right.false))
    c.in_err-rest.field-0.0
    (fails_under_among (IsAround c.args.around.now) (λ more ws s. after (goes (rest ++ more)) w (cell w.kind w.name ws (seen s c.cells.self))) (λ ws. Cells ∷ ws) c.in_err-rest.field-0.0 c.in_err-rest.ensures.acts))
