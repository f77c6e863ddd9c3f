use Rattle.std.proofs.Common.{◌∷◌, ◌++◌, ◌∙◌, drop}
use Rattle.std.proofs.lemmas.Result.{err_from_is_err_and}
use Rattle.ops_grammar.specs.Grammar.{Cells, cell, goes, after}
use Rattle.ops_forms.proofs.Ways.{cell_first}
use Rattle.ops_forms.proofs.Walks.{fails_as_among, fails_under_among, goes_as_among}
use Rattle.ops_rhs.specs.Taking.{seen, IsAround}
use Rattle.ops_rhs.proofs.right.Right.remove.Goals as goal

pub returns-clause-reads : goal.returns-clause-reads
returns-clause-reads c =
    let rest = drop c.in_ok-word.rest c.args.words.now in
    goes_as_among (IsAround c.args.around.now) _ (λ more ws s. goes (drop c.in_ok-rest.rest c.args.words.now ++ more) (Cells ∷ ws) (seen s c.cell.new.self))
    (λ more ws s i. cell_first (drop c.args.at c.args.words.now) rest more c.in_ok-word.word (Cells ∷ ws) (seen s c.args.self.now) c.in_ok-word.ensures.0 ∙ c.in_ok-rest.ensures.acts more (Cells ∷ ws) s i)
    c.args.words.now (λ s. seen s c.remove_cells.new.self) c.remove_cells.result c.remove_cells.ensures.reads

pub returns-in_err-rest-clause-reads : goal.returns-in_err-rest-clause-reads
returns-in_err-rest-clause-reads c =
    let w = c.in_ok-word.word in
    let rest = drop c.in_ok-word.rest c.args.words.now in
    let p = err_from_is_err_and c.from_residual-in_err-rest.result c.from_residual-in_err-rest.ensures.1 in
    rw (p.1, p.2) (fails_as_among (IsAround c.args.around.now) _ _
    (λ more ws s _. cell_first (drop c.args.at c.args.words.now) rest more w (Cells ∷ ws) (seen s c.args.self.now) c.in_ok-word.ensures.0)
    c.in_err-rest.field-0.0
    (fails_under_among (IsAround c.args.around.now) (λ more ws s. after (goes (rest ++ more)) w (cell w.kind w.name ws (seen s c.args.self.now))) (λ ws. Cells ∷ ws) c.in_err-rest.field-0.0 c.in_err-rest.ensures.acts))
