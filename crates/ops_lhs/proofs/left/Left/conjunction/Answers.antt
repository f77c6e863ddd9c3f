use Rattle.std.proofs.Common.{◌∷◌, ◌++◌, ◌∙◌, sym, drop}
use Rattle.std.proofs.lemmas.Result.{err_from_is_err_and}
use Rattle.ops_grammar.specs.Grammar.{goes, test, after, Tests}
use Rattle.ops_forms.proofs.Ways.{tests_first}
use Rattle.ops_lhs.specs.Taking.{seen, IsAround}
use Rattle.ops_forms.proofs.Walks.{fails_as_among, fails_under_among}
use Rattle.ops_lhs.proofs.left.Left.conjunction.Goals as goal

pub returns-in_err-rest-clause-reads : goal.returns-in_err-rest-clause-reads
returns-in_err-rest-clause-reads c =
    let w = c.in_ok-word.word in
    let rest = drop c.in_ok-word.after c.args.words.now in
    let p = err_from_is_err_and c.from_residual-in_err-rest.result c.from_residual-in_err-rest.ensures.1 in
    rw (p.1, p.2) (fails_as_among (IsAround c.args.around.now) _ _
    (λ more ws s i. c.tests.invariant.same more ws s i ∙ tests_first c.args.field (drop c.tests.rest c.args.words.now) rest more w ws (seen s c.tests.self) c.in_ok-word.ensures.0 (sym c.is_right_brace.ensures ∙ c.if-is_right_brace.false))
    c.in_err-rest.field-0.0
    (fails_under_among (IsAround c.args.around.now) (λ more ws s. after (goes (rest ++ more)) w (test c.args.field w ws (seen s c.tests.self))) (λ ws. Tests c.args.field ∷ ws) c.in_err-rest.field-0.0 c.in_err-rest.ensures.acts))
