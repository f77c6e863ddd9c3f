use Rattle.std.proofs.Common.{◌∷◌, ◌++◌, ◌∙◌, sym, drop, if◌then◌else◌}
use Rattle.std.proofs.lemmas.Result.{err_from_is_err_and}
use Rattle.ops_grammar.specs.Grammar.{goes, after, Items, ItemWord, ToItem, Next, is_left, value_for}
use Rattle.ops_forms.proofs.Ways.{items_first}
use Rattle.ops_forms.proofs.Walks.{fails_as_among, fails_under_among}
use Rattle.ops_rhs.specs.Taking.{seen, IsAround}
use Rattle.ops_rhs.proofs.right.Right.write.Goals as goal

pub returns-in_err-rest-clause-reads : goal.returns-in_err-rest-clause-reads
returns-in_err-rest-clause-reads c =
    let w = c.in_ok-word.word in
    let rest = drop c.in_ok-word.after c.args.words.now in
    let p = err_from_is_err_and c.from_residual-in_err-rest.result c.from_residual-in_err-rest.ensures.1 in
    rw (p.1, p.2) (fails_as_among (IsAround c.args.around.now) _ _
    (λ more ws s i. c.items.invariant.same more ws s i ∙ items_first (drop c.items.rest c.args.words.now) rest more w ws (seen s c.items.self) c.in_ok-word.ensures.0 (sym c.is_right.ensures ∙ c.if-is_right.false))
    c.in_err-rest.field-0.0
    (fails_under_among (IsAround c.args.around.now) (λ more ws s. after (goes (rest ++ more)) w (if is_left w.kind then Next (ItemWord ∷ ws) (seen s c.items.self) else value_for ToItem w ws (seen s c.items.self))) (λ ws. Items ∷ ws) c.in_err-rest.field-0.0 c.in_err-rest.ensures.acts))
