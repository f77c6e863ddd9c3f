use Rattle.std.proofs.Common.{◌≡◌, ◌∷◌, ◌++◌, ◌∙◌, ap, take, drop, rules}
use Rattle.std.proofs.lemmas.Result.{err_from_is_err_and}
use Rattle.ops_grammar.specs.Grammar.{FirstPattern, Patterns, State, goes}
use Rattle.ops_forms.specs.PlaceWalks.{goes_onward}
use Rattle.ops_forms.proofs.Walks.{fails_as_among}
use Rattle.ops_lhs.specs.LeftSides.{left_started}
use Rattle.ops_lhs.specs.Taking.{seen, IsAround}
use Rattle.ops_lhs.proofs.reading.left_from.Goals as goal

pub returns-clause-reads : goal.returns-clause-reads
returns-clause-reads c = λ more ws s i.
    let begun : left_started s ≡ seen s c.new-left.result = search rules in
    ap (λ (t : State). goes (drop c.args.at c.args.words.now ++ more) (FirstPattern ∷ Patterns ∷ ws) t) begun
    ∙ c.in_ok-next.ensures.reads more ws s i

pub returns-clause-cut : goal.returns-clause-cut
returns-clause-cut c = λ n le on ws s i.
    let begun : left_started s ≡ seen s c.new-left.result = search rules in
    ap (λ (t : State). goes_onward on (drop c.args.at (take n c.args.words.now)) (FirstPattern ∷ Patterns ∷ ws) t) begun
    ∙ c.in_ok-next.ensures.cut n le on ws s i

pub returns-in_err-next-clause-reads : goal.returns-in_err-next-clause-reads
returns-in_err-next-clause-reads c =
    let p = err_from_is_err_and c.from_residual.result c.from_residual.ensures.1 in
    rw (p.1, p.2) (fails_as_among (IsAround c.args.around.now) _ (λ more ws s. goes (drop c.args.at c.args.words.now ++ more) (FirstPattern ∷ Patterns ∷ ws) (seen s c.new-left.result))
    (λ more ws s i.
    let begun : left_started s ≡ seen s c.new-left.result = search rules in
    ap (λ (t : State). goes (drop c.args.at c.args.words.now ++ more) (FirstPattern ∷ Patterns ∷ ws) t) begun)
    c.in_err-next.field-0.0 c.in_err-next.ensures.reads)
