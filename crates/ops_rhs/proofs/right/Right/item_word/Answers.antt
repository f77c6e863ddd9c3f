use Rattle.std.proofs.Common.{◌∙◌, ◌++◌, ap, drop}
use Rattle.ops_grammar.specs.Grammar.{after, goes}
use Rattle.ops_forms.proofs.Walks.{goes_as_among}
use Rattle.ops_rhs.specs.Taking.{seen, IsAround}
use Rattle.ops_rhs.proofs.Ways.{item_first, item_otherwise}
use Rattle.ops_rhs.proofs.right.Right.item_word.Goals as goal

pub returns-in_default-clause-reads : goal.returns-in_default-clause-reads
returns-in_default-clause-reads c =
    let w = c.in_ok-word.word in
    let rest = drop c.in_ok-word.rest c.args.words.now in
    goes_as_among (IsAround c.args.around.now) _ _
    (λ more ws s _. item_first (drop c.args.at c.args.words.now) rest more w ws (seen s c.args.self.now) c.in_ok-word.ensures.0
    ∙ ap (after (goes (rest ++ more)) w) (item_otherwise w.keyword ws (seen s c.args.self.now) c.in_default.not-Crlf c.in_default.not-Tabto c.in_default.not-Rjust))
    c.args.words.now (λ s. seen s c.function_from.new.self) c.function_from.result c.function_from.ensures.acts
