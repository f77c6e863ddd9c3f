use Rattle.std.proofs.Common.{◌∷◌, ◌++◌, ◌∙◌, drop}
use Rattle.std.proofs.lemmas.Result.{err_from_is_err_and}
use Rattle.ops_grammar.specs.Grammar.{ClosesBrace, element_name, goes, after}
use Rattle.ops_forms.proofs.Ways.{element_first}
use Rattle.ops_lhs.specs.Taking.{seen}
use Rattle.ops_forms.proofs.Walks.{fails_as, fails_under}
use Rattle.ops_forms.proofs.Walks.{goes_as}
use Rattle.ops_lhs.proofs.left.Left.name_and_brace.Goals as goal

pub returns-clause-reads : goal.returns-clause-reads
returns-clause-reads c =
    let rest = drop c.in_ok-word.rest c.args.words.now in
    goes_as _ (λ more ws s. goes (drop c.in_ok-rest.rest c.args.words.now ++ more) (ClosesBrace ∷ ws) (seen s c.element_name.new.self))
    (λ more ws s. element_first (drop c.args.at c.args.words.now) rest more c.in_ok-word.word (ClosesBrace ∷ ws) (seen s c.args.self.now) c.in_ok-word.ensures.0 ∙ c.in_ok-rest.ensures.acts more (ClosesBrace ∷ ws) s)
    c.args.words.now (λ s. seen s c.closing_brace.new.self) c.closing_brace.result c.closing_brace.ensures.reads

pub returns-in_err-rest-clause-reads : goal.returns-in_err-rest-clause-reads
returns-in_err-rest-clause-reads c =
    let rest = drop c.in_ok-word.rest c.args.words.now in
    let p = err_from_is_err_and c.from_residual-in_err-rest.result c.from_residual-in_err-rest.ensures.1 in
    rw (p.1, p.2) (fails_as _ _
    (λ more ws s. element_first (drop c.args.at c.args.words.now) rest more c.in_ok-word.word (ClosesBrace ∷ ws) (seen s c.args.self.now) c.in_ok-word.ensures.0)
    c.in_err-rest.field-0.0
    (fails_under (λ more ws s. after (goes (rest ++ more)) c.in_ok-word.word (element_name c.in_ok-word.word ws (seen s c.args.self.now))) (λ ws. ClosesBrace ∷ ws) c.in_err-rest.field-0.0 c.in_err-rest.ensures.acts))
