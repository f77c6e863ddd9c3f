use Rattle.std.proofs.Common.{◌∷◌, ◌++◌, ◌∙◌}
use Rattle.std.proofs.lemmas.Result.{err_from_is_err_and}
use Rattle.ops_grammar.specs.Grammar.{VectorNames, vector_name, goes, after}
use Rattle.ops_check.specs.Walks.{view}
use Rattle.ops_forms.proofs.Ways.{fails_as, fails_under, goes_as, vector_first}
use Rattle.ops_check.proofs.draft.Draft.vector_declaration.Goals as goal

pub returns-clause-reads : goal.returns-clause-reads
returns-clause-reads c =
    goes_as _ (λ more ws. goes (c.in_ok-rest.rest.now ++ more) (VectorNames ∷ ws) (view c.vector_name.new.self))
    (λ more ws. vector_first c.args.words.now c.in_ok-word.rest.now more c.in_ok-word.word (VectorNames ∷ ws) (view c.args.self.now) c.in_ok-word.ensures ∙ c.in_ok-rest.ensures.acts more (VectorNames ∷ ws))
    (view c.vector_names.new.self) c.vector_names.result c.vector_names.ensures.reads

pub returns-in_err-rest-clause-reads : goal.returns-in_err-rest-clause-reads
returns-in_err-rest-clause-reads c =
    let p = err_from_is_err_and c.from_residual-in_err-rest.result c.from_residual-in_err-rest.ensures.1 in
    rw (p.1, p.2) (fails_as _ _
    (λ more ws. vector_first c.args.words.now c.in_ok-word.rest.now more c.in_ok-word.word (VectorNames ∷ ws) (view c.args.self.now) c.in_ok-word.ensures)
    c.in_err-rest.field-0.0
    (fails_under (λ more ws. after (goes (c.in_ok-word.rest.now ++ more)) c.in_ok-word.word (vector_name c.in_ok-word.word ws (view c.args.self.now))) (λ ws. VectorNames ∷ ws) c.in_err-rest.field-0.0 c.in_err-rest.ensures.acts))
