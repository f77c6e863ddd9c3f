use Rattle.std.proofs.Common.{◌∷◌, ◌++◌, ◌∙◌, sym}
use Rattle.std.proofs.lemmas.Result.{err_from_is_err_and}
use Rattle.ops_grammar.specs.Grammar.{goes, vector_name, after, VectorNames}
use Rattle.ops_check.specs.Walks.{view}
use Rattle.ops_forms.proofs.Ways.{fails_as, fails_under, vectors_first}
use Rattle.ops_check.proofs.draft.Draft.vector_names.Goals as goal

pub returns-in_err-rest-clause-reads : goal.returns-in_err-rest-clause-reads
returns-in_err-rest-clause-reads c =
    let p = err_from_is_err_and c.from_residual-in_err-rest.result c.from_residual-in_err-rest.ensures.1 in
    rw (p.1, p.2) (fails_as _ _
    (λ more ws. c.vectors.invariant.0 more ws ∙ vectors_first c.vectors.rest.now c.in_ok-word.after.now more c.in_ok-word.word ws (view c.vectors.self) c.in_ok-word.ensures (sym c.is_right.ensures ∙ c.if-is_right.false))
    c.in_err-rest.field-0.0 (fails_under (λ more ws. after (goes (c.in_ok-word.after.now ++ more)) c.in_ok-word.word (vector_name c.in_ok-word.word ws (view c.vectors.self))) (λ ws. VectorNames ∷ ws) c.in_err-rest.field-0.0 c.in_err-rest.ensures.acts))
