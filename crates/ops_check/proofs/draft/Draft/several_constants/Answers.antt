use Rattle.std.proofs.Common.{◌∷◌, ◌++◌, ◌∙◌, sym, ap, ◌+◌, length, nat_lt, arith}
use Rattle.std.proofs.lemmas.Result.{err_from_is_err_and}
use Rattle.ops_base.specs.Valid.{most_fields}
use Rattle.ops_grammar.specs.Grammar.{goes, after, InFixed, Several, within, value_for, ToConstants}
use Rattle.ops_check.specs.Walks.{view}
use Rattle.ops_forms.proofs.Ways.{fails_as, fails_under, several_first}
use Rattle.ops_check.proofs.draft.Draft.several_constants.Goals as goal

pub returns-in_err-rest-clause-reads : goal.returns-in_err-rest-clause-reads
returns-in_err-rest-clause-reads c =
    let w = c.in_ok-word.word in
    let s = view c.constants.self in
    let p = err_from_is_err_and c.from_residual-in_err-rest.result c.from_residual-in_err-rest.ensures.1 in
    rw (p.1, p.2) (fails_as _ _
    (λ more ws. c.constants.invariant.0 more ws ∙ several_first InFixed c.args.field c.constants.rest.now c.in_ok-word.after.now more w ws s c.in_ok-word.ensures (sym c.ends_values.ensures ∙ c.if-ends_values.false))
    c.in_err-rest.field-0.0
    (fails_under (λ more ws. after (goes (c.in_ok-word.after.now ++ more)) w (within (nat_lt (c.args.field + length s.constants) most_fields) (value_for ToConstants w ws s))) (λ ws. Several InFixed (c.args.field) ∷ ws) c.in_err-rest.field-0.0 c.in_err-rest.ensures.acts))

pub constants-preserved : goal.constants-preserved
constants-preserved c =
    let w = c.in_ok-word.word in
    let s = view c.constants.self in
    let long = ap length c.in_ok-word.ensures in (
      λ more ws.
          c.constants.invariant.0 more ws
          ∙ several_first InFixed c.args.field c.constants.rest.now c.in_ok-word.after.now more w ws s c.in_ok-word.ensures (sym c.ends_values.ensures ∙ c.if-ends_values.false)
          ∙ c.in_ok-rest.ensures.acts more (Several InFixed (c.args.field) ∷ ws),
      omega (arith, long, c.in_ok-rest.ensures.within, c.constants.invariant.1),
    )
