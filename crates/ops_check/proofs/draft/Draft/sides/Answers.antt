use Rattle.std.proofs.Common.{◌∷◌, ◌++◌, [], ◌∙◌, ap, refl, subst, List, None, false}
use Rattle.std.proofs.lemmas.Result.{err_from_is_err_and}
use Rattle.ops_grammar.specs.Grammar.{goes, FirstPattern, Patterns, Actions}
use Rattle.ops_lhs.specs.LeftSides.{left_way, left_read, ReadsLeft, RefusesLeft}
use Rattle.ops_grammar.specs.declared.words.Named.{Named}
use Rattle.ops_lhs.proofs.Borders.{left_goes}
use Rattle.ops_forms.proofs.Ways.{fails_as, fails_under, goes_as}
use Rattle.ops_check.specs.Walks.{view}
use Rattle.ops_check.proofs.draft.Draft.sides.Goals as goal

pub returns-clause-reads : goal.returns-clause-reads
returns-clause-reads c =
    let s = view c.args.self.now in
    let left = c.in_ok-left.left in
    goes_as _ (λ more ws. goes (c.in_ok-left.rest.now ++ more) (Actions false ∷ ws) (left_read None s left.conditions.items left.values left.elements left.variables left.counted left.holes.items))
    (λ more ws.
    ap (goes (c.args.words.now ++ more) (FirstPattern ∷ Patterns ∷ Actions false ∷ ws)) c.requires.begun
    ∙ left_goes s.classes [] c.args.words.now c.in_ok-left.rest.now left.conditions.items left.values left.elements left.variables left.counted left.holes.items (subst (λ (xs : List Named). ReadsLeft s.classes xs c.args.words.now c.in_ok-left.rest.now left.conditions.items left.values left.elements left.variables left.counted left.holes.items) c.new-none.ensures c.in_ok-left.ensures.ok) None s refl refl more (Actions false ∷ ws))
    (view c.actions.new.self) c.actions.result c.actions.ensures.reads

pub returns-in_err-left-clause-reads : goal.returns-in_err-left-clause-reads
returns-in_err-left-clause-reads c =
    let s = view c.args.self.now in
    let p = err_from_is_err_and c.from_residual.result c.from_residual.ensures.1 in
    rw (p.1, p.2) (fails_as _ _
    (λ more ws. ap (goes (c.args.words.now ++ more) (FirstPattern ∷ Patterns ∷ Actions false ∷ ws)) c.requires.begun)
    c.in_err-left.field-0.0
    (fails_under (left_way c.args.words.now None s) (λ ws. Actions false ∷ ws) c.in_err-left.field-0.0 (subst (λ (xs : List Named). RefusesLeft s.classes xs c.args.words.now c.in_err-left.field-0.0) c.new-none.ensures c.in_err-left.ensures.err None s refl refl)))
