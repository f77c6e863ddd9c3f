use Rattle.std.proofs.Common.{◌≡◌, ◌∙◌, ◌∷◌, ◌++◌, [], ℕ, take, drop, Some, Ok, sym, ap, subst}
use Rattle.std.proofs.lemmas.Result.{err_from_is_err_and}
use Rattle.ops_base.specs.declared.actions.Term.TheVariants as term
use Rattle.ops_grammar.specs.Grammar.{State, Wanted, ExpressionUnit, ExpressionRest, goes, function_depth, no_formula}
use Rattle.ops_forms.specs.PlaceWalks.{Fails, GoesOn, CutGoesOn, goes_onward}
use Rattle.ops_rhs.specs.Taking.{seen, target_of}
use Rattle.ops_rhs.proofs.Operands.{added}
use Rattle.ops_rhs.proofs.right.Right.compute.Goals as goal

pub returns-clause-reads : goal.returns-clause-reads
returns-clause-reads c =
    let words = c.args.words.now in
    let old = c.args.self.now in
    let into = target_of c.args.target in
    subst (λ (d : ℕ). GoesOn (λ more ws s. goes (drop c.args.at words ++ more) (ExpressionUnit d ∷ ExpressionRest d [] (Some into) ∷ ws) (seen s old)) words (λ s. seen s c.add.new.self) (Ok c.in_ok-formula.rest)) c.function_depth.ensures
    (λ more ws s.
    c.in_ok-formula.ensures.reads (Some c.args.target) no_formula more ws s
    ∙ ap (λ (x : State). goes (drop c.in_ok-formula.rest words ++ more) ws x) (sym (added c.args.target old c.add.new.self (term.Compute c.in_ok-formula.formula) c.in_ok-add.ensures s)))

pub returns-clause-cut : goal.returns-clause-cut
returns-clause-cut c =
    let words = c.args.words.now in
    let old = c.args.self.now in
    let into = target_of c.args.target in
    subst (λ (d : ℕ). CutGoesOn (λ cut on ws s. goes_onward on (drop c.args.at cut) (ExpressionUnit d ∷ ExpressionRest d [] (Some into) ∷ ws) (seen s old)) words (λ s. seen s c.add.new.self) (Ok c.in_ok-formula.rest)) c.function_depth.ensures
    (λ n lt on ws s.
    c.in_ok-formula.ensures.cut n lt (Some c.args.target) no_formula on ws s
    ∙ ap (λ (x : State). goes_onward on (drop c.in_ok-formula.rest (take n words)) ws x) (sym (added c.args.target old c.add.new.self (term.Compute c.in_ok-formula.formula) c.in_ok-add.ensures s)))

pub returns-in_err-formula-clause-reads : goal.returns-in_err-formula-clause-reads
returns-in_err-formula-clause-reads c =
    let words = c.args.words.now in
    let old = c.args.self.now in
    let into = target_of c.args.target in
    let p = err_from_is_err_and c.from_residual.result c.from_residual.ensures.1 in
    rw (p.1, p.2) (subst (λ (d : ℕ). Fails (λ more ws s. goes (drop c.args.at words ++ more) (ExpressionUnit d ∷ ExpressionRest d [] (Some into) ∷ ws) (seen s old)) c.in_err-formula.field-0.0) c.function_depth.ensures
    (c.in_err-formula.ensures.reads (Some c.args.target) no_formula))
