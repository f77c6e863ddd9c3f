use Rattle.std.proofs.Common.{◌≡◌, ◌+◌, ◌<◌, ◌≤◌, ◌||◌, ◌∷◌, ◌++◌, ◌∙◌, sym, false, take, drop, arith}
use Rattle.std.proofs.lemmas.Result.{err_from_is_err_and}
use Rattle.ops_grammar.specs.Grammar.{goes, after, InPut, Several, ToTerms, is_caret, is_right, value_for}
use Rattle.ops_forms.proofs.Ways.{several_first}
use Rattle.ops_forms.proofs.Walks.{fails_as_among, fails_under_among}
use Rattle.ops_rhs.specs.Taking.{seen, IsAround}
use Rattle.ops_rhs.proofs.Ways.{several_onward}
use Rattle.ops_rhs.proofs.right.Right.several.Goals as goal

pub returns-in_err-rest-clause-reads : goal.returns-in_err-rest-clause-reads
returns-in_err-rest-clause-reads c =
    let w = c.in_ok-word.word in
    let rest = drop c.in_ok-word.after c.args.words.now in
    let p = err_from_is_err_and c.from_residual-in_err-rest.result c.from_residual-in_err-rest.ensures.1 in
    rw (p.1, p.2) (fails_as_among (IsAround c.args.around.now) _ _
    (λ more ws s i. c.several.invariant.same more ws s i ∙ several_first InPut c.args.field (drop c.several.rest c.args.words.now) rest more w ws (seen s c.several.self) c.in_ok-word.ensures.0 (sym c.ends_values.ensures ∙ c.if-ends_values.false))
    c.in_err-rest.field-0.0
    (fails_under_among (IsAround c.args.around.now) (λ more ws s. after (goes (rest ++ more)) w (value_for ToTerms w ws (seen s c.several.self))) (λ ws. Several InPut c.args.field ∷ ws) c.in_err-rest.field-0.0 c.in_err-rest.ensures.acts))

pub several-preserved : goal.several-preserved
several-preserved c =
    let w = c.in_ok-word.word in
    let words = c.args.words.now in
    let f = c.args.field in
    let at = c.several.rest in
    let next : c.in_ok-word.after ≡ at + 1 = c.in_ok-word.ensures.1 in
    let within : c.in_ok-word.after ≤ c.in_ok-rest.rest = c.in_ok-rest.ensures.within in
    let from : c.args.at ≤ at = c.several.invariant.from in
    let other : (is_right w.kind || is_caret w.kind) ≡ false = sym c.ends_values.ensures ∙ c.if-ends_values.false in
    record {
      same = λ more ws s i.
          c.several.invariant.same more ws s i
          ∙ several_first InPut f (drop at words) (drop c.in_ok-word.after words) more w ws (seen s c.several.self) c.in_ok-word.ensures.0 other
          ∙ c.in_ok-rest.ensures.acts more (Several InPut f ∷ ws) s i;
      cut = λ n lt on ws s i.
          let before : at < n = omega (arith, lt, next, within) in
          let le : c.in_ok-rest.rest ≤ n = omega (arith, lt) in
          c.several.invariant.cut n before on ws s i
          ∙ several_onward f on (drop at (take n words)) (drop c.in_ok-word.after (take n words)) w ws (seen s c.several.self) (c.in_ok-word.ensures.3 n before) other
          ∙ c.in_ok-rest.ensures.cut n le on (Several InPut f ∷ ws) s i;
      from = omega (arith, next, within, from);
    }
