use Rattle.std.proofs.Common.{◌≡◌, ◌<◌, ◌∙◌, List, [], ◌∷◌, ◌++◌, ◌+◌, sym, ap, suc, take, drop, arith}
use Rattle.std.proofs.lemmas.Bool.{lt-ltb}
use Rattle.std.proofs.lemmas.Result.{err_from_is_err_and}
use Rattle.ops_grammar.specs.Grammar.{Waiting as Waits, ExpressionUnit, ExpressionRest, after, goes, bracket_at, with_formula, most_brackets}
use Rattle.ops_forms.specs.PlaceWalks.{goes_onward}
use Rattle.ops_forms.proofs.Walks.{fails_as, fails_under}
use Rattle.ops_rhs.specs.Taking.{seen, into, newest_first}
use Rattle.ops_rhs.proofs.Operands.{bracket_read, bracket_cut, bracket_fails, operand_as, unit_opens, rest_operation, rest_operation_onward, newest_grown}
use Rattle.ops_rhs.proofs.right.Right.+expressions.Goals as goal

pub bracket-returns-clause-acts : goal.bracket-returns-clause-acts
bracket-returns-clause-acts t c =
    bracket_read c.args.depth (c.args.depth + 1) c.args.at c.args.word c.args.self.now c.args.words.now (lt-ltb c.args.depth most_brackets (omega arith)) c.in_ok-rest.rest c.expression.result (omega arith) c.in_ok-rest.ensures.reads c.expression.ensures.reads

pub bracket-returns-clause-cut : goal.bracket-returns-clause-cut
bracket-returns-clause-cut t c =
    bracket_cut c.args.depth (c.args.depth + 1) c.args.at c.args.word c.args.self.now c.args.words.now (lt-ltb c.args.depth most_brackets (omega arith)) c.in_ok-rest.rest c.expression.result (omega arith) c.expression.ensures.within c.in_ok-rest.ensures.cut c.expression.ensures.cut

pub bracket-returns-in_err-rest-clause-acts : goal.bracket-returns-in_err-rest-clause-acts
bracket-returns-in_err-rest-clause-acts t c =
    let p = err_from_is_err_and c.from_residual.result c.from_residual.ensures.1 in
    rw (p.1, p.2) (bracket_fails c.args.depth (suc c.args.depth) c.args.at c.args.word c.args.self.now c.args.words.now (lt-ltb c.args.depth most_brackets (omega arith)) c.in_err-rest.field-0.0 c.in_err-rest.ensures.reads)

pub expression-returns-in_err-operand-clause-reads : goal.expression-returns-in_err-operand-clause-reads
expression-returns-in_err-operand-clause-reads t c =
    let p = err_from_is_err_and c.from_residual.result c.from_residual.ensures.1 in
    rw (p.1, p.2) (λ target f. fails_under (λ more ws s. goes (drop c.args.at c.args.words.now ++ more) (ExpressionUnit c.args.depth ∷ ws) (with_formula (seen s c.args.self.now) f)) (λ ws. ExpressionRest c.args.depth [] (into target) ∷ ws) c.in_err-operand.field-0.0 (c.in_err-operand.ensures.reads f))

pub expression-operations-preserved : goal.expression-operations-preserved
expression-operations-preserved t c =
    let depth = c.args.depth in
    let words = c.args.words.now in
    let r = c.args.self.now in
    let operand = c.operations.operand in
    let waiting = newest_first c.operations.waiting.items in
    let w = c.in_ok-word.word in
    let after_word : c.in_ok-word.after ≡ c.operations.rest + 1 = c.in_ok-word.ensures.1 in
    let behind_unit : c.in_ok-word.after < c.in_ok-next.behind = c.in_ok-next.ensures.within in
    record {
      same = λ target f more ws s.
          c.operations.invariant.same target f more ws s
          ∙ rest_operation depth waiting (into target) (drop c.operations.rest words) (drop c.in_ok-word.after words) more w c.in-Some.op ws (with_formula (seen s r) operand) c.in_ok-word.ensures.0 (sym c.is_right.ensures ∙ c.if-is_right.false) (sym c.operation_of.ensures ∙ c.in-Some.is)
          ∙ c.in_ok-next.ensures.reads operand more (ExpressionRest depth (record { left = operand; op = c.in-Some.op } ∷ waiting) (into target) ∷ ws) s
          ∙ ap (λ (more_waiting : List Waits). goes (drop c.in_ok-next.behind words ++ more) (ExpressionRest depth more_waiting (into target) ∷ ws) (with_formula (seen s r) c.in_ok-next.next)) (sym (newest_grown c.push.new.self.items c.operations.waiting.items _ c.in_ok-push.ensures.items));
      cut = λ n lt target f on ws s.
          let here : c.operations.rest < n = omega (arith, after_word, behind_unit, lt) in
          c.operations.invariant.cut n here target f on ws s
          ∙ rest_operation_onward depth waiting (into target) on (drop c.operations.rest (take n words)) (drop c.in_ok-word.after (take n words)) w c.in-Some.op ws (with_formula (seen s r) operand) (c.in_ok-word.ensures.3 n here) (sym c.is_right.ensures ∙ c.if-is_right.false) (sym c.operation_of.ensures ∙ c.in-Some.is)
          ∙ c.in_ok-next.ensures.cut n (omega (arith, lt)) operand on (ExpressionRest depth (record { left = operand; op = c.in-Some.op } ∷ waiting) (into target) ∷ ws) s
          ∙ ap (λ (more_waiting : List Waits). goes_onward on (drop c.in_ok-next.behind (take n words)) (ExpressionRest depth more_waiting (into target) ∷ ws) (with_formula (seen s r) c.in_ok-next.next)) (sym (newest_grown c.push.new.self.items c.operations.waiting.items _ c.in_ok-push.ensures.items));
      from = omega (arith, after_word, behind_unit);
    }

pub expression-returns-in_err-next-clause-reads : goal.expression-returns-in_err-next-clause-reads
expression-returns-in_err-next-clause-reads t c =
    let depth = c.args.depth in
    let words = c.args.words.now in
    let r = c.args.self.now in
    let operand = c.operations.operand in
    let waiting = newest_first c.operations.waiting.items in
    let rest = drop c.in_ok-word.after words in
    let p = err_from_is_err_and c.from_residual-in_err-next.result c.from_residual-in_err-next.ensures.1 in
    rw (p.1, p.2) (λ target f. fails_as _ (λ more ws s. goes (rest ++ more) (ExpressionUnit depth ∷ ExpressionRest depth (record { left = operand; op = c.in-Some.op } ∷ waiting) (into target) ∷ ws) (with_formula (seen s r) operand))
    (λ more ws s.
    c.operations.invariant.same target f more ws s
    ∙ rest_operation depth waiting (into target) (drop c.operations.rest words) rest more c.in_ok-word.word c.in-Some.op ws (with_formula (seen s r) operand) c.in_ok-word.ensures.0 (sym c.is_right.ensures ∙ c.if-is_right.false) (sym c.operation_of.ensures ∙ c.in-Some.is))
    c.in_err-next.field-0.0
    (fails_under (λ more ws s. goes (rest ++ more) (ExpressionUnit depth ∷ ws) (with_formula (seen s r) operand)) (λ ws. ExpressionRest depth (record { left = operand; op = c.in-Some.op } ∷ waiting) (into target) ∷ ws) c.in_err-next.field-0.0 (c.in_err-next.ensures.reads operand)))

pub unit-returns-then-is_left-clause-reads : goal.unit-returns-then-is_left-clause-reads
unit-returns-then-is_left-clause-reads t c =
    let w = c.in_ok-word.word in
    let r = c.args.self.now in
    let rest = drop c.in_ok-word.rest c.args.words.now in
    operand_as _ (λ f more ws s. after (goes (rest ++ more)) w (bracket_at c.args.depth ws (with_formula (seen s r) f)))
    (λ f more ws s. unit_opens c.args.depth (drop c.args.at c.args.words.now) rest more w ws (with_formula (seen s r) f) c.in_ok-word.ensures.0 (sym c.is_left.ensures ∙ c.if-is_left.true))
    r c.args.words.now c.bracket.result c.bracket.ensures.acts
