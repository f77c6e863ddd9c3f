use Rattle.std.proofs.Common.{◌≡◌, ◌++◌, ◌∙◌, sym, ap, Some, false, take, drop}
use Rattle.std.proofs.lemmas.Result.{err_from_is_err_and}
use Rattle.ops_base.specs.declared.values.Value.{Value}
use Rattle.ops_grammar.specs.Grammar.{State, Next, after, goes, is_literal, constant_of, constant_by, with_constant, ToTest}
use Rattle.ops_forms.specs.PlaceWalks.{goes_onward}
use Rattle.ops_forms.proofs.Walks.{fails_as_among}
use Rattle.ops_lhs.specs.Taking.{seen, IsAround}
use Rattle.ops_lhs.proofs.Ways.{tested_constant, constant_added, constant_fails}
use Rattle.ops_lhs.proofs.left.Left.operand_from.Goals as goal

pub returns-in-Some-clause-acts : goal.returns-in-Some-clause-acts
returns-in-Some-clause-acts c =
    let w = c.args.word in
    let f = c.args.field in
    let p = c.args.pred in
    let v = c.in-Some.constant in
    let rest = drop c.args.at c.args.words.now in
    let plain : is_literal w.keyword ≡ false = sym c.is_literal.ensures ∙ c.if-is_literal.false in
    let is : constant_of w.kind w.name ≡ Some v = sym c.constant_of.ensures ∙ c.in-Some.is in
    λ more ws s i.
    ap (after (goes (rest ++ more)) w) (tested_constant f p w v ws (seen s c.args.self.now) plain is ∙ c.in_ok-begin_constant.ensures (λ t. Next ws (with_constant (ToTest f p) t v)) s i)
    ∙ ap (λ (t : State). goes (rest ++ more) ws t) (sym (constant_added f p c.begin_constant.new.self c.add_constant.new.self v c.in_ok-add_constant.ensures s))

pub returns-in-Some-clause-cut : goal.returns-in-Some-clause-cut
returns-in-Some-clause-cut c =
    let w = c.args.word in
    let f = c.args.field in
    let p = c.args.pred in
    let v = c.in-Some.constant in
    let plain : is_literal w.keyword ≡ false = sym c.is_literal.ensures ∙ c.if-is_literal.false in
    let is : constant_of w.kind w.name ≡ Some v = sym c.constant_of.ensures ∙ c.in-Some.is in
    λ n le on ws s i.
    let rest = drop c.args.at (take n c.args.words.now) in
    ap (after (goes_onward on rest) w) (tested_constant f p w v ws (seen s c.args.self.now) plain is ∙ c.in_ok-begin_constant.ensures (λ t. Next ws (with_constant (ToTest f p) t v)) s i)
    ∙ ap (λ (t : State). goes_onward on rest ws t) (sym (constant_added f p c.begin_constant.new.self c.add_constant.new.self v c.in_ok-add_constant.ensures s))

pub returns-in_err-begin_constant-clause-acts : goal.returns-in_err-begin_constant-clause-acts
returns-in_err-begin_constant-clause-acts c =
    let w = c.args.word in
    let f = c.args.field in
    let p = c.args.pred in
    let v = c.in-Some.constant in
    let rest = drop c.args.at c.args.words.now in
    let plain : is_literal w.keyword ≡ false = sym c.is_literal.ensures ∙ c.if-is_literal.false in
    let is : constant_of w.kind w.name ≡ Some v = sym c.constant_of.ensures ∙ c.in-Some.is in
    let q = err_from_is_err_and c.from_residual.result c.from_residual.ensures.1 in
    rw (q.1, q.2) (fails_as_among (IsAround c.args.around.now) _ (λ more ws s. after (goes (rest ++ more)) w (constant_by w.keyword (λ t. Next ws (with_constant (ToTest f p) t v)) (seen s c.args.self.now)))
    (λ more ws s i. ap (after (goes (rest ++ more)) w) (tested_constant f p w v ws (seen s c.args.self.now) plain is))
    c.in_err-begin_constant.field-0.0
    (constant_fails _ c.args.around.now w c.args.self.now c.begin_constant.new.self c.in_err-begin_constant.field-0.0 c.begin_constant.result c.in_err-begin_constant.was c.begin_constant.ensures rest (λ ws t. Next ws (with_constant (ToTest f p) t v))))
