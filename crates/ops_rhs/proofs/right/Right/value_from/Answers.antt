use Rattle.std.proofs.Common.{◌≡◌, ◌++◌, ◌∙◌, sym, ap, Some, false, take, drop}
use Rattle.std.proofs.lemmas.Result.{err_from_is_err_and}
use Rattle.ops_grammar.specs.Grammar.{State, Next, after, goes, is_left, is_literal, value_of, constant_by, with_constant}
use Rattle.ops_forms.specs.PlaceWalks.{goes_onward}
use Rattle.ops_forms.proofs.Walks.{fails_as_among}
use Rattle.ops_rhs.specs.Taking.{seen, target_of, IsAround}
use Rattle.ops_rhs.proofs.Operands.{value_constant, constant_added, constant_fails}
use Rattle.ops_rhs.proofs.right.Right.value_from.Goals as goal

pub returns-in-Some-clause-acts : goal.returns-in-Some-clause-acts
returns-in-Some-clause-acts c =
    let w = c.args.word in
    let t = c.args.target in
    let v = c.in-Some.constant in
    let rest = drop c.args.at c.args.words.now in
    let plain : is_literal w.keyword ≡ false = sym c.is_literal.ensures ∙ c.if-is_literal.false in
    let other : is_left w.kind ≡ false = sym c.is_left.ensures ∙ c.if-is_left.false in
    let is : value_of w.kind w.name ≡ Some v = sym c.value_of.ensures ∙ c.in-Some.is in
    λ more ws s i.
    ap (after (goes (rest ++ more)) w) (value_constant t w v ws (seen s c.args.self.now) plain other is ∙ c.in_ok-begin_constant.ensures (λ r. Next ws (with_constant (target_of t) r v)) s i)
    ∙ ap (λ (x : State). goes (rest ++ more) ws x) (sym (constant_added t c.begin_constant.new.self c.add_constant.new.self v c.in_ok-add_constant.ensures s))

pub returns-in-Some-clause-cut : goal.returns-in-Some-clause-cut
returns-in-Some-clause-cut c =
    let w = c.args.word in
    let t = c.args.target in
    let v = c.in-Some.constant in
    let plain : is_literal w.keyword ≡ false = sym c.is_literal.ensures ∙ c.if-is_literal.false in
    let other : is_left w.kind ≡ false = sym c.is_left.ensures ∙ c.if-is_left.false in
    let is : value_of w.kind w.name ≡ Some v = sym c.value_of.ensures ∙ c.in-Some.is in
    λ n le on ws s i.
    let rest = drop c.args.at (take n c.args.words.now) in
    ap (after (goes_onward on rest) w) (value_constant t w v ws (seen s c.args.self.now) plain other is ∙ c.in_ok-begin_constant.ensures (λ r. Next ws (with_constant (target_of t) r v)) s i)
    ∙ ap (λ (x : State). goes_onward on rest ws x) (sym (constant_added t c.begin_constant.new.self c.add_constant.new.self v c.in_ok-add_constant.ensures s))

pub returns-in_err-begin_constant-clause-acts : goal.returns-in_err-begin_constant-clause-acts
returns-in_err-begin_constant-clause-acts c =
    let w = c.args.word in
    let t = c.args.target in
    let v = c.in-Some.constant in
    let rest = drop c.args.at c.args.words.now in
    let plain : is_literal w.keyword ≡ false = sym c.is_literal.ensures ∙ c.if-is_literal.false in
    let other : is_left w.kind ≡ false = sym c.is_left.ensures ∙ c.if-is_left.false in
    let is : value_of w.kind w.name ≡ Some v = sym c.value_of.ensures ∙ c.in-Some.is in
    let q = err_from_is_err_and c.from_residual.result c.from_residual.ensures.1 in
    rw (q.1, q.2) (fails_as_among (IsAround c.args.around.now) _ (λ more ws s. after (goes (rest ++ more)) w (constant_by w.keyword (λ r. Next ws (with_constant (target_of t) r v)) (seen s c.args.self.now)))
    (λ more ws s i. ap (after (goes (rest ++ more)) w) (value_constant t w v ws (seen s c.args.self.now) plain other is))
    c.in_err-begin_constant.field-0.0
    (constant_fails _ c.args.around.now w c.args.self.now c.begin_constant.new.self c.in_err-begin_constant.field-0.0 c.begin_constant.result c.in_err-begin_constant.was c.begin_constant.ensures rest (λ ws r. Next ws (with_constant (target_of t) r v))))
