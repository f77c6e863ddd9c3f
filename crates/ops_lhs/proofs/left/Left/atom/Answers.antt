use Rattle.std.proofs.Common.{◌≡◌, ◌<◌, ◌≤◌, ℕ, ◌++◌, ◌∙◌, sym, ap, Some, take, drop, arith}
use Rattle.std.proofs.lemmas.Result.{err_from_is_err_and}
use Rattle.ops_grammar.specs.Grammar.{State, Next, after, goes, atom_of, constant_by, with_constant, ToTest}
use Rattle.ops_forms.specs.PlaceWalks.{goes_onward}
use Rattle.ops_forms.proofs.Walks.{fails_as_among}
use Rattle.ops_lhs.specs.Taking.{seen, IsAround}
use Rattle.ops_lhs.proofs.Ways.{atom_first, atom_onward, constant_added, constant_fails}
use Rattle.ops_lhs.proofs.left.Left.atom.Goals as goal

pub returns-clause-reads : goal.returns-clause-reads
returns-clause-reads c =
    let w = c.in_ok-word.word in
    let f = c.args.field in
    let p = c.args.pred in
    let v = c.in-Some.value in
    let rest = drop c.in_ok-word.rest c.args.words.now in
    let is : atom_of w.kind w.name ≡ Some v = sym c.atom_of.ensures ∙ c.in-Some.is in
    λ more ws s i.
    atom_first f p (drop c.args.at c.args.words.now) rest more w v ws (seen s c.args.self.now) c.in_ok-word.ensures.0 is
    ∙ ap (after (goes (rest ++ more)) w) (c.in_ok-begin_constant.ensures (λ t. Next ws (with_constant (ToTest f p) t v)) s i)
    ∙ ap (λ (t : State). goes (rest ++ more) ws t) (sym (constant_added f p c.begin_constant.new.self c.add_constant.new.self v c.in_ok-add_constant.ensures s))

pub returns-clause-cut : goal.returns-clause-cut
returns-clause-cut c =
    let w = c.in_ok-word.word in
    let words = c.args.words.now in
    let f = c.args.field in
    let p = c.args.pred in
    let v = c.in-Some.value in
    let is : atom_of w.kind w.name ≡ Some v = sym c.atom_of.ensures ∙ c.in-Some.is in
    λ n le on ws s i.
    let rest = drop c.in_ok-word.rest (take n words) in
    let before : c.args.at < n = omega (arith, le, c.in_ok-word.ensures.1) in
    atom_onward f p on (drop c.args.at (take n words)) rest w v ws (seen s c.args.self.now) (c.in_ok-word.ensures.3 n before) is
    ∙ ap (after (goes_onward on rest) w) (c.in_ok-begin_constant.ensures (λ t. Next ws (with_constant (ToTest f p) t v)) s i)
    ∙ ap (λ (t : State). goes_onward on rest ws t) (sym (constant_added f p c.begin_constant.new.self c.add_constant.new.self v c.in_ok-add_constant.ensures s))

pub returns-in_err-begin_constant-clause-reads : goal.returns-in_err-begin_constant-clause-reads
returns-in_err-begin_constant-clause-reads c =
    let w = c.in_ok-word.word in
    let f = c.args.field in
    let p = c.args.pred in
    let v = c.in-Some.value in
    let rest = drop c.in_ok-word.rest c.args.words.now in
    let is : atom_of w.kind w.name ≡ Some v = sym c.atom_of.ensures ∙ c.in-Some.is in
    let q = err_from_is_err_and c.from_residual-in_err-begin_constant.result c.from_residual-in_err-begin_constant.ensures.1 in
    rw (q.1, q.2) (fails_as_among (IsAround c.args.around.now) _ (λ more ws s. after (goes (rest ++ more)) w (constant_by w.keyword (λ t. Next ws (with_constant (ToTest f p) t v)) (seen s c.args.self.now)))
    (λ more ws s i. atom_first f p (drop c.args.at c.args.words.now) rest more w v ws (seen s c.args.self.now) c.in_ok-word.ensures.0 is)
    c.in_err-begin_constant.field-0.0
    (constant_fails _ c.args.around.now w c.args.self.now c.begin_constant.new.self c.in_err-begin_constant.field-0.0 c.begin_constant.result c.in_err-begin_constant.was c.begin_constant.ensures rest (λ ws t. Next ws (with_constant (ToTest f p) t v))))
