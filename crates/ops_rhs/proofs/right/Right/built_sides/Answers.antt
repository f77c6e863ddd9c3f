use Rattle.std.proofs.Common.{◌∷◌, ◌++◌, ◌∙◌, refl, true, take, drop, arith}
use Rattle.std.proofs.lemmas.Result.{err_from_is_err_and}
use Rattle.ops_grammar.specs.Grammar.{State, FirstPattern, Patterns, Actions, goes}
use Rattle.ops_forms.specs.PlaceWalks.{goes_onward}
use Rattle.ops_forms.proofs.Walks.{goes_as_among, cut_goes_as_among}
use Rattle.ops_lhs.specs.LeftSides.{left_started, left_behind}
use Rattle.ops_lhs.specs.Taking.{IsAround as IsLeftAround}
use Rattle.ops_rhs.specs.Taking.{seen, IsAround, MayBuild}
use Rattle.ops_rhs.proofs.Built.{begun_of, may_build, left_around, goes_weaker, cut_weaker, fails_inside}
use Rattle.ops_rhs.proofs.right.Right.built_sides.Goals as goal

pub returns-clause-reads : goal.returns-clause-reads
returns-clause-reads c =
    let a = c.args.around.now in
    let old = c.args.self.now in
    let words = c.args.words.now in
    let left = c.in_ok-left.left in
    let behind = c.in_ok-left.behind in
    goes_as_among (IsAround a) _ (λ more ws s. goes (drop behind words ++ more) (Actions true ∷ ws) (left_behind left (begun_of c.args.name (seen s old))))
    (λ more ws s i. c.in_ok-left.ensures.reads more (Actions true ∷ ws) (begun_of c.args.name (seen s old)) (left_around _ old c.args.name s i.classes refl))
    words (λ s. seen s c.built_behind.new.self) c.built_behind.result
    (goes_weaker (IsAround a) (MayBuild a.classes.now) (may_build a c.requires) _ words (λ s. seen s c.built_behind.new.self) c.built_behind.result c.built_behind.ensures.reads)

pub returns-clause-cut : goal.returns-clause-cut
returns-clause-cut c =
    let a = c.args.around.now in
    let old = c.args.self.now in
    let words = c.args.words.now in
    let left = c.in_ok-left.left in
    let behind = c.in_ok-left.behind in
    cut_goes_as_among (IsAround a) (λ cut on ws s. goes_onward on (drop c.args.at cut) (FirstPattern ∷ Patterns ∷ Actions true ∷ ws) (begun_of c.args.name (seen s old)))
    (λ cut on ws s. goes_onward on (drop behind cut) (Actions true ∷ ws) (left_behind left (begun_of c.args.name (seen s old))))
    words behind
    (λ n le on ws s i. c.in_ok-left.ensures.cut n le on (Actions true ∷ ws) (begun_of c.args.name (seen s old)) (left_around _ old c.args.name s i.classes refl))
    (λ s. seen s c.built_behind.new.self) c.built_behind.result c.built_behind.ensures.within
    (cut_weaker (IsAround a) (MayBuild a.classes.now) (may_build a c.requires) (λ cut on ws s. goes_onward on (drop behind cut) (Actions true ∷ ws) (left_behind left (begun_of c.args.name (seen s old)))) words (λ s. seen s c.built_behind.new.self) c.built_behind.result c.built_behind.ensures.cut)

pub returns-in_err-left-clause-reads : goal.returns-in_err-left-clause-reads
returns-in_err-left-clause-reads c =
    let a = c.args.around.now in
    let old = c.args.self.now in
    let words = c.args.words.now in
    let p = err_from_is_err_and c.from_residual.result c.from_residual.ensures.1 in
    rw (p.1, p.2) (fails_inside (IsAround a) (IsLeftAround _) (λ more ws s. goes (drop c.args.at words ++ more) (FirstPattern ∷ Patterns ∷ ws) (left_started s)) (λ s. begun_of c.args.name (seen s old)) (λ ws. Actions true ∷ ws)
    (λ s i. left_around _ old c.args.name s i.classes refl) c.in_err-left.field-0.0 c.in_err-left.ensures.reads)
