use Rattle.std.proofs.Common.{◌∙◌, sym, drop}
use Rattle.ops_forms.proofs.Walks.{goes_as_among}
use Rattle.ops_rhs.specs.Taking.{seen, IsAround}
use Rattle.ops_rhs.proofs.Ways.{action_first, build_first}
use Rattle.ops_rhs.proofs.right.Right.action.Goals as goal

pub returns-then-is_build-clause-reads : goal.returns-then-is_build-clause-reads
returns-then-is_build-clause-reads c =
    goes_as_among (IsAround c.args.around.now) _ _
    (λ more ws s i. build_first (drop c.args.at c.args.words.now) (drop c.in_ok-word.rest c.args.words.now) c.in_ok-word.word ws (seen s c.args.self.now) c.in_ok-word.ensures.0 more (sym c.is_build.ensures ∙ c.if-is_build.true))
    c.args.words.now (λ s. seen s c.build.new.self) c.build.result c.build.ensures.reads

pub returns-clause-reads : goal.returns-clause-reads
returns-clause-reads c =
    goes_as_among (IsAround c.args.around.now) _ _
    (λ more ws s i. action_first (drop c.args.at c.args.words.now) (drop c.in_ok-word.rest c.args.words.now) c.in_ok-word.word ws (seen s c.args.self.now) c.in_ok-word.ensures.0 more (sym c.is_build.ensures ∙ c.if-is_build.false))
    c.args.words.now (λ s. seen s c.action_from.new.self) c.action_from.result c.action_from.ensures.acts
