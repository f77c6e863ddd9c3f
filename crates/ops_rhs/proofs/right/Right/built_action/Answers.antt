use Rattle.std.proofs.Common.{drop}
use Rattle.ops_forms.proofs.Walks.{goes_as_among}
use Rattle.ops_rhs.specs.Taking.{seen, IsAround}
use Rattle.ops_rhs.proofs.Ways.{built_first}
use Rattle.ops_rhs.proofs.right.Right.built_action.Goals as goal

pub returns-clause-reads : goal.returns-clause-reads
returns-clause-reads c =
    goes_as_among (IsAround c.args.around.now) _ _
    (λ more ws s i. built_first (drop c.args.at c.args.words.now) (drop c.in_ok-word.rest c.args.words.now) c.in_ok-word.word ws (seen s c.args.self.now) c.in_ok-word.ensures.0 more)
    c.args.words.now (λ s. seen s c.action_from.new.self) c.action_from.result c.action_from.ensures.acts
