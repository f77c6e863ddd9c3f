use Rattle.std.proofs.Common.{drop}
use Rattle.ops_forms.proofs.Walks.{goes_as_among}
use Rattle.ops_rhs.specs.Taking.{seen, target_of, IsAround}
use Rattle.ops_rhs.proofs.Ways.{function_first}
use Rattle.ops_rhs.proofs.right.Right.function.Goals as goal

pub returns-clause-reads : goal.returns-clause-reads
returns-clause-reads c =
    goes_as_among (IsAround c.args.around.now) _ _
    (λ more ws s _. function_first (target_of c.args.target) (drop c.args.at c.args.words.now) (drop c.in_ok-word.rest c.args.words.now) more c.in_ok-word.word ws (seen s c.args.self.now) c.in_ok-word.ensures.0)
    c.args.words.now (λ s. seen s c.function_from.new.self) c.function_from.result c.function_from.ensures.acts
