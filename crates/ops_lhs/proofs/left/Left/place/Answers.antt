use Rattle.std.proofs.Common.{drop}
use Rattle.ops_forms.proofs.Ways.{place_first}
use Rattle.ops_lhs.specs.Taking.{seen, IsAround}
use Rattle.ops_forms.proofs.Walks.{goes_as_among}
use Rattle.ops_lhs.proofs.left.Left.place.Goals as goal

pub returns-clause-reads : goal.returns-clause-reads
returns-clause-reads c =
    goes_as_among (IsAround c.args.around.now) _ _
    (λ more ws s i. place_first c.args.field (drop c.args.at c.args.words.now) (drop c.in_ok-word.rest c.args.words.now) more c.in_ok-word.word ws (seen s c.args.self.now) c.in_ok-word.ensures.0)
    c.args.words.now (λ s. seen s c.place_from.new.self) c.place_from.result c.place_from.ensures.acts
