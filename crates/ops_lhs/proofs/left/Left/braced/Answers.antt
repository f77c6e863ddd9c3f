use Rattle.std.proofs.Common.{◌∙◌, sym, drop}
use Rattle.ops_forms.proofs.Ways.{braced_named}
use Rattle.ops_lhs.specs.Taking.{seen, IsAround}
use Rattle.ops_forms.proofs.Walks.{goes_as_among}
use Rattle.ops_lhs.proofs.left.Left.braced.Goals as goal

pub returns-clause-reads : goal.returns-clause-reads
returns-clause-reads c =
    goes_as_among (IsAround c.args.around.now) _ _
    (λ more ws s _. braced_named (drop c.args.at c.args.words.now) (drop c.in_ok-word.rest c.args.words.now) more c.in_ok-word.word ws (seen s c.args.self.now) c.in_ok-word.ensures.0 (sym c.is_left.ensures ∙ c.if-is_left.false))
    c.args.words.now (λ s. seen s c.name_then_pattern_from.new.self) c.name_then_pattern_from.result c.name_then_pattern_from.ensures.acts
