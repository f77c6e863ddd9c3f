use Rattle.std.proofs.Common.{◌∙◌, ap}
use Rattle.ops_grammar.specs.Grammar.{completed}
use Rattle.ops_rhs.specs.Taking.{newest_first}
use Rattle.ops_rhs.proofs.Operands.{completed_once}
use Rattle.ops_rhs.proofs.expressions.completed.Goals as goal

pub waiting-preserved : goal.waiting-preserved
waiting-preserved c =
    ap (λ v. completed v (newest_first c.pop.new.self.items)) c.in_ok-value.ensures
    ∙ completed_once c.waiting.waiting.items c.pop.new.self.items c.in-Some.field-0 c.waiting.value c.in-Some.ensures.items
    ∙ c.waiting.invariant
