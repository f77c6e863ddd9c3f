use Rattle.why.proofs.Explanations.{computed_explains}
use Rattle.why.proofs.laws.explanations_explain.Goals as goal

pub returns : goal.returns
returns c = computed_explains
