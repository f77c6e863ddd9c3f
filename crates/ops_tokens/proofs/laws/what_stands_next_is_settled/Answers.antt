use Rattle.std.proofs.Common.{arith}
use Rattle.ops_tokens.proofs.Settled.{settled}
use Rattle.ops_tokens.proofs.laws.what_stands_next_is_settled.Goals as goal

pub returns : goal.returns
returns c = λ from le. settled c.args.text.now from le (λ i. omega (arith, c.type_inv.text i))
