use Rattle.std.proofs.Common.{arith}
use Rattle.ops_tokens.proofs.Clauses.{token-place, token-spelled, token-end, token-fault}
use Rattle.ops_tokens.proofs.Following.{token-next, token-next_fault}
use Rattle.ops_tokens.proofs.scanner.Scanner.next_token.Goals as goal

pub returns-clause-place : goal.returns-clause-place
returns-clause-place c = rw c.found.ensures (token-place c.args.text.now c.args.from c.requires)

pub returns-clause-spelled : goal.returns-clause-spelled
returns-clause-spelled c = rw c.found.ensures (token-spelled c.args.text.now c.args.from c.requires)

pub returns-clause-end : goal.returns-clause-end
returns-clause-end c = rw c.found.ensures (token-end c.args.text.now c.args.from c.requires (λ i. omega (arith, c.type_inv.text i)))

pub returns-clause-next : goal.returns-clause-next
returns-clause-next c = rw c.found.ensures (token-next c.args.text.now c.args.from c.requires (λ i. omega (arith, c.type_inv.text i)))

pub returns-clause-fault : goal.returns-clause-fault
returns-clause-fault c = rw c.found.ensures (token-next_fault c.args.text.now c.args.from c.requires (λ i. omega (arith, c.type_inv.text i)))

pub returns-clause-fault_place : goal.returns-clause-fault_place
returns-clause-fault_place c = rw c.found.ensures (token-fault c.args.text.now c.args.from c.requires)
