use Rattle.beta_net.specs.Built.{AddsTerminals}
use Rattle.beta_net.proofs.lower.add_terminals.Given as goal

abbrev pub invariant-loop-rule : goal.invariant-loop-rule
invariant-loop-rule l = AddsTerminals l.initial.nodes.items l.nodes.items l.ends l.rule
