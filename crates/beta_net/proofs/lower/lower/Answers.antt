use Rattle.beta_net.proofs.NodeLemmas.{lowered}
use Rattle.beta_net.proofs.lower.lower.Goals as goal

pub returns-clause-draft : goal.returns-clause-draft
returns-clause-draft c =
    lowered c.args.links.now c.args.ends.now c.in_ok-draft.draft.alphas.items c.in_ok-draft.draft.nodes.items c.add_terminals.new.nodes.items
    c.in_ok-draft.ensures.nodes c.in_ok-draft.ensures.count c.in_ok-draft.ensures.distinct c.in_ok-draft.ensures.used c.in_ok-add_terminals.ensures
