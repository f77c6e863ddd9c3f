use Rattle.beta_net.proofs.NodeLemmas.{terminal_read}
use Rattle.beta_net.proofs.lower.add_terminals.Goals as goal

pub loop-rule-preserved : goal.loop-rule-preserved
loop-rule-preserved c =
    terminal_read c.args.nodes.now.items c.loop-rule.nodes.items c.push.new.self.items c.args.ends.now c.loop-rule.rule _ c.terminal-node.result c.loop-rule-test.true c.terminal-node.ensures.node c.terminal-node.ensures.bare c.terminal-node.ensures.rightless
    c.in_ok-push.ensures.items c.loop-rule.invariant
